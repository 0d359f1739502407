use Rattle.std.proofs.Common.{[], ◌++◌, flat_map, take}
use Rattle.mp4_answers.specs.format.Text.{payload_lines}
use Rattle.mp4_present.specs.words.Latches.{Goes}
use Rattle.mp4_answers.proofs.text.payload_lines.put_payloads.Given as goal

-- those so far are taken along
abbrev pub invariant-loop-payload : goal.invariant-loop-payload
invariant-loop-payload g l = Goes g.K.Sink l.fn.latch l.latch (flat_map (λ p. payload_lines (l.name ++ []) p.now) (take l.payload-index l.payloads))
