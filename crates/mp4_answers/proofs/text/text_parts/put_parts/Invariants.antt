use Rattle.std.proofs.Common.{flat_map, take}
use Rattle.mp4_present.specs.words.Latches.{Goes}
use Rattle.mp4_answers.proofs.text.text_parts.put_parts.Given as goal

-- the parts so far are taken along
abbrev pub invariant-loop-part : goal.invariant-loop-part
invariant-loop-part g l = Goes g.K.Sink l.fn.latch l.latch (flat_map (λ part. part.now) (take l.part-index l.parts))
