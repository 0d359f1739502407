use Rattle.std.proofs.Common.{flat_map, take}
use Rattle.mp4_head.specs.words.Seen.{kept_seen}
use Rattle.mp4_answers.specs.format.Text.{kept_lines}
use Rattle.mp4_present.specs.words.Latches.{Goes}
use Rattle.mp4_answers.proofs.text.payload_lines.put_boxes.Given as goal

-- those so far are taken along
abbrev pub invariant-loop-kept : goal.invariant-loop-kept
invariant-loop-kept g l = Goes g.K.Sink l.fn.latch l.latch (flat_map (λ k. kept_lines l.name (kept_seen k)) (take l.kept-index l.boxes))
