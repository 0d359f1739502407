use Rattle.std.proofs.Common.{flat_map, take}
use Rattle.mp4_head.specs.words.Seen.{edit_seen}
use Rattle.mp4_answers.specs.format.Text.{edit_line}
use Rattle.mp4_present.specs.words.Latches.{Goes}
use Rattle.mp4_answers.proofs.text.named_lines.put_edits.Given as goal

-- those so far are taken along
abbrev pub invariant-loop-edit : goal.invariant-loop-edit
invariant-loop-edit g l = Goes g.K.Sink l.fn.latch l.latch (flat_map (λ e. edit_line (edit_seen e)) (take l.edit-index l.edits))
