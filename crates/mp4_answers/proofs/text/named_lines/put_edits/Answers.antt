use Rattle.std.proofs.Common.{◌∙◌, sym}
use Rattle.mp4_head.specs.words.Seen.{edit_seen}
use Rattle.mp4_answers.specs.format.Text.{edit_line}
use Rattle.mp4_answers.proofs.Told.{flat_all, flat_next, flat_of_map}
use Rattle.mp4_present.proofs.Latched.{goes_as, goes_is, goes_nothing}
use Rattle.mp4_answers.proofs.text.named_lines.put_edits.Goals as goal

pub loop-edit-init : goal.loop-edit-init
loop-edit-init g c = goes_nothing g.K.Sink _ g.met.K.Sink.takes_on (g.met.K.Sink.takes_nothing _)

pub loop-edit-preserved : goal.loop-edit-preserved
loop-edit-preserved g c = goes_as g.K.Sink _ _ _ c.loop-edit.invariant c.put_edit.ensures (flat_next (λ e. edit_line (edit_seen e)) c.args.edits.now c.loop-edit.edit-index _ c.loop-edit-test.true)

pub returns : goal.returns
returns g c = goes_is g.K.Sink c.loop-edit.invariant (flat_all (λ e. edit_line (edit_seen e)) c.args.edits.now c.loop-edit.edit-index c.loop-edit-test.false ∙ sym (flat_of_map edit_line edit_seen c.args.edits.now))
