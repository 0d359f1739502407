use Rattle.std.proofs.Common.{sym, ap, ◌∙◌}
use Rattle.std.specs.Ordering.{nat_cmp}
use Rattle.std.specs.BTreeSet.{contains}
use Rattle.std.proofs.lemmas.Result.{err_from_is_err_and}
use Rattle.mp4_boxes.specs.format.Layout.{tkhd}
use Rattle.mp4_boxes.specs.words.View.{box_seen}
use Rattle.mp4_head.specs.format.FirstFault.{id_in}
use Rattle.mp4_head.proofs.JudgedLeaves.{leaf_sound}
use Rattle.mp4_head.proofs.IdsJudged.{id_taken, id_new, id_fault}
use Rattle.mp4_head.proofs.Taken.{was_there, was_not_there}
use Rattle.mp4_head.proofs.track_boxes.read_new_track_header.Goals as goal

pub returns-clause-added : goal.returns-clause-added
returns-clause-added c = record { new_there = was_not_there c.in_ok-insert.field-0 _ c.in_ok-insert.ensures.added c.if-not-branch.false; added = c.in_ok-insert.ensures.updates }

pub returns-clause-sound : goal.returns-clause-sound
returns-clause-sound c = leaf_sound tkhd (box_seen c.args.view) c.in_ok-header.ensures.exact

-- ---- the first fault

pub returns-in_err-header-clause-exact : goal.returns-in_err-header-clause-exact
returns-in_err-header-clause-exact c numbers has =
    let p = err_from_is_err_and c.from_residual.result c.from_residual.ensures.1 in
    record { names = rw (p.1, p.2) (id_fault tkhd 4 numbers (box_seen c.args.view) c.in_err-header.field-0.0 c.in_err-header.ensures.exact) }

pub returns-then-not-branch-clause-exact : goal.returns-then-not-branch-clause-exact
returns-then-not-branch-clause-exact c numbers has =
    let taken = was_there c.in_ok-insert.field-0 _ c.in_ok-insert.ensures.added c.if-not-branch.true in
    record { names = rw (c.from.ensures, c.fault.ensures) (id_taken tkhd 4 numbers (box_seen c.args.view) c.in_ok-header.ensures.exact (sym (has (id_in tkhd 4 (box_seen c.args.view))) ∙ ap (contains nat_cmp c.args.ids.now) (sym c.in_ok-header.ensures.says.id) ∙ taken)) }

pub returns-clause-exact : goal.returns-clause-exact
returns-clause-exact c numbers has =
    let fresh = was_not_there c.in_ok-insert.field-0 _ c.in_ok-insert.ensures.added c.if-not-branch.false in
    record { names = id_new tkhd 4 numbers (box_seen c.args.view) c.in_ok-header.ensures.exact (sym (has (id_in tkhd 4 (box_seen c.args.view))) ∙ ap (contains nat_cmp c.args.ids.now) (sym c.in_ok-header.ensures.says.id) ∙ fresh) }
