use Rattle.std.proofs.Common.{◌^◌, ◌<◌, inl, inr, refl, rules}
use Rattle.std.proofs.lemmas.Result.{err_from_is_err_and}
use Rattle.mp4_boxes.specs.format.Box.{box_container}
use Rattle.mp4_boxes.specs.declared.rule.Rule.TheVariants as rules
use Rattle.mp4_boxes.specs.words.View.{box_seen}
use Rattle.mp4_boxes.proofs.ChildrenJudged.{held_are}
use Rattle.mp4_frag.specs.words.RunsJudged.{children_of}
use Rattle.mp4_frag.proofs.TrafsJudged.{held_by, passed_accepted, passed_sound}
use Rattle.mp4_frag.proofs.check.check_moof_by.Goals as goal

pub returns-clause-sound : goal.returns-clause-sound
returns-clause-sound g c =
    let short : c.args.file_len < 2 ^ 64 = search rules in (
      passed_sound c.args.file_len (box_seen c.args.moof) _ _ _ _ _ short c.in_ok-check_trafs.ensures.passed c.in_ok-boxes.ensures.holds,
      c.in_ok-check_trafs.ensures.passed.moved,
    )

pub returns-clause-accepted : goal.returns-clause-accepted
returns-clause-accepted g c =
    let short : c.args.file_len < 2 ^ 64 = search rules in
    (c.again.ensures, passed_accepted c.args.file_len (box_seen c.args.moof) _ _ _ _ _ short c.in_ok-check_trafs.ensures.passed c.in_ok-boxes.ensures.holds)

-- ---- the first fault

pub returns-in_err-boxes-clause-exact : goal.returns-in_err-boxes-clause-exact
returns-in_err-boxes-clause-exact g c =
    let p = err_from_is_err_and c.from_residual.result c.from_residual.ensures.1 in
    record { names = rw (p.1, p.2) (inl (c.in_err-boxes.field-0.0, c.in_err-boxes.ensures.exact.same, refl)) }

pub returns-in_err-check_trafs-clause-exact : goal.returns-in_err-check_trafs-clause-exact
returns-in_err-check_trafs-clause-exact g c =
    let moof = box_seen c.args.moof in
    let held = held_are rules.MovieFragment (box_container moof) (children_of moof) (held_by moof _ c.in_ok-boxes.ensures.holds) in
    let p = err_from_is_err_and c.from_residual-in_err-check_trafs.result c.from_residual-in_err-check_trafs.ensures.1 in
    record { names = rw (p.1, p.2) (inr (held, c.in_err-check_trafs.ensures.exact.names)) }

pub returns-clause-exact : goal.returns-clause-exact
returns-clause-exact g c =
    let moof = box_seen c.args.moof in
    let held = held_are rules.MovieFragment (box_container moof) (children_of moof) (held_by moof _ c.in_ok-boxes.ensures.holds) in
    record { names = inr (held, c.in_ok-check_trafs.ensures.exact.names) }
