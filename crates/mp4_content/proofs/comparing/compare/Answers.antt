use Rattle.std.proofs.Common.{refl, sym, ap, subst, ◌∙◌}
use Rattle.std.specs.Prelude.{Option, IfSome, option_map}
use Rattle.mp4_present.specs.format.Denotes.{presentation_of}
use Rattle.mp4_content.specs.declared.comparing.Found.{Found}
use Rattle.mp4_content.specs.words.TimesTaken.{IsTimed}
use Rattle.mp4_content.proofs.TimesTaken.{first_found, first_timed}
use Rattle.mp4_content.proofs.FilesCompared.{first_is}
use Rattle.std.proofs.lemmas.Result.{err_from_is_err_and}
use Rattle.mp4_content.proofs.comparing.compare.Goals as goal

pub returns-clause-first : goal.returns-clause-first
returns-clause-first g c told told_right tree other o p =
    let handed = c.in_ok-_all.ensures.handed in
    let seen = c.compare_all.new.seen in
    ap (option_map (λ (f : Found). f.difference)) c.found.ensures ∙ first_found seen.first seen.time
    ∙ first_is seen.first c.in_ok-_all._all _ handed.goes (λ whole. handed.all whole told told_right tree other o p) (handed.front told told_right tree other o p)

pub returns-clause-timed : goal.returns-clause-timed
returns-clause-timed g c told told_right tree other o q =
    let seen = c.compare_all.new.seen in
    let p = presentation_of (g.S.Store.file c.args.left.now) tree in
    subst (λ (f : Option Found). IfSome f (IsTimed p)) (sym c.found.ensures) (first_timed p seen.first seen.time (c.in_ok-_all.ensures.timed told told_right tree other o q refl))

pub returns-in_err-_all-clause-unchanged : goal.returns-in_err-_all-clause-unchanged
returns-in_err-_all-clause-unchanged g c told told_right tree other o q =
    let p = err_from_is_err_and c.from_residual.result c.from_residual.ensures.1 in
    rw (p.1, p.2) (c.in_err-_all.ensures.unchanged told told_right tree other o q)
