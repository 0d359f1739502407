use Rattle.std.proofs.Common.{rules, ◌≡◌, None, refl, sym, ap, ◌∙◌}
use Rattle.std.specs.Prelude.{Some}
use Rattle.std.proofs.lemmas.Result.{err_from_is_err_and}
use Rattle.mp4_plan.specs.words.Ends.{first_goes}
use Rattle.mp4_plan.proofs.HandsCounted.{turn_counted, turn_empty, ended_first}
use Rattle.mp4_plan.proofs.NextSamples.{none_goes}
use Rattle.mp4_plan.proofs.counting.count_turn.Goals as goal

pub returns-in_default-clause-counted : goal.returns-in_default-clause-counted
returns-in_default-clause-counted g c told tree t samples o h shown =
    let is_none : c.args.next.now ≡ None = search rules in
    let none = none_goes c.args.portion.end samples c.args.next.now (first_goes c.args.portion.end c.args.next.now) shown refl (ap (first_goes c.args.portion.end) is_none) in
    turn_empty c.args.portion.reduction (g.S.Store.file c.args.store.now) tree t c.args.movie.now c.args.walk.now c.args.portion.end samples c.args.next.now shown none h

pub returns-then-has_ended-clause-counted : goal.returns-then-has_ended-clause-counted
returns-then-has_ended-clause-counted g c told tree t samples o h shown =
    let is_some : c.args.next.now ≡ Some c.in-Some.first = search rules in
    let stops = ap (first_goes c.args.portion.end) is_some ∙ ended_first c.args.portion.end c.in-Some.first c.has_ended.result c.has_ended.ensures c.if-has_ended.true in
    let none = none_goes c.args.portion.end samples c.args.next.now (first_goes c.args.portion.end c.args.next.now) shown refl stops in
    turn_empty c.args.portion.reduction (g.S.Store.file c.args.store.now) tree t c.args.movie.now c.args.walk.now c.args.portion.end samples c.args.next.now shown none h

pub returns-in_err-piece-clause-unchanged : goal.returns-in_err-piece-clause-unchanged
returns-in_err-piece-clause-unchanged g c told tree t samples o h few =
    let p = err_from_is_err_and c.from_residual.result c.from_residual.ensures.1 in
    rw (p.1, p.2) (c.in_err-piece.ensures.unchanged told tree t samples o h few)

pub returns-clause-counted : goal.returns-clause-counted
returns-clause-counted g c told tree t samples o h shown =
    let is_some : c.args.next.now ≡ Some c.in-Some.first = search rules in
    turn_counted c.args.portion.reduction (g.S.Store.file c.args.store.now) tree t c.args.movie.now c.count_piece.new.walk c.args.portion.end c.in-Some.first samples c.in_ok-piece.piece.count c.in_ok-piece.piece.next (sym is_some ∙ shown) (c.in_ok-piece.ensures.counted told tree t samples o h)
