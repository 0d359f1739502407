use Rattle.std.proofs.Common.{sym, subst, ◌∙◌, arith}
use Rattle.std.proofs.lemmas.Result.{err_from_is_err_and, on_ok_weaker}
use Rattle.mp4_present.specs.words.OneTrack.{only_tree}
use Rattle.mp4_answers.specs.words.OpenedTold.{IsOpenedTold, OpensWithinTold}
use Rattle.mp4_answers.proofs.LooksTaken.{finds_taken, not_found}
use Rattle.mp4_answers.proofs.OpenedTold.{alone_refuses, alone_told, open_refuses, opened_over, tell_refuses, tells_here}
use Rattle.mp4_answers.proofs.StepsTaken.{not_told, opening_alone, opening_told, walks_told_within}
use Rattle.mp4_answers.proofs.commands.opening.open_told.Goals as goal

pub returns-in_err-movie-clause-work : goal.returns-in_err-movie-clause-work
returns-in_err-movie-clause-work g c = λ told.
    let e = c.in_err-movie.ensures in
    let w = e.work told in
    not_told c.args.selection.leaving.lead_ins (g.S.Store.file c.args.store.now) _ _ (g.S.Store.is_honest c.args.store.now) (g.S.Store.read_failures c.args.store.now) (g.S.Store.read_failures c.open_movie.new.store) c.in_err-movie.field-0.0 told e.refusal w.work w.within

pub returns-in_err-movie-clause-refusal : goal.returns-in_err-movie-clause-refusal
returns-in_err-movie-clause-refusal g c =
    let p = err_from_is_err_and c.from_residual.result c.from_residual.ensures.1 in
    rw (p.1, p.2) (open_refuses c.args.selection.track c.args.selection.leaving.lead_ins (g.S.Store.is_honest c.args.store.now) (g.S.Store.file c.args.store.now) (g.S.Store.read_failures c.args.store.now)
    (g.S.Store.read_failures c.open_movie.new.store) c.in_err-movie.field-0.0 c.in_err-movie.ensures.refusal)

pub returns-in_err-movie-clause-looks : goal.returns-in_err-movie-clause-looks
returns-in_err-movie-clause-looks g c = λ told.
    let e = c.in_err-movie.ensures in
    let l = (e.work told).looks in
    not_found _ _ _ _ _ _ c.in_err-movie.field-0.0 told e.refusal l.said l.within

-- ---- no such track, or no memory

pub returns-in_err-alone-clause-work : goal.returns-in_err-alone-clause-work
returns-in_err-alone-clause-work g c = λ told.
    let e = c.in_ok-movie.ensures in
    let o = e.movie told in
    opening_alone c.args.selection.leaving.lead_ins _ c.in_ok-movie.movie o.0 _ _ o.1 (e.work told).work

pub returns-in_err-alone-clause-refusal : goal.returns-in_err-alone-clause-refusal
returns-in_err-alone-clause-refusal g c =
    let p = err_from_is_err_and c.from_residual-in_err-alone.result c.from_residual-in_err-alone.ensures.1 in
    let e = c.in_ok-movie.ensures in
    let a = c.in_err-alone.ensures in
    rw (p.1, p.2) (alone_refuses c.args.selection.leaving.lead_ins (g.S.Store.is_honest c.args.store.now) (g.S.Store.file c.args.store.now) c.in_ok-movie.movie e.movie _ _ c.args.selection.track c.in_err-alone.field-0.0 a.lacks a.refusal)

pub returns-in_err-alone-clause-looks : goal.returns-in_err-alone-clause-looks
returns-in_err-alone-clause-looks g c = λ told.
    let e = c.in_ok-movie.ensures in
    finds_taken _ c.in_ok-movie.movie _ _ (e.movie told) (e.work told).looks.said

-- ---- it is not told anything

pub returns-then-not-has-clause-movie : goal.returns-then-not-has-clause-movie
returns-then-not-has-clause-movie g c = λ told.
    let o = c.in_ok-movie.ensures.movie told in
    let a = c.in_ok-alone.ensures.movie _ o.0 o.1 in
    let no = sym c.has.ensures ∙ c.if-not-has.true in
    let t = only_tree c.in_ok-alone.alone.only o.0 in
    (t, subst (λ b. IsOpenedTold c.args.selection.track b (g.S.Store.file c.args.store.now) c.in_ok-alone.alone t) (sym no) (alone_told c.args.selection.track _ c.in_ok-movie.movie c.in_ok-alone.alone o.0 o.1 a))

pub returns-then-not-has-clause-work : goal.returns-then-not-has-clause-work
returns-then-not-has-clause-work g c = λ told.
    let e = c.in_ok-movie.ensures in
    let o = e.movie told in
    let no = sym c.has.ensures ∙ c.if-not-has.true in
    subst (λ b. OpensWithinTold b (g.S.Store.file c.args.store.now) c.args.steps.now.passed c.open_movie.new.steps.passed) (sym no) (opening_told _ c.in_ok-movie.movie o.0 _ _ o.1 (e.work told).work)

pub returns-then-not-has-clause-looks : goal.returns-then-not-has-clause-looks
returns-then-not-has-clause-looks g c = λ told.
    let e = c.in_ok-movie.ensures in
    finds_taken _ c.in_ok-movie.movie _ _ (e.movie told) (e.work told).looks.said

-- ---- it is told how long its tracks wait

pub returns-clause-movie : goal.returns-clause-movie
returns-clause-movie g c =
    let e = c.in_ok-movie.ensures in
    let asked = sym c.has.ensures ∙ c.if-not-has.false in
    let tells = rw (e.store.honesty, e.store.file) at c.tell.ensures.told in
    opened_over c.args.selection.track c.args.selection.leaving.lead_ins asked (g.S.Store.is_honest c.args.store.now) (g.S.Store.file c.args.store.now) c.in_ok-movie.movie c.in_ok-alone.alone e.movie c.in_ok-alone.ensures.movie c.tell.result _ _ tells

pub returns-clause-work : goal.returns-clause-work
returns-clause-work g c = λ told.
    let e = c.in_ok-movie.ensures in
    let o = e.movie told in
    let asked = sym c.has.ensures ∙ c.if-not-has.false in
    let tells = rw (e.store.honesty, e.store.file) at c.tell.ensures.told in
    let here = tells_here c.args.selection.track c.args.selection.leaving.lead_ins asked (g.S.Store.is_honest c.args.store.now) (g.S.Store.file c.args.store.now) c.in_ok-movie.movie c.in_ok-alone.alone e.movie c.in_ok-alone.ensures.movie c.tell.result _ _ tells told in
    subst (λ b. OpensWithinTold b (g.S.Store.file c.args.store.now) c.args.steps.now.passed c.tell.new.steps.passed) (sym asked) (walks_told_within _ _ c.in_ok-movie.movie o.0 _ _ _ o.1 (e.work told).work here.work)

pub returns-clause-least : goal.returns-clause-least
returns-clause-least g c = on_ok_weaker c.tell.result
    (λ grown told tree is.
    let taken = c.in_ok-movie.ensures.least told tree is in
    omega (arith, taken, grown))
    c.tell.ensures.grows

pub returns-clause-refusal : goal.returns-clause-refusal
returns-clause-refusal g c =
    let e = c.in_ok-movie.ensures in
    let asked = sym c.has.ensures ∙ c.if-not-has.false in
    let tells = rw (e.store.honesty, e.store.file) at c.tell.ensures.told in
    let why = rw e.store.reads at c.tell.ensures.refusal in
    tell_refuses c.args.selection.track c.args.selection.leaving.lead_ins asked (g.S.Store.is_honest c.args.store.now) (g.S.Store.file c.args.store.now) c.in_ok-movie.movie c.in_ok-alone.alone e.movie c.in_ok-alone.ensures.movie c.tell.result _ _ tells _ _ why

pub returns-clause-looks : goal.returns-clause-looks
returns-clause-looks g c = λ told.
    let e = c.in_ok-movie.ensures in
    rw c.tell.ensures.looks (finds_taken _ c.in_ok-movie.movie _ _ (e.movie told) (e.work told).looks.said)
