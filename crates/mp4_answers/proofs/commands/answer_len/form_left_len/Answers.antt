use Rattle.std.proofs.Common.{inl, refl}
use Rattle.std.proofs.lemmas.Result.{err_from_is_err_and}
use Rattle.mp4_answers.specs.format.ReducedHeadline.{HasReducedForm}
use Rattle.mp4_answers.specs.format.Run.{look_of}
use Rattle.mp4_answers.specs.format.Selected.{LacksNamed}
use Rattle.mp4_answers.proofs.Measured.{left_not_planned}
use Rattle.mp4_answers.proofs.ReducedNormalised.{IsReducedFault, not_read_so, reduced_too_long, reduced_unchanged}
use Rattle.mp4_answers.proofs.RunParts.{told_fails}
use Rattle.mp4_answers.proofs.Lengths.{left_measured}
use Rattle.mp4_answers.proofs.commands.answer_len.form_left_len.Goals as goal

pub returns-clause-length : goal.returns-clause-length
returns-clause-length g c =
    let e = c.in_ok-movie.ensures in
    left_measured c.args.selection c.when_told-words.result c.when_told-words.ensures _ _ _ _ _ e.store.honesty e.store.file e.movie c.reduced_len.result c.reduced_len.ensures.length

pub returns-in_err-movie-clause-refusal : goal.returns-in_err-movie-clause-refusal
returns-in_err-movie-clause-refusal g c =
    let p = err_from_is_err_and c.from_residual.result c.from_residual.ensures.1 in
    let r = look_of g.S.Store c.args.store.now c.open_told.new.store in
    let s = c.args.selection in
    rw (p.1, p.2) (told_fails (Unit {0}) r (HasReducedForm s r.file) (IsReducedFault s r.file) (LacksNamed s.track r.honest r.file) s.track s.leaving.lead_ins c.in_err-movie.field-0.0 (λ f x. inl x) (λ w. w) refl c.in_err-movie.ensures.refusal, λ told late. refl)

pub returns-clause-refusal : goal.returns-clause-refusal
returns-clause-refusal g c =
    let s = c.args.selection in
    let o = c.in_ok-movie.ensures in
    let w = c.reduced_len.ensures in
    let x = c.when_told-words.result in
    let same = c.when_told-words.ensures in
    let answer = c.reduced_len.result in
    let r = look_of g.S.Store c.args.store.now c.reduced_len.new.store in
    left_not_planned r refl s answer
    (not_read_so s r _ _ _ o.store.honesty o.store.file o.movie x same answer (rw o.store.reads at w.refusal))
    (reduced_unchanged s r _ _ _ o.store.honesty o.store.file o.movie answer w.unchanged)
    (reduced_too_long s r _ _ _ o.store.honesty o.store.file o.movie x same answer w.fault)
