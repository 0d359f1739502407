use Rattle.std.proofs.Common.{refl}
use Rattle.std.proofs.lemmas.Result.{err_from_is_err_and}
use Rattle.mp4_answers.specs.format.Answers.{IsFaultOf}
use Rattle.mp4_answers.specs.format.Headline.{HasNormalForm}
use Rattle.mp4_answers.specs.format.Run.{look_of}
use Rattle.mp4_answers.proofs.Measured.{not_planned}
use Rattle.mp4_answers.proofs.Normalised.{unchanged_written}
use Rattle.mp4_answers.proofs.RunParts.{open_fails}
use Rattle.mp4_answers.proofs.Lengths.{form_measured}
use Rattle.mp4_answers.proofs.commands.answer_len.form_len.Goals as goal

pub returns-clause-length : goal.returns-clause-length
returns-clause-length g c =
    let e = c.in_ok-movie.ensures in
    form_measured _ _ _ _ _ e.store.honesty e.store.file e.movie c.normal_len.result c.normal_len.ensures.length

pub returns-in_err-movie-clause-refusal : goal.returns-in_err-movie-clause-refusal
returns-in_err-movie-clause-refusal g c =
    let p = err_from_is_err_and c.from_residual.result c.from_residual.ensures.1 in
    let r = look_of g.S.Store c.args.store.now c.open_movie.new.store in
    rw (p.1, p.2) (open_fails (Unit {0}) r (HasNormalForm r.file) (IsFaultOf r.file) ⊥ c.in_err-movie.field-0.0 (λ f s. s) refl c.in_err-movie.ensures.refusal)

pub returns-clause-refusal : goal.returns-clause-refusal
returns-clause-refusal g c =
    let o = c.in_ok-movie.ensures in
    let w = c.normal_len.ensures in
    let r = look_of g.S.Store c.args.store.now c.normal_len.new.store in
    not_planned r refl c.normal_len.result (rw o.store.reads at w.refusal) (unchanged_written r _ _ _ o.store.honesty o.store.file o.movie c.normal_len.result w.unchanged)
