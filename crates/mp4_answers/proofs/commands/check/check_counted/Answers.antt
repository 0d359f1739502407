use Rattle.std.proofs.Common.{◌≡◌, ℕ, List, [], refl, arith}
use Rattle.std.proofs.lemmas.Result.{err_from_is_err_and}
use Rattle.mp4_present.specs.format.Denotes.{presentation_of}
use Rattle.mp4_present.proofs.ToldTrees.{file_tree_is}
use Rattle.mp4_plan.specs.format.Normal.{normal}
use Rattle.mp4_answers.specs.format.Answers.{IsFaultOf}
use Rattle.mp4_answers.specs.format.Headline.{HasNormalForm}
use Rattle.mp4_answers.specs.format.Run.{look_of}
use Rattle.mp4_answers.proofs.Normalised.{normal_form}
use Rattle.mp4_answers.proofs.RunParts.{open_fails}
use Rattle.mp4_answers.proofs.StepSums.{opened_least}
use Rattle.mp4_answers.proofs.StepsTaken.{not_looked, looked_within}
use Rattle.mp4_answers.proofs.LooksTaken.{not_found, finds_taken}
use Rattle.mp4_answers.proofs.commands.check.check_counted.Goals as goal

pub returns-in_err-open_movie-clause-answer : goal.returns-in_err-open_movie-clause-answer
returns-in_err-open_movie-clause-answer g c =
    let p = err_from_is_err_and c.from_residual.result c.from_residual.ensures.1 in
    let r = look_of g.S.Store c.args.store.now c.open_movie.new.store in
    rw (p.1, p.2) (open_fails (Unit {0}) r (λ text. (text ≡ []) × (form : List ℕ) × HasNormalForm r.file form) (IsFaultOf r.file) ⊥ c.in_err-open_movie.field-0.0 (λ f s. s) refl c.in_err-open_movie.ensures.refusal)

pub returns-clause-answer : goal.returns-clause-answer
returns-clause-answer g c = (
  (c.in_ok-open_movie.ensures.store.reads, refl),
  λ told.
      let o = c.in_ok-open_movie.ensures.movie told in
      let file = g.S.Store.file c.args.store.now in
      ([], (refl, normal (presentation_of file o.0), normal_form file c.in_ok-open_movie.field-0 o.0 o.1), refl),
)

-- ---- steps and looks

pub returns-in_err-open_movie-clause-work : goal.returns-in_err-open_movie-clause-work
returns-in_err-open_movie-clause-work g c = λ told.
    let e = c.in_err-open_movie.ensures in
    not_looked _ _ _ _ _ _ c.in_err-open_movie.field-0.0 told e.refusal (e.work told).work (e.work told).within

pub returns-clause-work : goal.returns-clause-work
returns-clause-work g c = λ told.
    let o = c.in_ok-open_movie.ensures.movie told in
    looked_within _ _ _ c.in_ok-open_movie.field-0 o.0 o.1 ((c.in_ok-open_movie.ensures.work told).work o.0 (file_tree_is _ _ o.0 o.1))

pub returns-in_err-open_movie-clause-looks : goal.returns-in_err-open_movie-clause-looks
returns-in_err-open_movie-clause-looks g c = λ told.
    let l = (c.in_err-open_movie.ensures.work told).looks in
    not_found _ _ _ _ _ _ c.in_err-open_movie.field-0.0 told c.in_err-open_movie.ensures.refusal l.said l.within

pub returns-clause-looks : goal.returns-clause-looks
returns-clause-looks g c = λ told.
    finds_taken _ c.in_ok-open_movie.field-0 _ _ (c.in_ok-open_movie.ensures.movie told) (c.in_ok-open_movie.ensures.work told).looks.said

pub returns-clause-least : goal.returns-clause-least
returns-clause-least g c = λ told p d.
    let taken = c.in_ok-open_movie.ensures.least told d.tree d.is_tree in
    omega (arith, taken, opened_least _ p d)
