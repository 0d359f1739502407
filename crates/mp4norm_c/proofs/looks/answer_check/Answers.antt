use Rattle.std.proofs.Common.{◌≡◌, ℕ, List, [], refl}
use Rattle.std.specs.Prelude.{Ok, Err}
use Rattle.mp4_answers.specs.format.Headline.{HasNormalForm}
use Rattle.mp4norm_c.proofs.Found.{found_not}
use Rattle.mp4norm_c.proofs.looks.answer_check.Goals as goal

pub returns-in-Ok : goal.returns-in-Ok
returns-in-Ok c = let found = (c.in-Ok.ensures.1 refl).1 in (Ok 0, c.plain.ensures, (refl, found.1, found.2))

pub returns-in-Err : goal.returns-in-Err
returns-in-Err c = (Err c.in-Err.refusal, c.told.ensures, found_not (Unit {0}) _ _ (λ n. (n ≡ 0) × (form : List ℕ) × HasNormalForm c.args.file.now form) c.args.file.now (λ bytes. bytes ≡ []) c.in-Err.refusal c.in-Err.ensures)
