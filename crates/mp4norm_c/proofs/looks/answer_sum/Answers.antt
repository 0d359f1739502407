use Rattle.std.proofs.Common.{◌≡◌, ℕ, List, [], refl}
use Rattle.std.specs.Prelude.{Ok, Err}
use Rattle.mp4_answers.specs.format.Selected.{whole}
use Rattle.mp4_answers.specs.format.Sums.{HasSum}
use Rattle.mp4norm_c.proofs.Found.{found_not}
use Rattle.mp4norm_c.proofs.looks.answer_sum.Goals as goal

pub returns-in-Ok : goal.returns-in-Ok
returns-in-Ok c = rw c.in-Some.is (Ok 32, c.plain-in-Ok.ensures, (refl, c.in-Ok.ensures.1 refl), tt)

pub returns-in-Err : goal.returns-in-Err
returns-in-Err c = rw c.in-Some.is (Err c.in-Err.refusal, c.told.ensures, found_not (List ℕ) _ _ (λ n. (n ≡ 32) × HasSum (whole c.in-Some.leaving) c.args.file.now c.args.digest.now.bytes) c.args.file.now (λ bytes. bytes ≡ []) c.in-Err.refusal c.in-Err.ensures.0, refl)
