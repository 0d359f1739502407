use Rattle.std.proofs.Common.{◌≡◌, ℕ, ◌-◌, ◌^◌, min, List, length, refl, arith}
use Rattle.std.specs.Prelude.{Ok, Err}
use Rattle.mp4_answers.specs.format.ReducedHeadline.{HasReducedForm}
use Rattle.mp4_answers.specs.format.Selected.{whole}
use Rattle.mp4norm_c.specs.words.Counting.{Counted}
use Rattle.mp4norm_c.proofs.Found.{found_not}
use Rattle.mp4norm_c.proofs.looks.answer_length.Goals as goal

pub returns-in-Ok : goal.returns-in-Ok
returns-in-Ok c =
    let put = c.in-Ok.ensures.0.1 refl in
    let none : c.new-sink.result.count ≡ min 0 (2 ^ 64 - 1) = omega (arith, c.new-sink.ensures) in
    let all = put.2 0 none in
    let many : c.count.result ≡ min (length put.0) (2 ^ 64 - 1) = omega (arith, c.count.ensures, all) in
    rw c.in-Some.is (Ok c.count.result, c.plain-in-Ok.ensures, (put.0, put.1, many))

pub returns-in-Err : goal.returns-in-Err
returns-in-Err c = rw c.in-Some.is (
  Err c.in-Err.refusal,
  c.told.ensures,
  found_not (Unit {0}) _ _ (λ n. (form : List ℕ) × HasReducedForm (whole c.in-Some.leaving) c.args.file.now form × (n ≡ min (length form) (2 ^ 64 - 1))) c.args.file.now (Counted c.new-sink.result c.counted.new.sink) c.in-Err.refusal c.in-Err.ensures.0,
)
