use Rattle.std.proofs.Common.{refl}
use Rattle.mp4norm_c.proofs.Comparing.{told_err, told_ok}
use Rattle.mp4norm_c.proofs.compared.answer_compare.Goals as goal

pub returns-in-Ok : goal.returns-in-Ok
returns-in-Ok c = rw c.in-Some.is (told_ok c.in-Some.asked c.args.file.now c.args.other.now c.args.from c.args.out.now _ _ _ c.bytes.result.now c.put_window-many.result c.in-Ok.same
    (λ bytes took. c.bytes.ensures.taken c.new-text.result bytes c.new-text.ensures.empty took) c.in-Ok.ensures.verdict c.in-Ok.ensures.same c.in-Ok.ensures.differ c.put_window-many.ensures (rw c.status_of.ensures at c.plain-in-Ok.ensures))

pub returns : goal.returns
returns c = rw c.in-Some.is (told_err c.in-Some.asked c.args.file.now c.args.other.now c.args.from c.args.out.now _ _ c.in-Err.failure c.told_failure.ensures refl c.in-Err.ensures.refusal)
