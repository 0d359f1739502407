use Rattle.std.proofs.Common.{rules, take, arith, refl, ◌≡◌, ◌+◌}
use Rattle.mp4_plan.proofs.Stretched.{bytes_more}
use Rattle.mp4_plan.proofs.stretches.Stretches.open.Goals as goal

pub returns-in-Some-clause-joined : goal.returns-in-Some-clause-joined
returns-in-Some-clause-joined c earlier h =
    let s = c.args.sample.now in
    let end : c.in-Some.end ≡ s.at + s.size = search rules in
    let w = c.close_last.new.self in
    record {
      ordered = omega (arith, end);
      kept = λ e. bytes_more (take w.used w.earlier) _ earlier s refl end (c.close_last.ensures.closed earlier h e);
    }
