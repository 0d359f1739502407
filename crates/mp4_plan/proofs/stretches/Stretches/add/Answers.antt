use Rattle.std.proofs.Common.{rules, take, arith, refl, sym, ◌≡◌, ◌+◌}
use Rattle.mp4_plan.proofs.Stretched.{bytes_longer}
use Rattle.mp4_plan.proofs.stretches.Stretches.add.Goals as goal

pub returns-in-Some-clause-joined : goal.returns-in-Some-clause-joined
returns-in-Some-clause-joined c earlier h =
    let s = c.args.sample.now in
    let w = c.args.self.now in
    let end : c.in-Some.end ≡ w.last.end + s.size = search rules in
    let ordered = h.ordered in
    record {
      ordered = omega (arith, end, ordered);
      kept = λ e. bytes_longer (take w.used w.earlier) w.last _ earlier s ordered (sym c.if-self-sample.true) refl end (h.kept e);
    }
