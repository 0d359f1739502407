use Rattle.std.proofs.Common.{rules, arith, ◌-◌, ◌<◌, ◌≤◌, subst}
use Rattle.mp4_plan.specs.words.DueTracks.{leaf}
use Rattle.mp4_plan.specs.words.DueTracks.Skips.{none}
use Rattle.mp4_plan.proofs.DueTurns.{skips_to, skips_around, skips_over}
use Rattle.mp4_plan.proofs.schedule.Schedule.skip.Goals as goal

pub returns-then-self-eq0-clause-skips : goal.returns-then-self-eq0-clause-skips
returns-then-self-eq0-clause-skips c = none c.args.self.now

pub returns-in-Some-clause-skips : goal.returns-in-Some-clause-skips
returns-in-Some-clause-skips c =
    let s = c.args.self.now in
    let f = c.in-Some.ensures in
    let some : 0 < s.track = search rules in
    let from = f.0 in
    let lt = f.1 in
    let many = c.requires.tracks in
    skips_to c.args.due.now (c.in-Some.track - s.track) c.in-Some.track s (omega (arith, from)) (omega (arith, lt, many)) some (λ k begun few. subst (λ t. t ≤ leaf c.args.due.now k) c.cut_at.ensures (f.3 k begun few))

pub returns-in-Some-next-clause-skips : goal.returns-in-Some-next-clause-skips
returns-in-Some-next-clause-skips c =
    let s = c.args.self.now in
    let some : 0 < s.track = search rules in
    let lt : s.track < s.tracks = search rules in
    let many = c.requires.tracks in
    skips_around c.args.due.now c.in-Some-next.cut s lt some c.in-Some-next.is (λ k begun few. subst (λ t. t ≤ leaf c.args.due.now k) c.cut_at.ensures (c.in_default.ensures k begun (omega (arith, few, many))))

pub returns-in_default-next-clause-skips : goal.returns-in_default-next-clause-skips
returns-in_default-next-clause-skips c =
    let s = c.args.self.now in
    let some : 0 < s.track = search rules in
    let lt : s.track < s.tracks = search rules in
    let many = c.requires.tracks in
    skips_over c.args.due.now s lt some c.in_default-next.is (λ k begun few. subst (λ t. t ≤ leaf c.args.due.now k) c.cut_at.ensures (c.in_default.ensures k begun (omega (arith, few, many))))
