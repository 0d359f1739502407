use Rattle.std.proofs.Common.{◌≤◌, rules}
use Rattle.mp4_plan.proofs.DueTurns.{less_going, less_passed, stuck_last, going_some}
use Rattle.mp4_plan.proofs.schedule.Schedule.take.Goals as goal

pub returns-then-is_over-clause-less : goal.returns-then-is_over-clause-less
returns-then-is_over-clause-less c =
    let le : c.args.count ≤ c.args.self.now.left = search rules in
    rw (c.pass_track.ensures, c.from-2.ensures) (less_passed c.args.self.now c.args.count _ le c.requires (stuck_last c.args.self.now.track c.args.count c.args.sample c.may_pass-is_passed.result c.may_pass-is_passed.ensures.end (c.is_stuck.ensures.goes c.if-is_stuck.false)))

pub returns-else-is_over-clause-less : goal.returns-else-is_over-clause-less
returns-else-is_over-clause-less c =
    let le : c.args.count ≤ c.args.self.now.left = search rules in
    rw c.from-2.ensures (less_going c.args.self.now c.args.count le (going_some c.args.self.now.track c.args.count c.args.sample c.may_pass-is_passed.result c.may_pass-is_passed.ensures.end (c.is_stuck.ensures.goes c.if-is_stuck.false) (search rules)))
