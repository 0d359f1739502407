use Rattle.std.proofs.Common.{arith}
use Rattle.mp4_plan.proofs.DueTurns.{there_before}
use Rattle.mp4_plan.proofs.schedule.Schedule.begin.Goals as goal

pub returns : goal.returns
returns c =
    let i = c.loop-k.invariant in
    let end = c.loop-k-test.false in
    record {
      tree = i.tree;
      many = i.many;
      times = λ k x next some at shown. (let inside = there_before c.args.tracks.now k x at in i.times k x next some (omega (arith, inside, end)) at shown);
      here = λ some lt. (let first = c.requires.first in absurd (omega (arith, some, first)));
    }
