use Rattle.std.proofs.Common.{arith, rules}
use Rattle.mp4_plan.specs.words.Ends.{goes_in}
use Rattle.mp4_plan.proofs.HandsCounted.{counts_none, counts_then}
use Rattle.mp4_plan.proofs.counting.count_in.Goals as goal

pub loop-count-init : goal.loop-count-init
loop-count-init g c = record {
  counts = counts_none (goes_in c.args.end.now c.args.description) _;
  few = omega arith;
  later = g.met.S.Samples.follows_itself _;
}

pub loop-count-preserved : goal.loop-count-preserved
loop-count-preserved g c =
    let i = c.loop-count.invariant in
    record {
      counts = counts_then (goes_in c.args.end.now c.args.description) c.loop-count.count c.count_some-some.result _ _ _ i.counts c.count_some-some.ensures.counts;
      few = search rules;
      later = g.met.S.Samples.follows_on _ _ _ i.later c.count_some-some.ensures.later;
    }
