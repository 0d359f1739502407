use Rattle.std.proofs.Common.{arith, refl, rules, ◌+◌}
use Rattle.mp4_tables.specs.words.Rows.{numbers_at}
use Rattle.mp4_tables.proofs.Fronts.{numbers_on, numbers_low, numbers_high}
use Rattle.mp4_tables.proofs.sync_samples.are_numbers.Goals.{then-number-last-via-then-number-last, then-number-last-via-else-number-last+then-number-n}
use Rattle.mp4_tables.proofs.sync_samples.are_numbers.Goals as goal

pub loop-k-init : goal.loop-k-init
loop-k-init g c = record { same = refl; front = λ more. refl; cost = omega arith }

pub returns-then-number-last-clause-stopped : goal.returns-then-number-last-clause-stopped
returns-then-number-last-clause-stopped g c _ =
    let named = numbers_at 4 c.args.payload.now c.args.rows in
    record {
      count = c.loop-k.k + 1;
      steps = omega arith;
      wrong = elim c.then-number-last.branch [
        | then-number-last-via-then-number-last w ↦ numbers_low named _ c.args.n c.loop-k.last c.loop-k.k _ c.loop-k.invariant.front c.number_at-number.ensures w.if-number-last.true
        | then-number-last-via-else-number-last+then-number-n w ↦ numbers_high named _ c.args.n c.loop-k.last c.loop-k.k _ c.loop-k.invariant.front c.number_at-number.ensures w.if-number-n.true
      ];
    }

pub loop-k-preserved : goal.loop-k-preserved
loop-k-preserved g c = record {
  same = search rules;
  front = numbers_on (numbers_at 4 c.args.payload.now c.args.rows) _ c.args.n c.loop-k.last c.loop-k.k _ c.loop-k.invariant.front c.number_at-number.ensures c.if-number-last.false c.if-number-n.false;
  cost = omega arith;
}
