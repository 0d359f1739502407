use Rattle.std.proofs.Common.{arith, ◌+◌, sym, ◌∙◌}
use Rattle.mp4_tables.specs.words.Rows.{runs_at}
use Rattle.mp4_tables.proofs.RunLists.{below_yes, below_no, below_all}
use Rattle.mp4_tables.proofs.Fronts.{front_fails}
use Rattle.mp4_tables.proofs.ChunkLists.{no_lt}
use Rattle.mp4_tables.proofs.stts_rows.are_below.Goals as goal

pub returns-then-run_at-bound-clause-same : goal.returns-then-run_at-bound-clause-same
returns-then-run_at-bound-clause-same g c =
    sym (c.loop-k.invariant.same ∙ below_no (runs_at c.args.payload.now c.args.rows) c.args.bound c.loop-k.k c.run_at.result.count c.run_at.result.value c.run_at.ensures c.if-run_at-bound.true)

pub loop-k-preserved : goal.loop-k-preserved
loop-k-preserved g c = record {
  same = c.loop-k.invariant.same ∙ below_yes (runs_at c.args.payload.now c.args.rows) c.args.bound c.loop-k.k c.run_at.result.count c.run_at.result.value c.run_at.ensures c.if-run_at-bound.false;
  cost = omega arith;
}

pub returns-clause-same : goal.returns-clause-same
returns-clause-same g c = sym (c.loop-k.invariant.same ∙ below_all c.args.payload.now c.args.rows c.args.bound c.loop-k.k c.loop-k-test.false)

pub returns-then-run_at-bound-clause-stopped : goal.returns-then-run_at-bound-clause-stopped
returns-then-run_at-bound-clause-stopped g c _ = record {
  count = c.loop-k.k + 1;
  steps = omega arith;
  wrong = front_fails _ (runs_at c.args.payload.now c.args.rows) _ c.loop-k.k _ c.run_at.ensures (no_lt c.run_at.result.value c.args.bound c.if-run_at-bound.true);
}
