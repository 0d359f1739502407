use Rattle.std.proofs.Common.{ap, sym, ◌∙◌, arith}
use Rattle.mp4_tables.specs.words.Rows.{runs_at}
use Rattle.mp4_tables.specs.words.TablesComing.{coming}
use Rattle.mp4_tables.proofs.RunLists.{coming_all}
use Rattle.mp4_tables.proofs.RunsPassed.{row_passed, row_sum, row_length, last_length, some_passed, some_sum}
use Rattle.mp4_tables.proofs.stts_rows.pass_many.Goals as goal
use Rattle.mp4_tables.proofs.stts_rows.pass_many.Goals.{then-loop-now-test+else-now-rows, else-loop-now-test}

pub loop-now-preserved : goal.loop-now-preserved
loop-now-preserved c =
    let runs = runs_at c.args.payload.now c.args.rows in
    let i = c.loop-now.invariant in
    let p = c.loop-now.now in
    let row = c.run_at-run.result in
    let e = c.run_at-run.ensures in
    let left = c.loop-now-test.true in
    let sum = row_sum runs p row.count row.value c.loop-now.more e left in
    let long = row_length runs p row.count row.value e in
    let t = c.times-sum.ensures in
    record {
      rest = sym (row_passed runs p row.count row.value c.loop-now.more e left) ∙ i.rest;
      sum = omega (arith, i.sum, sum, t.is);
      few = omega (arith, i.few);
      small = omega (arith, i.small, i.few, left, t.small);
      many = omega (arith, i.many, long);
      within = omega (arith, c.if-now-rows.true);
      on = omega (arith, i.on);
    }

pub overflow_sub-now : goal.overflow_sub-now
overflow_sub-now c =
    let many = c.loop-now.invariant.many in
    elim c.loop-now-test.branch [
      | then-loop-now-test+else-now-rows w ↦ let long = last_length c.args.payload.now c.args.rows c.loop-now.now w.if-now-rows.false in omega (arith, many, long)
      | else-loop-now-test w ↦ let more = w.loop-now-test.false in omega (arith, more)
    ]

pub returns-clause-next : goal.returns-clause-next
returns-clause-next c = sym (some_passed (runs_at c.args.payload.now c.args.rows) c.loop-now.now c.loop-now.more (overflow_sub-now c)) ∙ c.loop-now.invariant.rest

pub returns-clause-sum : goal.returns-clause-sum
returns-clause-sum c =
    let s = some_sum (runs_at c.args.payload.now c.args.rows) c.loop-now.now c.loop-now.more (overflow_sub-now c) in
    let t = c.times-sum-2.ensures.is in
    let i = c.loop-now.invariant.sum in
    omega (arith, s, t, i)

pub returns-clause-settled : goal.returns-clause-settled
returns-clause-settled c none =
    let runs = runs_at c.args.payload.now c.args.rows in
    elim c.loop-now-test.branch [
      | then-loop-now-test+else-now-rows w ↦
          ap (λ n. coming runs (record { row = c.loop-now.now.row; left = n; value = c.loop-now.now.value })) none
          ∙ coming_all c.args.payload.now c.args.rows c.loop-now.now.row c.loop-now.now.value w.if-now-rows.false
      | else-loop-now-test w ↦ let more = w.loop-now-test.false in absurd (omega (arith, more, none))
    ]
