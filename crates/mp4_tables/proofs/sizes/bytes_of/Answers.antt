use Rattle.std.proofs.Common.{◌≡◌, ◌+◌, ◌-◌, suc, drop, ap, ◌∙◌, arith}
use Rattle.mp4_tables.specs.words.Rows.{sizes_at}
use Rattle.mp4_tables.proofs.RowLists.{sizes_more}
use Rattle.mp4_tables.proofs.RunsPassed.{sum_first}
use Rattle.mp4_tables.proofs.sizes.bytes_of.Goals as goal

pub loop-k-preserved : goal.loop-k-preserved
loop-k-preserved c =
    let i = c.loop-k.invariant in
    let sizes = c.args.sizes in
    let inside = c.requires.inside in
    let test = c.loop-k-test.true in
    let e : c.args.i + c.args.count - c.loop-k.k ≡ suc (c.args.i + c.args.count - (c.loop-k.k + 1)) = omega (arith, test) in
    let more = sizes_more sizes.form c.args.payload.now sizes.rows c.loop-k.k (omega (arith, test, inside)) in
    let one = ap (λ n. sum_first n (drop c.loop-k.k (sizes_at c.args.payload.now sizes))) e ∙ ap (sum_first (suc (c.args.i + c.args.count - (c.loop-k.k + 1)))) more in
    let is = c.size_at.ensures in
    let from = c.from-sum.ensures in
    record {
      whole = omega (arith, i.whole, one, is, from);
      small = omega (arith, i.small, i.from, from);
      from = omega (arith, i.from);
    }
