use Rattle.std.proofs.Common.{◌≡◌, ◌+◌, ◌-◌, ◌*◌, ◌^◌, ◌≤◌, drop}
use Rattle.mp4_tables.specs.words.Rows.{sizes_at}
use Rattle.mp4_tables.proofs.RunsPassed.{sum_first}
use Rattle.mp4_tables.proofs.sizes.bytes_of.Given as goal

-- with the sizes that are left it is the sum of all
abbrev pub invariant-loop-k : goal.invariant-loop-k
invariant-loop-k l =
    let sizes = sizes_at l.payload l.sizes in
    record {
      whole : l.sum + sum_first (l.i + l.count - l.k) (drop l.k sizes) ≡ sum_first l.count (drop l.i sizes);
      small : l.sum ≤ (l.k - l.i) * (2 ^ 32 - 1);
      from : l.i ≤ l.k;
    }
