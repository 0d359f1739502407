use Rattle.std.proofs.Common.{◌≡◌, ◌+◌, ◌*◌, ◌^◌, ◌≤◌}
use Rattle.mp4_frag.specs.words.Passing.{filling}
use Rattle.mp4_frag.specs.words.ColumnsRead.{row_room}
use Rattle.mp4_frag.specs.words.PlacesIn.{IsRowPlace}
use Rattle.mp4_frag.specs.words.Walks.{rows_here}
use Rattle.mp4_frag.proofs.data_ends.rows_bytes.Given as goal

-- with the rows left, the sum is that of all
abbrev pub invariant-loop-run : goal.invariant-loop-run
invariant-loop-run l = record {
  place : IsRowPlace l.payload l.run;
  width : l.run.width ≡ row_room l.run.bits;
  sum : l.bytes + filling l.inherited (rows_here l.payload l.run) ≡ filling l.inherited (rows_here l.payload l.fn.run);
  small : l.bytes + 2 ^ 32 * l.run.left ≤ 2 ^ 32 * l.fn.run.left;
}

abbrev pub decreases-loop-run : goal.decreases-loop-run
decreases-loop-run l = l.run.left
