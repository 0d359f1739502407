use Rattle.std.proofs.Common.{◌≡◌, ◌-◌, ◌≤◌}
use Rattle.std.specs.Prelude.{IsTrue}
use Rattle.mp4_present.specs.declared.reading.TopBox.{TopBox}
use Rattle.mp4_answers.specs.format.Ways.{HoldsFrom}
use Rattle.mp4_answers.proofs.commands.box_path.top_at.Given as goal

-- up to here no box holds the place
abbrev pub invariant-loop-at : goal.invariant-loop-at
invariant-loop-at g l = record {
  honesty : g.S.Store.is_honest l.store ≡ g.S.Store.is_honest l.fn.store;
  file : g.S.Store.file l.store ≡ g.S.Store.file l.fn.store;
  reads : g.S.Store.read_failures l.store ≡ g.S.Store.read_failures l.fn.store;
  before : l.at ≤ l.place;
  on : IsTrue (g.S.Store.is_honest l.fn.store) → (top : TopBox) → HoldsFrom (g.S.Store.file l.fn.store) l.place 0 top
      → HoldsFrom (g.S.Store.file l.fn.store) l.place l.at top;
  back : IsTrue (g.S.Store.is_honest l.fn.store) → (top : TopBox) → HoldsFrom (g.S.Store.file l.fn.store) l.place l.at top
      → HoldsFrom (g.S.Store.file l.fn.store) l.place 0 top;
}

abbrev pub decreases-loop-at : goal.decreases-loop-at
decreases-loop-at g l = l.len - l.at
