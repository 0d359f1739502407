use Rattle.std.proofs.Common.{◌≡◌, ◌≤◌, ◌-◌, drop}
use Rattle.std.specs.Prelude.{IsTrue}
use Rattle.mp4_store.specs.words.Device.{range}
use Rattle.mp4_content.specs.format.Differences.{first_unequal}
use Rattle.mp4_content.specs.words.Windows.{Shows}
use Rattle.mp4_content.proofs.comparing.bytes.first_difference.Given as goal

-- no byte before this place differs
abbrev pub invariant-loop-done : goal.invariant-loop-done
invariant-loop-done g l = record {
  within : l.done ≤ l.len;
  honesty : g.S.Store.is_honest l.left ≡ g.S.Store.is_honest l.fn.left;
  file : g.S.Store.file l.left ≡ g.S.Store.file l.fn.left;
  reads : g.S.Store.read_failures l.left ≡ g.S.Store.read_failures l.fn.left;
  honesty_right : g.T.Store.is_honest l.right ≡ g.T.Store.is_honest l.fn.right;
  file_right : g.T.Store.file l.right ≡ g.T.Store.file l.fn.right;
  reads_right : g.T.Store.read_failures l.right ≡ g.T.Store.read_failures l.fn.right;
  shows : IsTrue (g.S.Store.is_honest l.fn.left) → Shows (g.S.Store.file l.fn.left) l.left_window;
  shows_right : IsTrue (g.T.Store.is_honest l.fn.right) → Shows (g.T.Store.file l.fn.right) l.right_window;
  found : IsTrue (g.S.Store.is_honest l.fn.left) → IsTrue (g.T.Store.is_honest l.fn.right)
      → first_unequal l.done (drop l.done (range (g.S.Store.file l.fn.left) l.left_at l.len)) (drop l.done (range (g.T.Store.file l.fn.right) l.right_at l.len))
      ≡ first_unequal 0 (range (g.S.Store.file l.fn.left) l.left_at l.len) (range (g.T.Store.file l.fn.right) l.right_at l.len);
}

abbrev pub decreases-loop-done : goal.decreases-loop-done
decreases-loop-done g l = l.len - l.done
