use Rattle.std.proofs.Common.{◌≡◌, ◌-◌, ◌≤◌, length}
use Rattle.mp4norm.proofs.shell.part_checks.check_part.Given as goal

-- the store is as it was
abbrev pub invariant-loop-at : goal.invariant-loop-at
invariant-loop-at g l =
    record {
      honesty : g.S.Store.is_honest l.store ≡ g.S.Store.is_honest l.fn.store;
      file : g.S.Store.file l.store ≡ g.S.Store.file l.fn.store;
      reads : g.S.Store.read_failures l.store ≡ g.S.Store.read_failures l.fn.store;
      within : l.end ≤ length (g.S.Store.file l.store);
    }

abbrev pub decreases-loop-at : goal.decreases-loop-at
decreases-loop-at g l = l.end - l.at
