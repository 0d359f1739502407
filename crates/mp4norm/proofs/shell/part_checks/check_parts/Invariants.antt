use Rattle.std.proofs.Common.{◌≡◌}
use Rattle.mp4norm.proofs.shell.part_checks.check_parts.Given as goal

-- the store is as it was
abbrev pub invariant-loop-part : goal.invariant-loop-part
invariant-loop-part g l =
    record {
      honesty : g.S.Store.is_honest l.store ≡ g.S.Store.is_honest l.fn.store;
      file : g.S.Store.file l.store ≡ g.S.Store.file l.fn.store;
      reads : g.S.Store.read_failures l.store ≡ g.S.Store.read_failures l.fn.store;
    }
