use Rattle.std.proofs.Common.{◌≡◌}
use Rattle.mp4norm.proofs.shell.named_files.ListStore.touch_all.Given as goal

-- the length and the failures stay
abbrev pub invariant-loop-file : goal.invariant-loop-file
invariant-loop-file l = (l.self.size ≡ l.fn.self.size) × (l.self.failed ≡ l.fn.self.failed)
