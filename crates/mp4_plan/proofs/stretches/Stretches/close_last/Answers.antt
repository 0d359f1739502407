use Rattle.std.proofs.Common.{take}
use Rattle.mp4_plan.proofs.Stretched.{bytes_without}
use Rattle.mp4_plan.proofs.stretches.Stretches.close_last.Goals as goal

pub returns-then-self-clause-closed : goal.returns-then-self-clause-closed
returns-then-self-clause-closed c samples h e = let w = c.args.self.now in bytes_without (take w.used w.earlier) w.last samples c.if-self.true (h.kept e)
