use Rattle.std.proofs.Common.{refl}
use Rattle.mp4_plan.proofs.Stretched.{tells_none}
use Rattle.mp4_plan.proofs.stretches.Stretches.clear.Goals as goal

pub returns-clause-told : goal.returns-clause-told
returns-clause-told c = tells_none _ refl refl refl
