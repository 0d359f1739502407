use Rattle.std.proofs.Common.{refl}
use Rattle.mp4_tables.proofs.GroupWalks.{no_groups_so}
use Rattle.mp4_tables.proofs.group_checks.no_groups.Goals as goal

pub returns : goal.returns
returns c = no_groups_so c.args.payload.now c.args.n _ c.new.ensures refl
