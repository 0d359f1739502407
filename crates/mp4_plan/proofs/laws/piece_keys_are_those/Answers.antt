use Rattle.mp4_plan.proofs.GroupRows.{piece_keys_are_those}
use Rattle.mp4_plan.proofs.laws.piece_keys_are_those.Goals as goal

pub returns : goal.returns
returns c = piece_keys_are_those
