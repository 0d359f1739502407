use Rattle.mp4_plan.proofs.LargestOf.{next_track_id_is_least}
use Rattle.mp4_plan.proofs.laws.next_track_id_is_least.Goals as goal

pub returns : goal.returns
returns c = next_track_id_is_least
