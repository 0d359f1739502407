use Rattle.mp4_plan.proofs.ChunkSpots.{samples_lie_in_chunks}
use Rattle.mp4_plan.proofs.laws.samples_lie_in_chunks.Goals as goal

pub returns : goal.returns
returns c = samples_lie_in_chunks
