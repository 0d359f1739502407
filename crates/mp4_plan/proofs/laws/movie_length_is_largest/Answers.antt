use Rattle.mp4_plan.proofs.LargestOf.{movie_length_is_largest}
use Rattle.mp4_plan.proofs.laws.movie_length_is_largest.Goals as goal

pub returns : goal.returns
returns c = movie_length_is_largest
