-- How many samples have numbers and decode times.
use Rattle.std.proofs.Common.{◌≡◌, ℕ, suc, ◌+◌, List, [], ◌∷◌, length, refl, ap}
use Rattle.mp4_present.specs.format.Presentation.{Sample}
use Rattle.mp4_content.specs.format.TimedSamples.{timed_from}

-- There are as many with their times as without.
pub length-timed_from : (number time : ℕ) (samples : List Sample) → length (timed_from number time samples) ≡ length samples
length-timed_from number time [] = refl
length-timed_from number time (s ∷ samples) = ap suc (length-timed_from (number + 1) (time + s.duration) samples)
