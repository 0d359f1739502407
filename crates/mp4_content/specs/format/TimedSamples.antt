-- Samples of a track with their numbers and their decode times.
use Rattle.std.specs.Prelude.{ℕ, ◌+◌, List, [], ◌∷◌}
use Rattle.mp4_present.specs.format.Presentation.{Sample, Track}

-- a sample with its number in its track, from 1, and its decode time
pub record TimedSample : Type 0 where
  pub sample : Sample
  pub number : ℕ
  pub time : ℕ

-- samples from a number and a decode time on
abbrev pub timed_from : ℕ → ℕ → List Sample → List TimedSample
timed_from number time [] = []
timed_from number time (s ∷ samples) = record { sample = s; number = number; time = time }
    ∷ timed_from (number + 1) (time + s.duration) samples

abbrev pub timed : Track → List TimedSample
timed t = timed_from 1 t.start t.samples
