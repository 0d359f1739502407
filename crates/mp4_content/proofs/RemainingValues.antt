-- What divides the times of what remains, and what is so of each sample.
use Rattle.std.proofs.Common.{ℕ, suc, List, [], ◌∷◌}
use Rattle.std.specs.List.{AllByRecursion}
use Rattle.mp4_present.specs.format.Presentation.{Sample, Track}
use Rattle.mp4_content.specs.format.Reduced.{reduce_track}
use Rattle.mp4_content.specs.declared.without.Without.{Without}
use Rattle.mp4_content.specs.format.Timescales.{sample_by, samples_by, track_times}
use Rattle.mp4_content.specs.format.Remaining.{track_divisor}
use Rattle.mp4_content.proofs.ReducedTaken.{divisor_left_divides}
use Rattle.mp4_content.proofs.TimescalesDivisors.{Divides}

pub track_divisor_divides : (l : Without) (t : Track) → Divides (track_divisor l t) (track_times l (reduce_track l t))
track_divisor_divides l t = divisor_left_divides l (track_times l (reduce_track l t))

-- what is so of each that is divided
pub divided_each : (l : Without) (P Q : Sample → Type 0) (f : ℕ → ℕ) (count : ℕ) → ((n : ℕ) (s : Sample) → P s → Q (sample_by l f count n s)) → (n : ℕ) (samples : List Sample) → AllByRecursion P samples → AllByRecursion Q (samples_by l f count n samples)
divided_each l P Q f count one n [] h = tt
divided_each l P Q f count one n (s ∷ samples) h = (one n s h.0, divided_each l P Q f count one (suc n) samples h.1)
