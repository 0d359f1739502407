-- How many samples and bytes a piece has that is fed with samples.
use Rattle.std.proofs.Common.{◌≡◌, ℕ, ◌+◌, ◌≤◌, List, [], ◌∷◌, length, take, refl, ◌∙◌, arith}
use Rattle.std.specs.Prelude.{Option, Some, None}
use Rattle.mp4_tables.specs.declared.sample.SampleAt.{SampleAt}
use Rattle.mp4_plan.specs.words.Gathering.{gather, gather_all, planned_of, piece_from, piece_fed, more_of}
use Rattle.mp4_plan.specs.words.HandsFed.{sizes_of}
use Rattle.mp4_plan.specs.declared.ends.End.{End}
use Rattle.mp4_plan.specs.declared.gathered.Gathered.{Gathered}
use Rattle.mp4_plan.proofs.HandsTaken.{counted_fed, few_more}
use Rattle.mp4_plan.proofs.PlannerSteps.{planned_counts}

abbrev bytes_of : Option Gathered → ℕ
bytes_of g = (planned_of g).bytes

bytes_with : (g : Option Gathered) (s : SampleAt) → bytes_of (gather g s) ≡ bytes_of g + s.size
bytes_with None s = omega arith
bytes_with (Some g) s = refl

bytes_with_all : (g : Option Gathered) (samples : List SampleAt) → bytes_of (gather_all g samples) ≡ bytes_of g + sizes_of samples
bytes_with_all g [] = omega arith
bytes_with_all g (s ∷ samples) = let e = bytes_with_all (gather g s) samples in let one = bytes_with g s in omega (arith, e, one)

module _ (end : End) (samples : List SampleAt) where
  -- how many of them go into a piece
  abbrev pub piece_count : ℕ
  piece_count = more_of (piece_from end) samples

  -- as many samples as go into it
  pub piece_counts : (planned_of (piece_fed (piece_from end) samples).gathered).count ≡ piece_count
  piece_counts =
      let e = planned_counts (piece_fed (piece_from end) samples).gathered ∙ counted_fed (piece_from end) samples in
      omega (arith, e)

  -- as many bytes as these have
  pub piece_bytes : (planned_of (piece_fed (piece_from end) samples).gathered).bytes ≡ sizes_of (take piece_count samples)
  piece_bytes = let e = bytes_with_all None (take piece_count samples) in omega (arith, e)

  -- no more than there are
  pub piece_within : piece_count ≤ length samples
  piece_within = few_more (piece_from end) samples

  -- what is gathered of these
  pub piece_gathers : (piece_fed (piece_from end) samples).gathered ≡ gather_all None (take piece_count samples)
  piece_gathers = refl
