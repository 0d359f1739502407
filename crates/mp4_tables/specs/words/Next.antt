-- The next of some samples, by what it takes to pass them.
use Rattle.std.specs.Prelude.{◌≡◌, ℕ, zero, suc, ◌/◌, ◌%◌, ◌^◌, List, [], ◌∷◌, Some, slice_get}
use Rattle.mp4_tables.specs.declared.sample.SampleAt.{SampleAt}

-- the next of the samples has the duration and the size of this one
pub record IsNext (sample : SampleAt) (samples : List SampleAt) : Type 0 where
  pub next : SampleAt
  pub first : slice_get samples 0 ≡ Some next
  pub duration : next.duration ≡ sample.duration
  pub size : next.size ≡ sample.size

-- sample_is_non_sync_sample is set (8.8.3.1), and the description is this one
abbrev pub IsNonSyncOf : ℕ → SampleAt → Type 0
IsNonSyncOf description s = (s.flags / 2 ^ 16 % 2 ≡ 1) × (s.description ≡ description)

-- so many of the first samples are such ones, and the others are left
abbrev pub PassesNonSync : ℕ → ℕ → List SampleAt → List SampleAt → Type 0
PassesNonSync description zero samples left = left ≡ samples
PassesNonSync description (suc n) [] left = ⊥
PassesNonSync description (suc n) (s ∷ samples) left = IsNonSyncOf description s
    × PassesNonSync description n samples left
