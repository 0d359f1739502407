-- The time goes on by each sample that is passed.
use Rattle.std.proofs.Common.{◌≡◌, ℕ, ◌+◌, List, [], ◌∷◌, drop, Some, ap, arith}
use Rattle.std.specs.List.{slice_get}
use Rattle.mp4_tables.specs.declared.sample.SampleAt.{SampleAt}
use Rattle.mp4_frag.specs.words.Times.{lasting}
use Rattle.mp4_frag.specs.words.Walks.{capped}

-- the first of some samples is passed
pub time_kept : (before after : ℕ) (first : SampleAt) (samples more : List SampleAt) → slice_get samples 0 ≡ Some first → more ≡ drop 1 samples → after ≡ capped (before + first.duration)
    → capped (after + lasting more) ≡ capped (before + lasting samples)
time_kept before after first [] more f e a = absurd cc
time_kept before after first (sample ∷ samples) more f e a =
    let same : sample ≡ first = cc in
    omega (arith, ap lasting e, ap (λ (s : SampleAt). s.duration) same, a)
