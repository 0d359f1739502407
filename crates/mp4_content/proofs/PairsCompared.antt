-- Samples of two tracks that are compared pair by pair.
use Rattle.std.proofs.Common.{◌≡◌, ℕ, ◌+◌, ◌≤◌, List, [], ◌∷◌, ◌++◌, length, ap, subst, ◌∙◌, arith}
use Rattle.std.specs.List.{AllByRecursion}
use Rattle.mp4_tables.specs.declared.sample.SampleAt.{SampleAt}
use Rattle.mp4_head.specs.format.Tree.{TrackTree}
use Rattle.mp4_present.specs.format.Denotes.{FileTree}
use Rattle.mp4_content.specs.words.Compared.{BothTakeOn, LieIn}
use Rattle.mp4_present.specs.words.Joined.{IsBelow}
use Rattle.mp4_present.specs.words.WalkSteps.{TakesOn}
use Rattle.mp4_content.specs.declared.comparing.differences.Difference.{Difference}
use Rattle.mp4_present.specs.declared.walking.Walk.{Walk}

-- ---- the samples

-- there is one
pub some_there : (file : List ℕ) (samples : List SampleAt) → LieIn file samples → samples ≡ [] → ⊥
some_there file samples h e = let n = ap (λ (ss : List SampleAt). length ss) e in let m = h.0 in absurd (omega (arith, n, m))

-- the first lies in the file
pub first_lies : (file : List ℕ) (samples rest : List SampleAt) (s : SampleAt) → samples ≡ s ∷ rest → LieIn file samples → IsBelow (length file) s
first_lies file samples rest s e h = (subst (λ (ss : List SampleAt). AllByRecursion (IsBelow (length file)) ss) e h.1).0

-- what was found, and then more
pub found_then : (a b mid now : List Difference) → mid ≡ a → now ≡ mid ++ b → now ≡ a ++ b
found_then a b mid now e f = f ∙ ap (λ (ds : List Difference). ds ++ b) e

-- ---- the steps of both walks

pub first_most : (n m old mid : ℕ) → mid ≤ old + n → mid ≤ old + (n + m)
first_most n m old mid h = omega (arith, h)

module _ (file : List ℕ) (tree : FileTree) (t : TrackTree) (w : Walk) (other : List ℕ) (other_tree : FileTree) (u : TrackTree) (v : Walk) where
  -- one took its steps, and then the other one
  pub both_take : (n m old mid new : ℕ) → TakesOn file tree t n w old mid → TakesOn other other_tree u m v mid new → BothTakeOn file tree t w other other_tree u v (n + m) old new
  both_take n m old mid new a b = let first = a.2 in let second = b.2 in (a.0, b.0, a.1, b.1, omega (arith, first, second))

  -- or then no more than it may take
  pub second_most : (n m old mid new : ℕ) → TakesOn file tree t n w old mid → new ≤ mid + m → new ≤ old + (n + m)
  second_most n m old mid new a le = let first = a.2 in omega (arith, first, le)

  -- no more than all were taken
  pub both_most : (n old new : ℕ) → BothTakeOn file tree t w other other_tree u v n old new → new ≤ old + n
  both_most n old new h = let all = h.4 in omega (arith, all)

  -- all that may be taken are within more
  pub both_within : (n most old new : ℕ) → n ≤ most → BothTakeOn file tree t w other other_tree u v n old new → BothTakeOn file tree t w other other_tree u v most old new
  both_within n most old new le h = let all = h.4 in (h.0, h.1, h.2, h.3, omega (arith, le, all))

-- no more than both may take
pub most_of_both : (n m most others : ℕ) → n ≤ most → m ≤ others → n + m ≤ most + others
most_of_both n m most others first second = omega (arith, first, second)

pub most_within : (n most old new : ℕ) → n ≤ most → new ≤ old + n → new ≤ old + most
most_within n most old new le h = omega (arith, le, h)
