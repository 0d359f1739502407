-- Samples of a walk that are passed one by one, and the steps of walks that go on.
use Rattle.std.proofs.Common.{◌≡◌, ℕ, zero, suc, ◌+◌, ◌<◌, ◌≤◌, List, [], ◌∷◌, length, drop, refl, sym, ap, subst, ◌∙◌, arith}
use Rattle.std.specs.List.{slice_get}
use Rattle.std.proofs.lemmas.List.{drop-drop, length-drop}
use Rattle.mp4_tables.specs.declared.sample.SampleAt.{SampleAt}
use Rattle.mp4_head.specs.format.Tree.{TrackTree}
use Rattle.mp4_present.specs.format.Denotes.{FileTree}
use Rattle.mp4_present.specs.words.Movies.{MovieSeen}
use Rattle.mp4_present.specs.words.NextSample.{TakesFirst}
use Rattle.mp4_present.specs.words.SamplesComing.{Comes}
use Rattle.mp4_present.specs.words.WalkSteps.{MayTake, TakesOn}
use Rattle.mp4_present.specs.declared.walking.Walk.{Walk}

-- some of a list are left behind fewer than it has
pub some_behind : (k : ℕ) (samples : List SampleAt) → k < length samples → drop k samples ≡ [] → ⊥
some_behind k samples lt none =
    let left = length-drop k samples in
    let nothing = ap (λ (ss : List SampleAt). length ss) none in
    absurd (omega (arith, lt, left, nothing))

-- the first behind some is one of all
pub get_behind : (k : ℕ) (samples : List SampleAt) → slice_get (drop k samples) 0 ≡ slice_get samples k
get_behind zero samples = refl
get_behind (suc k) [] = refl
get_behind (suc k) (s ∷ samples) = get_behind k samples

module _ (file : List ℕ) (tree : FileTree) (t : TrackTree) where
  -- one more was passed
  pub passes_one : (m : MovieSeen) (w : Walk) (k : ℕ) (samples : List SampleAt) (s : SampleAt) → TakesFirst file tree t m w (drop k samples) s → Comes file tree t m w (drop (k + 1) samples)
  passes_one m w k samples s h = subst (λ (ss : List SampleAt). Comes file tree t m w ss) (sym (ap (drop 1) h.1) ∙ drop-drop 1 k samples) h.2

  -- some steps were taken, and then more
  pub takes_then : (n old mid new : ℕ) (w v : Walk) → TakesOn file tree t n w old mid → ((k : ℕ) → MayTake file tree t w k → TakesOn file tree t k v mid new) → TakesOn file tree t n v old new
  takes_then n old mid new w v h on =
      let first = h.2 in
      let more = on h.0 h.1 in
      let then = more.2 in
      (more.0, more.1, omega (arith, first, then))

  -- or no more than all
  pub takes_most : (n old mid new : ℕ) (w : Walk) → TakesOn file tree t n w old mid → ((k : ℕ) → MayTake file tree t w k → new ≤ mid + k) → new ≤ old + n
  takes_most n old mid new w h on =
      let first = h.2 in
      let more = on h.0 h.1 in
      omega (arith, first, more)
