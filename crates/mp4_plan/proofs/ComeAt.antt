-- A walk for each track, and the samples that come in it: at one place, and with another walk there.
use Rattle.std.proofs.Common.{◌≡◌, ℕ, zero, suc, ◌+◌, ◌<◌, List, [], ◌∷◌, ◌++◌, length, take, map, Some, refl, ap, subst, arith, slice_set}
use Rattle.mp4_content.specs.declared.without.Without.{Without}
use Rattle.mp4_content.specs.words.ComingLess.{ComesLess, track_reduction}
use Rattle.std.specs.Prelude.{slice_get}
use Rattle.mp4_head.specs.format.Tree.{TrackTree}
use Rattle.mp4_tables.specs.declared.sample.SampleAt.{SampleAt}
use Rattle.mp4_present.specs.format.Denotes.{FileTree}
use Rattle.mp4_present.specs.words.Movies.{MovieSeen}
use Rattle.mp4_present.specs.declared.walking.Walk.{Walk}
use Rattle.mp4_plan.specs.words.Writers.{AllCome}

module _ (leaving : Without) (file : List ℕ) (tree : FileTree) (m : MovieSeen) where
  -- what comes at one place
  pub record ComesAt (trees : List TrackTree) (walks : List Walk) (lefts : List (List SampleAt)) (k : ℕ) : Type 0 where
    pub t : TrackTree
    pub walk : Walk
    pub left : List SampleAt
    pub is_tree : slice_get trees k ≡ Some t
    pub is_walk : slice_get walks k ≡ Some walk
    pub is_left : slice_get lefts k ≡ Some left
    pub comes : ComesLess (track_reduction leaving file tree t) file tree t m walk left

  pub come_at : (trees : List TrackTree) (walks : List Walk) (lefts : List (List SampleAt)) (k : ℕ) → AllCome leaving file tree m trees walks lefts → k < length walks → ComesAt trees walks lefts k
  come_at [] [] [] k h lt = absurd (omega (arith, lt))
  come_at [] [] (l ∷ lefts) k h lt = absurd h
  come_at [] (w ∷ walks) [] k h lt = absurd h
  come_at [] (w ∷ walks) (l ∷ lefts) k h lt = absurd h
  come_at (t ∷ trees) [] [] k h lt = absurd h
  come_at (t ∷ trees) [] (l ∷ lefts) k h lt = absurd h
  come_at (t ∷ trees) (w ∷ walks) [] k h lt = absurd h
  come_at (t ∷ trees) (w ∷ walks) (l ∷ lefts) zero h lt = record { t = t; walk = w; left = l; is_tree = refl; is_walk = refl; is_left = refl; comes = h.0 }
  come_at (t ∷ trees) (w ∷ walks) (l ∷ lefts) (suc k) h lt =
      let r = come_at trees walks lefts k h.1 (omega (arith, lt)) in
      record { t = r.t; walk = r.walk; left = r.left; is_tree = r.is_tree; is_walk = r.is_walk; is_left = r.is_left; comes = r.comes }

  -- another walk at one place, in which other samples come
  pub come_with : (trees : List TrackTree) (walks : List Walk) (lefts : List (List SampleAt)) (k : ℕ) (t : TrackTree) (walk : Walk) (left : List SampleAt) → AllCome leaving file tree m trees walks lefts → slice_get trees k ≡ Some t → ComesLess
      (track_reduction leaving file tree t) file tree t m walk left
      → AllCome leaving file tree m trees (slice_set walks k walk) (slice_set lefts k left)
  come_with [] [] [] k t walk left h is c = tt
  come_with [] [] (l ∷ lefts) k t walk left h is c = absurd h
  come_with [] (w ∷ walks) [] k t walk left h is c = absurd h
  come_with [] (w ∷ walks) (l ∷ lefts) k t walk left h is c = absurd h
  come_with (u ∷ trees) [] [] k t walk left h is c = absurd h
  come_with (u ∷ trees) [] (l ∷ lefts) k t walk left h is c = absurd h
  come_with (u ∷ trees) (w ∷ walks) [] k t walk left h is c = absurd h
  come_with (u ∷ trees) (w ∷ walks) (l ∷ lefts) zero t walk left h is c = let same : t ≡ u = cc in (subst (λ (v : TrackTree). ComesLess (track_reduction leaving file tree v) file tree v m walk left) same c, h.1)
  come_with (u ∷ trees) (w ∷ walks) (l ∷ lefts) (suc k) t walk left h is c = (h.0, come_with trees walks lefts k t walk left h.1 is c)

  more_behind : (trees : List TrackTree) (walks : List Walk) (lefts : TrackTree → List SampleAt) (k : ℕ) (t : TrackTree) (walk : Walk) → AllCome leaving file tree m (take k trees) walks (map lefts (take k trees)) → length walks ≡ k → slice_get trees k ≡ Some t
      → ComesLess (track_reduction leaving file tree t) file tree t m walk (lefts t)
      → AllCome leaving file tree m (take (suc k) trees) (walks ++ walk ∷ []) (map lefts (take (suc k) trees))
  more_behind [] walks lefts zero t walk h n is c = absurd cc
  more_behind [] walks lefts (suc k) t walk h n is c = absurd cc
  more_behind (u ∷ trees) [] lefts zero t walk h n is c = let same : t ≡ u = cc in (subst (λ (v : TrackTree). ComesLess (track_reduction leaving file tree v) file tree v m walk (lefts v)) same c, tt)
  more_behind (u ∷ trees) (w ∷ walks) lefts zero t walk h n is c = absurd (omega (arith, n))
  more_behind (u ∷ trees) [] lefts (suc k) t walk h n is c = absurd (omega (arith, n))
  more_behind (u ∷ trees) (w ∷ walks) lefts (suc k) t walk h n is c = (h.0, more_behind trees walks lefts k t walk h.1 (omega (arith, n)) is c)

  -- one more behind the others
  pub come_more : (trees : List TrackTree) (walks : List Walk) (lefts : TrackTree → List SampleAt) (k : ℕ) (t : TrackTree) (walk : Walk) → AllCome leaving file tree m (take k trees) walks (map lefts (take k trees)) → length walks ≡ k → slice_get trees k ≡ Some t
      → ComesLess (track_reduction leaving file tree t) file tree t m walk (lefts t)
      → AllCome leaving file tree m (take (k + 1) trees) (walks ++ walk ∷ []) (map lefts (take (k + 1) trees))
  come_more trees walks lefts k t walk h n is c =
      let next : suc k ≡ k + 1 = omega arith in
      subst (λ i. AllCome leaving file tree m (take i trees) (walks ++ walk ∷ []) (map lefts (take i trees))) next (more_behind trees walks lefts k t walk h n is c)

-- a member that stays the same
pub set_same : {A : Type 0} (xs : List A) (k : ℕ) (x : A) → slice_get xs k ≡ Some x → slice_set xs k x ≡ xs
set_same [] k x is = refl
set_same (y ∷ xs) zero x is = let same : x ≡ y = cc in ap (λ z. z ∷ xs) same
set_same (y ∷ xs) (suc k) x is = ap (λ zs. y ∷ zs) (set_same xs k x is)

-- what was set at a place is there, and nothing that was set there before
pub set_there : {A : Type 0} (xs : List A) (k : ℕ) (x y : A) → slice_get xs k ≡ Some x → slice_get (slice_set xs k y) k ≡ Some y
set_there [] k x y is = absurd cc
set_there (z ∷ xs) zero x y is = refl
set_there (z ∷ xs) (suc k) x y is = set_there xs k x y is

pub set_twice : {A : Type 0} (xs : List A) (k : ℕ) (x y : A) → slice_set (slice_set xs k x) k y ≡ slice_set xs k y
set_twice [] k x y = refl
set_twice (z ∷ xs) zero x y = refl
set_twice (z ∷ xs) (suc k) x y = ap (λ zs. z ∷ zs) (set_twice xs k x y)
