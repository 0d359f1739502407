-- The next samples of tracks, and turns in which none goes into a piece.
use Rattle.std.proofs.Common.{rules, ◌≡◌, ℕ, zero, suc, ◌+◌, ◌<◌, ◌≤◌, ◌==◌, ◌&&◌, Bool, true, false, List, [], ◌∷◌, ◌++◌, length, take, map, Some, None, refl, sym, ap, ◌∙◌, arith, slice_set}
use Rattle.mp4_content.specs.declared.without.Without.{Without}
use Rattle.std.specs.Prelude.{Option, slice_get, slice_index_or}
use Rattle.std.proofs.lemmas.List.Sums.{sum_by-cons}
use Rattle.std.proofs.lemmas.List.{take_all, take_more_set, map-append}
use Rattle.mp4_head.specs.format.Tree.{TrackTree}
use Rattle.mp4_tables.specs.declared.sample.SampleAt.{SampleAt}
use Rattle.mp4_present.specs.format.Denotes.{FileTree}
use Rattle.mp4_present.specs.words.Movies.{MovieSeen}
use Rattle.mp4_present.specs.declared.walking.Walk.{Walk}
use Rattle.mp4_plan.specs.words.Ends.{first_goes}
use Rattle.mp4_plan.specs.words.Gathering.{piece_from, more_of}
use Rattle.mp4_plan.specs.words.Writers.{AllCome, firsts, turn_head}
use Rattle.mp4_plan.specs.format.Held.{rooms}
use Rattle.mp4_plan.specs.words.Taken.{row_seen}
use Rattle.mp4_plan.specs.declared.noted_rows.Row.{Row}
use Rattle.mp4_plan.specs.declared.ends.End.{End}
use Rattle.mp4_plan.proofs.PlannerSteps.{more_of_no, more_of_yes, more_of-nil}

-- where the next sample doesn't go into a new piece, none does
pub none_goes : (end : End) (left : List SampleAt) (next : Option SampleAt) (v : Bool) → next ≡ slice_get left 0 → v ≡ first_goes end next → v ≡ false → more_of (piece_from end) left ≡ 0
none_goes end [] next v e f h = more_of-nil (piece_from end)
none_goes end (s ∷ left) next v e f h =
    more_of_no (piece_from end) s left (ap (λ w. w && (s.description == s.description)) (sym (f ∙ ap (first_goes end) e) ∙ h))

-- where it does, one does at least
pub some_goes : (end : End) (left : List SampleAt) (next : Option SampleAt) (v : Bool) → next ≡ slice_get left 0 → v ≡ first_goes end next → v ≡ true → 0 < more_of (piece_from end) left
some_goes end [] next v e f h = absurd (none_goes_not (sym h ∙ f ∙ ap (first_goes end) e))
  where
    none_goes_not : true ≡ first_goes end None → ⊥
    none_goes_not q = absurd cc
some_goes end (s ∷ left) next v e f h =
    let more = more_of_yes (piece_from end) s left (ap (λ w. w && (s.description == s.description)) (sym (f ∙ ap (first_goes end) e) ∙ h) ∙ same_goes s.description) in
    omega (arith, more)
  where
    same_goes : (n : ℕ) → (true && (n == n)) ≡ true
    same_goes n = search rules

-- ---- the next samples of all tracks

-- that of one
pub first_at : (lefts : List (List SampleAt)) (k : ℕ) (left : List SampleAt) → slice_get lefts k ≡ Some left → slice_get (firsts lefts) k ≡ Some (slice_get left 0)
first_at [] k left e = absurd cc
first_at (l ∷ lefts) zero left e = let same : l ≡ left = cc in ap (λ ss. Some (slice_get ss 0)) same
first_at (l ∷ lefts) (suc k) left e = first_at lefts k left e

-- with other samples at one place
pub firsts_set : (lefts : List (List SampleAt)) (k : ℕ) (left : List SampleAt) → firsts (slice_set lefts k left) ≡ slice_set (firsts lefts) k (slice_get left 0)
firsts_set [] k left = refl
firsts_set (l ∷ lefts) zero left = refl
firsts_set (l ∷ lefts) (suc k) left = ap (λ (xs : List (Option SampleAt)). slice_get l 0 ∷ xs) (firsts_set lefts k left)

-- the first ones, and one more
taken_more : (lefts : List (List SampleAt)) (k : ℕ) (left : List SampleAt) → slice_get lefts k ≡ Some left → take (k + 1) lefts ≡ take k lefts ++ left ∷ []
taken_more lefts k left e = let one : k + 1 ≡ suc k = omega arith in ap (λ n. take n lefts) one ∙ by lefts k e
  where
    by : (ls : List (List SampleAt)) (k : ℕ) → slice_get ls k ≡ Some left → take (suc k) ls ≡ take k ls ++ left ∷ []
    by [] k e = absurd cc
    by (l ∷ ls) zero e = let same : l ≡ left = cc in ap (λ (x : List SampleAt). x ∷ []) same
    by (l ∷ ls) (suc k) e = ap (λ (xs : List (List SampleAt)). l ∷ xs) (by ls k e)

pub noted_more : (nexts : List (Option SampleAt)) (lefts : List (List SampleAt)) (k : ℕ) (left : List SampleAt) (next : Option SampleAt) → take k nexts ≡ firsts (take k lefts) → k < length nexts → slice_get lefts k ≡ Some left → next ≡ slice_get left 0
    → take (k + 1) (slice_set nexts k next) ≡ firsts (take (k + 1) lefts)
noted_more nexts lefts k left next h lt is e =
    take_more_set nexts k next lt ∙ (λ i. h i ++ e i ∷ []) ∙ sym (map-append (λ (ss : List SampleAt). slice_get ss 0) (take k lefts) (left ∷ []))
    ∙ ap firsts (sym (taken_more lefts k left is))

pub noted_all : (nexts : List (Option SampleAt)) (lefts : List (List SampleAt)) (k : ℕ) → take k nexts ≡ firsts (take k lefts) → length nexts ≤ k → length lefts ≤ k → nexts ≡ firsts lefts
noted_all nexts lefts k h a b = sym (take_all k nexts a) ∙ h ∙ ap firsts (take_all k lefts b)

-- as many tracks as walks
pub come_length : (leaving : Without) (file : List ℕ) (tree : FileTree) (m : MovieSeen) (trees : List TrackTree) (walks : List Walk) (lefts : List (List SampleAt)) → AllCome leaving file tree m trees walks lefts → length lefts ≡ length walks
come_length leaving file tree m [] [] [] h = refl
come_length leaving file tree m [] [] (l ∷ lefts) h = absurd h
come_length leaving file tree m [] (w ∷ walks) lefts h = absurd h
come_length leaving file tree m (t ∷ trees) [] lefts h = absurd h
come_length leaving file tree m (t ∷ trees) (w ∷ walks) [] h = absurd h
come_length leaving file tree m (t ∷ trees) (w ∷ walks) (l ∷ lefts) h = ap suc (come_length leaving file tree m trees walks lefts h.1)

-- as much room as before, with another walk at one place
pub rooms_set : (walks : List Walk) (k : ℕ) (now d : Walk) → k < length walks → length now.bytes.items ≡ length (slice_index_or walks k d).bytes.items → rooms (slice_set walks k now) ≡ rooms walks
rooms_set [] k now d lt e = refl
rooms_set (w ∷ walks) zero now d lt e =
    let a = sum_by-cons (λ (x : Walk). length x.bytes.items) now walks in
    let b = sum_by-cons (λ (x : Walk). length x.bytes.items) w walks in
    omega (arith, a, b, e)
rooms_set (w ∷ walks) (suc k) now d lt e =
    let a = sum_by-cons (λ (x : Walk). length x.bytes.items) w (slice_set walks k now) in
    let b = sum_by-cons (λ (x : Walk). length x.bytes.items) w walks in
    let more = rooms_set walks k now d (omega (arith, lt)) e in
    omega (arith, a, b, more)

-- ---- a turn without samples

-- it has no head
pub no_head : (sequence id n : ℕ) (next : Option SampleAt) → n ≡ 0 → None ≡ turn_head sequence id n next
no_head sequence id n None e = refl
no_head sequence id n (Some s) e = ap (λ k. turn_head sequence id k (Some s)) (sym e)

-- and no rows
pub no_rows : (n : ℕ) (rows : List Row) (left : List SampleAt) → n ≡ 0 → take n rows ≡ map row_seen (take n left)
no_rows n rows left e = ap (λ k. take k rows) e ∙ ap (λ k. map row_seen (take k left)) (sym e)
