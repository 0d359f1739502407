-- Operations on vectors of four lanes, lane by lane.
use Rattle.std.proofs.Common.{◌≡◌, ℕ, zero, suc, ◌+◌, ◌*◌, ◌<◌, ◌^◌, List, [], ◌∷◌, length, slice_index, slice_set, drop, refl, ap, ◌∙◌, arith, w32, Fits}
use Rattle.std.proofs.lemmas.List.{get_or-take, get_or-drop}
use Rattle.std.proofs.lemmas.Simd.{get_or-zip2}
use lib.Lanes.{zip2, Each1}
use Rattle.std.specs.Prelude.{slice_index_or}
use Rattle.sha2.specs.Sha256.{word_at}
use Rattle.mp4_answers.specs.words.Lanes.{HasLanes, lane, block_at}
use Rattle.mp4_boxes.proofs.Plain.{below_four}

-- an operation on two vectors
pub of_two : (f : ℕ → ℕ → ℕ) (xs ys : List ℕ) → length xs ≡ 4 → length ys ≡ 4 → HasLanes (zip2 f xs ys) (λ l. f (slice_index xs l) (slice_index ys l))
of_two f xs ys p q l lt = get_or-zip2 f xs ys l 0 0 0 (omega arith) (omega arith)

-- a vector of one number
pub same_lanes : (y : ℕ) → HasLanes (y ∷ y ∷ y ∷ y ∷ []) (λ _. y)
same_lanes y = below_four (λ l. slice_index (y ∷ y ∷ y ∷ y ∷ []) l ≡ y) refl refl refl refl

-- an operation on a vector and a number
pub of_one : (f : ℕ → ℕ → ℕ) (xs : List ℕ) (y : ℕ) → length xs ≡ 4 → HasLanes (zip2 f xs (y ∷ y ∷ y ∷ y ∷ [])) (λ l. f (slice_index xs l) y)
of_one f xs y p l lt = of_two f xs (y ∷ y ∷ y ∷ y ∷ []) p refl l lt ∙ ap (f (slice_index xs l)) (same_lanes y l lt)

pub lane_lt : (v : List ℕ) (l : ℕ) → Each1 (Fits w32) v → slice_index v l < 2 ^ 32
lane_lt [] l h = omega arith
lane_lt (x ∷ xs) zero h = h.0.fits
lane_lt (x ∷ xs) (suc l) h = lane_lt xs l h.1

-- a vector's lane, among the lanes of all
pub slice_index-lane : (l : ℕ) (vs : List (List ℕ)) (i : ℕ) → slice_index (lane l vs) i ≡ slice_index (slice_index_or vs i []) l
slice_index-lane l [] i = refl
slice_index-lane l (v ∷ vs) zero = refl
slice_index-lane l (v ∷ vs) (suc i) = slice_index-lane l vs i

pub lane-slice_set : (l : ℕ) (vs : List (List ℕ)) (i : ℕ) (v : List ℕ) → lane l (slice_set vs i v) ≡ slice_set (lane l vs) i (slice_index v l)
lane-slice_set l [] i v = refl
lane-slice_set l (x ∷ vs) zero v = refl
lane-slice_set l (x ∷ vs) (suc i) v = ap (λ r. slice_index x l ∷ r) (lane-slice_set l vs i v)

pub slice_index-block_at : (bytes : List ℕ) (place k : ℕ) → k < 64 → slice_index (block_at bytes place) k ≡ slice_index bytes (place + k)
slice_index-block_at bytes place k lt = get_or-take 64 (drop place bytes) k 0 lt ∙ get_or-drop place bytes k 0

-- a word of a block
pub word_at-block_at : (bytes : List ℕ) (place i : ℕ) → i < 16 → word_at (block_at bytes place) (4 * i) ≡ word_at bytes (place + 4 * i)
word_at-block_at bytes place i lt =
    let at : (k : ℕ) → k < 4 → slice_index (block_at bytes place) (4 * i + k) ≡ slice_index bytes (place + 4 * i + k) =
    λ k h. slice_index-block_at bytes place (4 * i + k) (omega arith) ∙ ap (slice_index bytes) (omega arith) in
    rw (slice_index-block_at bytes place (4 * i) (omega arith), at 1 (omega arith), at 2 (omega arith), at 3 (omega arith)) refl
