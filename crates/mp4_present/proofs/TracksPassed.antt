-- The tracks of a movie, passed one after the other beside their trees.
use Rattle.std.proofs.Common.{◌≡◌, ℕ, zero, suc, ◌+◌, ◌<◌, ◌≤◌, List, [], ◌∷◌, ◌++◌, length, take, drop, slice_index_or, refl, sym, ap, subst, arith}
use Rattle.std.specs.List.{AllZip}
use Rattle.std.proofs.lemmas.List.{take_all}
use Rattle.mp4_frag.specs.declared.trex.Trex.{Trex}
use Rattle.mp4_head.specs.format.Tree.{TrackTree}
use Rattle.mp4_head.specs.declared.heads.TrackHead.{TrackHead}
use Rattle.mp4_present.specs.words.TrackTrees.{IsTrackOf, AreTracksOf, HaveTables}
use Rattle.mp4_present.specs.declared.opening.tables_pass.PlainTracks.{PlainTracks}
use Rattle.mp4_boxes.proofs.Plain.{length_zip, suc_is}

-- the value beside the k-th of a list
pub record IsBeside {A B : Type 0} (R : A → B → Type 0) (xs : List A) (k : ℕ) (y : B) : Type 0 where
  pub x : A
  pub goes : R x y
  pub split : xs ≡ take k xs ++ x ∷ drop (suc k) xs
  pub first : take (suc k) xs ≡ take k xs ++ x ∷ []
  pub rest : drop k xs ≡ x ∷ drop (suc k) xs

pub beside : {A B : Type 0} (R : A → B → Type 0) (xs : List A) (ys : List B) (k : ℕ) (d : B) → AllZip R xs ys → k < length ys → IsBeside R xs k (slice_index_or ys k d)
beside R [] [] k d z lt = absurd (omega (arith, lt))
beside R [] (y ∷ ys) k d z lt = absurd z
beside R (x ∷ xs) [] k d z lt = absurd z
beside R (x ∷ xs) (y ∷ ys) zero d z lt = record { x = x; goes = z.0; split = refl; first = refl; rest = refl }
beside {A} R (x ∷ xs) (y ∷ ys) (suc k) d z lt =
    let r = beside R xs ys k d z.1 (omega (arith, lt)) in
    record { x = r.x; goes = r.goes; split = ap (λ (l : List A). x ∷ l) r.split; first = ap (λ (l : List A). x ∷ l) r.first; rest = r.rest }

-- the head of each track was read of a tree
pub read_of : (tracks : List TrackHead) (k : ℕ) (h : TrackHead) → k < length tracks → h ≡ slice_index_or tracks k h → (trees : List TrackTree) × AreTracksOf trees tracks → (t : TrackTree) × IsTrackOf t h
read_of tracks k h lt e r = let b = beside IsTrackOf r.0 tracks k h r.1 lt in (b.x, subst (IsTrackOf b.x) (sym e) b.goes)

module _ (file_length : ℕ) (moov : List ℕ) (trexes : List Trex) (tracks : List TrackHead) (k : ℕ) (plain : PlainTracks)
    (so : (trees : List TrackTree) → AreTracksOf trees tracks → HaveTables file_length moov trexes (take k trees) plain) where
  -- the next one was checked
  pub passed_more : (h : TrackHead) (new : PlainTracks) → k < length tracks → h ≡ slice_index_or tracks k h
      → ((t : TrackTree) (trees : List TrackTree) → IsTrackOf t h → HaveTables file_length moov trexes trees plain → HaveTables file_length moov trexes (trees ++ t ∷ []) new)
      → (trees : List TrackTree) → AreTracksOf trees tracks → HaveTables file_length moov trexes (take (k + 1) trees) new
  passed_more h new lt e more trees a =
      let b = beside IsTrackOf trees tracks k h a lt in
      let next = more b.x (take k trees) (subst (IsTrackOf b.x) (sym e) b.goes) (so trees a) in
      subst (λ (n : ℕ). HaveTables file_length moov trexes (take n trees) new) (suc_is k) (subst (λ (ts : List TrackTree). HaveTables file_length moov trexes ts new) (sym b.first) next)

  -- all of them were
  pub passed_all : length tracks ≤ k → (trees : List TrackTree) → AreTracksOf trees tracks → HaveTables file_length moov trexes trees plain
  passed_all le trees a =
      let n = length_zip IsTrackOf trees tracks a in
      subst (λ (ts : List TrackTree). HaveTables file_length moov trexes ts plain) (take_all k trees (omega (arith, n, le))) (so trees a)
