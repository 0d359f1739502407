-- The divisors of a movie's tracks, found one after the other, and that of its own times.
use Rattle.std.proofs.Common.{◌≡◌, ℕ, zero, suc, ◌+◌, true, false, if◌then◌else◌, List, [], ◌∷◌, ◌++◌, length, map, take, refl, sym, ap, ◌∙◌, ℤ, pos}
use Rattle.std.specs.Prelude.{flat_map, IfSome, Some, replicate, slice_get}
use Rattle.std.proofs.lemmas.List.{map-append}
use Rattle.mp4_head.specs.format.Head as heads
use Rattle.mp4_head.specs.format.Tree.{TrackTree, head_of, track_head_of}
use Rattle.mp4_head.specs.words.Seen.{edit_seen, head_seen, track_seen, tracks_seen}
use Rattle.mp4_head.specs.declared.edit_list.Edit.{Edit}
use Rattle.mp4_head.specs.declared.heads.MovieHead.{MovieHead}
use Rattle.mp4_head.specs.declared.heads.TrackHead.{TrackHead}
use Rattle.mp4_present.specs.format.Denotes.{FileTree, file_parts, presentation_of, track_of}
use Rattle.mp4_content.specs.format.Reduced.{number_tracks, reduce, reduce_track, timescale_left}
use Rattle.mp4_content.specs.format.Remaining.{movie_divisor, track_divisor}
use Rattle.mp4_content.specs.format.Timescales.{counted_timescale, divisor_of, movie_times, segment_times, track_times}
use Rattle.mp4_content.specs.words.Scales.{divisor_from, divisors_of, edits_left, movie_times_left, segments_of}
use Rattle.mp4_content.specs.declared.without.Without.{Without}
use Rattle.mp4_content.proofs.AtPlaces.{taken_next}
use Rattle.mp4_content.proofs.DivisorsFound.{from_none}
use Rattle.mp4_content.proofs.SampleTimes.{scale_same}

-- ---- tracks

-- the edits of the head at a place are those of the track there
pub edits_there : (hs : List TrackHead) (trees : List TrackTree) (k : ℕ) (t : TrackTree) (edits : List Edit) → map track_seen hs ≡ map track_head_of trees → slice_get trees k ≡ Some t → IfSome (slice_get hs k) (λ h. edits ≡ h.edits.items) → map edit_seen edits ≡ (track_head_of t).edits
edits_there [] [] k t edits e is at = absurd cc
edits_there [] (u ∷ trees) k t edits e is at = absurd cc
edits_there (h ∷ hs) [] k t edits e is at = absurd cc
edits_there (h ∷ hs) (u ∷ trees) zero t edits e is at =
    let same : track_seen h ≡ track_head_of u = cc in
    let one : u ≡ t = cc in
    ap (map edit_seen) at ∙ ap (λ (x : heads.TrackHead). x.edits) same ∙ ap (λ (v : TrackTree). (track_head_of v).edits) one
edits_there (h ∷ hs) (u ∷ trees) (suc k) t edits e is at =
    let rest : map track_seen hs ≡ map track_head_of trees = cc in
    edits_there hs trees k t edits rest is at

-- one more
pub mapped_more : {A : Type 0} (f : A → ℕ) (xs : List A) (k : ℕ) (x : A) (ns : List ℕ) (n : ℕ) → ns ≡ map f (take k xs) → slice_get xs k ≡ Some x → n ≡ f x → ns ++ n ∷ [] ≡ map f (take (k + 1) xs)
mapped_more f xs k x ns n h is e = (λ i. h i ++ e i ∷ []) ∙ sym (map-append f (take k xs) (x ∷ [])) ∙ ap (map f) (sym (taken_next xs k x is))

-- ---- the movie

module _ (l : Without) (file : List ℕ) (tree : FileTree) where
  segments_there : (n : ℕ) (trees : List TrackTree) → flat_map (λ (t : heads.TrackHead). segments_of (edits_left l t.edits)) (map track_head_of trees) ≡ segment_times (number_tracks l n (map (reduce_track l) (map (track_of file (file_parts tree)) trees)))
  segments_there n [] = refl
  segments_there n (t ∷ trees) = ap (λ (times : List ℤ). segments_of (edits_left l (track_head_of t).edits) ++ times) (segments_there (suc n) trees)

  -- What is found of its head is its divisor.
  pub movie_found : (head : MovieHead) → l.timescales ≡ true → head_seen head ≡ head_of tree.movie → divisor_from 0 (movie_times_left l head.timescale (tracks_seen head)) ≡ movie_divisor l (presentation_of file tree)
  movie_found head left same =
      let p = presentation_of file tree in
      let scale : counted_timescale l head.timescale ≡ counted_timescale l (timescale_left l p.movie.timescale) = ap (λ (h : heads.Head). counted_timescale l h.movie.timescale) same ∙ scale_same l p.movie.timescale in
      let segments = ap (λ (h : heads.Head). flat_map (λ (t : heads.TrackHead). segments_of (edits_left l t.edits)) h.tracks) same ∙ segments_there 1 tree.movie.tracks in
      let times : movie_times_left l head.timescale (tracks_seen head) ≡ movie_times l (reduce l p) = λ i. pos (scale i) ∷ segments i in
      from_none (movie_times_left l head.timescale (tracks_seen head)) ∙ ap divisor_of times ∙ (λ i. if sym left i then divisor_of (movie_times l (reduce l p)) else 1)

-- ---- where timescales count

module _ (l : Without) (stay : l.timescales ≡ false) (file : List ℕ) (tree : FileTree) where
  ones_from : (trees : List TrackTree) → replicate (length trees) 1 ≡ map (λ (t : TrackTree). track_divisor l (track_of file (file_parts tree) t)) trees
  ones_from [] = refl
  ones_from (t ∷ trees) = λ i. (if sym stay i then divisor_of (track_times l (reduce_track l (track_of file (file_parts tree) t))) else 1) ∷ ones_from trees i

  pub all_ones : replicate (length tree.movie.tracks) 1 ≡ divisors_of l file tree
  all_ones = ones_from tree.movie.tracks

  pub movie_one : 1 ≡ movie_divisor l (presentation_of file tree)
  movie_one = λ i. if sym stay i then divisor_of (movie_times l (reduce l (presentation_of file tree))) else 1
