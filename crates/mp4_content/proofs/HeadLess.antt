-- The head of what is left of an opened file.
use Rattle.std.proofs.Common.{◌≡◌, ℕ, suc, ◌≤◌, max, Bool, true, false, List, [], ◌∷◌, length, map, refl, ap, ◌∙◌}
use Rattle.std.specs.Prelude.{filter, fold, not}
use Rattle.mp4_boxes.specs.format.Children.{is_among}
use Rattle.mp4_head.specs.format.Head as heads
use Rattle.mp4_head.specs.words.Seen.{kept_seen, movie_seen, track_seen, tracks_seen}
use Rattle.mp4_head.specs.declared.heads.MovieHead.{MovieHead}
use Rattle.mp4_head.specs.declared.heads.TrackHead.{TrackHead}
use Rattle.mp4_head.specs.declared.kept_boxes.Kept.{Kept}
use Rattle.mp4_present.specs.format.Presentation.{heads as heads_of, Track, Presentation, movie_length, track_length}
use Rattle.mp4_content.specs.format.Reduced.{metadata_kinds, number_head, number_heads, reduce, reduce_track, reduce_track_head, timescale_left}
use Rattle.mp4_content.specs.words.Divided.{divided_head, divided_heads, divisor_at, remaining_head, remaining_heads}
use Rattle.mp4_content.specs.words.PayloadsLeft.{keeping_payloads, track_payloads_left}
use Rattle.mp4_content.specs.declared.without.Without.{Without}
use Rattle.mp4_content.proofs.Numbered.{left_longest}
use Rattle.mp4_present.proofs.Changed.{ChangedTo, changed_all}
use Rattle.mp4_content.proofs.ReducedValid.{same_track_length}

one_less : (k : Kept) (kept : List Kept) (b : Bool) → not (is_among metadata_kinds k.kind.0) ≡ b
    → map kept_seen (filter (λ (x : Kept). not (is_among metadata_kinds x.kind.0)) kept) ≡ filter (λ (x : heads.Kept). not (is_among metadata_kinds x.kind)) (map kept_seen kept)
    → map kept_seen (filter (λ (x : Kept). not (is_among metadata_kinds x.kind.0)) (k ∷ kept)) ≡ filter (λ (x : heads.Kept). not (is_among metadata_kinds x.kind)) (map kept_seen (k ∷ kept))
one_less k kept true e h = rw e (ap (λ xs. kept_seen k ∷ xs) h)
one_less k kept false e h = rw e h

-- what is left of kept boxes is what is left of them as they are seen
pub kept_less : (kept : List Kept) → map kept_seen (filter (λ (k : Kept). not (is_among metadata_kinds k.kind.0)) kept) ≡ filter (λ (k : heads.Kept). not (is_among metadata_kinds k.kind)) (map kept_seen kept)
kept_less [] = refl
kept_less (k ∷ kept) = one_less k kept (not (is_among metadata_kinds k.kind.0)) refl (kept_less kept)

-- ---- how long the movie is where edits stay

module _ (l : Without) (stay : l.edits ≡ false) (counts : l.timing ≡ false) (lasts : l.ends ≡ false) where
  longest_same : (timescale most : ℕ) (tracks : List Track) → fold (λ n (t : Track). max n (track_length (timescale_left l timescale) t)) most (map (reduce_track l) tracks) ≡ fold (λ n (t : Track). max n (track_length timescale t)) most tracks
  longest_same timescale most [] = refl
  longest_same timescale most (t ∷ tracks) =
      ap (λ n. fold (λ n (t : Track). max n (track_length (timescale_left l timescale) t)) (max most n) (map (reduce_track l) tracks)) (same_track_length l timescale t stay counts lasts)
      ∙ longest_same timescale (max most (track_length timescale t)) tracks

  pub same_length : (p : Presentation) → movie_length (reduce l p) ≡ movie_length p
  same_length p = left_longest l p ∙ longest_same p.movie.timescale 0 p.tracks

-- ---- tracks that are numbered

pub numbered_all : (l : Without) (old now : List TrackHead) (k : ℕ) → ChangedTo track_seen (number_head l) 1 old now k → length now ≤ k → map track_seen now ≡ number_heads l 1 (map track_seen old)
numbered_all l = changed_all track_seen (number_head l) (number_heads l) (λ n. refl) (λ n t ts. refl) 1

-- ---- tracks whose times are divided

pub divided_all : (l : Without) (divisor : ℕ) (owns : List ℕ) (old now : List TrackHead) (k : ℕ) → ChangedTo track_seen (λ n. divided_head l divisor (divisor_at owns n)) 0 old now k → length now ≤ k
    → map track_seen now ≡ divided_heads l divisor owns 0 (map track_seen old)
divided_all l divisor owns = changed_all track_seen (λ n. divided_head l divisor (divisor_at owns n)) (divided_heads l divisor owns) (λ n. refl) (λ n t ts. refl) 0

-- ---- first what is left, and then by what it is divided

module _ (l : Without) (divisor : ℕ) where
  divided_none : (n m : ℕ) (ts : List heads.TrackHead) → divided_heads l divisor [] n ts ≡ divided_heads l divisor [] m ts
  divided_none n m [] = refl
  divided_none n m (t ∷ ts) = ap (λ us. divided_head l divisor 1 t ∷ us) (divided_none (suc n) (suc m) ts)

  divided_next : (own : ℕ) (owns : List ℕ) (n : ℕ) (ts : List heads.TrackHead) → divided_heads l divisor (own ∷ owns) (suc n) ts ≡ divided_heads l divisor owns n ts
  divided_next own owns n [] = refl
  divided_next own owns n (t ∷ ts) = ap (λ us. divided_head l divisor (divisor_at owns n) t ∷ us) (divided_next own owns (suc n) ts)

  pub divided_left : (place : ℕ) (owns : List ℕ) (ts : List heads.TrackHead)
      → divided_heads l divisor owns 0 (number_heads l place (map (reduce_track_head (keeping_payloads l)) ts)) ≡ number_heads l place (remaining_heads (keeping_payloads l) divisor owns ts)
  divided_left place owns [] = refl
  divided_left place [] (t ∷ ts) =
      ap (λ us. number_head l place (remaining_head (keeping_payloads l) divisor 1 t) ∷ us)
      (divided_none 1 0 (number_heads l (suc place) (map (reduce_track_head (keeping_payloads l)) ts)) ∙ divided_left (suc place) [] ts)
  divided_left place (own ∷ owns) (t ∷ ts) =
      ap (λ us. number_head l place (remaining_head (keeping_payloads l) divisor own t) ∷ us)
      (divided_next own owns 0 (number_heads l (suc place) (map (reduce_track_head (keeping_payloads l)) ts)) ∙ divided_left (suc place) owns ts)

  -- payloads first, and then all else
  pub both_left : (owns : List ℕ) (ts : List heads.TrackHead) → remaining_heads (keeping_payloads l) divisor owns (map (track_payloads_left l) ts) ≡ remaining_heads l divisor owns ts
  both_left owns [] = refl
  both_left [] (t ∷ ts) = ap (λ us. remaining_head l divisor 1 t ∷ us) (both_left [] ts)
  both_left (own ∷ owns) (t ∷ ts) = ap (λ us. remaining_head l divisor own t ∷ us) (both_left owns ts)

-- ---- a head that was read, of which something was left out

-- the head says what the movie and the tracks of a presentation do
pub record SaysHeadOf (p : Presentation) (head : MovieHead) : Type 0 where
  pub movie : movie_seen head ≡ p.movie
  pub tracks : tracks_seen head ≡ heads_of p
