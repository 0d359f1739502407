-- Tracks that have their places as IDs, where IDs don't count.
use Rattle.std.proofs.Common.{◌≡◌, ℕ, zero, suc, ◌+◌, ◌-◌, ◌^◌, ◌<◌, ◌≤◌, min, max, Bool, true, false, List, [], ◌∷◌, length, map, Some, refl, ap, ◌∙◌, arith}
use Rattle.std.specs.Prelude.{◌&&◌, ◌||◌, not, fold, if◌then◌else◌, nat_eq}
use Rattle.std.specs.List.{AllByRecursion, list_any, slice_get}
use Rattle.std.proofs.lemmas.Bool.Decides.{nat_tests}
use Rattle.mp4_boxes.specs.format.Bytes.{sum_of}
use Rattle.mp4_head.specs.format.Head.{TrackHead}
use Rattle.mp4_head.specs.format.Tree.{are_distinct}
use Rattle.mp4_present.specs.format.Presentation.{Track, Presentation, movie_length, track_length}
use Rattle.mp4_content.specs.format.Reduced.{number_head, number_heads, number_track, number_tracks, reduce, reduce_track, timescale_left}
use Rattle.mp4_content.specs.format.Remaining.{movie_divisor, remaining, remaining_movie, remaining_track}
use Rattle.mp4_content.specs.declared.without.Without.{Without}

-- ---- places that differ

no_eq : (a b : ℕ) → a < b → nat_eq a b ≡ false
no_eq a b lt = grind (arith, nat_tests)

-- as many places as there are tracks, from one on, as far as 32 bits go
abbrev places : ℕ → List Track → List ℕ
places place [] = []
places place (t ∷ tracks) = min place (2 ^ 32 - 1) ∷ places (suc place) tracks

neither : (a b : Bool) → a ≡ false → b ≡ false → (a || b) ≡ false
neither true b e f = e
neither false b e f = f

both_true : (a b : Bool) → a ≡ false → b ≡ true → (not a && b) ≡ true
both_true true b e f = absurd cc
both_true false b e f = f

not_behind : (k place : ℕ) (tracks : List Track) → k < place → place + length tracks ≤ 2 ^ 32 → list_any (nat_eq (min k (2 ^ 32 - 1))) (places place tracks) ≡ false
not_behind k place [] lt few = refl
not_behind k place (t ∷ tracks) lt few =
    neither _ _ (no_eq (min k (2 ^ 32 - 1)) (min place (2 ^ 32 - 1)) (omega (arith, lt, few))) (not_behind k (suc place) tracks (omega (arith, lt)) (omega (arith, few)))

places_differ : (place : ℕ) (tracks : List Track) → place + length tracks ≤ 2 ^ 32 → are_distinct (places place tracks) ≡ true
places_differ place [] few = refl
places_differ place (t ∷ tracks) few =
    both_true _ _ (not_behind place (suc place) tracks (omega arith) (omega (arith, few))) (places_differ (suc place) tracks (omega (arith, few)))

abbrev pub ids_of : List Track → List ℕ
ids_of tracks = map (λ (h : TrackHead). h.id) (map (λ (t : Track). t.head) tracks)

module _ (l : Without) where
  -- ---- their IDs

  ids_stay : l.ids ≡ false → (place : ℕ) (tracks : List Track) → ids_of (number_tracks l place tracks) ≡ ids_of tracks
  ids_stay e place [] = refl
  ids_stay e place (t ∷ tracks) = λ i. (if e i then min place (2 ^ 32 - 1) else t.head.id) ∷ ids_stay e (suc place) tracks i

  ids_are_places : l.ids ≡ true → (place : ℕ) (tracks : List Track) → ids_of (number_tracks l place tracks) ≡ places place tracks
  ids_are_places e place [] = refl
  ids_are_places e place (t ∷ tracks) = λ i. (if e i then min place (2 ^ 32 - 1) else t.head.id) ∷ ids_are_places e (suc place) tracks i

  -- where IDs differ they do so still
  pub ids_differ : (place : ℕ) (tracks : List Track) → place + length tracks ≤ 2 ^ 32 → are_distinct (ids_of tracks) ≡ true → are_distinct (ids_of (number_tracks l place tracks)) ≡ true
  ids_differ place tracks few d = by l.ids refl
    where
      by : (b : Bool) → l.ids ≡ b → are_distinct (ids_of (number_tracks l place tracks)) ≡ true
      by true e = ap are_distinct (ids_are_places e place tracks) ∙ places_differ place tracks few
      by false e = ap are_distinct (ids_stay e place tracks) ∙ d

  -- ---- what asks for no ID stays

  pub numbered_each : (P Q : Track → Type 0) → ((place : ℕ) (t : Track) → 0 < place → P t → Q (number_track l place t)) → (place : ℕ) (tracks : List Track) → 0 < place → AllByRecursion P tracks → AllByRecursion Q (number_tracks l place tracks)
  numbered_each P Q one place [] some h = tt
  numbered_each P Q one place (t ∷ tracks) some h = (one place t some h.0, numbered_each P Q one (suc place) tracks (omega arith) h.1)

  pub each_before : (P Q : Track → Type 0) → ((place : ℕ) (t : Track) → P (number_track l place t) → Q t) → (place : ℕ) (tracks : List Track) → AllByRecursion P (number_tracks l place tracks) → AllByRecursion Q tracks
  each_before P Q one place [] h = tt
  each_before P Q one place (t ∷ tracks) h = (one place t h.0, each_before P Q one (suc place) tracks h.1)

  pub numbered_many : (place : ℕ) (tracks : List Track) → length (number_tracks l place tracks) ≡ length tracks
  numbered_many place [] = refl
  numbered_many place (t ∷ tracks) = ap suc (numbered_many (suc place) tracks)

  pub numbered_sum : (f : Track → ℕ) → ((place : ℕ) (t : Track) → f (number_track l place t) ≡ f t) → (place : ℕ) (tracks : List Track) → sum_of f (number_tracks l place tracks) ≡ sum_of f tracks
  numbered_sum f same place [] = refl
  numbered_sum f same place (t ∷ tracks) = λ i. same place t i + numbered_sum f same (suc place) tracks i

  numbered_longest : (timescale most place : ℕ) (tracks : List Track) → fold (λ longest (t : Track). max longest (track_length timescale t)) most (number_tracks l place tracks) ≡ fold (λ longest (t : Track). max longest (track_length timescale t)) most tracks
  numbered_longest timescale most place [] = refl
  numbered_longest timescale most place (t ∷ tracks) = numbered_longest timescale (max most (track_length timescale t)) (suc place) tracks

  -- how long the longest track of what is left is
  pub left_longest : (p : Presentation) → movie_length (reduce l p) ≡ fold (λ longest (t : Track). max longest (track_length (timescale_left l p.movie.timescale) t)) 0 (map (reduce_track l) p.tracks)
  left_longest p = numbered_longest (timescale_left l p.movie.timescale) 0 1 (map (reduce_track l) p.tracks)

  -- and that of what remains
  pub remaining_longest : (p : Presentation)
      → movie_length (remaining l p) ≡ fold (λ longest (t : Track). max longest (track_length (remaining_movie l (movie_divisor l p) p.movie).timescale t)) 0 (map (remaining_track l (movie_divisor l p)) p.tracks)
  remaining_longest p = numbered_longest (remaining_movie l (movie_divisor l p) p.movie).timescale 0 1 (map (remaining_track l (movie_divisor l p)) p.tracks)

  -- ---- their heads, and one of them

  pub numbered_heads : (place : ℕ) (tracks : List Track) → map (λ (t : Track). t.head) (number_tracks l place tracks) ≡ number_heads l place (map (λ (t : Track). t.head) tracks)
  numbered_heads place [] = refl
  numbered_heads place (t ∷ tracks) = λ i. number_head l place t.head ∷ numbered_heads (suc place) tracks i

  track_from : (place k : ℕ) (tracks : List Track) (t : Track) → slice_get tracks k ≡ Some t → slice_get (number_tracks l place tracks) k ≡ Some (number_track l (k + place) t)
  track_from place k [] t e = absurd cc
  track_from place zero (x ∷ tracks) t e =
      let same : x ≡ t = cc in
      let n : place ≡ 0 + place = omega arith in
      λ i. Some (number_track l (n i) (same i))
  track_from place (suc k) (x ∷ tracks) t e =
      let n : k + suc place ≡ suc k + place = omega arith in
      track_from (suc place) k tracks t e ∙ ap (λ n. Some (number_track l n t)) n

  -- the track at this place
  pub numbered_at : (k : ℕ) (tracks : List Track) (t : Track) → slice_get tracks k ≡ Some t → slice_get (number_tracks l 1 tracks) k ≡ Some (number_track l (k + 1) t)
  numbered_at k tracks t e = track_from 1 k tracks t e
