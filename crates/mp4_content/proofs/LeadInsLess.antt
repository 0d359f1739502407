-- To leave out what says nothing of how tracks begin, before how they begin or behind it, is the same.
use Rattle.std.proofs.Common.{◌≡◌, ℕ, suc, ◌*◌, Bool, true, false, if◌then◌else◌, List, [], ◌∷◌, map, refl, sym, ap, ◌∙◌, pos, ◌+ℤ◌, ◌-ℤ◌, ◌*ℤ◌}
use Rattle.std.specs.Prelude.{not, ◌&&◌, ◌||◌}
use Rattle.std.specs.List.{AllByRecursion, list_any}
use Rattle.mp4_present.specs.format.Presentation.{Sample, Track, Presentation}
use Rattle.mp4_present.specs.format.Waiting.{waiting_movie, waiting_track, waiting_tracks}
use Rattle.mp4_content.specs.format.Reduced.{first_offset, reduce_movie_head, reduce_samples, reduce_track, number_track, number_tracks, reduce}
use Rattle.mp4_content.specs.declared.without.Without.{Without}
use Rattle.mp4_content.specs.format.TimescalesLaws.{only_origins}
use Rattle.mp4_content.specs.format.LeadIns.{waits, shown_from, some_sample, has_samples, begins_simply, says_more, says_beginnings, Moment, first_shown, first_moments, delay, wait_of, told_by, begun, all_begun, told, wait_each, waited}
use Rattle.mp4_content.proofs.Reducing.{reduces_in_any_order}
use Rattle.mp4_content.proofs.LeadInsTracks.{less_itself, first_at_0, moments_of_some, moments_of_none, where_told, where_more}
use Rattle.mp4_content.proofs.LeadInsTold.{begun_is}

module _ (words : Without) where
  -- the same words, but edits and timing stay
  abbrev pub m : Without
  m = record words { edits = false; timing = false }

  abbrev left : ℕ → Track → Track
  left place t = number_track m place (reduce_track m t)

  abbrev all_left : ℕ → List Track → List Track
  all_left place tracks = number_tracks m place (map (reduce_track m) tracks)

  -- ---- what edits say

  some_left : (samples : List Sample) → some_sample (reduce_samples m samples) ≡ some_sample samples
  some_left [] = refl
  some_left (s ∷ samples) = refl

  any_says : (place : ℕ) (tracks : List Track) → list_any says_more (all_left place tracks) ≡ list_any says_more tracks
  any_says place [] = refl
  any_says place (t ∷ tracks) = λ i. (some_left t.samples i && not (begins_simply t)) || any_says (suc place) tracks i

  says_left : (p : Presentation) → says_beginnings (reduce m p) ≡ says_beginnings p
  says_left p = λ i. not (any_says 1 p.tracks i)

  -- ---- when tracks begin

  -- a track begins when it did
  abbrev pub BeginsAsBefore : ℕ → Track → Type 0
  BeginsAsBefore scale t = first_shown scale (reduce_track m t) ≡ first_shown scale t

  moments_stay : (scale place : ℕ) (tracks : List Track) → AllByRecursion (BeginsAsBefore scale) tracks → first_moments scale (all_left place tracks) ≡ first_moments scale tracks
  moments_stay scale place [] h = refl
  moments_stay scale place (t ∷ tracks) h = by (has_samples t) refl (moments_stay scale (suc place) tracks h.1)
    where
      rest : List Track
      rest = all_left (suc place) tracks

      by : (b : Bool) → has_samples t ≡ b → first_moments scale rest ≡ first_moments scale tracks → first_moments scale (left place t ∷ rest) ≡ first_moments scale (t ∷ tracks)
      by true e behind =
          moments_of_some scale (left place t) rest (some_left t.samples ∙ e)
          ∙ (λ i. h.0 i ∷ behind i)
          ∙ sym (moments_of_some scale t tracks e)
      by false e behind = moments_of_none scale (left place t) rest (some_left t.samples ∙ e) ∙ behind ∙ sym (moments_of_none scale t tracks e)

  waiting_left : (scale place : ℕ) (wait : Moment → ℕ) (tracks : List Track) → AllByRecursion (BeginsAsBefore scale) tracks
      → waiting_tracks (map (wait_of scale wait) (all_left place tracks)) (all_left place tracks) ≡ all_left place (waiting_tracks (map (wait_of scale wait) tracks) tracks)
  waiting_left scale place wait [] h = refl
  waiting_left scale place wait (t ∷ tracks) h = λ i. waiting_track (if some_left t.samples i then wait (h.0 i) else 0) (left place t) ∷ waiting_left scale (suc place) wait tracks h.1 i

  -- ---- the whole

  told_left : (wait : Moment → ℕ) (p : Presentation) → AllByRecursion (BeginsAsBefore p.movie.timescale) p.tracks → told_by wait (reduce m p) ≡ reduce m (told_by wait p)
  told_left wait p h = by (says_beginnings p) refl
    where
      by : (b : Bool) → says_beginnings p ≡ b → told_by wait (reduce m p) ≡ reduce m (told_by wait p)
      by true e =
          where_told wait (reduce m p) (says_left p ∙ e)
          ∙ (λ i. record { movie = waiting_movie (reduce_movie_head m p.movie); tracks = waiting_left p.movie.timescale 1 wait p.tracks h i })
          ∙ ap (reduce m) (sym (where_told wait p e))
      by false e = where_more wait (reduce m p) (says_left p ∙ e) ∙ ap (reduce m) (sym (where_more wait p e))

  pub waited_between : (p : Presentation) → AllByRecursion (BeginsAsBefore p.movie.timescale) p.tracks → waited true (reduce m p) ≡ reduce m (waited true p)
  waited_between p h =
      let scale = p.movie.timescale in
      (λ i. wait_each (delay (moments_stay scale 1 p.tracks h i)) (reduce m p))
      ∙ ap all_begun (told_left (delay (first_moments scale p.tracks)) p h)
      ∙ begun_is (reduce m (told true p))
      ∙ reduces_in_any_order only_origins m (told true p)
      ∙ ap (reduce m) (sym (begun_is (told true p)))

  -- ---- when it is so

  kept_first : words.origins ≡ false → (samples : List Sample) → first_offset (reduce_samples m samples) ≡ first_offset samples
  kept_first e [] = refl
  kept_first e (s ∷ samples) = λ i. if e i then s.offset -ℤ s.offset else s.offset

  -- origins stay
  begins_kept : words.origins ≡ false → (scale : ℕ) (t : Track) → BeginsAsBefore scale t
  begins_kept e scale t = λ i. record {
    ticks = pos (waits t.head.edits * t.head.media.timescale) +ℤ ((pos (if e i then 0 else t.start) +ℤ kept_first e t.samples i) -ℤ shown_from t.head.edits) *ℤ pos scale;
    scale = scale * t.head.media.timescale;
  }

  pub all_kept : words.origins ≡ false → (scale : ℕ) (tracks : List Track) → AllByRecursion (BeginsAsBefore scale) tracks
  all_kept e scale [] = tt
  all_kept e scale (t ∷ tracks) = (begins_kept e scale t, all_kept e scale tracks)

  -- or it begins at 0 with its first offset
  start_0 : ◌≡◌ {A = ℕ} (if words.origins then 0 else 0) 0
  start_0 = by words.origins
    where
      by : (b : Bool) → ◌≡◌ {A = ℕ} (if b then 0 else 0) 0
      by true = refl
      by false = refl

  first_0 : (samples : List Sample) → first_offset samples ≡ pos 0 → first_offset (reduce_samples m samples) ≡ pos 0
  first_0 [] e = refl
  first_0 (s ∷ samples) e = by words.origins
    where
      by : (b : Bool) → (if b then s.offset -ℤ s.offset else s.offset) ≡ pos 0
      by true = less_itself s.offset
      by false = e

  begun_kept : (scale : ℕ) (t : Track) → BeginsAsBefore scale (begun t)
  begun_kept scale t =
      let at_0 = first_at_0 t.samples in
      let first = first_0 (begun t).samples at_0 ∙ sym at_0 in
      λ i. record {
        ticks = pos (waits t.head.edits * t.head.media.timescale) +ℤ ((pos (start_0 i) +ℤ first i) -ℤ shown_from t.head.edits) *ℤ pos scale;
        scale = scale * t.head.media.timescale;
      }

  pub all_from_0 : (scale : ℕ) (tracks : List Track) → AllByRecursion (BeginsAsBefore scale) (map begun tracks)
  all_from_0 scale [] = tt
  all_from_0 scale (t ∷ tracks) = (begun_kept scale t, all_from_0 scale tracks)
