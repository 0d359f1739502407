-- Where neither edits nor timing count, nothing is left of how tracks begin.
use Rattle.std.proofs.Common.{◌≡◌, ℕ, suc, Bool, true, false, List, [], ◌∷◌, length, map, refl, sym, ap, ◌∙◌, ℤ}
use Rattle.mp4_boxes.proofs.Plain.{length_mapped}
use Rattle.mp4_present.specs.format.Presentation.{Sample, Track, Presentation}
use Rattle.mp4_present.specs.format.Waiting.{waiting_tracks}
use Rattle.mp4_content.specs.format.Reduced.{first_offset, reduce_sample, reduce_from, reduce_samples, reduce_track, number_track, number_tracks, reduce}
use Rattle.mp4_content.specs.declared.without.Without.{Without}
use Rattle.mp4_content.specs.format.Timescales.{scaled, lowest}
use Rattle.mp4_content.specs.format.LeadIns.{says_beginnings, Moment, first_moments, delay, wait_of, told_by, offset_less, begun, told, waited, kept}
use Rattle.mp4_content.specs.format.LeadInsLaws.{KeptWithoutTimes, KeepsMoreWithoutTimes}
use Rattle.mp4_content.proofs.TimescalesWords.{scales_more}
use Rattle.mp4_content.proofs.LeadInsTracks.{where_told, where_more}

module _ (words : Without) where
  -- the same words, and edits and timing
  abbrev m : Without
  m = record words { edits = true; timing = true }

  abbrev all_left : ℕ → List Track → List Track
  all_left place tracks = number_tracks m place (map (reduce_track m) tracks)

  from_less : (count : ℕ) (a b first : ℤ) (n : ℕ) (samples : List Sample) → reduce_from m count a n (map (offset_less first) samples) ≡ reduce_from m count b n samples
  from_less count a b first n [] = refl
  from_less count a b first n (s ∷ samples) = ap (λ rest. reduce_sample m count b n s ∷ rest) (from_less count a b first (suc n) samples)

  samples_less : (first : ℤ) (samples : List Sample) → reduce_samples m (map (offset_less first) samples) ≡ reduce_samples m samples
  samples_less first samples =
      let less = map (offset_less first) samples in
      (λ i. reduce_from m (length_mapped (offset_less first) samples i) (first_offset less) 0 less)
      ∙ from_less (length samples) (first_offset less) (first_offset samples) first 0 samples

  begun_less : (place : ℕ) (tracks : List Track) → all_left place (map begun tracks) ≡ all_left place tracks
  begun_less place [] = refl
  begun_less place (t ∷ tracks) = λ i. number_track m place (record (reduce_track m t) { samples = samples_less (first_offset t.samples) t.samples i }) ∷ begun_less (suc place) tracks i

  waiting_less : (f : Track → ℕ) (place : ℕ) (tracks : List Track) → all_left place (waiting_tracks (map f tracks) tracks) ≡ all_left place tracks
  waiting_less f place [] = refl
  waiting_less f place (t ∷ tracks) = λ i. number_track m place (reduce_track m t) ∷ waiting_less f (suc place) tracks i

  told_less : (wait : Moment → ℕ) (p : Presentation) → reduce m (told_by wait p) ≡ reduce m p
  told_less wait p = by (says_beginnings p) refl
    where
      by : (b : Bool) → says_beginnings p ≡ b → reduce m (told_by wait p) ≡ reduce m p
      by true e = ap (reduce m) (where_told wait p e) ∙ (λ i. record (reduce m p) { tracks = waiting_less (wait_of p.movie.timescale wait) 1 p.tracks i })
      by false e = ap (reduce m) (where_more wait p e)

  waited_less : (b : Bool) (p : Presentation) → reduce m (waited b p) ≡ reduce m p
  waited_less true p = (λ i. record (reduce m (told true p)) { tracks = begun_less 1 (told true p).tracks i }) ∙ told_less (delay (first_moments p.movie.timescale p.tracks)) p
  waited_less false p = refl

  pub kept_less : (b c : Bool) (p : Presentation) → kept b c m p ≡ scaled c m p
  kept_less b true p = ap (lowest m) (waited_less b p)
  kept_less b false p = waited_less b p

pub kept_without_times : KeptWithoutTimes
kept_without_times b c l p edits timing =
    let same : l ≡ m l = λ i. record l { edits = edits i; timing = timing i } in
    ap (λ words. kept b c words p) same ∙ kept_less l b c p ∙ ap (λ words. scaled c words p) (sym same)

pub keeps_more_without_times : KeepsMoreWithoutTimes
keeps_more_without_times b c d e m l p with_c covers edits timing =
    kept_without_times d e l (kept b c m p) edits timing
    ∙ scales_more c e m l (waited b p) with_c covers
    ∙ kept_without_times b e l p edits timing
    ∙ sym (kept_without_times d e l p edits timing)
