-- Tracks apart from their composition offsets: what is valid of them stays so, whatever is left out.
use Rattle.std.proofs.Common.{◌≡◌, ℕ, suc, ◌<◌, ◌≤◌, ◌^◌, ◌==◌, Bool, true, false, if◌then◌else◌, List, [], ◌∷◌, ◌++◌, length, map, refl, sym, ap, subst, ◌∙◌, arith, ℤ, pos, ◌-ℤ◌, FitsSigned}
use Rattle.std.specs.Prelude.{flat_map}
use Rattle.std.specs.Int.{w32}
use Rattle.std.specs.List.{AllByRecursion}
use Rattle.std.proofs.Math.Nat.{zero-div}
use Rattle.mp4_boxes.proofs.Plain.{length_mapped}
use Rattle.mp4_tables.specs.format.Groups.{GroupKey, keys_with, max_keys}
use Rattle.mp4_head.specs.format.Head.{Edit, Media, TrackHead, IsEdit, IsMedia, IsTrackHead}
use Rattle.mp4_present.specs.format.Presentation.{Sample, Track, IsSample, IsTrack}
use Rattle.mp4_present.specs.format.Waiting.{waiting}
use Rattle.mp4_content.specs.format.Reduced.{offset_left, first_offset, reduce_sample, reduce_from, reduce_samples, reduce_track, number_track, HasNearOffsets}
use Rattle.mp4_content.specs.declared.without.Without.{Without}
use Rattle.mp4_content.specs.format.Timescales.{leaves_duration, track_times, timescale_by, samples_by, edit_by, divided, divisor_of, lowest_track}
use Rattle.mp4_content.specs.format.LeadIns.{has_samples, Moment, first_shown, max_duration, wait_of, offset_less}
use Rattle.mp4_content.proofs.ReducedSamples.{by_case}
use Rattle.mp4_content.proofs.ReducedValid.{track_good, number_good}
use Rattle.mp4_content.proofs.TimescalesDivisors.{divisor_divides}
use Rattle.mp4_content.proofs.TimescalesLengths.{duration_less}
use Rattle.mp4_content.proofs.TimescalesValid.{edits_good, scale_less, scale_some_by}
use Rattle.mp4_content.proofs.LeadInsTracks.{waiting_if, begin_after, wait_track}
use Rattle.mp4_present.proofs.ValidSamples.{nothing_mapped}

-- ---- in place of one thing another

head_with : (t : TrackHead) (edits : List Edit) (m : Media) → IsTrackHead t → AllByRecursion IsEdit edits → IsMedia m → IsTrackHead (record t { edits = edits; media = m })
head_with t edits m h e k = record {
  flags = h.flags;
  creation = h.creation;
  modification = h.modification;
  id = h.id;
  id_not_0 = h.id_not_0;
  layer = h.layer;
  alternate_group = h.alternate_group;
  volume = h.volume;
  matrix = h.matrix;
  width = h.width;
  height = h.height;
  edits = e;
  kept = h.kept;
  media = k;
  group_descriptions = h.group_descriptions;
}

media_with : (m : Media) (n : ℕ) → IsMedia m → n < 2 ^ 32 → 0 < n → IsMedia (record m { timescale = n })
media_with m n h less some = record {
  creation = h.creation;
  modification = h.modification;
  timescale = less;
  timescale_not_0 = some;
  language = h.language;
  handler = h.handler;
  handler_room = h.handler_room;
  extended_languages = h.extended_languages;
  header = h.header;
  header_bytes = h.header_bytes;
  descriptions = h.descriptions;
}

sample_with : (descriptions : ℕ) (s : Sample) (duration : ℕ) (offset : ℤ) → IsSample descriptions s → duration < 2 ^ 32 → FitsSigned w32 offset → IsSample descriptions (record s { duration = duration; offset = offset })
sample_with descriptions s duration offset h less near = record {
  duration = less;
  offset = near;
  flags = h.flags;
  description_from_1 = h.description_from_1;
  description = h.description;
  bytes = h.bytes;
  size = h.size;
  groups = h.groups;
  groups_in_order = h.groups_in_order;
}

-- ---- apart from these

abbrev flat_sample : Sample → Sample
flat_sample s = record s { offset = pos 0 }

abbrev flat : Track → Track
flat t = record t { samples = map flat_sample t.samples }

abbrev pub IsSound : Track → Type 0
IsSound t = IsTrack (flat t)

pub fits_0 : FitsSigned w32 (pos 0)
fits_0 = omega arith

-- the names of groups
abbrev names : List Sample → List GroupKey
names samples = flat_map (λ (s : Sample). map (λ (group : GroupKey × ℕ). group.0) s.groups) samples

abbrev FewNames : List GroupKey → Type 0
FewNames keys = length (keys_with [] keys) ≤ max_keys

flat_names : (samples : List Sample) → names (map flat_sample samples) ≡ names samples
flat_names [] = refl
flat_names (s ∷ samples) = ap (λ keys. map (λ (group : GroupKey × ℕ). group.0) s.groups ++ keys) (flat_names samples)

flat_near : (samples : List Sample) → AllByRecursion (λ (s : Sample). FitsSigned w32 s.offset) (map flat_sample samples)
flat_near [] = tt
flat_near (s ∷ samples) = (fits_0, flat_near samples)

-- ---- what is valid is sound, and what is sound and within limits is valid

samples_sound : (f : Sample → Sample) → ((s : Sample) → (flat_sample (f s)) ≡ flat_sample s) → (samples : List Sample) → map flat_sample (map f samples) ≡ map flat_sample samples
samples_sound f same [] = refl
samples_sound f same (s ∷ samples) = λ i. same s i ∷ samples_sound f same samples i

flat_samples_good : (descriptions : ℕ) (samples : List Sample) → AllByRecursion (IsSample descriptions) samples → AllByRecursion (IsSample descriptions) (map flat_sample samples)
flat_samples_good descriptions [] h = tt
flat_samples_good descriptions (s ∷ samples) h = (sample_with descriptions s s.duration (pos 0) h.0 h.0.duration fits_0, flat_samples_good descriptions samples h.1)

-- a track with these edits, which begins here
sound_with : (t : Track) (edits : List Edit) (start : ℕ) → IsTrack t → AllByRecursion IsEdit edits → (t.samples ≡ [] → start ≡ 0) → IsSound (record t { head = record t.head { edits = edits }; start = start })
sound_with t edits start h e none = record {
  head = head_with t.head edits t.head.media h.head e h.head.media;
  samples = flat_samples_good (length t.head.media.descriptions) t.samples h.samples;
  keys = subst FewNames (sym (flat_names t.samples)) h.keys;
  empty = λ k. none (nothing_mapped flat_sample t.samples k);
}

samples_back : (descriptions : ℕ) (samples : List Sample) → AllByRecursion (IsSample descriptions) (map flat_sample samples) → AllByRecursion (λ (s : Sample). FitsSigned w32 s.offset) samples → AllByRecursion (IsSample descriptions) samples
samples_back descriptions [] h near = tt
samples_back descriptions (s ∷ samples) h near = (sample_with descriptions (flat_sample s) s.duration s.offset h.0 h.0.duration near.0, samples_back descriptions samples h.1 near.1)

sound_back : (t : Track) → IsSound t → HasNearOffsets t → IsTrack t
sound_back t h near = record {
  head = h.head;
  samples = samples_back (length t.head.media.descriptions) t.samples h.samples near;
  keys = subst FewNames (flat_names t.samples) h.keys;
  empty = λ e. h.empty (ap (map flat_sample) e);
}

pub all_back : (tracks : List Track) → AllByRecursion IsSound tracks → AllByRecursion HasNearOffsets tracks → AllByRecursion IsTrack tracks
all_back [] h near = tt
all_back (t ∷ tracks) h near = (sound_back t h.0 near.0, all_back tracks h.1 near.1)

-- ---- a track that waits

pub waiting_good : (wait : ℕ) → wait ≤ max_duration → AllByRecursion IsEdit (waiting wait)
waiting_good wait fits = by (wait == 0)
  where
    by : (b : Bool) → AllByRecursion IsEdit (waiting_if b wait)
    by true = tt
    by false = (record { segment_duration = omega (arith, fits); media_time = omega arith; rate_integer = omega arith; rate_fraction = omega arith }, (record { segment_duration = omega arith; media_time = omega arith; rate_integer = omega arith; rate_fraction = omega arith }, tt))

begun_sound : (wait : ℕ) (t : Track) → wait ≤ max_duration → IsTrack t → IsSound (begin_after wait t)
begun_sound wait t fits h =
    let without = sound_with t (waiting wait) 0 h (waiting_good wait fits) (λ e. refl) in
    let same = samples_sound (offset_less (first_offset t.samples)) (λ s. refl) t.samples in
    subst (λ (samples : List Sample). IsTrack (record t { head = record t.head { edits = waiting wait }; start = 0; samples = samples })) (sym same) without

pub wait_sound : (scale : ℕ) (wait : Moment → ℕ) → ((x : Moment) → wait x ≤ max_duration) → (t : Track) → IsTrack t → IsSound (wait_track scale wait t)
wait_sound scale wait fits t h =
    let short = by_case (λ n. n ≤ max_duration) (has_samples t) (wait (first_shown scale t)) 0 (fits (first_shown scale t)) (omega arith) in
    begun_sound (wait_of scale wait t) t short h

-- ---- less of it

module _ (l : Without) where
  offset_0 : offset_left l (pos 0) (pos 0) ≡ pos 0
  offset_0 = by l.timing l.origins
    where
      by : (a b : Bool) → (if a then pos 0 else if b then pos 0 -ℤ pos 0 else pos 0) ≡ pos 0
      by true b = refl
      by false true = refl
      by false false = refl

  from_flat : (count : ℕ) (first : ℤ) (n : ℕ) (samples : List Sample) → reduce_from l count (pos 0) n (map flat_sample samples) ≡ map flat_sample (reduce_from l count first n samples)
  from_flat count first n [] = refl
  from_flat count first n (s ∷ samples) = λ i. record (reduce_sample l count first n s) { offset = offset_0 i } ∷ from_flat count first (suc n) samples i

  first_flat : (samples : List Sample) → first_offset (map flat_sample samples) ≡ pos 0
  first_flat [] = refl
  first_flat (s ∷ samples) = refl

  samples_flat : (samples : List Sample) → reduce_samples l (map flat_sample samples) ≡ map flat_sample (reduce_samples l samples)
  samples_flat samples = (λ i. reduce_from l (length_mapped flat_sample samples i) (first_flat samples i) 0 (map flat_sample samples)) ∙ from_flat (length samples) (first_offset samples) 0 samples

  track_flat : (t : Track) → reduce_track l (flat t) ≡ flat (reduce_track l t)
  track_flat t = λ i. record (reduce_track l t) { samples = samples_flat t.samples i }

  pub reduced_sound : (place : ℕ) (t : Track) → 0 < place → IsSound t → IsSound (number_track l place (reduce_track l t))
  reduced_sound place t some h =
      let near : HasNearOffsets (reduce_track l (flat t)) = subst HasNearOffsets (sym (track_flat t)) (flat_near (reduce_track l t).samples) in
      number_good l place (flat (reduce_track l t)) some (subst IsTrack (track_flat t) (track_good l (flat t) h near))

  -- ---- in lowest terms

  lowest_samples : (f : ℕ → ℕ) (descriptions count n : ℕ) (samples : List Sample) → ((n d : ℕ) → (if leaves_duration l count n then d else f d) ≤ d) → AllByRecursion (IsSample descriptions) (map flat_sample samples)
      → AllByRecursion (IsSample descriptions) (map flat_sample (samples_by l f count n samples))
  lowest_samples f descriptions count n [] less h = tt
  lowest_samples f descriptions count n (s ∷ samples) less h =
      let one = less n s.duration in
      let was = h.0.duration in
      (sample_with descriptions (flat_sample s) (if leaves_duration l count n then s.duration else f s.duration) (pos 0) h.0 (omega (arith, one, was)) fits_0, lowest_samples f descriptions count (suc n) samples less h.1)

  lowest_names : (f : ℕ → ℕ) (count n : ℕ) (samples : List Sample) → names (map flat_sample (samples_by l f count n samples)) ≡ names (map flat_sample samples)
  lowest_names f count n [] = refl
  lowest_names f count n (s ∷ samples) = ap (λ keys. map (λ (group : GroupKey × ℕ). group.0) s.groups ++ keys) (lowest_names f count (suc n) samples)

  none_lowest : (f : ℕ → ℕ) (count n : ℕ) (samples : List Sample) → map flat_sample (samples_by l f count n samples) ≡ [] → map flat_sample samples ≡ []
  none_lowest f count n [] e = refl
  none_lowest f count n (s ∷ samples) e = absurd cc

  lowest_sound : (a : ℕ) (t : Track) → IsSound t → IsSound (lowest_track l a t)
  lowest_sound a t h =
      let g = divisor_of (track_times l t) in
      let all = divisor_divides (track_times l t) in
      let scale = t.head.media.timescale in
      let count = length t.samples in
      let less = scale_less l g scale in
      let was = h.head.media.timescale in
      record {
        head = head_with t.head (map (edit_by (divided a) (divided g)) t.head.edits) (record t.head.media { timescale = timescale_by l (divided g) scale }) h.head
            (edits_good a g t.head.edits h.head.edits)
            (media_with t.head.media (timescale_by l (divided g) scale) h.head.media (omega (arith, less, was)) (scale_some_by l g scale all.0 h.head.media.timescale_not_0));
        samples = lowest_samples (divided g) (length t.head.media.descriptions) count 0 t.samples (λ n d. duration_less l g count n d) h.samples;
        keys = subst FewNames (sym (lowest_names (divided g) count 0 t.samples)) h.keys;
        empty = λ e. ap (divided g) (h.empty (none_lowest (divided g) count 0 t.samples e)) ∙ zero-div g;
      }

  pub all_lowest_sound : (a : ℕ) (tracks : List Track) → AllByRecursion IsSound tracks → AllByRecursion IsSound (map (lowest_track l a) tracks)
  all_lowest_sound a [] h = tt
  all_lowest_sound a (t ∷ tracks) h = (lowest_sound a t h.0, all_lowest_sound a tracks h.1)
