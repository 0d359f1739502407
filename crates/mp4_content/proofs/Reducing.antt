-- To reduce by nothing changes nothing, and to reduce twice is to reduce once by the words of both.
use Rattle.std.proofs.Common.{◌≡◌, ℕ, suc, ◌%◌, ◌-◌, ◌^◌, min, Bool, true, false, if◌then◌else◌, List, [], ◌∷◌, length, refl, sym, ap, ◌∙◌, arith}
use Rattle.std.specs.Prelude.{◌&&◌, ◌||◌, not, map, filter, ℤ, pos, ◌-ℤ◌}
use Rattle.std.proofs.lemmas.Int.{ints}
use Rattle.mp4_boxes.specs.format.Children.{is_among}
use Rattle.mp4_boxes.proofs.Plain.{map_same, or_same}
use Rattle.mp4_head.specs.format.Head.{Kept, Media, TrackHead, MovieHead}
use Rattle.mp4_present.specs.format.Presentation.{Sample, Track, Presentation}
use Rattle.mp4_content.specs.format.Reduced.{metadata_kinds, sync_flag, plain_handler, is_at_end, duration_left, offset_left, start_left, timescale_left, reduce_kept, reduce_sample, reduce_from, reduce_samples, reduce_media, reduce_track_head, reduce_movie_head, number_track, number_tracks, reduce_track, reduce}
use Rattle.mp4_content.specs.declared.without.Without.{Without}
use Rattle.mp4_content.proofs.Plain.{handler_twice, descriptions_twice}
use Rattle.mp4_content.proofs.ReducedSamples.{left_many}
use Rattle.mp4_content.specs.format.Words.{each, has}
use Rattle.mp4_content.specs.format.ReducedLaws.{nothing, both, NothingReduces, ReducesOnce, ReducesInAnyOrder, ReduceIsFixed}

-- ---- lists

twice_at : {A : Type 0} (test : A → Bool) (x : A) (xs : List A) (b : Bool) → test x ≡ b → filter test (filter test xs) ≡ filter test xs → filter test (filter test (x ∷ xs)) ≡ filter test (x ∷ xs)
twice_at test x xs true e h = rw (e, e) (ap (λ ys. x ∷ ys) h)
twice_at test x xs false e h = rw e h

filter_twice : {A : Type 0} (test : A → Bool) (xs : List A) → filter test (filter test xs) ≡ filter test xs
filter_twice test [] = refl
filter_twice test (x ∷ xs) = twice_at test x xs (test x) refl (filter_twice test xs)

-- ---- nothing

from_same : (count : ℕ) (first : ℤ) (n : ℕ) (samples : List Sample) → reduce_from nothing count first n samples ≡ samples
from_same count first n [] = refl
from_same count first n (s ∷ samples) = λ i. s ∷ from_same count first (suc n) samples i

samples_same : (samples : List Sample) → reduce_samples nothing samples ≡ samples
samples_same [] = refl
samples_same (s ∷ samples) = from_same (length (s ∷ samples)) s.offset 0 (s ∷ samples)

track_same : (t : Track) → reduce_track nothing t ≡ t
track_same t = λ i. record t { samples = samples_same t.samples i }

numbers_same : (place : ℕ) (tracks : List Track) → number_tracks nothing place tracks ≡ tracks
numbers_same place [] = refl
numbers_same place (t ∷ tracks) = λ i. t ∷ numbers_same (suc place) tracks i

pub nothing_reduces : NothingReduces
nothing_reduces p =
    let same = numbers_same 1 (map (reduce_track nothing) p.tracks) ∙ map_same (reduce_track nothing) track_same p.tracks in
    λ i. record p { tracks = same i }

-- ---- twice

-- a part left away twice, by either word
less_twice : {A : Type 0} (a b : Bool) (g : A → A) → ((x : A) → g (g x) ≡ g x) → (x : A) → (if a then g (if b then g x else x) else (if b then g x else x)) ≡ (if a || b then g x else x)
less_twice true true g same x = same x
less_twice true false g same x = refl
less_twice false b g same x = refl

sync_twice : (flags : ℕ) → sync_flag (sync_flag flags) ≡ sync_flag flags
sync_twice flags = omega arith

module _ (l m : Without) where
  duration_twice : (count n duration : ℕ) → duration_left l count n (duration_left m count n duration) ≡ duration_left (both l m) count n duration
  duration_twice count n duration = by l.timing m.timing l.ends m.ends (is_at_end count n)
    where
      by : (a b c d at : Bool) → (if a then 1 else if c && at then 1 else if b then 1 else if d && at then 1 else duration) ≡ (if a || b then 1 else if (c || d) && at then 1 else duration)
      by true b c d at = refl
      by false true true d true = refl
      by false true true d false = refl
      by false true false d at = refl
      by false false true d true = refl
      by false false true true false = refl
      by false false true false false = refl
      by false false false d at = refl

  -- the first offset that is left is 0 where that is so of all
  offset_twice : (first offset : ℤ) → offset_left l (offset_left m first first) (offset_left m first offset) ≡ offset_left (both l m) first offset
  offset_twice first offset = by l.timing m.timing l.origins m.origins
    where
      by : (a b c d : Bool)
          → (if a then pos 0 else if c then (if b then pos 0 else if d then offset -ℤ first else offset) -ℤ (if b then pos 0 else if d then first -ℤ first else first) else if b then pos 0 else if d then offset -ℤ first else offset)
          ≡ (if a || b then pos 0 else if c || d then offset -ℤ first else offset)
      by true b c d = refl
      by false true true d = refl
      by false true false d = refl
      by false false true true = omega (arith, ints)
      by false false true false = refl
      by false false false d = refl

  start_twice : (start : ℕ) → start_left l (start_left m start) ≡ start_left (both l m) start
  start_twice start = by l.timing m.timing l.origins m.origins
    where
      by : (a b c d : Bool) → (if a then 0 else if c then 0 else if b then 0 else if d then 0 else start) ≡ (if a || b then 0 else if c || d then 0 else start)
      by true b c d = refl
      by false true true d = refl
      by false true false d = refl
      by false false true d = refl
      by false false false d = refl

  sample_twice : (count : ℕ) (first : ℤ) (n : ℕ) (s : Sample) → reduce_sample l count (offset_left m first first) n (reduce_sample m count first n s) ≡ reduce_sample (both l m) count first n s
  sample_twice count first n s = λ i. record s {
    duration = duration_twice count n s.duration i;
    offset = offset_twice first s.offset i;
    flags = less_twice l.flags m.flags sync_flag sync_twice s.flags i;
    groups = less_twice l.groups m.groups (λ groups. []) (λ groups. refl) s.groups i;
  }

  from_twice : (count : ℕ) (first : ℤ) (n : ℕ) (samples : List Sample) → reduce_from l count (offset_left m first first) n (reduce_from m count first n samples) ≡ reduce_from (both l m) count first n samples
  from_twice count first n [] = refl
  from_twice count first n (s ∷ samples) = λ i. sample_twice count first n s i ∷ from_twice count first (suc n) samples i

  -- as many are left, and the first of them has what is left of the first offset
  samples_twice : (samples : List Sample) → reduce_samples l (reduce_samples m samples) ≡ reduce_samples (both l m) samples
  samples_twice [] = refl
  samples_twice (s ∷ samples) =
      ap (λ count. reduce_from l count (offset_left m s.offset s.offset) 0 (reduce_samples m (s ∷ samples))) (left_many m (length (s ∷ samples)) s.offset 0 (s ∷ samples))
      ∙ from_twice (length (s ∷ samples)) s.offset 0 (s ∷ samples)

  kept_twice : (kept : List Kept) → reduce_kept l (reduce_kept m kept) ≡ reduce_kept (both l m) kept
  kept_twice kept = less_twice l.metadata m.metadata (filter (λ (k : Kept). not (is_among metadata_kinds k.kind))) (filter_twice (λ (k : Kept). not (is_among metadata_kinds k.kind))) kept

  time_twice : (time : ℕ) → (if l.times then 0 else (if m.times then 0 else time)) ≡ (if l.times || m.times then 0 else time)
  time_twice time = less_twice l.times m.times (λ n. 0) (λ n. refl) time

  scale_twice : (timescale : ℕ) → timescale_left l (timescale_left m timescale) ≡ timescale_left (both l m) timescale
  scale_twice timescale = less_twice l.timing m.timing (λ n. 1000) (λ n. refl) timescale

  media_twice : (x : Media) → reduce_media l (reduce_media m x) ≡ reduce_media (both l m) x
  media_twice x = λ i. record x {
    creation = time_twice x.creation i;
    modification = time_twice x.modification i;
    timescale = scale_twice x.timescale i;
    handler = less_twice l.labels m.labels plain_handler handler_twice x.handler i;
    descriptions = descriptions_twice l m x.handler x.descriptions i;
  }

  track_head_twice : (t : TrackHead) → reduce_track_head l (reduce_track_head m t) ≡ reduce_track_head (both l m) t
  track_head_twice t = λ i. record t {
    flags = less_twice l.roles m.roles (λ n. n % 2) (λ n. omega arith) t.flags i;
    layer = less_twice l.roles m.roles (λ n. pos 0) (λ n. refl) t.layer i;
    alternate_group = less_twice l.roles m.roles (λ n. pos 0) (λ n. refl) t.alternate_group i;
    creation = time_twice t.creation i;
    modification = time_twice t.modification i;
    edits = less_twice l.edits m.edits (λ edits. []) (λ edits. refl) t.edits i;
    kept = kept_twice t.kept i;
    media = media_twice t.media i;
    group_descriptions = less_twice l.groups m.groups (λ groups. []) (λ groups. refl) t.group_descriptions i;
  }

  movie_head_twice : (x : MovieHead) → reduce_movie_head l (reduce_movie_head m x) ≡ reduce_movie_head (both l m) x
  movie_head_twice x = λ i. record x { creation = time_twice x.creation i; modification = time_twice x.modification i; timescale = scale_twice x.timescale i; kept = kept_twice x.kept i }

  -- the place of a track stays
  at_place_twice : (place : ℕ) (t : Track) → number_track l place (reduce_track l (number_track m place (reduce_track m t))) ≡ number_track (both l m) place (reduce_track (both l m) t)
  at_place_twice place t = λ i. record t {
    head = record (track_head_twice t.head i) { id = less_twice l.ids m.ids (λ n. min place (2 ^ 32 - 1)) (λ n. refl) t.head.id i };
    start = start_twice t.start i;
    samples = samples_twice t.samples i;
  }

  tracks_twice : (place : ℕ) (tracks : List Track) → number_tracks l place (map (reduce_track l) (number_tracks m place (map (reduce_track m) tracks))) ≡ number_tracks (both l m) place (map (reduce_track (both l m)) tracks)
  tracks_twice place [] = refl
  tracks_twice place (t ∷ tracks) = λ i. at_place_twice place t i ∷ tracks_twice (suc place) tracks i

  twice : (p : Presentation) → reduce l (reduce m p) ≡ reduce (both l m) p
  twice p = λ i. record p { movie = movie_head_twice p.movie i; tracks = tracks_twice 1 p.tracks i }

pub reduces_once : ReducesOnce
reduces_once = twice

or_turned : (a b : Bool) → (a || b) ≡ (b || a)
or_turned true true = refl
or_turned true false = refl
or_turned false true = refl
or_turned false false = refl

pub both_turned : (l m : Without) → both l m ≡ both m l
both_turned l m = λ i. each (λ word. or_turned (has l word) (has m word) i)

pub reduces_in_any_order : ReducesInAnyOrder
reduces_in_any_order l m p =
    reduces_once l m p ∙ ap (λ (words : Without). reduce words p) (both_turned l m) ∙ sym (reduces_once m l p)

both_same : (l : Without) → both l l ≡ l
both_same l = λ i. each (λ word. or_same (has l word) i)

pub reduce_is_fixed : ReduceIsFixed
reduce_is_fixed l p = reduces_once l l p ∙ ap (λ (words : Without). reduce words p) (both_same l)
