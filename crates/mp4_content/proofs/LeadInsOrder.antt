-- Valid presentations that say how the order of words matters where it is left out how tracks begin.
use Rattle.std.proofs.Common.{◌≡◌, ℕ, ◌-◌, ◌<◌, ◌^◌, List, [], ◌∷◌, length, map, refl, ap, arith, pos}
use Rattle.std.specs.List.{AllByRecursion}
use Rattle.mp4_boxes.proofs.Plain.{head_is}
use Rattle.mp4_head.specs.format.Head.{Edit, TrackHead, IsEdit, IsTrackHead}
use Rattle.mp4_present.specs.format.Presentation.{Sample, Track, Presentation, IsTrack, IsWithinLimits, Valid}
use Rattle.mp4_content.specs.format.LeadInsLaws.{OriginsHideBeginnings, TimingHidesBeginnings, EditsHideBeginnings, TimingChangesAgain, EditsChangeAgain}
use Rattle.mp4_content.proofs.TooLong.{track, edit, edit_good, sample, sample_good, one_track, one_track_good}
use Rattle.mp4_content.proofs.LeadInsFlat.{fits_0}

abbrev tick : List Sample
tick = sample 1 (pos 0) ∷ []

-- the track of `one_track`, with this ID, which begins here
abbrev track_from : ℕ → ℕ → List Edit → Track
track_from id start edits =
    let t = track edits tick in
    record t { head = record t.head { id = id }; start = start }

one_good : (edits : List Edit) → AllByRecursion IsEdit edits → IsWithinLimits (one_track edits tick) → Valid (one_track edits tick)
one_good edits e limits = one_track_good edits tick e (sample_good 1 (pos 0) (omega arith) fits_0, tt) (omega arith) limits

head_good : (id : ℕ) → 0 < id → id < 2 ^ 32 → (t : TrackHead) → IsTrackHead t → IsTrackHead (record t { id = id })
head_good id some fits t h = record {
  flags = h.flags;
  creation = h.creation;
  modification = h.modification;
  id = fits;
  id_not_0 = some;
  layer = h.layer;
  alternate_group = h.alternate_group;
  volume = h.volume;
  matrix = h.matrix;
  width = h.width;
  height = h.height;
  edits = h.edits;
  kept = h.kept;
  media = h.media;
  group_descriptions = h.group_descriptions;
}

track_good : (id start : ℕ) → 0 < id → id < 2 ^ 32 → (edits : List Edit) → IsTrack (track edits tick) → IsTrack (track_from id start edits)
track_good id start some fits edits h = record { head = head_good id some fits (track edits tick).head h.head; samples = h.samples; keys = h.keys; empty = λ e. absurd cc }

none_good : Valid (one_track [] tick)
none_good = one_good [] tt (record { samples = omega arith; times = ((omega arith, omega arith), tt); moov = omega arith })

-- ---- two tracks of a timescale of 1: the second begins here

abbrev two : ℕ → Presentation
two start = record (one_track [] tick) { tracks = track_from 1 0 [] ∷ track_from 2 start [] ∷ [] }

two_good : (start : ℕ) → IsWithinLimits (two start) → Valid (two start)
two_good start limits =
    let t = none_good.tracks.0 in
    record { movie = none_good.movie; tracks = (track_good 1 0 (omega arith) (omega arith) [] t, (track_good 2 start (omega arith) (omega arith) [] t, tt)); ids = refl; limits = limits }

at_once : Valid (two 0)
at_once = two_good 0 (record { samples = omega arith; times = ((omega arith, omega arith), ((omega arith, omega arith), tt)); moov = omega arith })

a_second_later : Valid (two 1)
a_second_later = two_good 1 (record { samples = omega arith; times = ((omega arith, omega arith), ((omega arith, omega arith), tt)); moov = omega arith })

-- how many edits each track has
abbrev edits_of : Presentation → List ℕ
edits_of p = map (λ (t : Track). length t.head.edits) p.tracks

none_is_two : ◌≡◌ {A = List ℕ} (0 ∷ 0 ∷ []) (0 ∷ 2 ∷ []) → ⊥
none_is_two e = let same = head_is 0 2 [] [] (ap rest e) in omega (arith, same)
  where
    rest : List ℕ → List ℕ
    rest [] = []
    rest (n ∷ ns) = ns

pub origins_hide_beginnings : OriginsHideBeginnings
origins_hide_beginnings = (two 0, two 1, at_once, a_second_later, refl, λ e. none_is_two (ap edits_of e))

pub timing_hides_beginnings : TimingHidesBeginnings
timing_hides_beginnings = (two 0, two 1, at_once, a_second_later, refl, λ e. none_is_two (ap edits_of e))

-- ---- one track, which begins a second late: its edits say two things, or nothing

abbrev late : List Edit → Presentation
late edits = record (one_track [] tick) { tracks = track_from 1 1 edits ∷ [] }

twice_good : Valid (one_track (edit ∷ edit ∷ []) tick)
twice_good = one_good (edit ∷ edit ∷ []) (edit_good, (edit_good, tt)) (record { samples = omega arith; times = ((omega arith, omega arith), tt); moov = omega arith })

late_good : (edits : List Edit) → Valid (one_track edits tick) → IsWithinLimits (late edits) → Valid (late edits)
late_good edits v limits = record { movie = none_good.movie; tracks = (track_good 1 1 (omega arith) (omega arith) edits v.tracks.0, tt); ids = refl; limits = limits }

plain_late : Valid (late [])
plain_late = late_good [] none_good (record { samples = omega arith; times = ((omega arith, omega arith), tt); moov = omega arith })

twice_late : Valid (late (edit ∷ edit ∷ []))
twice_late = late_good (edit ∷ edit ∷ []) twice_good (record { samples = omega arith; times = ((omega arith, omega arith), tt); moov = omega arith })

-- The movie's timescale says whether edits said more.
other_scale : ◌≡◌ {A = ℕ} 1000000 (2 ^ 32 - 1) → ⊥
other_scale e = omega (arith, e)

pub edits_hide_beginnings : EditsHideBeginnings
edits_hide_beginnings = (late [], late (edit ∷ edit ∷ []), plain_late, twice_late, refl, λ e. other_scale (ap (λ (p : Presentation). p.movie.timescale) e))

pub edits_change_again : EditsChangeAgain
edits_change_again = (late (edit ∷ edit ∷ []), twice_late, λ e. other_scale (ap (λ (p : Presentation). p.movie.timescale) e))

-- ---- again

-- how long the edits of the second track last
abbrev lasts : Presentation → List ℕ
lasts p = second p.tracks
  where
    second : List Track → List ℕ
    second [] = []
    second (t ∷ []) = []
    second (t ∷ u ∷ tracks) = map (λ (e : Edit). e.segment_duration) u.head.edits

longer : ◌≡◌ {A = List ℕ} (1000000000 ∷ 0 ∷ []) (1000000 ∷ 0 ∷ []) → ⊥
longer e = let same = head_is 1000000000 1000000 (0 ∷ []) (0 ∷ []) e in omega (arith, same)

pub timing_changes_again : TimingChangesAgain
timing_changes_again = (two 1, a_second_later, λ e. longer (ap lasts e))
