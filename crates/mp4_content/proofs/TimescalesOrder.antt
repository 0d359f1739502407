-- Two valid presentations that say how the order of words matters where times are in lowest terms.
use Rattle.std.proofs.Common.{◌≡◌, ℕ, ◌<◌, ◌^◌, List, [], ◌∷◌, map, refl, ap, arith, pos}
use Rattle.mp4_boxes.proofs.Plain.{head_is}
use Rattle.mp4_head.specs.format.Head.{Media, TrackHead, IsMedia, IsTrackHead}
use Rattle.mp4_present.specs.format.Presentation.{Sample, Track, Presentation, IsSample, IsTrack, IsWithinLimits, Valid}
use Rattle.mp4_content.specs.format.TimescalesLaws.{ScaledFirstIsOther, ScaledTwiceIsOther}
use Rattle.mp4_content.proofs.TooLong.{sample, sample_good, one_track, one_track_good}
use Rattle.mp4_content.proofs.LeadInsFlat.{fits_0}

-- ---- one track with a timescale of 2

abbrev in_halves : Track → Track
in_halves t = record t { head = record t.head { media = record t.head.media { timescale = 2 } } }

media_good : (m : Media) → IsMedia m → IsMedia (record m { timescale = 2 })
media_good m h = record {
  creation = h.creation;
  modification = h.modification;
  timescale = omega arith;
  timescale_not_0 = omega arith;
  language = h.language;
  handler = h.handler;
  handler_room = h.handler_room;
  extended_languages = h.extended_languages;
  header = h.header;
  header_bytes = h.header_bytes;
  descriptions = h.descriptions;
}

head_good : (t : TrackHead) → IsTrackHead t → IsTrackHead (record t { media = record t.media { timescale = 2 } })
head_good t h = record {
  flags = h.flags;
  creation = h.creation;
  modification = h.modification;
  id = h.id;
  id_not_0 = h.id_not_0;
  layer = h.layer;
  alternate_group = h.alternate_group;
  volume = h.volume;
  matrix = h.matrix;
  width = h.width;
  height = h.height;
  edits = h.edits;
  kept = h.kept;
  media = media_good t.media h.media;
  group_descriptions = h.group_descriptions;
}

track_good : (t : Track) → IsTrack t → IsTrack (in_halves t)
track_good t h = record { head = head_good t.head h.head; samples = h.samples; keys = h.keys; empty = h.empty }

abbrev halves : List Sample → Presentation
halves samples = record (one_track [] samples) { tracks = map in_halves (one_track [] samples).tracks }

halves_good : (samples : List Sample) → Valid (one_track [] samples) → IsWithinLimits (halves samples) → Valid (halves samples)
halves_good samples v limits = record { movie = v.movie; tracks = (track_good _ v.tracks.0, tt); ids = refl; limits = limits }

-- the timescale of the first track
abbrev first_scale : Presentation → List ℕ
first_scale p = map (λ (t : Track). t.head.media.timescale) p.tracks

-- ---- ends

-- the first and the last last five halves of a second, the others two
abbrev long_ends : List Sample
long_ends = sample 5 (pos 0) ∷ sample 2 (pos 0) ∷ sample 2 (pos 0) ∷ sample 5 (pos 0) ∷ []

lasts : (duration : ℕ) → duration < 2 ^ 32 → IsSample 1 (sample duration (pos 0))
lasts duration h = sample_good duration (pos 0) h fits_0

long_ends_good : Valid (halves long_ends)
long_ends_good =
    halves_good long_ends
    (one_track_good [] long_ends tt (lasts 5 (omega arith), (lasts 2 (omega arith), (lasts 2 (omega arith), (lasts 5 (omega arith), tt)))) (omega arith) (record { samples = omega arith; times = ((omega arith, omega arith), tt); moov = omega arith }))
    (record { samples = omega arith; times = ((omega arith, omega arith), tt); moov = omega arith })

two_is_one : ◌≡◌ {A = List ℕ} (2 ∷ []) (1 ∷ []) → ⊥
two_is_one e = let same = head_is 2 1 [] [] e in omega (arith, same)

pub scaled_first_is_other : ScaledFirstIsOther
scaled_first_is_other = (halves long_ends, long_ends_good, λ e. two_is_one (ap first_scale e))

-- ---- ends and then origins

-- the same, each shown a half of a second late, and the second one a second more
abbrev late : List Sample
late = sample 5 (pos 1) ∷ sample 2 (pos 3) ∷ sample 2 (pos 1) ∷ sample 5 (pos 1) ∷ []

late_good : Valid (halves late)
late_good =
    halves_good late
    (one_track_good [] late tt (sample_good 5 (pos 1) (omega arith) (omega arith), (sample_good 2 (pos 3) (omega arith) (omega arith), (sample_good 2 (pos 1) (omega arith) (omega arith), (sample_good 5 (pos 1) (omega arith) (omega arith), tt)))) (omega arith)
    (record { samples = omega arith; times = ((omega arith, omega arith), tt); moov = omega arith }))
    (record { samples = omega arith; times = ((omega arith, omega arith), tt); moov = omega arith })

pub scaled_twice_is_other : ScaledTwiceIsOther
scaled_twice_is_other = (halves late, late_good, λ e. two_is_one (ap first_scale e))
