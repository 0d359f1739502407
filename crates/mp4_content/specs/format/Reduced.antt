-- What is left of a presentation where some of what it says doesn't count, as in comparing,
-- archiving and caching files by the rest.
use Rattle.std.specs.Prelude.{ℕ, suc, ◌-◌, ◌*◌, ◌/◌, ◌%◌, ◌^◌, ◌==◌, min, nat_le, not, ◌&&◌, ◌||◌, Bool, if◌then◌else◌, List, [], ◌∷◌, length, take, map, filter, codes, bytes_eq, ℤ, pos, ◌-ℤ◌, FitsSigned}
use Rattle.std.specs.Int.{w32}
use Rattle.std.specs.List.{AllByRecursion}
use Rattle.mp4_boxes.specs.format.Children.{is_among}
use Rattle.mp4_head.specs.format.Head.{Kept, Media, TrackHead, MovieHead, handler_type}
use Rattle.mp4_content.specs.format.BitRates.{entries_left}
use Rattle.mp4_present.specs.format.Presentation.{Sample, Track, Presentation, IsInTime}
use Rattle.mp4_content.specs.format.Zeros.{zeroed}
use Rattle.mp4_content.specs.declared.without.Without.{Without}

-- kept boxes that are metadata: `tref` names other tracks and `elng` refines the language, so they
-- are none
abbrev pub metadata_kinds : List (List ℕ)
metadata_kinds = codes "udta" ∷ codes "meta" ∷ codes "iods" ∷ []

abbrev pub reduce_kept : Without → List Kept → List Kept
reduce_kept l kept = if l.metadata
    then filter (λ (k : Kept). not (is_among metadata_kinds k.kind)) kept else kept

-- of a sample's flags sample_is_non_sync_sample alone (8.8.3.1)
abbrev pub sync_flag : ℕ → ℕ
sync_flag flags = flags / 2 ^ 16 % 2 * 2 ^ 16

-- ---- times

-- Timescales are 1,000 where timing doesn't count (8.2.2, 8.4.2).
abbrev pub timescale_left : Without → ℕ → ℕ
timescale_left l timescale = if l.timing then 1000 else timescale

-- When a track begins: at 0 where timing doesn't count, or where it begins (8.8.12).
abbrev pub start_left : Without → ℕ → ℕ
start_left l start = if l.timing then 0 else if l.origins then 0 else start

-- the sample of this number, from 0, is the first or the last of so many
abbrev pub is_at_end : ℕ → ℕ → Bool
is_at_end count n = (n == 0) || (suc n == count)

-- How long the sample of this number lasts, one of so many (8.6.1.2, 8.8.8): 1 where timing doesn't
-- count, or where it is the first or the last and these don't. A duration of 0 would leave all
-- samples in one fragment.
abbrev pub duration_left : Without → ℕ → ℕ → ℕ → ℕ
duration_left l count n duration =
    if l.timing then 1 else if l.ends && is_at_end count n then 1 else duration

-- A composition offset of a sample, in a track whose first sample has the offset `first` (8.6.1.3,
-- 8.8.8). Where timing doesn't count it is 0. Where timing counts, but not where the track begins,
-- `first` is taken from it.
abbrev pub offset_left : Without → ℤ → ℤ → ℤ
offset_left l first offset =
    if l.timing then pos 0 else if l.origins then offset -ℤ first else offset

-- ---- samples

-- what is left of the sample of this number, of so many of which the first has this offset
abbrev pub reduce_sample : Without → ℕ → ℤ → ℕ → Sample → Sample
reduce_sample l count first n s = record s {
  duration = duration_left l count n s.duration;
  offset = offset_left l first s.offset;
  flags = if l.flags then sync_flag s.flags else s.flags;
  groups = if l.groups then [] else s.groups;
}

-- the same of samples of which the first has this number
abbrev pub reduce_from : Without → ℕ → ℤ → ℕ → List Sample → List Sample
reduce_from l count first n [] = []
reduce_from l count first n (s ∷ samples) =
    reduce_sample l count first n s ∷ reduce_from l count first (suc n) samples

-- the composition offset of the first sample
abbrev pub first_offset : List Sample → ℤ
first_offset [] = pos 0
first_offset (s ∷ samples) = s.offset

-- what is left of all samples of a track
abbrev pub reduce_samples : Without → List Sample → List Sample
reduce_samples l samples = reduce_from l (length samples) (first_offset samples) 0 samples

-- samples stay as they are
abbrev pub keeps_samples : Without → Bool
keeps_samples l = not l.flags && not l.groups && not l.ends && not l.origins && not l.timing

-- ---- names for people

-- `hdlr` without its name, and with zeros in pre_defined and reserved (8.4.3)
abbrev pub plain_handler : List ℕ → List ℕ
plain_handler payload = zeroed 4 4 (zeroed 12 12 (take 24 payload))

-- a VisualSampleEntry, where it is whole, without its compressorname (12.1.3)
abbrev pub plain_picture : Kept → Kept
plain_picture k = record k {
  payload = if nat_le 78 (length k.payload) then zeroed 42 32 k.payload else k.payload;
}

abbrev pub is_picture : List ℕ → Bool
is_picture handler = bytes_eq (handler_type handler) (codes "vide")

-- sample descriptions of a track with this handler
abbrev pub plain_descriptions : List ℕ → List Kept → List Kept
plain_descriptions handler descriptions =
    if is_picture handler then map plain_picture descriptions else descriptions

-- what is left of sample descriptions of a track with this handler: first without bit rates, and
-- without the IDs in them
abbrev pub rates_and_ids_left : Without → List ℕ → List Kept → List Kept
rates_and_ids_left l handler descriptions = if l.bitrates || l.ids
    then entries_left l.bitrates l.ids handler descriptions else descriptions

abbrev pub reduce_descriptions : Without → List ℕ → List Kept → List Kept
reduce_descriptions l handler descriptions =
    if l.labels then plain_descriptions handler (rates_and_ids_left l handler descriptions)
    else rates_and_ids_left l handler descriptions

-- ---- heads

abbrev pub reduce_media : Without → Media → Media
reduce_media l m = record m {
  creation = if l.times then 0 else m.creation;
  modification = if l.times then 0 else m.modification;
  timescale = timescale_left l m.timescale;
  handler = if l.labels then plain_handler m.handler else m.handler;
  descriptions = reduce_descriptions l m.handler m.descriptions;
}

-- of a track's flags "track enabled" alone where roles don't count (8.3.2.3)
abbrev pub track_flags_left : Without → ℕ → ℕ
track_flags_left l flags = if l.roles then flags % 2 else flags

-- a layer or an alternate group, which is 0 there (8.3.2)
abbrev pub role_left : Without → ℤ → ℤ
role_left l role = if l.roles then pos 0 else role

abbrev pub reduce_track_head : Without → TrackHead → TrackHead
reduce_track_head l t = record t {
  flags = track_flags_left l t.flags;
  layer = role_left l t.layer;
  alternate_group = role_left l t.alternate_group;
  creation = if l.times then 0 else t.creation;
  modification = if l.times then 0 else t.modification;
  edits = if l.edits then [] else t.edits;
  kept = reduce_kept l t.kept;
  media = reduce_media l t.media;
  group_descriptions = if l.groups then [] else t.group_descriptions;
}

-- the ID of the track at this place, counted from 1: that place where IDs don't count, as far as 32
-- bits go (8.3.2)
abbrev pub id_left : Without → ℕ → ℕ → ℕ
id_left l place id = if l.ids then min place (2 ^ 32 - 1) else id

abbrev pub number_head : Without → ℕ → TrackHead → TrackHead
number_head l place t = record t { id = id_left l place t.id }

-- the same of heads of which the first stands at this place
abbrev pub number_heads : Without → ℕ → List TrackHead → List TrackHead
number_heads l place [] = []
number_heads l place (t ∷ heads) = number_head l place t ∷ number_heads l (suc place) heads

abbrev pub reduce_movie_head : Without → MovieHead → MovieHead
reduce_movie_head l m = record m {
  creation = if l.times then 0 else m.creation;
  modification = if l.times then 0 else m.modification;
  timescale = timescale_left l m.timescale;
  kept = reduce_kept l m.kept;
}

abbrev pub reduce_track : Without → Track → Track
reduce_track l t = record t {
  head = reduce_track_head l t.head;
  start = start_left l t.start;
  samples = reduce_samples l t.samples;
}

abbrev pub number_track : Without → ℕ → Track → Track
number_track l place t = record t { head = number_head l place t.head }

-- the same of tracks of which the first stands at this place
abbrev pub number_tracks : Without → ℕ → List Track → List Track
number_tracks l place [] = []
number_tracks l place (t ∷ tracks) = number_track l place t ∷ number_tracks l (suc place) tracks

-- what is left of a presentation
abbrev pub reduce : Without → Presentation → Presentation
reduce l p = record {
  movie = reduce_movie_head l p.movie;
  tracks = number_tracks l 1 (map (reduce_track l) p.tracks);
}

-- Its tracks are not too long: without its edits a track is as long as its samples are, and without
-- its ends it may last a little longer.
abbrev pub ReducesInTime : Without → Presentation → Type 0
ReducesInTime l p = AllByRecursion
    (λ (t : Track). IsInTime (timescale_left l p.movie.timescale) (reduce_track l t)) p.tracks

-- Each composition offset that is left fits its field.
abbrev pub HasNearOffsets : Track → Type 0
HasNearOffsets t = AllByRecursion (λ (s : Sample). FitsSigned w32 s.offset) t.samples

abbrev pub ReducesInRange : Without → Presentation → Type 0
ReducesInRange l p = AllByRecursion (λ (t : Track). HasNearOffsets (reduce_track l t)) p.tracks
