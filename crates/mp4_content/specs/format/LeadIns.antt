-- What is left of a presentation where it doesn't count how its tracks begin, but how long each of
-- them waits. That a track begins later can be said by when its samples begin (8.8.12), by their
-- composition offsets (8.6.1.3) and by edits (8.6.6). Here each track begins at 0, and one empty
-- edit says how much later than the first of them it begins. Where the edits of some track say
-- more, all edits stay.
use Rattle.std.specs.Prelude.{ℕ, zero, ◌-◌, ◌*◌, ◌/◌, ◌^◌, ◌==◌, min, max, not, ◌&&◌, ◌||◌, Bool, true, false, if◌then◌else◌, List, [], ◌∷◌, map, filter, ℤ, pos, negsuc, ◌+ℤ◌, ◌-ℤ◌, ◌*ℤ◌}
use Rattle.std.specs.List.{list_any}
use Rattle.mp4_boxes.specs.format.Bytes.{sum_of}
use Rattle.mp4_head.specs.format.Head.{Edit}
use Rattle.mp4_present.specs.format.Presentation.{Sample, Track, Presentation}
use Rattle.mp4_present.specs.format.Waiting.{microseconds, waiting_all}
use Rattle.mp4_content.specs.format.Reduced.{first_offset}
use Rattle.mp4_content.specs.format.Timescales.{scaled}
use Rattle.mp4_content.specs.declared.without.Without.{Without}

-- ---- edits

-- The media time of an empty edit is -1: nothing of the track is shown in it (8.6.6).
abbrev pub marks_empty : ℤ → Bool
marks_empty (negsuc zero) = true
marks_empty _ = false

abbrev pub is_empty : Edit → Bool
is_empty e = marks_empty e.media_time

abbrev pub is_number : ℕ → ℤ → Bool
is_number n (pos m) = m == n
is_number n (negsuc m) = false

abbrev pub is_from_0 : ℤ → Bool
is_from_0 (pos n) = true
is_from_0 (negsuc n) = false

-- A plain edit shows the track from its media time on, as fast as it is.
abbrev pub is_plain : Edit → Bool
is_plain e = is_from_0 e.media_time && is_number 1 e.rate_integer && is_number 0 e.rate_fraction

abbrev pub is_last : List Edit → Bool
is_last [] = true
is_last (e ∷ edits) = false

-- empty edits, or none, and then one plain edit, the last
abbrev pub is_lead_in : List Edit → Bool
is_lead_in [] = false
is_lead_in (e ∷ edits) = if is_empty e then is_lead_in edits else is_plain e && is_last edits

-- how long the empty ones last, on the movie's time line
abbrev pub waits : List Edit → ℕ
waits edits = sum_of (λ (e : Edit). if is_empty e then e.segment_duration else 0) edits

-- the media time of the first that isn't empty: 0 without edits
abbrev pub shown_from : List Edit → ℤ
shown_from [] = pos 0
shown_from (e ∷ edits) = if is_empty e then shown_from edits else e.media_time

-- ---- tracks

abbrev pub some_sample : List Sample → Bool
some_sample [] = false
some_sample (s ∷ samples) = true

abbrev pub has_samples : Track → Bool
has_samples t = some_sample t.samples

-- Its edits say when it begins, and nothing else but where it is cut off.
abbrev pub begins_simply : Track → Bool
begins_simply t = is_last t.head.edits || is_lead_in t.head.edits

-- it is shown, and its edits say more
abbrev pub says_more : Track → Bool
says_more t = has_samples t && not (begins_simply t)

-- Of each track that has samples the edits say no more than when it begins.
abbrev pub says_beginnings : Presentation → Bool
says_beginnings p = not (list_any says_more p.tracks)

-- a time: so many ticks, of which so many are a second
pub record Moment : Type 0 where
  pub ticks : ℤ
  pub scale : ℕ

-- When the first sample of a track is shown, in a movie of this timescale: after its empty edits,
-- which last so many ticks of the movie, and so many ticks of the track.
abbrev pub first_shown : ℕ → Track → Moment
first_shown scale t = record {
  ticks = pos (waits t.head.edits * t.head.media.timescale)
      +ℤ ((pos t.start +ℤ first_offset t.samples) -ℤ shown_from t.head.edits) *ℤ pos scale;
  scale = scale * t.head.media.timescale;
}

abbrev pub first_moments : ℕ → List Track → List Moment
first_moments scale tracks = map (first_shown scale) (filter has_samples tracks)

-- ---- delays

-- the number itself, or 0 below it
abbrev pub from_0 : ℤ → ℕ
from_0 (pos n) = n
from_0 (negsuc n) = 0

-- as long as an edit can last: that has 64 bits (8.6.6)
abbrev pub max_duration : ℕ
max_duration = 2 ^ 64 - 1

-- how many whole microseconds the first is later than the second, as far as 64 bits go, since an
-- edit says it: 0 where it isn't later
abbrev pub later : Moment → Moment → ℕ
later x y = min max_duration (from_0 (x.ticks *ℤ pos y.scale -ℤ y.ticks *ℤ pos x.scale)
    * microseconds / (x.scale * y.scale))

-- the most by which it is later than any of these: so how much later than the first of them
abbrev pub delay : List Moment → Moment → ℕ
delay [] x = 0
delay (y ∷ moments) x = max (later x y) (delay moments x)

-- ---- what is left

-- how long the tracks of a presentation wait, each as this says of when it begins: one without
-- samples for nothing
abbrev pub wait_of : ℕ → (Moment → ℕ) → Track → ℕ
wait_of scale wait t = if has_samples t then wait (first_shown scale t) else 0

abbrev pub waits_by : (Moment → ℕ) → Presentation → List ℕ
waits_by wait p = map (wait_of p.movie.timescale wait) p.tracks

-- how much later than the first of them
abbrev pub delays_of : Presentation → List ℕ
delays_of p = waits_by (delay (first_moments p.movie.timescale p.tracks)) p

-- Edits that say how long each track waits, where its own say no more than that.
abbrev pub told_by : (Moment → ℕ) → Presentation → Presentation
told_by wait p = if says_beginnings p then waiting_all (waits_by wait p) p else p

abbrev pub offset_less : ℤ → Sample → Sample
offset_less first s = record s { offset = s.offset -ℤ first }

-- a track that begins at 0
abbrev pub begun : Track → Track
begun t = record t {
  start = 0;
  samples = map (offset_less (first_offset t.samples)) t.samples;
}

abbrev pub all_begun : Presentation → Presentation
all_begun p = record p { tracks = map begun p.tracks }

-- Each track begins at 0 and waits as long as this says, where edits say no more than beginnings.
abbrev pub wait_each : (Moment → ℕ) → Presentation → Presentation
wait_each wait p = all_begun (told_by wait p)

-- What is left where, if this is true, it doesn't count how tracks begin.
abbrev pub waited : Bool → Presentation → Presentation
waited b p = if b then wait_each (delay (first_moments p.movie.timescale p.tracks)) p else p

-- All that is left: how tracks begin comes first, and timescales last.
abbrev pub kept : Bool → Bool → Without → Presentation → Presentation
kept b c l p = scaled c l (waited b p)

-- what is left of a presentation where this is left out
abbrev pub left_of : Without → Presentation → Presentation
left_of l p = kept l.lead_ins l.timescales l p

-- ---- the same by words

-- Origins are left out too.
abbrev pub with_origins : Bool → Without → Without
with_origins b l = record l { origins = l.origins || b }

-- what else is left out where this is
abbrev pub words_told : Without → Without
words_told l = with_origins l.lead_ins l

-- edits say how long tracks wait, if this is true
abbrev pub told : Bool → Presentation → Presentation
told b p = if b then told_by (delay (first_moments p.movie.timescale p.tracks)) p else p
