-- When a track begins, in the numbers from which delays are found.
use Rattle.std.specs.Prelude.{◌≡◌, ℕ, ◌*◌, ◌^◌, ◌<◌, Bool, true, false, if◌then◌else◌, List, [], ◌∷◌, Option, None, Some, IfSome, pos, ◌+ℤ◌, ◌-ℤ◌, ◌*ℤ◌, int_lt}
use Rattle.std.specs.List.{AllByRecursion, AllZip, list_any}
use Rattle.mp4_present.specs.format.Presentation.{Track, Presentation}
use Rattle.mp4_content.specs.format.LeadIns.{Moment, has_samples, says_more, says_beginnings, first_shown, later, delay, delays_of}
use Rattle.mp4_content.specs.format.LeadInsLaws.{Among}
use Rattle.mp4_content.specs.declared.delays.Beginning.{Beginning}

-- in a movie of this timescale
abbrev pub moment_of : ℕ → Beginning → Moment
moment_of scale b = record {
  ticks = pos (b.waits * b.timescale) +ℤ (pos b.later -ℤ pos b.earlier) *ℤ pos scale;
  scale = scale * b.timescale;
}

-- It has a timescale, and its numbers of ticks leave room: sums of numbers of 64 bits do, of as
-- many as there is memory for.
pub record CanBegin (b : Beginning) : Type 0 where
  pub timescale : 0 < b.timescale
  pub waits : b.waits < 2 ^ 126
  pub later : b.later < 2 ^ 126
  pub earlier : b.earlier < 2 ^ 126

-- the first begins before the second
abbrev pub is_before : Moment → Moment → Bool
is_before x y = int_lt (x.ticks *ℤ pos y.scale) (y.ticks *ℤ pos x.scale)

-- the earlier of two, where there are two
abbrev pub earlier_of : ℕ → Option Beginning → Option Beginning → Option Beginning
earlier_of scale None two = two
earlier_of scale (Some one) None = Some one
earlier_of scale (Some one) (Some two) =
    if is_before (moment_of scale two) (moment_of scale one) then Some two else Some one

-- ---- of all tracks

-- a track's beginning, and none where it has no samples
abbrev pub SaysBeginning : Track → Option Beginning → Type 0
SaysBeginning t None = has_samples t ≡ false
SaysBeginning t (Some b) = (has_samples t ≡ true)
    × ((scale : ℕ) → moment_of scale b ≡ first_shown scale t)

-- those of all tracks, whose edits say no more; none where the edits of one do
abbrev pub SayBeginnings : List Track → Option (List (Option Beginning)) → Type 0
SayBeginnings tracks None = list_any says_more tracks ≡ true
SayBeginnings tracks (Some found) = (list_any says_more tracks ≡ false)
    × AllZip SaysBeginning tracks found

abbrev pub AllCanBegin : List (Option Beginning) → Type 0
AllCanBegin found = AllByRecursion (λ one. IfSome one CanBegin) found

-- when these begin
abbrev pub moments_in : ℕ → List (Option Beginning) → List Moment
moments_in scale [] = []
moments_in scale (None ∷ found) = moments_in scale found
moments_in scale (Some b ∷ found) = moment_of scale b ∷ moments_in scale found

-- The first of these, if there is one: what is later than any of them is as much later than it.
abbrev pub IsFirstOf : ℕ → List (Option Beginning) → Option Beginning → Type 0
IsFirstOf scale found None = moments_in scale found ≡ []
IsFirstOf scale found (Some b) = CanBegin b × Among (moment_of scale b) (moments_in scale found)
    × ((y : Moment) → 0 < y.scale → delay (moments_in scale found) y ≡ later y (moment_of scale b))

-- how much later a track begins than the first, if there is one: one without samples not at all
abbrev pub later_than : ℕ → Option Beginning → Option Beginning → ℕ
later_than scale first None = 0
later_than scale None (Some b) = 0
later_than scale (Some first) (Some b) = later (moment_of scale b) (moment_of scale first)

-- how long each track waits, where edits say no more than when they begin
abbrev pub told_waits : Presentation → Option (List ℕ)
told_waits p = if says_beginnings p then Some (delays_of p) else None
