-- The order in which pieces come, and why it ends.
use Rattle.std.specs.Prelude.{◌≡◌, ◌<◌, ◌⊎◌, ℕ, ◌+◌, ◌-◌, ◌==◌, min, Bool, true, if◌then◌else◌, List, [], ◌∷◌, Option, Some, None, length, option_map}
use Rattle.std.specs.List.{sum_by}
use Rattle.mp4_present.specs.words.Movies.{MovieSeen}
use Rattle.mp4_tables.specs.declared.sample.SampleAt.{SampleAt}
use Rattle.mp4_content.specs.declared.tracks_left.TrackLeft.{TrackLeft}
use Rattle.mp4_present.specs.declared.track_info.TrackInfo.{TrackInfo}
use Rattle.mp4_plan.specs.format.TurnCount.{most_turns}
use Rattle.mp4_plan.specs.words.Ends.{has_ended}
use Rattle.mp4_plan.specs.declared.ends.End.{End}
use Rattle.mp4_plan.specs.declared.ends.End.TheVariants.{Sync, Before}
use Rattle.mp4_plan.specs.declared.schedule.Schedule.{Schedule}

-- one more turn where another fragment begins, if one does
abbrev pub begins_more : Option ℕ → ℕ
begins_more None = 0
begins_more (Some cut) = 1

-- A bound on how many turns are made where tracks without samples before a cut are passed: each
-- takes a sample, but for the last of the first track.
unfoldable pub turns_left : Schedule → ℕ
turns_left s = s.left + (if s.track == 0 then min s.tracks 1 else begins_more s.next)

-- samples are left, where it is the turn of a track behind the first
abbrev pub IsSomeLeft : Schedule → Type 0
IsSomeLeft s = 0 < s.track → s.track < s.tracks → 0 < s.left

-- the most turns over all samples that opening counted
abbrev pub movie_turns : MovieSeen → ℕ
movie_turns m = most_turns (sum_by (λ (i : TrackInfo). i.samples) m.tracks) (length m.tracks)

-- behind the last track another fragment begins, if one follows
abbrev pub wrapped : Schedule → Option ℕ → Schedule
wrapped s None = s
wrapped s (Some cut) = if s.track == s.tracks then record s { from = cut; next = None; track = 0 }
    else s

-- the first track says when the next fragment begins
abbrev pub track_passed : Schedule → Option ℕ → Schedule
track_passed s time = if s.track == 0 then wrapped (record s { next = time; track = 1 }) time
    else wrapped (record s { track = s.track + 1 }) s.next

-- the timescale of the first of some tracks, 0 without one
abbrev pub first_scale : List TrackLeft → ℕ
first_scale [] = 0
first_scale (t ∷ tracks) = t.timescale

-- where a piece of this turn ends, in a track of this timescale
abbrev pub turn_end : Schedule → ℕ → End
turn_end s scale = if s.track == 0 then Sync s.from scale else Before s.next s.first scale

-- the track's pieces of this fragment are over: no sample is left, or the next one is behind the
-- end
abbrev pub is_over : End → Option SampleAt → Bool
is_over end None = true
is_over end (Some s) = has_ended end s

-- behind a turn that took so many samples, before this one
abbrev pub turned : Schedule → End → ℕ → Option SampleAt → Schedule
turned s end count sample =
    let rest = record s { left = s.left - count } in
    if is_over end sample then track_passed rest (option_map (λ (next : SampleAt). next.dts) sample)
    else rest

-- a turn without samples may pass the track: its pieces are over, and in the first track no sample
-- is left
abbrev pub MayPass : Schedule → End → Option SampleAt → Type 0
MayPass s end sample = (is_over end sample ≡ true) × (s.track ≡ 0 → sample ≡ None)

-- a turn that no file has: more samples than are left, or none but at the end of the first track
abbrev pub Sticks : Schedule → ℕ → Option SampleAt → Type 0
Sticks s count sample = (s.left < count)
    ⊎ ((count ≡ 0) × ¬ ((s.track ≡ 0) × (sample ≡ None)))
