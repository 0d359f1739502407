-- Laws of turns: each takes the first of the pieces that are left, and where a track passes none is
-- lost.
use Rattle.std.specs.Prelude.{◌≡◌, ℕ, zero, suc, ◌<◌, ◌≤◌, ◌==◌, ◌&&◌, not, Bool, true, List, [], ◌∷◌, ◌++◌, length, take, drop, Option, Some, None}
use Rattle.std.specs.List.{AllByRecursion, prefix_len}
use Rattle.mp4_content.specs.format.TimedSamples.{TimedSample}
use Rattle.mp4_plan.specs.format.Pieces.{Piece}
use Rattle.mp4_plan.specs.format.Normal.{first_description}
use Rattle.mp4_plan.specs.words.PiecesComing.{Coming, stops, rest, end_of_first, end_of_other, pieces_left}
use Rattle.mp4_plan.specs.words.Turns.{track_passed}
use Rattle.mp4_plan.specs.declared.ends.End.{End}
use Rattle.mp4_plan.specs.declared.schedule.Schedule.{Schedule}

-- ---- a turn

-- a sample goes into a piece with this end and description
abbrev pub goes : End → ℕ → TimedSample → Bool
goes end description s = not (stops end s) && s.sample.description == description

-- how many of the next samples a turn takes: up to the first at which the piece has ended, or of
-- another description
abbrev pub turn_count : End → List TimedSample → ℕ
turn_count end samples = prefix_len (goes end (first_description samples)) samples

-- the piece of some samples, if there are any
abbrev pub piece_if : ℕ → List TimedSample → List Piece
piece_if id [] = []
piece_if id (s ∷ samples) = record { id = id; samples = s ∷ samples } ∷ []

abbrev pub taken_by : End → Coming → List Piece
taken_by end t = piece_if t.id (take (turn_count end t.samples) t.samples)

abbrev pub after_turn : End → Coming → Coming
after_turn end t = record {
  id = t.id;
  timescale = t.timescale;
  samples = drop (turn_count end t.samples) t.samples;
}

-- the piece has ended: no sample is left, or it ends where the next one comes
abbrev pub IsOver : End → List TimedSample → Type 0
IsOver end [] = Unit {0}
IsOver end (s ∷ samples) = stops end s ≡ true

abbrev pub next_time : List TimedSample → Option ℕ
next_time [] = None
next_time (s ∷ samples) = Some s.time

-- ---- a place in the order of pieces

-- the tracks before this one have passed
abbrev pub HavePassed : Option ℕ → ℕ → ℕ → List Coming → Type 0
HavePassed next first zero others = Unit {0}
HavePassed next first (suc i) others =
    AllByRecursion (λ (t : Coming). rest (stops (end_of_other next first t)) t.samples ≡ t.samples)
    (take i others)

-- the schedule stands somewhere among these tracks; behind the last of them it stands only where no
-- fragment follows
pub record IsAmong (s : Schedule) (first : Coming) (others : List Coming) : Type 0 where
  pub tracks : s.tracks ≡ suc (length others)
  pub track : s.track ≤ s.tracks
  pub timescale : 0 < first.timescale
  pub passed : HavePassed s.next first.timescale s.track others
  pub over : s.track ≡ s.tracks → s.next ≡ None

-- ---- laws

-- A turn of the first track takes the first of the pieces that are left.
abbrev pub FirstTakes : Type 0
FirstTakes = (s : Schedule) (first : Coming) (others : List Coming) → s.track ≡ 0
    → IsAmong s first others
    → (pieces_left s first others ≡ taken_by (end_of_first s.from first) first
    ++ pieces_left s (after_turn (end_of_first s.from first) first) others)
    × IsAmong s (after_turn (end_of_first s.from first) first) others

-- So does one of another track.
abbrev pub OtherTakes : Type 0
OtherTakes = (s : Schedule) (first : Coming) (before after : List Coming) (t : Coming)
    → s.track ≡ suc (length before) → IsAmong s first (before ++ t ∷ after)
    → (let end = end_of_other s.next first.timescale t in
    (pieces_left s first (before ++ t ∷ after) ≡ taken_by end t
    ++ pieces_left s first (before ++ after_turn end t ∷ after))
    × IsAmong s first (before ++ after_turn end t ∷ after))

-- Where the piece of a track has ended, the same pieces are left when it has passed.
abbrev pub FirstPasses : Type 0
FirstPasses = (s : Schedule) (first : Coming) (others : List Coming) → s.track ≡ 0
    → IsAmong s first others → IsOver (end_of_first s.from first) first.samples
    → (pieces_left s first others
    ≡ pieces_left (track_passed s (next_time first.samples)) first others)
    × IsAmong (track_passed s (next_time first.samples)) first others

abbrev pub OtherPasses : Type 0
OtherPasses = (s : Schedule) (first : Coming) (before after : List Coming) (t : Coming)
    (time : Option ℕ) → s.track ≡ suc (length before) → IsAmong s first (before ++ t ∷ after)
    → IsOver (end_of_other s.next first.timescale t) t.samples
    → (pieces_left s first (before ++ t ∷ after)
    ≡ pieces_left (track_passed s time) first (before ++ t ∷ after))
    × IsAmong (track_passed s time) first (before ++ t ∷ after)

-- Behind the last track none is left.
abbrev pub NoneLeft : Type 0
NoneLeft = (s : Schedule) (first : Coming) (others : List Coming) → IsAmong s first others
    → s.track ≡ s.tracks → pieces_left s first others ≡ []

-- So turns take the pieces that are left one after the other.
pub record TurnsTakeAll : Type 0 where
  pub first_takes : FirstTakes
  pub other_takes : OtherTakes
  pub first_passes : FirstPasses
  pub other_passes : OtherPasses
  pub none_left : NoneLeft
