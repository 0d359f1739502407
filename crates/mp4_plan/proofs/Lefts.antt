-- What is left of the tracks of a file at a turn: samples as the file has them, and as the presentation does.
use Rattle.std.specs.Prelude.{◌≡◌, ◌<◌, ℕ, false, List, [], ◌∷◌, length, map}
use Rattle.std.specs.List.{sum_by}
use Rattle.mp4_tables.specs.words.Keys.{keys_seen}
use Rattle.mp4_tables.specs.declared.sample.SampleAt.{SampleAt}
use Rattle.mp4_present.specs.declared.track_info.TrackInfo.{TrackInfo}
use Rattle.mp4_content.specs.format.TimedSamples.{TimedSample}
use Rattle.mp4_plan.specs.format.Pieces.{Piece}
use Rattle.mp4_plan.specs.words.PiecesComing.{Coming, stops, end_of_first, pieces_left}
use Rattle.mp4_content.specs.words.TakenSamples.{AreTaken}
use Rattle.mp4_plan.specs.words.TurnLaws.{IsAmong, next_time}
use Rattle.mp4_plan.specs.declared.ends.End.{End}
use Rattle.mp4_plan.specs.declared.schedule.Schedule.{Schedule}
use Rattle.std.proofs.Common.{arith, refl}
use Rattle.std.proofs.lemmas.List.Sums.{sum_by-cons}
use Rattle.mp4_head.specs.format.Tree.{TrackTree}
use Rattle.mp4_present.specs.format.Denotes.{FileTree}
use Rattle.mp4_present.specs.words.SamplesComing.{track_samples}
use Rattle.mp4_content.specs.words.ComingLess.{left_samples, track_reduction}
use Rattle.mp4_content.specs.declared.without.Without.{Without}
use Rattle.mp4_content.proofs.ReducedTaken.{less_length}

-- These samples of a track in numbers are left, and as those of a presentation they are these.
pub record IsLeft (file : List ℕ) (info : TrackInfo) (left : List SampleAt) (c : Coming) : Type 0 where
  pub id : c.id ≡ info.id
  pub timescale : c.timescale ≡ info.timescale
  pub taken : AreTaken file (keys_seen info.keys) left c.samples

-- the same of all tracks, in order
abbrev pub AreLeft : List ℕ → List TrackInfo → List (List SampleAt) → List Coming → Type 0
AreLeft file [] [] [] = Unit {0}
AreLeft file (info ∷ infos) (left ∷ lefts) (c ∷ comings) = IsLeft file info left c × AreLeft file infos lefts comings
AreLeft file _ _ _ = ⊥

-- how many samples are left
abbrev pub left_count : List (List SampleAt) → ℕ
left_count lefts = sum_by (λ (left : List SampleAt). length left) lefts

-- of all tracks
pub less_counted : (l : Without) (file : List ℕ) (tree : FileTree) (trees : List TrackTree) → left_count (map (left_samples l file tree) trees) ≡ left_count (map (track_samples tree) trees)
less_counted l file tree [] = refl
less_counted l file tree (t ∷ trees) =
    let here = less_length (track_reduction l file tree t) (track_samples tree t) in
    let more = less_counted l file tree trees in
    let a = sum_by-cons (λ (x : List SampleAt). length x) (left_samples l file tree t) (map (left_samples l file tree) trees) in
    let b = sum_by-cons (λ (x : List SampleAt). length x) (track_samples tree t) (map (track_samples tree) trees) in
    omega (arith, here, more, a, b)

-- the first of some samples does not end a piece
abbrev pub IsFresh : End → List TimedSample → Type 0
IsFresh end [] = Unit {0}
IsFresh end (s ∷ samples) = stops end s ≡ false

-- A schedule stands among these tracks: where it is the first one's turn, that has samples or is over; behind it the next fragment begins with its next sample.
pub record StandsIn (s : Schedule) (first : Coming) (others : List Coming) : Type 0 where
  pub among : IsAmong s first others
  pub scale : s.first ≡ first.timescale
  pub fresh : s.track ≡ 0 → IsFresh (end_of_first s.from first) first.samples
  pub next : 0 < s.track → s.next ≡ next_time first.samples

abbrev pub StandsAmong : Schedule → List Coming → Type 0
StandsAmong s [] = s.tracks ≡ 0
StandsAmong s (first ∷ others) = StandsIn s first others

-- the pieces that are left
abbrev pub pieces_from : Schedule → List Coming → List Piece
pieces_from s [] = []
pieces_from s (first ∷ others) = pieces_left s first others

-- A turn of a schedule over tracks of which these samples are left.
pub record IsTurn (file : List ℕ) (infos : List TrackInfo) (s : Schedule) (lefts : List (List SampleAt)) (comings : List Coming) : Type 0 where
  pub each : AreLeft file infos lefts comings
  pub among : StandsAmong s comings
  pub left : s.left ≡ left_count lefts
