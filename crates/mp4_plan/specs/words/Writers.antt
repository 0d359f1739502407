-- A writer of the normal form of a movie.
use Rattle.std.specs.Prelude.{◌≡◌, ℕ, ◌+◌, ◌-◌, ◌^◌, ◌≤◌, max, min, nat_lt, if◌then◌else◌, List, [], ◌∷◌, ◌++◌, length, take, drop, map, fold, Option, Some, None, slice_get, slice_set}
use Rattle.std.specs.List.{AllByRecursion}
use Rattle.mp4_boxes.specs.declared.refusal.Refusal.{Refusal}
use Rattle.mp4_boxes.specs.declared.refusal.Refusal.TheVariants as refusals
use Rattle.mp4_boxes.specs.format.Written.{header_length}
use Rattle.mp4_head.specs.format.Tree.{TrackTree}
use Rattle.mp4_head.specs.format.Writing as written
use Rattle.mp4_tables.specs.format.Groups.{GroupKey}
use Rattle.mp4_present.specs.words.Carried.{waiting}
use Rattle.mp4_content.specs.format.Remaining.{RemainsInRange}
use Rattle.mp4_content.specs.declared.without.Without.{Without}
use Rattle.mp4_present.specs.format.Denotes.{FileTree, presentation_of}
use Rattle.mp4_present.specs.words.Joined.{sample_bytes}
use Rattle.mp4_present.specs.words.SamplesComing.{traf_total}
use Rattle.mp4_present.specs.words.Movies.{MovieSeen, IsWalkOf, mark_of}
use Rattle.mp4_present.specs.format.Presentation.{Presentation, heads, movie_length}
use Rattle.mp4_present.specs.declared.walking.Walk.{Walk}
use Rattle.mp4_tables.specs.declared.sample.SampleAt.{SampleAt}
use Rattle.mp4_content.specs.words.Scales.{AreScales}
use Rattle.mp4_content.specs.words.ComingLess.{ComesLess, left_samples, track_reduction, reductions_of}
use Rattle.mp4_content.specs.words.Contents.{IsContentOf, content_left}
use Rattle.mp4_plan.specs.words.DueTracks.{IsDueTree}
use Rattle.mp4_content.specs.words.GoneOn.{ComesMarked}
use Rattle.mp4_plan.specs.words.OwnRooms.{own_rooms}
use Rattle.mp4_plan.specs.words.Sizes.{moof_sizes}
use Rattle.mp4_plan.specs.format.Pieces.{Piece, pieces}
use Rattle.mp4_head.specs.words.Seen.{movie_seen, tracks_seen}
use Rattle.mp4_head.specs.declared.heads.MovieHead.{MovieHead}
use Rattle.mp4_plan.specs.words.Stretches.{Tells}
use Rattle.mp4_plan.specs.words.Taken.{piece_front, row_seen}
use Rattle.mp4_plan.specs.declared.moof_front.PieceHead.{PieceHead}
use Rattle.mp4_plan.specs.declared.planner.Planned.{Planned}
use Rattle.mp4_plan.specs.words.Gathering.{planned_of, piece_fed, piece_from}
use Rattle.mp4_plan.specs.declared.schedule.Turn.{Turn}
use Rattle.mp4_plan.specs.declared.writer.Noted.{Noted}
use Rattle.mp4_plan.specs.declared.writer.Writer.{Writer}
use Rattle.mp4_plan.specs.format.Normal.{pieces_bytes}

-- a walk for each track of the movie
pub record AreWalksOf (m : MovieSeen) (walks : List Walk) : Type 0 where
  pub each : AllByRecursion (IsWalkOf m) walks
  pub count : length walks ≡ length m.tracks

-- a writer of this movie
pub record IsWriterOf (m : MovieSeen) (w : Writer) : Type 0 where
  pub walks : AreWalksOf m w.walks.items
  pub few : length w.notes.rows.items ≤ 2 ^ 24
  pub nexts : length w.nexts.items ≡ length m.tracks
  pub content : IsContentOf m w.content
  pub due : IsDueTree w.due
  pub many : w.due.leaves ≡ length m.tracks

-- Why what was read before is not made again: there is no memory, or the bytes are others.
abbrev pub RefusesMemory : Refusal → Type 0
RefusesMemory refusals.Memory = Unit {0}
RefusesMemory refusals.StoreChanged = Unit {0}
RefusesMemory _ = ⊥

-- what a piece of so many samples says once, of which the first is this one
abbrev pub turn_head : ℕ → ℕ → ℕ → Option SampleAt → Option PieceHead
turn_head sequence id count None = None
turn_head sequence id count (Some s) = if nat_lt 0 count
    then Some (record { sequence = sequence; id = id; time = s.dts; description = s.description })
    else None

-- the sequence number behind a piece, as far as 32 bits go
abbrev pub sequence_behind : ℕ → Option PieceHead → ℕ
sequence_behind sequence None = sequence
sequence_behind sequence (Some head) = min (sequence + 1) (2 ^ 32 - 1)

-- ---- over an opened file

-- for each track a walk of which these samples come
abbrev pub AllCome : Without → List ℕ → FileTree → MovieSeen → List TrackTree → List Walk
    → List (List SampleAt) → Type 0
AllCome l file tree m [] [] [] = Unit {0}
AllCome l file tree m (t ∷ trees) (w ∷ walks) (samples ∷ more) =
    ComesLess (track_reduction l file tree t) file tree t m w samples
    × AllCome l file tree m trees walks more
AllCome l file tree m _ _ _ = ⊥

-- for each track a walk from its first sample on
abbrev pub AllBegin : Without → List ℕ → FileTree → MovieSeen → List Walk → Type 0
AllBegin l file tree m walks = AllCome l file tree m tree.movie.tracks walks
    (map (left_samples l file tree) tree.movie.tracks)

-- each of these walks has marked where it stands, before so many samples
abbrev pub AreMarked : List Walk → List (List SampleAt) → Type 0
AreMarked [] [] = Unit {0}
AreMarked (w ∷ walks) (samples ∷ more) = (w.mark ≡ mark_of w (length samples))
    × AreMarked walks more
AreMarked _ _ = ⊥

-- the most samples of a piece
abbrev pub longest_piece : List Piece → ℕ
longest_piece pieces = fold (λ most (piece : Piece). max most (length piece.samples)) 0 pieces

-- `ftyp` and `moov` of the normal form
abbrev pub head_of_normal : Presentation → List ℕ
head_of_normal p = written.head_bytes p.movie (heads p) (movie_length p)

-- this head, with this length of the longest track, is that of the normal form, and is short
pub record IsHeadOf (p : Presentation) (head : MovieHead) (mehd : ℕ) : Type 0 where
  pub bytes : written.head_bytes (movie_seen head) (tracks_seen head) mehd ≡ head_of_normal p
  pub short : length (head_of_normal p) ≤ 2 ^ 30 + 24

-- A writer that has put nothing yet, of what is left of a presentation: the head of the normal form
-- waits, or its front, with the rest behind it, and there are as many rows as the longest piece has
-- samples.
pub record IsReady (file : List ℕ) (tree : FileTree) (m : MovieSeen) (w : Writer) : Type 0 where
  pub head : waiting w.carrier ++ w.head.items
      ≡ head_of_normal (content_left w.content file tree)
  pub rows : length w.notes.rows.items
      ≡ longest_piece (pieces (content_left w.content file tree))
  pub range : RemainsInRange w.content.leaving (presentation_of file tree)
  pub scales : AreScales w.content.leaving file tree w.content.scales
  pub reductions : w.content.of_tracks.items ≡ reductions_of w.content.leaving file tree
  pub walks : AllBegin w.content.leaving file tree m w.walks.items
  pub marked : AreMarked w.walks.items
      (map (left_samples w.content.leaving file tree) tree.movie.tracks)

-- it is, and its walks have no more room together than the `traf`s of the file are long, and these
-- lie in the file
pub record IsReadyWithin (file : List ℕ) (tree : FileTree) (m : MovieSeen) (w : Writer)
    : Type 0 where
  pub ready : IsReady file tree m w
  pub rooms : own_rooms m (length m.tracks) ≤ traf_total tree
  pub trafs : traf_total tree ≤ length file

-- What was noted at a turn, of a track of which these samples come: a piece of them. Its walk can
-- go back to where it stood.
pub record HasNoted (file : List ℕ) (tree : FileTree) (t : TrackTree) (m : MovieSeen) (turn : Turn)
    (sequence : ℕ) (left : List SampleAt) (before after : Writer) (n : Noted) : Type 0 where
  pub planned : n.planned ≡ planned_of (piece_fed (piece_from turn.end) left).gathered
  pub head : n.head ≡ turn_head sequence turn.id n.planned.count (slice_get left 0)
  pub rows : take n.planned.count after.notes.rows.items ≡ map row_seen (take n.planned.count left)
  pub walk : Walk
  pub walks : after.walks.items ≡ slice_set before.walks.items turn.track walk
  pub comes : ComesMarked (track_reduction before.content.leaving file tree t)
      file tree t m walk n.planned.count
      left
  pub none : n.planned.count ≡ 0 → walk.mark ≡ mark_of walk (length left)
  pub stretches : Tells after.notes.stretches (take n.planned.count left)

-- what is written of a piece, by what was planned of its samples
abbrev pub bytes_of_piece : List ℕ → PieceHead → Planned → List GroupKey → List SampleAt → List ℕ
bytes_of_piece file head p keys samples = piece_front head p keys (map row_seen samples)
    ++ sample_bytes file samples

-- what is written at a turn: a piece, or nothing where it has no head
abbrev pub turn_bytes : List ℕ → Option PieceHead → Planned → List GroupKey → List SampleAt → List ℕ
turn_bytes file None p keys samples = []
turn_bytes file (Some head) p keys samples = bytes_of_piece file head p keys samples

-- The samples of a track that are to be copied were noted, so many of them: their rows, and where
-- their bytes lie.
pub record IsNoted (file : List ℕ) (tree : FileTree) (m : MovieSeen) (track count : ℕ)
    (samples : List SampleAt) (w : Writer) : Type 0 where
  pub t : TrackTree
  pub walk : Walk
  pub is_walk : slice_get w.walks.items track ≡ Some walk
  pub reduction : slice_get w.content.of_tracks.items track
      ≡ Some (track_reduction w.content.leaving file tree t)
  pub comes : ComesMarked (track_reduction w.content.leaving file tree t)
      file tree t m walk count samples
  pub none : count ≡ 0 → walk.mark ≡ mark_of walk (length samples)
  pub next : slice_get w.nexts.items track ≡ Some (slice_get samples 0)
  pub rows : take count w.notes.rows.items ≡ map row_seen (take count samples)
  pub stretches : Tells w.notes.stretches (take count samples)

-- so many samples of a track were copied, and its walk has marked where it stands before the next
abbrev pub HaveCopied : List ℕ → FileTree → MovieSeen → TrackTree → ℕ → ℕ → List SampleAt → Writer
    → Writer → Type 0
HaveCopied file tree m t track count samples before after =
    (next : Walk) × (after.walks.items ≡ slice_set before.walks.items track next)
    × (after.nexts.items ≡ slice_set before.nexts.items track (slice_get (drop count samples) 0))
    × ComesLess (track_reduction before.content.leaving file tree t) file tree t m next
    (drop count samples)
    × (next.mark ≡ mark_of next (length (drop count samples)))

-- the next sample of each track
abbrev pub firsts : List (List SampleAt) → List (Option SampleAt)
firsts lefts = map (λ (left : List SampleAt). slice_get left 0) lefts

-- when the first of the first of some tracks begins, 0 where there is none
abbrev pub first_dts : List (List SampleAt) → ℕ
first_dts [] = 0
first_dts ([] ∷ lefts) = 0
first_dts ((s ∷ samples) ∷ lefts) = s.dts

-- The bytes of all pieces of a presentation are so many, and far below 2^64.
pub record ArePiecesLong (p : Presentation) (n : ℕ) : Type 0 where
  pub len : n ≡ length (pieces_bytes 1 (pieces p))
  pub within : n ≤ 2 ^ 57

-- the bytes of a piece, by what was planned of it
abbrev pub planned_length : Planned → List GroupKey → ℕ
planned_length p keys = (moof_sizes p keys).moof + header_length p.bytes + p.bytes
