-- The walks of a writer, and what it notes and takes along of a track, said of the store that it
-- reads. `S` is what a bound says of the store's type.
use Rattle.std.specs.Prelude.{◌≡◌, ℕ, ◌+◌, ◌*◌, ◌^◌, ◌<◌, ◌≤◌, List, length, map, slice_get, Some, None, Result, MatchResult, OnOk}
use Rattle.mp4_store.specs.declared.store.Store.{Ghosts as Store}
use Rattle.mp4_tables.specs.format.Groups.{GroupKey}
use Rattle.mp4_tables.specs.words.Keys.{keys_seen}
use Rattle.mp4_tables.specs.declared.sample.SampleAt.{SampleAt}
use Rattle.mp4_head.specs.format.Tree.{TrackTree}
use Rattle.mp4_present.specs.format.Denotes.{FileTree}
use Rattle.mp4_present.specs.words.Movies.{MovieSeen, mark_of}
use Rattle.mp4_present.specs.words.OpenedMovie.{IsOpenedAs}
use Rattle.mp4_content.specs.declared.without.Without.{Without}
use Rattle.mp4_present.specs.declared.track_info.TrackInfo.{TrackInfo}
use Rattle.mp4_present.specs.declared.walking.Walk.{Walk}
use Rattle.mp4_plan.specs.format.Held as memory
use Rattle.mp4_content.specs.words.ComingLess.{ComesLess, left_samples, track_reduction, reductions_of}
use Rattle.mp4_content.specs.words.Opened.{OverOpened}
use Rattle.mp4_plan.specs.words.ReducedWalks.{HasBounds}
use Rattle.mp4_plan.specs.words.OwnRooms.{own_rooms}
use Rattle.mp4_plan.specs.words.UsedKeys.{AreApart}
use Rattle.mp4_plan.specs.words.WriterSteps.{AllFinishOn, AllTakeOn, AllWriteOn, MayAllBegin, MayAllFinish, MayAllTake, MayAllWrite, WriteAllBegin}
use Rattle.mp4_plan.specs.words.Writers.{AllBegin, AllCome, AreMarked, AreWalksOf, IsNoted, IsWriterOf}
use Rattle.mp4_plan.specs.declared.planner.Planned.{Planned}
use Rattle.mp4_content.specs.declared.content.Content.{Content}
use Rattle.mp4_plan.specs.declared.schedule.Turn.{Turn}
use Rattle.mp4_plan.specs.declared.writer.Noted.{Noted}
use Rattle.mp4_plan.specs.declared.writer.Writer.{Writer}

-- ---- the walks over all tracks

-- a walk for each track: together they have the rooms that the tracks need, at most the longest for
-- each
pub record HaveRooms (m : MovieSeen) (all : List Walk) : Type 0 where
  pub walks : AreWalksOf m all
  pub rooms : memory.rooms all ≡ own_rooms m (length m.tracks)
  pub within : memory.rooms all ≤ length m.tracks * m.longest

-- These walks begin, in each file from which the movie was opened: all samples are to come, and
-- each walk has marked where it stands. They take no more steps together than walks over all
-- samples, and no more to write than writing takes.
pub record AllStart (m : MovieSeen) (walks : List Walk) : Type 0 where
  pub begin : (file : List ℕ) (tree : FileTree) → IsOpenedAs file m tree → (l : Without)
      → AllBegin l file tree m walks
  pub marked : (file : List ℕ) (tree : FileTree) → IsOpenedAs file m tree → (l : Without)
      → AreMarked walks (map (left_samples l file tree) tree.movie.tracks)
  pub may : (file : List ℕ) (tree : FileTree) → IsOpenedAs file m tree
      → MayAllBegin file tree walks
  pub writes : (file : List ℕ) (tree : FileTree) → IsOpenedAs file m tree
      → WriteAllBegin file tree m walks

-- this is left of the samples that each of these walks has to come
abbrev pub AllComeLess : Content → List ℕ → FileTree → MovieSeen → List Walk
    → List (List SampleAt) → Type 0
AllComeLess c file tree m walks lefts =
    AllCome c.leaving file tree m tree.movie.tracks walks lefts

-- over an honest store that has the file from which the movie was opened, where the samples of its
-- tracks are left by these: it is so of what is left of the samples that each of these walks has to
-- come
abbrev pub WhereAllCome : {X : Type 0} → Store X → X → MovieSeen → Content → List Walk
    → (List ℕ → FileTree → List (List SampleAt) → Type 0) → Type 0
WhereAllCome S store m c walks P = OverOpened S store m (λ file tree.
    (lefts : List (List SampleAt)) → c.of_tracks.items ≡ reductions_of c.leaving file tree
    → AllComeLess c file tree m walks lefts → P file tree lefts)

-- of the steps that these walks may take together, they take some: at Ok the others are left to
-- them, and at Err they took no more than all
abbrev pub StepsOfAll : {X T E : Type 0} → Store X → X → MovieSeen → List Walk → List Walk
    → Result T E → ℕ → ℕ → Type 0
StepsOfAll S store m walks walks_after result old new = OverOpened S store m (λ file tree.
    (n : ℕ) → MayAllTake file tree tree.movie.tracks walks n → MatchResult result
    (λ _. AllTakeOn file tree n walks_after old new) (λ _. new ≤ old + n))

-- the same of the steps that they may take to write
abbrev pub StepsToWrite : {X T E : Type 0} → Store X → X → MovieSeen → List Walk → List Walk
    → Result T E → ℕ → ℕ → Type 0
StepsToWrite S store m walks walks_after result old new = OverOpened S store m (λ file tree.
    (n : ℕ) → MayAllWrite file tree m walks n → MatchResult result
    (λ _. AllWriteOn file tree m n walks_after old new) (λ _. new ≤ old + n))

-- ---- a turn

-- over an honest store that has the file from which the movie was opened: it is so of what is left
-- of the samples of the track whose turn it is, where its walk has marked its place before them,
-- and the first of them is its next
abbrev pub OnTurn : {X : Type 0} → Store X → X → MovieSeen → Turn → Writer
    → (List ℕ → FileTree → TrackTree → List SampleAt → Type 0) → Type 0
OnTurn S store m turn w P = OverOpened S store m (λ file tree. (t : TrackTree) (walk : Walk)
    (left : List SampleAt) → slice_get w.walks.items turn.track ≡ Some walk
    → slice_get w.content.of_tracks.items turn.track
    ≡ Some (track_reduction w.content.leaving file tree t)
    → ComesLess (track_reduction w.content.leaving file tree t) file tree t m walk left
    → walk.mark ≡ mark_of walk (length left)
    → slice_get w.nexts.items turn.track ≡ Some (slice_get left 0) → P file tree t left)

-- it stays a writer of this movie, holds as much, and keeps all but what it notes
pub record OnlyNotes {T E : Type 0} (m : MovieSeen) (w w_after : Writer) (result : Result T E)
    : Type 0 where
  pub writer : OnOk result (IsWriterOf m w_after)
  pub held : memory.held_bytes w_after ≡ memory.held_bytes w
  pub content : w_after.content ≡ w.content
  pub keeps : (w_after.carrier ≡ w.carrier)
      × (length w_after.notes.rows.items ≡ length w.notes.rows.items) × (w_after.nexts ≡ w.nexts)
      × (w_after.due ≡ w.due)

-- what was planned has bounds, with at most so many samples, and none where it has no head
pub record IsPlanned (most : ℕ) (n : Noted) : Type 0 where
  pub bounds : HasBounds most n.planned
  pub room : n.planned.bytes + 16 < 2 ^ 64
  pub none : n.head ≡ None → n.planned.count ≡ 0

-- of the steps that its walks may take to write, it takes some to note: at Ok the others are left
-- to them, and at Err it took no more than all
abbrev pub StepsToNote : {X E : Type 0} → Store X → X → MovieSeen → ℕ → Writer → Writer
    → Result Noted E → ℕ → ℕ → Type 0
StepsToNote S store m track w w_after result old new = OverOpened S store m (λ file tree. (n : ℕ)
    → MayAllWrite file tree m w.walks.items n → MatchResult result
    (λ noted. AllFinishOn w.content.of_tracks.items file tree m track noted.planned.count n
    w_after.walks.items old new) (λ _. new ≤ old + n))

-- ---- a piece that was noted

-- the writer may take along what was planned of a piece of this track
pub record MayCarry (m : MovieSeen) (w : Writer) (k : ℕ) (p : Planned) : Type 0 where
  pub writer : IsWriterOf m w
  pub track : k < length m.tracks
  pub bounds : HasBounds (length w.notes.rows.items) p
  pub room : p.bytes + 16 < 2 ^ 64

-- over an honest store that has the file from which the movie was opened: it is so of the samples
-- of a turn that were noted, of which as many are to be copied as were planned
abbrev pub WhereNoted : {X : Type 0} → Store X → X → MovieSeen → Noted → Writer
    → (List ℕ → FileTree → TrackTree → List SampleAt → Type 0) → Type 0
WhereNoted S store m n w P = OverOpened S store m (λ file tree. (samples : List SampleAt)
    → (noted : IsNoted file tree m n.track n.planned.count samples w) → P file tree noted.t samples)

-- it is so of the keys of a track's groups, where no two are the same
abbrev pub WithKeys : MovieSeen → ℕ → (List GroupKey → Type 0) → Type 0
WithKeys m track P = (info : TrackInfo) → slice_get m.tracks track ≡ Some info
    → AreApart (keys_seen info.keys) → P (keys_seen info.keys)

-- it stays a writer of this movie, holds as much, and at Ok keeps its rows, what it leaves out and
-- when samples are due
pub record OnlyCarries {T E : Type 0} (m : MovieSeen) (w w_after : Writer) (result : Result T E)
    : Type 0 where
  pub writer : OnOk result (IsWriterOf m w_after)
  pub held : memory.held_bytes w_after ≡ memory.held_bytes w
  pub content : OnOk result (w_after.content ≡ w.content)
  pub keeps : OnOk result ((w_after.notes.rows ≡ w.notes.rows) × (w_after.due ≡ w.due))

-- of the steps that its walks may take to copy a piece and to go on, it takes some: at Ok the
-- others are left to them to write, and at Err it took no more than all
abbrev pub StepsToCarry : {X T E : Type 0} → Store X → X → MovieSeen → Noted → Writer → Writer
    → Result T E → ℕ → ℕ → Type 0
StepsToCarry S store m noted w w_after result old new = OverOpened S store m (λ file tree. (n : ℕ)
    → MayAllFinish w.content.of_tracks.items file tree m noted.track noted.planned.count
    w.walks.items n
    → MatchResult result
    (λ _. AllWriteOn file tree m n w_after.walks.items old new) (λ _. new ≤ old + n))
