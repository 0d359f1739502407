-- The steps of walks over all tracks of a file.
use Rattle.std.specs.Prelude.{◌≡◌, ◌⊎◌, ℕ, ◌+◌, ◌*◌, ◌≤◌, List, [], ◌∷◌, length, slice_get, slice_set, Some, Result, OnOk}
use Rattle.mp4_boxes.specs.format.Bytes.{sum_of}
use Rattle.mp4_tables.specs.declared.sample.SampleAt.{SampleAt}
use Rattle.mp4_frag.specs.words.OwnTrafs.{PlacedTraf, traf_steps}
use Rattle.mp4_head.specs.format.Tree.{TrackTree}
use Rattle.mp4_present.specs.format.Denotes.{FileTree}
use Rattle.mp4_present.specs.words.GoingBack.{IsMarkInHand, back_steps}
use Rattle.mp4_present.specs.words.Movies.{MovieSeen, mark_of}
use Rattle.mp4_present.specs.words.SamplesComing.{Comes, own_trafs}
use Rattle.mp4_present.specs.words.WalkSteps.{MayTake, trafs_steps, walk_steps, walks_steps}
use Rattle.mp4_content.specs.declared.reduced.Reduction.{Reduction}
use Rattle.mp4_present.specs.declared.walking.Walk.{Walk}
use Rattle.mp4_content.specs.words.GoneOn.{ComesMarked, HasLoaded, Stays, GoesPast}

-- At Ok no step was taken back, and never was a look taken. The numbers are the steps before and
-- after, and the looks.
abbrev pub OnlyPasses : {T E : Type 0} → ℕ → ℕ → ℕ → ℕ → Result T E → Type 0
OnlyPasses passed passed_after looks looks_after result = OnOk result (passed ≤ passed_after)
    × (looks_after ≡ looks)

-- each of these walks, one for each track, may take some steps, and all may take so many together
abbrev pub MayAll : (TrackTree → Walk → ℕ → Type 0) → List TrackTree → List Walk → ℕ → Type 0
MayAll May [] [] n = n ≡ 0
MayAll May (t ∷ trees) (w ∷ walks) n = (own others : ℕ) × May t w own
    × MayAll May trees walks others × (n ≡ own + others)
MayAll May _ _ n = ⊥

-- these walks may take so many steps together
abbrev pub MayAllTake : List ℕ → FileTree → List TrackTree → List Walk → ℕ → Type 0
MayAllTake file tree trees walks n = MayAll (MayTake file tree) trees walks n

-- Of so many steps some were taken, and the walks over all tracks may take the others.
abbrev pub AllTakeOn : List ℕ → FileTree → ℕ → List Walk → ℕ → ℕ → Type 0
AllTakeOn file tree n walks old new = (rest : ℕ) × MayAllTake file tree tree.movie.tracks walks rest
    × (new + rest ≤ old + n)

-- these walks begin: they may take no more steps together than walks over all samples of all tracks
abbrev pub MayAllBegin : List ℕ → FileTree → List Walk → Type 0
MayAllBegin file tree walks = (n : ℕ) × MayAllTake file tree tree.movie.tracks walks n
    × (n ≤ walks_steps tree)

-- ---- a walk that goes back

-- the steps of the last of these `traf`s, or so many where there is none
abbrev pub last_steps : ℕ → List PlacedTraf → ℕ
last_steps n [] = n
last_steps n (p ∷ trafs) = last_steps (traf_steps p.traf) trafs

-- to read the `traf` in hand and each one behind it once more, and to read each one behind it twice
abbrev pub again_steps : List PlacedTraf → List PlacedTraf → ℕ
again_steps earlier later = last_steps 0 earlier + 2 * trafs_steps later

-- The walk may take so many steps where it notes each piece, and goes back for its bytes: twice
-- those of its way, and those of reading each `traf` again that a piece began in.
pub record MayWrite (file : List ℕ) (tree : FileTree) (m : MovieSeen) (t : TrackTree) (w : Walk)
    (n : ℕ) : Type 0 where
  pub samples : List SampleAt
  pub comes : Comes file tree t m w samples
  pub marked : w.mark ≡ mark_of w (length samples)
  pub own : ℕ
  pub may : MayTake file tree t w own
  pub sum : n ≡ 2 * own + again_steps may.earlier may.later

-- Of so many steps some were taken, and the walk may take the others.
abbrev pub WritesOn : List ℕ → FileTree → MovieSeen → TrackTree → ℕ → Walk → ℕ → ℕ → Type 0
WritesOn file tree m t n w old new = (rest : ℕ) × MayWrite file tree m t w rest
    × (new + rest ≤ old + n)

-- The walk has noted a piece of so many samples since its mark, and may take so many steps: to copy
-- the piece, and to go on.
pub record MayFinish (by : Reduction) (file : List ℕ) (tree : FileTree) (m : MovieSeen) (count : ℕ)
    (t : TrackTree) (w : Walk) (n : ℕ) : Type 0 where
  pub left : List SampleAt
  pub marked : ComesMarked by file tree t m w count left
  pub own : ℕ
  pub began : MayTake file tree t marked.begun own
  pub now : ℕ
  pub may : MayTake file tree t w now
  pub less : now ≤ own
  pub ahead : Stays marked.begun w ⊎ HasLoaded m marked.begun w
  pub none : count ≡ 0 → w.mark ≡ mark_of w (length left)
  pub sum : n ≡ own + now + again_steps began.earlier began.later

abbrev pub FinishesOn : Reduction → List ℕ → FileTree → MovieSeen → ℕ → TrackTree → ℕ → Walk → ℕ → ℕ
    → Type 0
FinishesOn by file tree m count t n w old new = (rest : ℕ)
    × MayFinish by file tree m count t w rest
    × (new + rest ≤ old + n)

-- A walk that may take so many steps was set back to where it might take more, took them again, and
-- may now take no more than before.
abbrev pub CarriesInHand : List ℕ → FileTree → TrackTree → ℕ → ℕ → Walk → ℕ → ℕ → Type 0
CarriesInHand file tree t own now after old new = (rest : ℕ) × MayTake file tree t after rest
    × (rest ≤ now) × (new + rest ≤ old + own)

-- Or its mark was in another `traf`, which was read again.
abbrev pub CarriesAgain : List ℕ → FileTree → TrackTree → MovieSeen → Walk → ℕ → Walk → Walk → ℕ
    → ℕ → Type 0
CarriesAgain file tree t m begun own before after old new = (rest : ℕ)
    × MayTake file tree t after rest × (IsMarkInHand before → ⊥)
    × GoesPast m begun.next after
    × (new + rest ≤ old + (own + back_steps begun before))

abbrev pub CarriesOn : List ℕ → FileTree → TrackTree → MovieSeen → Walk → ℕ → Walk → ℕ → Walk → ℕ
    → ℕ → Type 0
CarriesOn file tree t m begun own before now after old new =
    CarriesInHand file tree t own now after old new
    ⊎ CarriesAgain file tree t m begun own before after old new

-- ---- all walks of a writer

abbrev pub MayAllWrite : List ℕ → FileTree → MovieSeen → List Walk → ℕ → Type 0
MayAllWrite file tree m walks n = MayAll (MayWrite file tree m) tree.movie.tracks walks n

abbrev pub AllWriteOn : List ℕ → FileTree → MovieSeen → ℕ → List Walk → ℕ → ℕ → Type 0
AllWriteOn file tree m n walks old new = (rest : ℕ) × MayAllWrite file tree m walks rest
    × (new + rest ≤ old + n)

-- to write a track takes no more than two walks over it, and to read each of its `traf`s twice more
abbrev pub track_writes : FileTree → TrackTree → ℕ
track_writes tree t = 2 * walk_steps tree t + 2 * trafs_steps (own_trafs tree t)

-- the same of all tracks
abbrev pub writing_steps : FileTree → ℕ
writing_steps tree = sum_of (track_writes tree) tree.movie.tracks

-- they begin
abbrev pub WriteAllBegin : List ℕ → FileTree → MovieSeen → List Walk → Type 0
WriteAllBegin file tree m walks = (n : ℕ) × MayAllWrite file tree m walks n
    × (n ≤ writing_steps tree)

-- one of them has noted a piece
pub record MayAllFinish (reductions : List Reduction) (file : List ℕ) (tree : FileTree)
    (m : MovieSeen) (track count : ℕ) (walks : List Walk) (n : ℕ) : Type 0 where
  pub by : Reduction
  pub is_by : slice_get reductions track ≡ Some by
  pub t : TrackTree
  pub walk : Walk
  pub is_walk : slice_get walks track ≡ Some walk
  pub own : ℕ
  pub others : ℕ
  pub may : MayFinish by file tree m count t walk own
  pub sum : n ≡ own + others
  pub moved : (now : Walk) (rest : ℕ) → MayWrite file tree m t now rest
      → MayAllWrite file tree m (slice_set walks track now) (rest + others)

abbrev pub AllFinishOn : List Reduction → List ℕ → FileTree → MovieSeen → ℕ → ℕ → ℕ → List Walk → ℕ
    → ℕ → Type 0
AllFinishOn reductions file tree m track count n walks old new = (rest : ℕ)
    × MayAllFinish reductions file tree m track count walks rest × (new + rest ≤ old + n)
