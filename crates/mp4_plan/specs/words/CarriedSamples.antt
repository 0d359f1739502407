-- The bytes of samples, carried along to a sink. `S` and `K` are what bounds say of the types of a
-- store and of a sink.
use Rattle.std.specs.Prelude.{◌≡◌, ℕ, ◌+◌, ◌≤◌, List, ◌++◌, length, take, slice_get, Option, IsTrue, Result, MatchResult}
use Rattle.std.specs.List.{AllByRecursion}
use Rattle.mp4_store.specs.words.Device.{TakesPrefix}
use Rattle.mp4_store.specs.declared.store.Store.{Ghosts as Store}
use Rattle.mp4_store.specs.declared.sink.Sink.{Ghosts as Sink}
use Rattle.mp4_tables.specs.declared.sample.SampleAt.{SampleAt}
use Rattle.mp4_head.specs.format.Tree.{TrackTree}
use Rattle.mp4_present.specs.format.Denotes.{FileTree}
use Rattle.mp4_present.specs.words.Carried.{waiting}
use Rattle.mp4_present.specs.words.GoingBack.{IsMarkInHand, back_steps}
use Rattle.mp4_present.specs.words.Joined.{IsBelow, sample_bytes}
use Rattle.mp4_present.specs.words.Movies.{MovieSeen, IsWalkOf, mark_of}
use Rattle.mp4_present.specs.words.OpenedMovie.{IsOpenedAs}
use Rattle.mp4_present.specs.words.TrackWalks.{WhereMarkMayTake}
use Rattle.mp4_present.specs.words.WalkSteps.{MayTake, TakesOn}
use Rattle.mp4_present.specs.declared.out_buffer.OutBuffer.{OutBuffer}
use Rattle.mp4_content.specs.declared.reduced.Reduction.{Reduction}
use Rattle.mp4_present.specs.declared.walking.Walk.{Walk}
use Rattle.mp4_content.specs.words.ComingLess.{ComesLess}
use Rattle.mp4_content.specs.words.GoneOn.{ComesMarked}
use Rattle.mp4_plan.specs.words.HandsFed.{BytesCarried, sizes_of}
use Rattle.mp4_plan.specs.words.Stretches.{Tells}
use Rattle.mp4_plan.specs.words.WriterSteps.{CarriesInHand, CarriesOn, MayFinish}
use Rattle.mp4_plan.specs.declared.carrying.Load.{Load}
use Rattle.mp4_plan.specs.declared.stretches.Stretches.{Stretches}

-- the first of all these samples are taken along: at Ok those that are not to come any more, as
-- many as the load became less by, and at Err a front of what waited and of its bytes was put
abbrev pub CarriesFirst : {Y E : Type 0} → List ℕ → Sink Y → Y → Y → OutBuffer → OutBuffer
    → Result Load E → Load → List SampleAt → List SampleAt → Type 0
CarriesFirst file K sink sink_after c c_after result load all to_come = MatchResult result
    (λ left. BytesCarried file (K.takes sink sink_after) (waiting c)
    (waiting c_after) all to_come load left)
    (λ _. TakesPrefix (K.takes sink sink_after) (waiting c
    ++ sample_bytes file (take load.samples all)))

-- these samples lie in the file, and so many of them have so many bytes
pub record AreThere (file : List ℕ) (count bytes : ℕ) (samples : List SampleAt) : Type 0 where
  pub many : count ≤ length samples
  pub sizes : bytes ≡ sizes_of (take count samples)
  pub below : AllByRecursion (IsBelow (length file)) samples

-- ---- a walk that has marked its place

-- it is a walk over its track, and its mark is a place of what is in hand
pub record HasMarkInHand (m : MovieSeen) (w : Walk) : Type 0 where
  pub walk : IsWalkOf m w
  pub marked : IsMarkInHand w

-- over an honest store that has the file from which the movie was opened: it is so of what is left
-- of the samples that came where the walk has made its mark, of which it has passed so many
abbrev pub WhereMarkedLess : {X : Type 0} → Store X → X → MovieSeen → Reduction → Walk → ℕ
    → (List ℕ → FileTree → TrackTree → List SampleAt → Type 0) → Type 0
WhereMarkedLess S store m l w count P = IsTrue (S.is_honest store) → (tree : FileTree)
    (t : TrackTree) (samples : List SampleAt) → IsOpenedAs (S.file store) m tree
    → ComesMarked l (S.file store) tree t m w count samples → P (S.file store) tree t samples

-- the same where stretches tell the bytes of those that it has passed
abbrev pub WhereToldLess : {X : Type 0} → Store X → X → MovieSeen → Reduction → Walk → ℕ → Stretches
    → (List ℕ → FileTree → TrackTree → List SampleAt → Type 0) → Type 0
WhereToldLess S store m l w count s P = WhereMarkedLess S store m l w count
    (λ file tree t samples. Tells s (take count samples) → P file tree t samples)

-- the walk has these samples still to come, has marked its place before them, and the first of them
-- is the next
abbrev pub MarksNext : Reduction → List ℕ → FileTree → TrackTree → MovieSeen → Walk → List SampleAt
    → Option SampleAt → Type 0
MarksNext l file tree t m w samples next = ComesLess l file tree t m w samples
    × (w.mark ≡ mark_of w (length samples)) × (next ≡ slice_get samples 0)

-- ---- its steps

-- turned back to its mark in hand it takes none but those that it might take there: at Ok it may
-- take no more then than from where it stood
abbrev pub StepsInHand : {X T E : Type 0} → Store X → X → MovieSeen → Walk → Walk → Result T E
    → ℕ → ℕ → Type 0
StepsInHand S store m w w_after result old new =
    WhereMarkMayTake S store m w (λ file tree t begun own. MatchResult result
    (λ _. (now : ℕ) → MayTake file tree t w now
    → CarriesInHand file tree t own now w_after old new)
    (λ _. new ≤ old + own))

-- gone back to its mark it takes those that it might take there, and those of going back
abbrev pub StepsAgain : {X T E : Type 0} → Store X → X → MovieSeen → Walk → Walk → Result T E
    → ℕ → ℕ → Type 0
StepsAgain S store m w w_after result old new =
    WhereMarkMayTake S store m w (λ file tree t begun own. MatchResult result
    (λ _. TakesOn file tree t (own + back_steps begun w) w_after old new)
    (λ _. new ≤ old + (own + back_steps begun w)))

-- it takes them in the one way or the other, where it may take no more than from its mark
abbrev pub StepsMarked : {X T E : Type 0} → Store X → X → MovieSeen → Walk → Walk → Result T E
    → ℕ → ℕ → Type 0
StepsMarked S store m w w_after result old new =
    WhereMarkMayTake S store m w (λ file tree t begun own. MatchResult result
    (λ _. (now : ℕ) → MayTake file tree t w now → now ≤ own
    → CarriesOn file tree t m begun own w now w_after old new)
    (λ _. new ≤ old + (own + back_steps begun w)))

-- over an honest store that has the file from which the movie was opened: it is so of the steps
-- that a walk may take to copy what it has noted, and to go on
abbrev pub WhereMayFinish : {X : Type 0} → Store X → X → MovieSeen → Reduction → Walk → ℕ
    → (List ℕ → FileTree → TrackTree → ℕ → Type 0) → Type 0
WhereMayFinish S store m l w count P = IsTrue (S.is_honest store) → (tree : FileTree)
    (t : TrackTree) (n : ℕ) → IsOpenedAs (S.file store) m tree
    → MayFinish l (S.file store) tree m count t w n → P (S.file store) tree t n
