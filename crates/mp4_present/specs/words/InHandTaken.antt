-- Samples of what a walk has in hand, taken in each file from which its movie was opened.
use Rattle.std.specs.Prelude.{ℕ, List, Option, Result, IsOkAnd, Bool}
use Rattle.mp4_tables.specs.declared.sample.SampleAt.{SampleAt}
use Rattle.mp4_frag.specs.words.OwnTrafs.{PlacedTraf}
use Rattle.mp4_head.specs.format.Tree.{TrackTree}
use Rattle.mp4_present.specs.format.Denotes.{FileTree}
use Rattle.mp4_present.specs.words.Movies.{MovieSeen}
use Rattle.mp4_present.specs.words.NextSample.{TakesSample}
use Rattle.mp4_present.specs.words.OpenedMovie.{IsOpenedAs}
use Rattle.mp4_present.specs.words.SamplesComing.{Comes, HoldsNext, Takes}
use Rattle.mp4_present.specs.words.WalkSteps.{MayTake, TakesOn}
use Rattle.mp4_present.specs.declared.walking.Walk.{Walk}

-- wherever samples come: the first of them is taken, or none of them is in hand
abbrev pub TakesNext : MovieSeen → Walk → Walk → Option SampleAt → Type 0
TakesNext m w w_after sample = (file : List ℕ) (tree : FileTree) (t : TrackTree)
    (samples : List SampleAt) → Comes file tree t m w samples
    → TakesSample file tree t m w_after samples sample

-- of the steps that it may take it takes some, and may take the others
abbrev pub TakesOnIn : MovieSeen → Walk → Walk → ℕ → ℕ → Type 0
TakesOnIn m w w_after old new = (file : List ℕ) (tree : FileTree) (t : TrackTree) (n : ℕ)
    → IsOpenedAs file m tree → MayTake file tree t w n → TakesOn file tree t n w_after old new

-- where the `traf` in the room comes next, its samples are taken into hand
abbrev pub TakesNextTraf : {E : Type 0} → MovieSeen → Walk → Walk → Result Bool E → Type 0
TakesNextTraf m w w_after result = (file : List ℕ) (tree : FileTree) (t : TrackTree)
    (earlier later : List PlacedTraf) (next : PlacedTraf) → IsOpenedAs file m tree
    → HoldsNext file tree t earlier next later w
    → IsOkAnd result (λ some. Takes file tree t earlier next later m w_after some)
