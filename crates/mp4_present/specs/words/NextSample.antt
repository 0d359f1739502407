-- The next sample of a walk over a track of the file that its movie was opened from.
use Rattle.std.specs.Prelude.{◌≡◌, ℕ, List, ◌∷◌, Option, None, Some}
use Rattle.mp4_tables.specs.declared.sample.SampleAt.{SampleAt}
use Rattle.mp4_frag.specs.words.OwnTrafs.{PlacedTraf}
use Rattle.mp4_head.specs.format.Tree.{TrackTree}
use Rattle.mp4_present.specs.format.Denotes.{FileTree}
use Rattle.mp4_present.specs.words.Movies.{MovieSeen}
use Rattle.mp4_present.specs.words.SamplesComing.{StandsBefore, Comes, samples_behind}
use Rattle.mp4_present.specs.declared.walking.Walk.{Walk}

-- this is the first of these samples, and the others come
abbrev pub TakesFirst : List ℕ → FileTree → TrackTree → MovieSeen → Walk → List SampleAt → SampleAt
    → Type 0
TakesFirst file tree t m w samples s =
    (rest : List SampleAt) × (samples ≡ s ∷ rest) × Comes file tree t m w rest

-- The first of these samples was taken, and the others come; or none of them is in hand, and all
-- stand behind it.
abbrev pub TakesSample : List ℕ → FileTree → TrackTree → MovieSeen → Walk → List SampleAt
    → Option SampleAt → Type 0
TakesSample file tree t m w samples (Some s) = TakesFirst file tree t m w samples s
TakesSample file tree t m w samples None = (earlier later : List PlacedTraf)
    × StandsBefore file tree t earlier later w × (samples ≡ samples_behind tree t earlier later)
