-- How a walk goes on from where it stood.
use Rattle.std.specs.Prelude.{◌≡◌, ◌⊎◌, ℕ, ◌<◌, ◌≤◌, List, length, drop, ◌+◌, ◌-◌}
use Rattle.mp4_tables.specs.declared.sample.SampleAt.{SampleAt}
use Rattle.mp4_head.specs.format.Tree.{TrackTree}
use Rattle.mp4_present.specs.format.Denotes.{FileTree}
use Rattle.mp4_present.specs.words.GoingBack.{GoesBackTo, HoldsSome}
use Rattle.mp4_present.specs.words.Movies.{MovieSeen, traf_bytes}
use Rattle.mp4_present.specs.words.SamplesComing.{Comes}
use Rattle.mp4_content.specs.declared.reduced.Reduction.{Reduction}
use Rattle.mp4_present.specs.declared.walking.Walk.{Walk}
use Rattle.mp4_content.specs.words.ComingLess.{ComesLess, less}
use Rattle.mp4_present.specs.words.OpenedMovie.{IsOpenedAs}
use Rattle.mp4_present.specs.words.WalkSteps.{steps_to, MayTake, TakesOn}
use Rattle.mp4_present.specs.declared.walking.in_hand.Place.{Place}

-- it has the same in hand
pub record Stays (before after : Walk) : Type 0 where
  pub track : after.track ≡ before.track
  pub next : after.next ≡ before.next
  pub due : after.before ≡ before.before
  pub left : after.left ≡ before.left
  pub traf : after.traf ≡ before.traf
  pub bytes : traf_bytes after ≡ traf_bytes before

-- it has loaded a `traf` further on, with samples of the track
abbrev pub HasLoaded : MovieSeen → Walk → Walk → Type 0
HasLoaded m before after = (before.next < after.next) × HoldsSome m after

-- The walk went on and keeps its mark, and the number of steps grew.
pub record WentOn (m : MovieSeen) (before after : Walk) (old new : ℕ) : Type 0 where
  pub mark : after.mark ≡ before.mark
  pub grows : old ≤ new
  pub ahead : Stays before after ⊎ HasLoaded m before after

-- It stands before the `traf` that is the next from here, or has loaded one further on.
abbrev pub GoesPast : MovieSeen → ℕ → Walk → Type 0
GoesPast m next after = (after.next ≡ next) ⊎ ((next < after.next) × HoldsSome m after)

-- A walk that goes on from this place of what it has in hand took the steps to there, and may take
-- the others.
abbrev pub KeepsOn : MovieSeen → Walk → Place → Type 0
KeepsOn m w place =
    (file : List ℕ) (tree : FileTree) (t : TrackTree) (n old : ℕ) → IsOpenedAs file m tree
    → MayTake file tree t w n
    → TakesOn file tree t n (record w { place = place }) old
    (old + (steps_to place - steps_to w.place))

-- The walk has marked where some samples came, of which these are left, and has passed so many of
-- them since.
pub record ComesMarked (l : Reduction) (file : List ℕ) (tree : FileTree) (t : TrackTree)
    (m : MovieSeen) (walk : Walk) (count : ℕ) (left : List SampleAt) : Type 0 where
  pub begun : Walk
  pub samples : List SampleAt
  pub is_left : left ≡ less l samples
  pub back : GoesBackTo file tree t m begun walk (length samples)
  pub from : Comes file tree t m begun samples
  pub comes : ComesLess l file tree t m walk (drop count left)
