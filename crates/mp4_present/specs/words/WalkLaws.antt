-- Laws of the samples that come in a walk over a track.
use Rattle.std.specs.Prelude.{◌≡◌, ℕ, List, Some, slice_get}
use Rattle.mp4_tables.specs.declared.sample.SampleAt.{SampleAt}
use Rattle.mp4_head.specs.format.Tree.{TrackTree}
use Rattle.mp4_present.specs.format.Denotes.{FileTree}
use Rattle.mp4_present.specs.words.Coming.{coming}
use Rattle.mp4_present.specs.words.Movies.{MovieSeen, IsWalkOf}
use Rattle.mp4_present.specs.words.OpenedMovie.{IsOpenedAs}
use Rattle.mp4_present.specs.words.SamplesComing.{Comes, track_samples}
use Rattle.mp4_present.specs.declared.walking.Walk.{Walk}

-- Each sample of a track has the number of its place among them, from 0 on, through its tables and
-- all its `traf`s.
abbrev pub SamplesAreNumbered : Type 0
SamplesAreNumbered = (tree : FileTree) (t : TrackTree) (i : ℕ) (s : SampleAt)
    → slice_get (track_samples tree t) i ≡ Some s → s.number ≡ i

-- What a walk has still to come is a function of the file, of the movie and of the walk.
abbrev pub WhatComesIsFound : Type 0
WhatComesIsFound = (file : List ℕ) (m : MovieSeen) (tree : FileTree) (t : TrackTree) (w : Walk)
    (samples : List SampleAt) → IsWalkOf m w → IsOpenedAs file m tree
    → Comes file tree t m w samples → samples ≡ coming file m w
