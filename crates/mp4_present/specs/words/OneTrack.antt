-- A movie of which one track is shown alone, by its place.
use Rattle.std.specs.Prelude.{ℕ, List, take, drop, Option, None, Some}
use Rattle.mp4_head.specs.format.Head as heads
use Rattle.mp4_present.specs.format.Denotes.{FileTree}
use Rattle.mp4_present.specs.format.Presentation.{Presentation}

-- what stands at a place; nothing where there is no such place
abbrev pub at_place : {A : Type 0} → ℕ → List A → List A
at_place place xs = take 1 (drop place xs)

-- that, if a place is named; else all
abbrev pub shown_at : {A : Type 0} → Option ℕ → List A → List A
shown_at None xs = xs
shown_at (Some place) xs = at_place place xs

-- a head, boxes and a presentation that have that track alone, or all
abbrev pub only_head : Option ℕ → heads.Head → heads.Head
only_head only h = record h { tracks = shown_at only h.tracks }

abbrev pub only_tree : Option ℕ → FileTree → FileTree
only_tree only t = record t {
  movie = record t.movie { tracks = shown_at only t.movie.tracks };
}

abbrev pub only_of : Option ℕ → Presentation → Presentation
only_of only p = record p { tracks = shown_at only p.tracks }
