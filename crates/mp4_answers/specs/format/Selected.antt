-- What is looked at of a file: all of its tracks, or one alone.
use Rattle.std.specs.Prelude.{◌≡◌, ℕ, ◌==◌, ⊤, Bool, IsTrue, List, map, filter, Option, None, Some, Ok}
use Rattle.std.specs.List.{AllByRecursion}
use Rattle.mp4_head.specs.format.Head.{TrackHead}
use Rattle.mp4_head.specs.format.Tree.{TrackTree, track_head_of}
use Rattle.mp4_present.specs.format.Denotes.{FileTree}
use Rattle.mp4_present.specs.format.Judge.{judge}
use Rattle.mp4_present.specs.format.Presentation.{Track, Presentation, heads}
use Rattle.mp4_content.specs.declared.without.Without.{Without}
use Rattle.mp4_answers.specs.declared.selection.Selection.{Selection}

-- all tracks are looked at
abbrev pub whole : Without → Selection
whole l = record { track = None; leaving = l }

-- a presentation of which the track with this ID is there alone, if one is named (8.3.2)
abbrev pub alone : Option ℕ → Presentation → Presentation
alone None p = p
alone (Some id) p = record p { tracks = filter (λ (t : Track). t.head.id == id) p.tracks }

-- the same of the boxes that say it
abbrev pub alone_tree : Option ℕ → FileTree → FileTree
alone_tree None t = t
alone_tree (Some id) t = record t {
  movie = record t.movie {
    tracks = filter (λ (u : TrackTree). (track_head_of u).id == id) t.movie.tracks;
  };
}

-- none of these is the ID
abbrev pub AreOthers : ℕ → List ℕ → Type 0
AreOthers id ids = AllByRecursion (λ (n : ℕ). n ≡ id → ⊥) ids

-- no track has it
abbrev pub AreOtherTracks : ℕ → Presentation → Type 0
AreOtherTracks id p = AreOthers id (map (λ (h : TrackHead). h.id) (heads p))

-- the file is judged to be a presentation, of which no track has the ID
abbrev pub LacksTrack : List ℕ → ℕ → Type 0
LacksTrack file id = (p : Presentation) × (judge file ≡ Ok p) × AreOtherTracks id p

-- a track is named, and isn't there, where all reads are of this file
abbrev pub LacksNamed : Option ℕ → Bool → List ℕ → Type 0
LacksNamed None honest file = ⊥
LacksNamed (Some id) honest file = IsTrue honest → LacksTrack file id

-- one is there, if it is named
abbrev pub HasNamed : Option ℕ → Presentation → Type 0
HasNamed None p = ⊤
HasNamed (Some id) p = AreOtherTracks id p → ⊥

-- What is looked at of the presentation that the file is judged to be: all of it, or a track of it
-- alone, which is there.
pub record Shows (track : Option ℕ) (file : List ℕ) (p : Presentation) : Type 0 where
  pub whole : Presentation
  pub judged : judge file ≡ Ok whole
  pub has : HasNamed track whole
  pub is : p ≡ alone track whole
