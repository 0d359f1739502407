-- The boxes of a file whose tracks are told to wait: those that say it, in the place of the file's
-- own. Samples are those of the file.
use Rattle.std.specs.Prelude.{◌≡◌, ℕ, List, [], ◌∷◌, ⊤, Option, None, Some}
use Rattle.mp4_head.specs.format.Tree.{MovieTree, TrackTree, movie_head_of, track_head_of}
use Rattle.mp4_present.specs.format.Denotes.{FileTree}
use Rattle.mp4_present.specs.format.Waiting.{waiting_head, waiting_movie}

-- the first of some numbers of microseconds, and the others; 0 and none where there are no more
abbrev pub first_wait : List ℕ → ℕ
first_wait [] = 0
first_wait (wait ∷ waits) = wait

abbrev pub later_waits : List ℕ → List ℕ
later_waits [] = []
later_waits (wait ∷ waits) = waits

-- the second is the first, but for edits by which it waits so long
pub record IsTrackTold (wait : ℕ) (own t : TrackTree) : Type 0 where
  pub is : t ≡ record own { edits = t.edits }
  pub head : track_head_of t ≡ waiting_head wait (track_head_of own)

abbrev pub AreTracksTold : List ℕ → List TrackTree → List TrackTree → Type 0
AreTracksTold waits [] [] = ⊤
AreTracksTold waits (own ∷ owns) (t ∷ ts) = IsTrackTold (first_wait waits) own t
    × AreTracksTold (later_waits waits) owns ts
AreTracksTold waits _ _ = ⊥

-- the same of a movie, whose edits last microseconds
pub record IsMovieTold (waits : List ℕ) (own t : MovieTree) : Type 0 where
  pub is : t ≡ record own { movie = t.movie; tracks = t.tracks }
  pub head : movie_head_of t ≡ waiting_movie (movie_head_of own)
  pub tracks : AreTracksTold waits own.tracks t.tracks

pub record IsFileTold (waits : List ℕ) (own t : FileTree) : Type 0 where
  pub is : t ≡ record own { movie = t.movie }
  pub movie : IsMovieTold waits own.movie t.movie

-- it is the first, or the first whose tracks wait so long
abbrev pub IsTold : Option (List ℕ) → FileTree → FileTree → Type 0
IsTold None own t = t ≡ own
IsTold (Some waits) own t = IsFileTold waits own t
