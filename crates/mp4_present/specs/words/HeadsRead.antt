-- What a movie says of itself, where all tracks are shown or one, and wait or don't.
use Rattle.std.specs.Prelude.{◌≡◌, ℕ, List, map, slice_get, unwrap_or, Option, None, Some, codes}
use Rattle.mp4_head.specs.format.Head as heads
use Rattle.mp4_head.specs.format.Tree.{MovieTree, TrackTree, first_of, head_of}
use Rattle.mp4_head.specs.words.Found.{SaysHead}
use Rattle.mp4_head.specs.words.Seen.{head_seen}
use Rattle.mp4_head.specs.declared.heads.MovieHead.{MovieHead}
use Rattle.mp4_head.specs.declared.heads.TrackHead.{TrackHead}
use Rattle.mp4_present.specs.format.Waiting.{waiting_heads, waiting_movie}
use Rattle.mp4_present.specs.words.Movies.{MovieSeen, moov_box}
use Rattle.mp4_present.specs.words.OneTrack.{only_head, shown_at}

-- where the `tkhd` of each of these heads stands
abbrev pub places_of : List TrackHead → List ℕ
places_of heads = map (λ (h : TrackHead). h.offset) heads

-- how long the track at this place waits
abbrev pub wait_at : List ℕ → ℕ → ℕ
wait_at waits place = unwrap_or (slice_get waits place) 0

-- a head whose tracks wait so long, if they do
abbrev pub waiting_or : Option (List ℕ) → heads.Head → heads.Head
waiting_or None h = h
waiting_or (Some waits) h = record h {
  movie = waiting_movie h.movie;
  tracks = waiting_heads waits h.tracks;
}

-- what is read of the movie's `moov`, of the tracks that are shown, and then where they wait
pub record SaysMovie (m : MovieSeen) (head : MovieHead) : Type 0 where
  pub own : MovieHead
  pub says : SaysHead (moov_box m) own
  pub seen : head_seen head ≡ waiting_or m.waits (only_head m.only (head_seen own))
  pub places : places_of head.tracks.items ≡ shown_at m.only (places_of own.tracks.items)

-- where the `tkhd` of a track stands
abbrev pub place_of : TrackTree → ℕ
place_of t = (first_of (codes "tkhd") t.track).offset

-- what is said of these boxes
pub record SaysTree (tree : MovieTree) (head : MovieHead) : Type 0 where
  pub says : head_seen head ≡ head_of tree
  pub places : places_of head.tracks.items ≡ map place_of tree.tracks
