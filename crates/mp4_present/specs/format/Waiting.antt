-- A presentation whose tracks say by one empty edit how long each of them waits, and nothing else
-- by their edits.
use Rattle.std.specs.Prelude.{ℕ, ◌^◌, ◌==◌, if◌then◌else◌, List, [], ◌∷◌, pos, negsuc}
use Rattle.mp4_head.specs.format.Head.{Edit, MovieHead, TrackHead}
use Rattle.mp4_present.specs.format.Presentation.{Track, Presentation}

-- so many are a second
abbrev pub microseconds : ℕ
microseconds = 10 ^ 6

-- The edits of a track that waits so many microseconds (8.6.6): none where it waits for none. An
-- edit whose media time is -1 is empty; the second lasts as long as the track.
abbrev pub waiting : ℕ → List Edit
waiting wait = if wait == 0 then [] else record {
  segment_duration = wait;
  media_time = negsuc 0;
  rate_integer = pos 1;
  rate_fraction = pos 0;
} ∷ record {
  segment_duration = 0;
  media_time = pos 0;
  rate_integer = pos 1;
  rate_fraction = pos 0;
} ∷ []

-- Edits last microseconds where the movie's timescale is that of them.
abbrev pub waiting_movie : MovieHead → MovieHead
waiting_movie m = record m { timescale = microseconds }

abbrev pub waiting_head : ℕ → TrackHead → TrackHead
waiting_head wait h = record h { edits = waiting wait }

abbrev pub waiting_track : ℕ → Track → Track
waiting_track wait t = record t { head = waiting_head wait t.head }

-- the same of heads that wait so long, one by one; where there are no more numbers they don't wait
abbrev pub waiting_heads : List ℕ → List TrackHead → List TrackHead
waiting_heads waits [] = []
waiting_heads [] (h ∷ heads) = waiting_head 0 h ∷ waiting_heads [] heads
waiting_heads (wait ∷ waits) (h ∷ heads) = waiting_head wait h ∷ waiting_heads waits heads

abbrev pub waiting_tracks : List ℕ → List Track → List Track
waiting_tracks waits [] = []
waiting_tracks [] (t ∷ tracks) = waiting_track 0 t ∷ waiting_tracks [] tracks
waiting_tracks (wait ∷ waits) (t ∷ tracks) = waiting_track wait t ∷ waiting_tracks waits tracks

-- a presentation whose tracks wait so long
abbrev pub waiting_all : List ℕ → Presentation → Presentation
waiting_all waits p = record {
  movie = waiting_movie p.movie;
  tracks = waiting_tracks waits p.tracks;
}
