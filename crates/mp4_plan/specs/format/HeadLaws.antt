-- Laws of the numbers of the normal head that are made of all tracks.
use Rattle.std.specs.Prelude.{◌≡◌, ◌⊎◌, ◌+◌, ◌-◌, ◌^◌, ◌<◌, ◌≤◌, List, Contains}
use Rattle.std.specs.List.{AllByRecursion}
use Rattle.mp4_head.specs.format.Head.{TrackHead}
use Rattle.mp4_head.specs.format.Writing.{next_track_id}
use Rattle.mp4_present.specs.format.Presentation.{Track, Presentation, track_length, movie_length}

-- No track is longer than the movie, and the movie has the length of some track, or 0.
abbrev pub MovieLengthIsLargest : Type 0
MovieLengthIsLargest = (p : Presentation)
    → AllByRecursion (λ (t : Track). track_length p.movie.timescale t ≤ movie_length p) p.tracks
    × ((movie_length p ≡ 0)
    ⊎ ((t : Track) × Contains p.tracks t × (track_length p.movie.timescale t ≡ movie_length p)))

-- The next track ID is above each ID that leaves room for one above it, fits 32 bits, and is no
-- larger than that takes.
abbrev pub NextTrackIdIsLeast : Type 0
NextTrackIdIsLeast = (tracks : List TrackHead)
    → AllByRecursion (λ (t : TrackHead). t.id < 2 ^ 32 - 1 → t.id < next_track_id tracks) tracks
    × (next_track_id tracks < 2 ^ 32)
    × ((next_track_id tracks ≤ 1)
    ⊎ ((t : TrackHead) × Contains tracks t × (next_track_id tracks ≤ t.id + 1)))
