-- The room of walks over the tracks of a movie.
use Rattle.std.specs.Prelude.{ℕ, zero, suc, ◌+◌}
use Rattle.mp4_present.specs.words.Movies.{MovieSeen, own_room}

-- that of the first tracks: each has room for the longest `traf` that has samples of its own
abbrev pub own_rooms : MovieSeen → ℕ → ℕ
own_rooms m zero = 0
own_rooms m (suc k) = own_rooms m k + own_room m k
