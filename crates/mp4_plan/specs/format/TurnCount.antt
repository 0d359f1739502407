-- The most turns that a movie can take.
use Rattle.std.specs.Prelude.{ℕ, ◌+◌, min}

-- The most turns over so many samples of so many tracks. Each takes a sample, but for the last of
-- the first track, where there is a track.
abbrev pub most_turns : ℕ → ℕ → ℕ
most_turns samples tracks = samples + min tracks 1
