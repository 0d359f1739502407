-- Tracks behind their samples so far.
use Rattle.std.specs.Prelude.{ℕ, ◌+◌, ◌*◌, ◌^◌, ◌≤◌, List}
use Rattle.std.specs.List.{AllByRecursion}
use Rattle.mp4_frag.specs.declared.state.TrackState.{TrackState}

-- with the samples that there is room for, the track has no more than 2^24; each lasts less than
-- 2^32, and takes less than 2^32 bytes
pub record HasRoom (room : ℕ) (t : TrackState) : Type 0 where
  pub few : t.count + room ≤ 2 ^ 24
  pub time : t.time ≤ 2 ^ 64 + 2 ^ 32 * t.count
  pub bytes : t.bytes ≤ 2 ^ 32 * t.count

abbrev pub HaveRoom : ℕ → List TrackState → Type 0
HaveRoom room tracks = AllByRecursion (HasRoom room) tracks

-- room for no more than 2^24 samples, which each of the tracks has
pub record IsRoomFor (tracks : List TrackState) (room : ℕ) : Type 0 where
  pub few : room ≤ 2 ^ 24
  pub each : HaveRoom room tracks
