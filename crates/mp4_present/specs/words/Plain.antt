-- The tracks of a movie behind their tables.
use Rattle.std.specs.Prelude.{◌≡◌, ℕ, ◌^◌, ◌≤◌, List, length}
use Rattle.std.specs.List.{AllByRecursion}
use Rattle.mp4_boxes.specs.format.Box.{Box}
use Rattle.mp4_boxes.specs.words.View.{box_seen}
use Rattle.mp4_tables.specs.words.Leaves.{HasTables}
use Rattle.mp4_frag.specs.words.States.{HaveRoom}
use Rattle.mp4_head.specs.words.Found.{LiesIn}
use Rattle.mp4_head.specs.declared.heads.TrackHead.{TrackHead}
use Rattle.mp4_present.specs.words.Movies.{LieIn}
use Rattle.mp4_present.specs.declared.opening.tables_pass.PlainTracks.{PlainTracks}

-- the `stbl` of a track lies in the `moov`, with the tables of the profile
pub record HasTablesIn (moov : Box) (track : TrackHead) : Type 0 where
  pub inside : LiesIn moov (box_seen track.stbl)
  pub tables : HasTables (box_seen track.stbl)

abbrev pub HaveTablesIn : Box → List TrackHead → Type 0
HaveTablesIn moov tracks = AllByRecursion (HasTablesIn moov) tracks

-- so many tracks were checked, whose tables lie in these bytes of a `moov`
pub record ArePlain (moov : List ℕ) (n : ℕ) (plain : PlainTracks) : Type 0 where
  pub tables : AllByRecursion (LieIn moov) plain.tables.items
  pub each_tables : length plain.tables.items ≡ n
  pub each_state : length plain.states.items ≡ n
  pub states : HaveRoom plain.room plain.states.items
  pub few : plain.room ≤ 2 ^ 24
