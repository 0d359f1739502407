-- What is read of an `sbgp`.
use Rattle.std.specs.Prelude.{◌≡◌, ℕ, ◌+◌, ◌*◌, ◌≤◌, List, length}
use Rattle.mp4_boxes.specs.format.Bytes.{width_of}
use Rattle.mp4_boxes.specs.format.Layout.{version, fields, sbgp, row_count, IsReadable}
use Rattle.mp4_tables.specs.format.Groups.{key_of}
use Rattle.mp4_tables.specs.words.Keys.{key_seen}
use Rattle.mp4_tables.specs.words.Rows.{runs_at}
use Rattle.mp4_tables.specs.declared.group_boxes.Group.{Group}

-- its key, and where its rows lie
pub record IsGroup (payload : List ℕ) (group : Group) : Type 0 where
  pub key : key_seen group.key ≡ key_of payload
  pub count : group.count ≡ row_count sbgp payload
  pub rows : group.rows ≡ width_of (fields sbgp (version payload))
  pub room : group.rows + 8 * group.count ≤ length payload
  pub readable : IsReadable sbgp payload

-- its rows
abbrev pub group_runs : List ℕ → Group → List (ℕ × ℕ)
group_runs payload group = runs_at payload (record { place = group.rows; count = group.count })
