-- Tables by where they lie in the payload of their `stbl`, and what a check has found of them.
use Rattle.std.specs.Prelude.{◌≡◌, ℕ, ◌+◌, ◌-◌, ◌*◌, ◌^◌, ◌<◌, ◌≤◌, List, [], ◌∷◌, length, take, drop, map, replicate, Bool, true, false, Option, Some, None, option_map, unwrap_or, ℤ, slice_index}
use Rattle.std.specs.List.{AllByRecursion}
use Rattle.mp4_boxes.specs.format.Bytes.{sum_of}
use Rattle.mp4_tables.specs.format.Repeated.{repeated}
use Rattle.mp4_tables.specs.format.Groups.{GroupKey, Grouping, same_key}
use Rattle.mp4_tables.specs.format.Tables.{Tables, composition_offset}
use Rattle.mp4_tables.specs.format.PlainSamples.{plain_samples, non_sync}
use Rattle.mp4_tables.specs.format.TableRules.{Surroundings, Fit, is_sync_order}
use Rattle.mp4_tables.specs.words.Keys.{keys_seen}
use Rattle.mp4_tables.specs.words.Rows.{HaveRoom, HaveSizes, runs_at, chunk_rows_at, numbers_at, offsets_at, offset_width, sizes_at}
use Rattle.mp4_tables.specs.words.Indexes.{indexes_in, indexes_coming, AreIndexPlaces, rows_passed}
use Rattle.mp4_tables.specs.words.TablesComing.{IsRunPlace, IsChunkPlace, IsSyncPlace}
use Rattle.mp4_tables.specs.words.Timed.{timed, samples_of}
use Rattle.mp4_tables.specs.format.Groups.{keys_after}
use Rattle.mp4_tables.specs.declared.places.RowsAt.{RowsAt}
use Rattle.mp4_tables.specs.declared.places.BytesAt.{BytesAt}
use Rattle.mp4_tables.specs.declared.places.OffsetsAt.{OffsetsAt}
use Rattle.mp4_tables.specs.declared.places.GroupsAt.{GroupsAt}
use Rattle.mp4_tables.specs.declared.places.TablesAt.{TablesAt}
use Rattle.mp4_tables.specs.declared.places.RunPlace.{RunPlace}
use Rattle.mp4_tables.specs.declared.places.SyncPlace.{SyncPlace}
use Rattle.mp4_tables.specs.declared.indexes.IndexPlaces.{IndexPlaces}
use Rattle.mp4_tables.specs.declared.places.TablePlace.{TablePlace}

-- the version of `ctts` that has signed offsets is 1
abbrev pub offset_version : Bool → ℕ
offset_version true = 1
offset_version false = 0

abbrev pub composition_offsets_at : List ℕ → OffsetsAt → List (ℕ × ℤ)
composition_offsets_at payload at =
    map (λ run. (run.0, composition_offset (offset_version at.is_signed) run.1))
    (runs_at payload at.rows)

-- as many groupings as there are keys, each with its rows
abbrev pub grouped : List GroupKey → List (List (ℕ × ℕ)) → List Grouping
grouped [] rows = []
grouped (key ∷ keys) [] = []
grouped (key ∷ keys) (runs ∷ rows) = record { key = key; rows = runs } ∷ grouped keys rows

abbrev pub group_rows : List ℕ → GroupsAt → List (List (ℕ × ℕ))
group_rows payload at = map (runs_at payload) at.rows.by_key

abbrev pub groupings_at : List ℕ → GroupsAt → List Grouping
groupings_at payload at = grouped (keys_seen at.keys) (group_rows payload at)

abbrev pub bytes_at : List ℕ → BytesAt → List ℕ
bytes_at payload at = take at.length (drop at.place payload)

-- the tables that lie there
unfoldable pub tables_at : List ℕ → TablesAt → Tables
tables_at payload at = record {
  sizes = sizes_at payload at.sizes;
  durations = runs_at payload at.durations;
  offsets = option_map (composition_offsets_at payload) at.offsets;
  chunk_rows = chunk_rows_at payload at.chunk_rows;
  chunk_offsets = offsets_at payload at.chunks;
  sync = option_map (numbers_at 4 payload) at.sync;
  dependencies = option_map (bytes_at payload) at.dependencies;
  groups = groupings_at payload at.groups;
}

-- each key differs from those behind it
abbrev pub AreDistinct : List GroupKey → Type 0
AreDistinct [] = Unit {0}
AreDistinct (key ∷ keys) = AllByRecursion (λ other. same_key key other ≡ false) keys
    × AreDistinct keys

-- there are rows for each key, and none behind the last
abbrev pub AreUsed : List GroupKey → List (List (ℕ × ℕ)) → Type 0
AreUsed [] rows = AllByRecursion (λ (runs : List (ℕ × ℕ)). runs ≡ []) rows
AreUsed (key ∷ keys) [] = ⊥
AreUsed (key ∷ keys) (runs ∷ rows) = AreUsed keys rows

-- offsets of version 0 are below 2^31
abbrev pub AreSmall : Bool → List (ℕ × ℕ) → Type 0
AreSmall true runs = Unit {0}
AreSmall false runs = AllByRecursion (λ (run : ℕ × ℕ). run.1 < 2 ^ 31) runs

-- there are bytes for the offsets, and each can be read
abbrev pub HaveOffsets : List ℕ → Option OffsetsAt → Type 0
HaveOffsets payload None = Unit {0}
HaveOffsets payload (Some at) = HaveRoom 8 payload at.rows
    × AreSmall at.is_signed (runs_at payload at.rows)

abbrev pub HaveSync : List ℕ → Option RowsAt → Type 0
HaveSync payload None = Unit {0}
HaveSync payload (Some at) = HaveRoom 4 payload at

abbrev pub HaveBytes : List ℕ → Option BytesAt → Type 0
HaveBytes payload None = Unit {0}
HaveBytes payload (Some at) = at.place + at.length ≤ length payload

-- indexes fit 16 bits
abbrev pub AreIndexes : List (ℕ × ℕ) → Type 0
AreIndexes runs = AllByRecursion (λ (run : ℕ × ℕ). run.1 ≤ 65535) runs

pub record HaveGroups (payload : List ℕ) (at : GroupsAt) : Type 0 where
  pub four : length at.rows.by_key ≡ 4
  pub room : AllByRecursion (HaveRoom 8 payload) at.rows.by_key
  pub indexes : AllByRecursion (λ (rows : RowsAt). AreIndexes (runs_at payload rows)) at.rows.by_key
  pub distinct : AreDistinct (keys_seen at.keys)
  pub used : AreUsed (keys_seen at.keys) (group_rows payload at)

-- the payload has the bytes of all rows
pub record HaveTables (payload : List ℕ) (at : TablesAt) : Type 0 where
  pub sizes : HaveSizes payload at.sizes.form at.sizes.rows
  pub durations : HaveRoom 8 payload at.durations
  pub offsets : HaveOffsets payload at.offsets
  pub chunk_rows : HaveRoom 12 payload at.chunk_rows
  pub chunks : HaveRoom (offset_width at.chunks.is_wide) payload at.chunks.rows
  pub sync : HaveSync payload at.sync
  pub dependencies : HaveBytes payload at.dependencies
  pub groups : HaveGroups payload at.groups

-- a check accepted the tables that lie there
pub record IsAccepted (payload : List ℕ) (at : TablesAt) : Type 0 where
  pub have : HaveTables payload at
  pub surroundings : Surroundings
  pub small : surroundings.file_length < 2 ^ 64
  pub fit : Fit surroundings (tables_at payload at)

-- ---- places

-- the rows of offsets, none where there is no table
abbrev pub offset_rows : Option OffsetsAt → RowsAt
offset_rows None = record { place = 0; count = 0 }
offset_rows (Some at) = at.rows

-- the offsets as they stand in the rows, all 0 where there is no table
abbrev pub offset_values : List ℕ → Option OffsetsAt → ℕ → List ℕ
offset_values payload None n = replicate n 0
offset_values payload (Some at) n = repeated (runs_at payload at.rows)

-- offsets are signed where a table says so
abbrev pub are_signed : Option OffsetsAt → Bool
are_signed None = false
are_signed (Some at) = at.is_signed

-- a byte for each of n samples
abbrev pub bytes_for : ℕ → Option (List ℕ) → List ℕ
bytes_for n bytes = unwrap_or (option_map (take n) bytes) (replicate n 0)

abbrev pub IsSyncPlaceIn : List ℕ → Option RowsAt → SyncPlace → ℕ → Type 0
IsSyncPlaceIn payload None p i = p.row ≡ 0
IsSyncPlaceIn payload (Some at) p i = IsSyncPlace (numbers_at 4 payload at) p i

-- the numbers of sync samples rise, from 1 to n
abbrev pub AreInOrder : List ℕ → Option RowsAt → ℕ → Type 0
AreInOrder payload None n = Unit {0}
AreInOrder payload (Some at) n = is_sync_order n (numbers_at 4 payload at) ≡ true

-- the place lies before sample k of the rows
abbrev pub IsRunPlaceAt : List (ℕ × ℕ) → RunPlace → ℕ → Type 0
IsRunPlaceAt runs p k = IsRunPlace runs p (drop k (repeated runs))

-- the places lie before sample k of each `sbgp`
pub record AreGroupPlaces (payload : List ℕ) (at : GroupsAt) (p : IndexPlaces) (k : ℕ)
    : Type 0 where
  pub places : AreIndexPlaces payload at.rows p
  pub coming : indexes_coming payload at.rows p
      ≡ map (λ (rows : RowsAt). drop k (indexes_in payload rows)) at.rows.by_key

-- the place lies before sample p.number (from 0), or behind them all
pub record IsPlace (payload : List ℕ) (at : TablesAt) (p : TablePlace) : Type 0 where
  pub within : p.number ≤ at.sizes.rows.count
  pub time : drop p.number (samples_of (tables_at payload at))
      ≡ timed (keys_after [] (groupings_at payload at.groups)) p.number p.dts
      (drop p.number (plain_samples (tables_at payload at)))
  pub early : p.dts ≤ p.number * (2 ^ 32 - 1)
  pub duration : IsRunPlaceAt (runs_at payload at.durations) p.duration p.number
  pub offset : IsRunPlace (runs_at payload (offset_rows at.offsets)) p.offset
      (drop p.number (offset_values payload at.offsets at.sizes.rows.count))
  pub chunk : IsChunkPlace (chunk_rows_at payload at.chunk_rows) (offsets_at payload at.chunks)
      (sizes_at payload at.sizes) p.chunk p.number
  pub sync : IsSyncPlaceIn payload at.sync p.sync (p.number + 1)
  pub groups : AreGroupPlaces payload at.groups p.groups p.number

-- the flags of the sample before which the place lies
abbrev pub flags_here : List ℕ → TablesAt → TablePlace → ℕ
flags_here payload at p =
    slice_index (bytes_for (p.number + 1) (option_map (bytes_at payload) at.dependencies))
    p.number * 2 ^ 20 + non_sync (option_map (numbers_at 4 payload) at.sync) (p.number + 1)
    * 2 ^ 16

-- its index in each `sbgp`, 0 for none
abbrev pub indexes_here : List ℕ → GroupsAt → ℕ → List ℕ
indexes_here payload at k = map (λ (runs : List (ℕ × ℕ)). slice_index (repeated runs) k)
    (group_rows payload at)

-- the rows and samples that a walk passed on its way to a place: of sizes, of bytes of `sdtp` and
-- of samples at most as many as its number each
abbrev pub passed : TablePlace → ℕ
passed p = 3 * p.number + p.duration.row + p.offset.row + p.chunk.opened + p.chunk.row.row
    + p.sync.row + rows_passed p.groups

-- how many rows a table has, if there is one
abbrev pub count_of : Option RowsAt → ℕ
count_of None = 0
count_of (Some at) = at.count

-- how many rows all `sbgp`s have
abbrev pub group_count : GroupsAt → ℕ
group_count at = sum_of (λ (rows : RowsAt). rows.count) at.rows.by_key

-- how many rows the tables have, beside the sizes and the bytes of `sdtp`, which are one a sample
abbrev pub rows_in : TablesAt → ℕ
rows_in at = at.durations.count + (offset_rows at.offsets).count + at.chunk_rows.count
    + at.chunks.rows.count + count_of at.sync + group_count at.groups

-- rows of offsets are read once to count them, and unsigned ones once more to judge them
abbrev pub readings : Bool → ℕ → ℕ
readings true n = n
readings false n = 2 * n

-- the steps of a check of offsets
abbrev pub offset_steps : Option OffsetsAt → ℕ
offset_steps None = 0
offset_steps (Some at) = readings at.is_signed at.rows.count

-- The steps of a check of all tables: one for each row of `stts`, `stsc` and `stss`, those of
-- `ctts`, two for each row of an `sbgp` and for each sample, and six for each chunk.
abbrev pub check_steps : TablesAt → ℕ
check_steps at = at.durations.count + offset_steps at.offsets + at.chunk_rows.count
    + 6 * at.chunks.rows.count + count_of at.sync + 2 * group_count at.groups
    + 2 * at.sizes.rows.count
