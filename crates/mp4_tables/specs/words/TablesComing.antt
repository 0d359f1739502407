-- What a place in a table stands for: what is still to come of it.
use Rattle.std.specs.Prelude.{◌≡◌, ℕ, ◌+◌, ◌-◌, ◌<◌, ◌≤◌, List, [], ◌∷◌, ◌++◌, length, take, drop, map, replicate, Bool, true, ◌||◌, ◌&&◌, pos, filter, nat_le, nat_lt, nat_eq, unwrap_or, None, slice_index}
use Rattle.std.specs.List.{last_or, list_any, list_all}
use Rattle.mp4_tables.specs.format.Repeated.{repeated}
use Rattle.mp4_tables.specs.format.Tables.{ChunkRow}
use Rattle.mp4_tables.specs.format.PlainSamples.{Spot, row_of_chunk, laid_out, in_chunks}
use Rattle.mp4_tables.specs.format.TableRules.{is_rising_after, is_index, lies_within}
use Rattle.mp4_tables.specs.declared.places.RunPlace.{RunPlace}
use Rattle.mp4_tables.specs.declared.places.ChunkRowPlace.{ChunkRowPlace}
use Rattle.mp4_tables.specs.declared.places.ChunkPlace.{ChunkPlace}
use Rattle.mp4_tables.specs.declared.places.SyncPlace.{SyncPlace}

-- the values still to come of rows that repeat
unfoldable pub coming : List (ℕ × ℕ) → RunPlace → List ℕ
coming runs p = replicate p.left p.value ++ repeated (drop p.row runs)

-- these values are to come, and where the place has none of them in hand there are none
pub record IsRunPlace (runs : List (ℕ × ℕ)) (p : RunPlace) (values : List ℕ) : Type 0 where
  pub rest : coming runs p ≡ values
  pub settled : p.left ≡ 0 → values ≡ []
  pub within : p.row ≤ length runs

-- the value of each row is below a bound
abbrev pub all_below : ℕ → List (ℕ × ℕ) → Bool
all_below bound runs = list_all (λ run. nat_lt run.1 bound) runs

-- ---- chunks

-- the last of the rows that begins at or before the chunk, or the one before them
abbrev pub row_after : ChunkRow → List ChunkRow → ℕ → ChunkRow
row_after before rows c = unwrap_or (last_or None (filter (λ row. nat_le row.first c) rows)) before

abbrev pub row_in_hand : ℕ → ChunkRowPlace → ChunkRow
row_in_hand first p = record { first = first; count = p.samples; description = p.description }

-- the place has the row of chunk c, and the rows behind it begin behind that chunk
pub record IsRowPlace (rows : List ChunkRow) (c : ℕ) (p : ChunkRowPlace) : Type 0 where
  pub first : ℕ
  pub same : (d : ℕ) → c ≤ d
      → row_of_chunk rows d ≡ row_after (row_in_hand first p) (drop p.row rows) d
  pub rising : is_rising_after c (map (λ (row : ChunkRow). row.first) (drop p.row rows)) ≡ true

-- where the samples still to come lie, by their sizes
unfoldable pub spots_coming : List ChunkRow → List ℕ → ChunkPlace → List ℕ → List Spot
spots_coming rows offsets p sizes = laid_out (pos p.at) p.row.description (take p.left sizes)
    ++ in_chunks rows (p.opened + 1) (drop p.opened offsets) (drop p.left sizes)

abbrev pub no_spots : List ℕ → List Spot
no_spots sizes = []

-- where a sample of this size lies that comes next
abbrev pub next_spot : ChunkPlace → ℕ → Spot
next_spot p size = record { at = pos p.at; size = size; description = p.row.description }

-- all samples lie in a file of this length
abbrev pub all_lie_within : ℕ → List Spot → Bool
all_lie_within file_length spots = list_all (λ spot. lies_within file_length spot.at spot.size)
    spots

-- every chunk that holds samples has a description
abbrev pub are_described : ℕ → List ChunkRow → ℕ → List ℕ → Bool
are_described descriptions rows c [] = true
are_described descriptions rows c (offset ∷ offsets) = (nat_eq (row_of_chunk rows c).count 0
    || is_index descriptions (row_of_chunk rows c).description)
    && are_described descriptions rows (c + 1) offsets

-- the place lies before sample k (from 0) of these sizes, or behind them all
pub record IsChunkPlace (rows : List ChunkRow) (offsets sizes : List ℕ) (p : ChunkPlace) (k : ℕ)
    : Type 0 where
  pub rest : drop k (in_chunks rows 1 offsets sizes) ≡ spots_coming rows offsets p (drop k sizes)
  pub settled : p.left ≡ 0 → spots_coming rows offsets p ≡ no_spots
  pub row : p.opened < length offsets → IsRowPlace rows p.opened p.row
  pub opened : p.opened ≤ length offsets
  pub passed : p.row.row ≤ length rows

-- ---- sync samples

-- the place lies before sample number i (from 1): the numbers behind it name the same of the
-- samples to come, and the first of them is in hand
pub record IsSyncPlace (named : List ℕ) (p : SyncPlace) (i : ℕ) : Type 0 where
  pub same : (j : ℕ) → i ≤ j → list_any (nat_eq j) named ≡ list_any (nat_eq j) (drop p.row named)
  pub rising : is_rising_after (i - 1) (drop p.row named) ≡ true
  pub next : p.next ≡ slice_index named p.row
  pub within : p.row ≤ length named
