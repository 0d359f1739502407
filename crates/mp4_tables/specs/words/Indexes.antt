-- Indexes of samples still to come in the `sbgp` of each key of a track.
use Rattle.std.specs.Prelude.{◌≡◌, ℕ, ◌+◌, ◌%◌, ◌^◌, ◌≤◌, List, [], ◌∷◌, map, false}
use Rattle.std.specs.List.{AllByRecursion, AllZip}
use Rattle.mp4_tables.specs.format.Repeated.{repeated}
use Rattle.mp4_tables.specs.words.Rows.{HaveRoom, runs_at}
use Rattle.mp4_tables.specs.words.TablesComing.{coming}
use Rattle.mp4_tables.specs.declared.places.RowsAt.{RowsAt}
use Rattle.mp4_tables.specs.declared.places.RunPlace.{RunPlace}
use Rattle.mp4_tables.specs.declared.indexes.IndexRows.{IndexRows}
use Rattle.mp4_tables.specs.declared.indexes.IndexPlaces.{IndexPlaces}

-- an index has 16 bits
abbrev pub low_half : ℕ → ℕ
low_half index = index % 2 ^ 16

-- the indexes that the rows of one key give
abbrev pub indexes_in : List ℕ → RowsAt → List ℕ
indexes_in payload rows = map low_half (repeated (runs_at payload rows))

-- those to come
abbrev pub indexes_left : List ℕ → RowsAt → RunPlace → List ℕ
indexes_left payload rows p = map low_half (coming (runs_at payload rows) p)

-- those of each key
abbrev pub each_left : List ℕ → List RowsAt → List RunPlace → List (List ℕ)
each_left payload [] places = []
each_left payload (r ∷ rows) [] = []
each_left payload (r ∷ rows) (p ∷ places) = indexes_left payload r p ∷ each_left payload rows places

unfoldable pub indexes_coming : List ℕ → IndexRows → IndexPlaces → List (List ℕ)
indexes_coming payload rows places = each_left payload rows.by_key places.by_key

-- there are bytes for the rows, the place is not past them, and where it has no index in hand none
-- is to come
pub record IsIndexPlace (payload : List ℕ) (rows : RowsAt) (p : RunPlace) : Type 0 where
  pub room : HaveRoom 8 payload rows
  pub settled : p.left ≡ 0 → coming (runs_at payload rows) p ≡ []
  pub within : p.row ≤ rows.count

-- so it is for each key, and where it is said that none is left, none has an index in hand
pub record AreIndexPlaces (payload : List ℕ) (rows : IndexRows) (places : IndexPlaces)
    : Type 0 where
  pub each : AllZip (IsIndexPlace payload) rows.by_key places.by_key
  pub over : places.are_left ≡ false → AllByRecursion (λ (p : RunPlace). p.left ≡ 0) places.by_key

-- how many rows were passed of all keys
abbrev pub rows_before : List RunPlace → ℕ
rows_before [] = 0
rows_before (p ∷ places) = p.row + rows_before places

unfoldable pub rows_passed : IndexPlaces → ℕ
rows_passed places = rows_before places.by_key
