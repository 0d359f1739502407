-- The rows of tables that lie in a payload are those of the tables that lie there.
use Rattle.std.proofs.Common.{◌≡◌, ℕ, ◌+◌, List, [], ◌∷◌, length, map, Option, Some, None, refl, sym, ap, ◌∙◌, arith}
use Rattle.std.specs.Prelude.{option_map}
use Rattle.std.specs.List.{AllByRecursion}
use Rattle.std.proofs.lemmas.List.{length-map}
use Rattle.mp4_boxes.specs.format.Bytes.{sum_of}
use Rattle.mp4_tables.specs.words.Accepted.{AreUsed, HaveTables, grouped, groupings_at, group_rows, group_count, offset_rows, count_of, rows_in, tables_at, composition_offsets_at}
use Rattle.mp4_tables.specs.format.Groups.{GroupKey, Grouping}
use Rattle.mp4_tables.specs.words.Keys.{keys_seen}
use Rattle.mp4_tables.specs.words.Rows.{runs_at, numbers_at, offset_width}
use Rattle.mp4_tables.specs.format.TableRows.{rows_if, table_rows}
use Rattle.mp4_tables.specs.declared.places.RowsAt.{RowsAt}
use Rattle.mp4_tables.specs.declared.places.OffsetsAt.{OffsetsAt}
use Rattle.mp4_tables.specs.declared.places.GroupsAt.{GroupsAt}
use Rattle.mp4_tables.specs.declared.places.TablesAt.{TablesAt}
use Rattle.mp4_tables.proofs.RowLists.{runs_length, numbers_length, chunk_rows_length}

offsets_count : (payload : List ℕ) (o : Option OffsetsAt) → (offset_rows o).count ≡ rows_if (option_map (composition_offsets_at payload) o)
offsets_count payload None = refl
offsets_count payload (Some at) = sym (length-map (runs_at payload at.rows) _ ∙ runs_length payload at.rows)

sync_count : (payload : List ℕ) (o : Option RowsAt) → count_of o ≡ rows_if (option_map (numbers_at 4 payload) o)
sync_count payload None = refl
sync_count payload (Some at) = sym (numbers_length 4 payload at)

none_left : (rows : List (List (ℕ × ℕ))) → AllByRecursion (λ (runs : List (ℕ × ℕ)). runs ≡ []) rows → sum_of (λ (runs : List (ℕ × ℕ)). length runs) rows ≡ 0
none_left [] h = refl
none_left (runs ∷ rows) h = let none = ap (λ (r : List (ℕ × ℕ)). length r) h.0 in let more = none_left rows h.1 in omega (arith, none, more)

used_rows : (keys : List GroupKey) (rows : List (List (ℕ × ℕ))) → AreUsed keys rows → sum_of (λ (runs : List (ℕ × ℕ)). length runs) rows ≡ sum_of (λ (g : Grouping). length g.rows) (grouped keys rows)
used_rows [] rows h = none_left rows h
used_rows (key ∷ keys) [] h = absurd h
used_rows (key ∷ keys) (runs ∷ rows) h = ap (λ n. length runs + n) (used_rows keys rows h)

counts_are : (payload : List ℕ) (rows : List RowsAt) → sum_of (λ (r : RowsAt). r.count) rows ≡ sum_of (λ (runs : List (ℕ × ℕ)). length runs) (map (runs_at payload) rows)
counts_are payload [] = refl
counts_are payload (r ∷ rows) = let own = runs_length payload r in let more = counts_are payload rows in omega (arith, own, more)

pub groups_count : (payload : List ℕ) (at : GroupsAt) → AreUsed (keys_seen at.keys) (group_rows payload at) → group_count at ≡ sum_of (λ (g : Grouping). length g.rows) (groupings_at payload at)
groups_count payload at h = counts_are payload at.rows.by_key ∙ used_rows (keys_seen at.keys) (group_rows payload at) h

pub rows_are : (payload : List ℕ) (at : TablesAt) → HaveTables payload at → rows_in at ≡ table_rows (tables_at payload at)
unfolding tables_at
rows_are payload at h =
    let durations = runs_length payload at.durations in
    let offsets = offsets_count payload at.offsets in
    let rows = chunk_rows_length payload at.chunk_rows in
    let chunks = numbers_length (offset_width at.chunks.is_wide) payload at.chunks.rows in
    let sync = sync_count payload at.sync in
    let groups = groups_count payload at.groups h.groups.used in
    omega (arith, durations, offsets, rows, chunks, sync, groups)
