-- What was read of each table makes the tables of an `stbl`, accepted.
use Rattle.std.proofs.Common.{◌≡◌, ℕ, ◌<◌, ◌^◌, List, [], length, subst, ap, sym, ◌∙◌, arith, true}
use Rattle.std.specs.Prelude.{option_map, unwrap_or, nat_le, ◌==◌, ℤ}
use Rattle.mp4_boxes.specs.format.Box.{Box}
use Rattle.mp4_tables.specs.format.Repeated.{total}
use Rattle.mp4_tables.specs.format.Groups.{keys_after, group_test}
use Rattle.mp4_tables.specs.format.PlainSamples.{in_chunks_total}
use Rattle.mp4_tables.specs.format.TableRules.{dependency_room, duration_counts, offset_counts, chunk_counts, chunk_order, sync_order, description_indexes, places, table_group, Fit, is_sync_order}
use Rattle.mp4_tables.specs.words.Accepted.{tables_at, group_rows}
use Rattle.mp4_tables.specs.words.Keys.{keys_seen}
use Rattle.mp4_tables.specs.words.Leaves.{tables_in, surroundings_of, SizesRead, DurationsRead, OffsetsRead, ChunksRead, ChunkRowsRead, PlacesRead, SyncRead, DependenciesRead, GroupsRead, TablesRead}
use Rattle.mp4_tables.specs.declared.leaves.Limits.{Limits}
use Rattle.mp4_tables.specs.declared.places.TablesAt.{TablesAt}
use Rattle.mp4_tables.proofs.SizeReads.{sizes_known}
use Rattle.mp4_tables.proofs.IndexLists.{group_keys}

-- all that was read
pub record Parts (l : Limits) (stbl : Box) (at : TablesAt) : Type 0 where
  pub sizes : SizesRead l stbl at.sizes
  pub durations : DurationsRead stbl at.sizes.rows.count at.durations
  pub offsets : OffsetsRead stbl at.sizes.rows.count at.offsets
  pub chunks : ChunksRead stbl at.chunks
  pub chunk_rows : ChunkRowsRead l stbl at.sizes.rows.count at.chunk_rows
  pub places : PlacesRead l stbl
  pub sync : SyncRead stbl at.sizes.rows.count at.sync
  pub dependencies : DependenciesRead stbl at.sizes.rows.count at.dependencies
  pub groups : GroupsRead stbl at.sizes.rows.count at.groups

fits : (l : Limits) (stbl : Box) (at : TablesAt) → Parts l stbl at → Fit (surroundings_of l) (tables_in stbl)
fits l stbl at p dependency_room = (let n = (sizes_known l stbl at.sizes p.sizes).count in ap (λ m. unwrap_or (option_map (λ (bytes : List ℕ). nat_le m (length bytes)) (tables_in stbl).dependencies) true) n) ∙ p.dependencies.room
fits l stbl at p duration_counts = (let n = (sizes_known l stbl at.sizes p.sizes).count in ap (λ m. total (tables_in stbl).durations == m) n) ∙ p.durations.count
fits l stbl at p offset_counts = (let n = (sizes_known l stbl at.sizes p.sizes).count in ap (λ m. unwrap_or (option_map (λ (rows : List (ℕ × ℤ)). total rows == m) (tables_in stbl).offsets) true) n) ∙ p.offsets.count
fits l stbl at p chunk_counts = (let n = (sizes_known l stbl at.sizes p.sizes).count in ap (λ m. in_chunks_total (tables_in stbl).chunk_rows 1 (tables_in stbl).chunk_offsets == m) n) ∙ p.chunk_rows.count
fits l stbl at p chunk_order = p.chunk_rows.ordered
fits l stbl at p sync_order = (let n = (sizes_known l stbl at.sizes p.sizes).count in ap (λ m. unwrap_or (option_map (is_sync_order m) (tables_in stbl).sync) true) n) ∙ p.sync.ordered
fits l stbl at p description_indexes = p.chunk_rows.described
fits l stbl at p places = p.places
fits l stbl at p (table_group rule k) = (let n = (sizes_known l stbl at.sizes p.sizes).count in ap (λ m. group_test rule m [] (tables_in stbl).groups k) n) ∙ p.groups.so.tests rule k

same_tables : (l : Limits) (stbl : Box) (at : TablesAt) → Parts l stbl at → tables_at stbl.payload at ≡ tables_in stbl
unfolding tables_at
same_tables l stbl at p = λ i. record {
  sizes = p.sizes.same i;
  durations = p.durations.same i;
  offsets = p.offsets.same i;
  chunk_rows = p.chunk_rows.same i;
  chunk_offsets = p.chunks.same i;
  sync = p.sync.same i;
  dependencies = p.dependencies.same i;
  groups = p.groups.so.same i;
}

pub tables_read : (l : Limits) (stbl : Box) (at : TablesAt) → l.file_len < 2 ^ 64 → Parts l stbl at → TablesRead l stbl at
tables_read l stbl at small p =
    let same = same_tables l stbl at p in
    let fit = fits l stbl at p in
    let n = (sizes_known l stbl at.sizes p.sizes).count in
    let few = p.sizes.few in
    record {
      accepted = record {
        have = record { sizes = p.sizes.have; durations = p.durations.have; offsets = p.offsets.have; chunk_rows = p.chunk_rows.have; chunks = p.chunks.have; sync = p.sync.have; dependencies = p.dependencies.have; groups = p.groups.so.have };
        surroundings = surroundings_of l;
        small = small;
        fit = subst (Fit (surroundings_of l)) (sym same) fit;
      };
      same = same;
      all = record {
        sizes = p.sizes.words;
        compact = p.sizes.compact;
        durations = p.durations.sound;
        offsets = p.offsets.sound;
        narrow = p.chunks.narrow;
        wide = p.chunks.wide;
        chunk_rows = p.chunk_rows.sound;
        sync = p.sync.sound;
        dependencies = p.dependencies.sound;
        groups = p.groups.groups;
        described = p.groups.described;
        fit = fit;
        few = omega arith;
      };
      keys = sym (group_keys (keys_seen at.groups.keys) (group_rows stbl.payload at.groups) p.groups.so.have.distinct p.groups.so.have.used) ∙ ap (keys_after []) p.groups.so.same;
    }
