-- The samples that the tables of a track name (ISO/IEC 14496-12, 8.6 and 8.7).
use Rattle.std.specs.Prelude.{ℕ, ◌+◌, ◌*◌, ◌^◌, nat_le, List, [], ◌∷◌, ◌++◌, length, take, drop, filter, replicate, Option, Some, None, unwrap_or, option_map, ℤ, pos, ◌+ℤ◌, nat_eq, if◌then◌else◌}
use Rattle.std.specs.List.{last_or, list_any}
use Rattle.mp4_tables.specs.format.Repeated.{repeated}
use Rattle.mp4_tables.specs.format.Groups.{Groups, maps_of}
use Rattle.mp4_tables.specs.format.Tables.{Tables, ChunkRow}

-- a sample without its bytes: where they lie is a whole number, which a faulty file can make
-- negative or too large
pub record PlacedSample : Type 0 where
  pub duration : ℕ
  pub offset : ℤ
  pub flags : ℕ
  pub description : ℕ
  pub at : ℤ
  pub size : ℕ
  pub groups : Groups

-- samples in a row with their groups
abbrev pub with_groups : List Groups → List PlacedSample → List PlacedSample
with_groups maps [] = []
with_groups [] (s ∷ samples) = s ∷ samples
with_groups (groups ∷ maps) (s ∷ samples) = record s { groups = groups } ∷ with_groups maps samples

-- the row of a chunk: the last whose first chunk is not above it
abbrev pub row_of_chunk : List ChunkRow → ℕ → ChunkRow
row_of_chunk rows c = unwrap_or (last_or None (filter (λ row. nat_le row.first c) rows))
    (record { first = 0; count = 0; description = 0 })

-- where samples lie
pub record Spot : Type 0 where
  pub at : ℤ
  pub size : ℕ
  pub description : ℕ

-- samples of these sizes lie one after the other from a place
abbrev pub laid_out : ℤ → ℕ → List ℕ → List Spot
laid_out at description [] = []
laid_out at description (size ∷ sizes) = record { at = at; size = size; description = description }
    ∷ laid_out (at +ℤ pos size) description sizes

-- The samples chunk by chunk, from chunk c on: each chunk takes as many as its row says, and they
-- lie one after the other from its offset.
abbrev pub in_chunks : List ChunkRow → ℕ → List ℕ → List ℕ → List Spot
in_chunks rows c [] sizes = []
in_chunks rows c (offset ∷ offsets) sizes =
    let row = row_of_chunk rows c in
    laid_out (pos offset) row.description (take row.count sizes)
    ++ in_chunks rows (c + 1) offsets (drop row.count sizes)

-- how many samples the chunks hold, from chunk c on
abbrev pub in_chunks_total : List ChunkRow → ℕ → List ℕ → ℕ
in_chunks_total rows c [] = 0
in_chunks_total rows c (offset ∷ offsets) = (row_of_chunk rows c).count
    + in_chunks_total rows (c + 1) offsets

-- 1 where there is a table of sync samples that does not name the sample
abbrev pub non_sync : Option (List ℕ) → ℕ → ℕ
non_sync None i = 0
non_sync (Some named) i = if list_any (nat_eq i) named then 0 else 1

-- the flags of samples from number i on, by their bytes of `sdtp`: is_leading to has_redundancy,
-- then sample_is_non_sync_sample (8.8.3.1)
abbrev pub flags_from : Option (List ℕ) → ℕ → List ℕ → List ℕ
flags_from sync i [] = []
flags_from sync i (dependency ∷ dependencies) = (dependency * 2 ^ 20 + non_sync sync i * 2 ^ 16)
    ∷ flags_from sync (i + 1) dependencies

-- samples from the lists of their parts, in no group
abbrev pub joined : List ℕ → List ℤ → List ℕ → List Spot → List PlacedSample
joined (duration ∷ durations) (offset ∷ offsets) (flags ∷ more) (spot ∷ spots) =
    record {
      duration = duration;
      offset = offset;
      flags = flags;
      description = spot.description;
      at = spot.at;
      size = spot.size;
      groups = [];
    } ∷ joined durations offsets more spots
joined _ _ _ _ = []

abbrev pub spots_of : Tables → List Spot
spots_of t = in_chunks t.chunk_rows 1 t.chunk_offsets t.sizes

-- the samples in order of their numbers
abbrev pub plain_samples : Tables → List PlacedSample
plain_samples t =
    let n = length t.sizes in
    with_groups (maps_of n t.groups) (joined (repeated t.durations)
    (unwrap_or (option_map repeated t.offsets) (replicate n (pos 0)))
    (flags_from t.sync 1 (unwrap_or (option_map (take n) t.dependencies) (replicate n 0)))
    (spots_of t))
