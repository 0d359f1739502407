-- The tables of one track as plain values, and how they are read from the boxes of `stbl` (ISO/IEC
-- 14496-12, 8.5 to 8.7).
use Rattle.std.specs.Prelude.{ℕ, zero, suc, ◌/◌, ◌%◌, List, [], ◌∷◌, drop, map, Option, Some, None, option_map, ℤ, pos, replicate, slice_index, codes, ◌==◌, if◌then◌else◌}
use Rattle.byteorder.specs.Endian.{twos_complement}
use Rattle.mp4_boxes.specs.format.Bytes.{field, rows}
use Rattle.mp4_boxes.specs.format.Box.{Box}
use Rattle.mp4_boxes.specs.format.Children.{payload_of, payload_if, of_kind}
use Rattle.mp4_boxes.specs.format.Layout.{stts, ctts, stsc, stsz, stco, co64, stss, leaf_rows, version, size_bits}
use Rattle.mp4_tables.specs.format.Groups.{Grouping, groupings_of}

-- a row of `stsc` (8.7.4): from this chunk on, so many samples a chunk, with this description index
pub record ChunkRow : Type 0 where
  pub first : ℕ
  pub count : ℕ
  pub description : ℕ

pub record Tables : Type 0 where
  -- `stsz`, `stz2` (8.7.3): the size of each sample
  pub sizes : List ℕ
  -- `stts` (8.6.1.2): so many samples of this duration
  pub durations : List (ℕ × ℕ)
  -- `ctts` (8.6.1.3): so many samples of this composition offset
  pub offsets : Option (List (ℕ × ℤ))
  pub chunk_rows : List ChunkRow
  -- `stco`, `co64` (8.7.5): where each chunk begins in the file
  pub chunk_offsets : List ℕ
  -- `stss` (8.6.2): the numbers of the sync samples; without it each sample is one
  pub sync : Option (List ℕ)
  -- `sdtp` (8.6.4): a byte for each sample
  pub dependencies : Option (List ℕ)
  -- `sbgp` (8.9.2), in file order
  pub groups : List Grouping

-- the number of samples that `stsz` or `stz2` names
abbrev pub sample_count : List ℕ → ℕ
sample_count payload = field payload 8 4

abbrev pub first_number : List ℕ → ℕ
first_number row = slice_index row 0

-- a composition offset: unsigned in version 0, signed in version 1
abbrev pub composition_offset : ℕ → ℕ → ℤ
composition_offset v n = if v == 0 then pos n else twos_complement 4 n

abbrev pub sizes_of : List ℕ → List ℕ
sizes_of payload = if field payload 4 4 == 0 then map first_number (leaf_rows stsz payload)
    else replicate (sample_count payload) (field payload 4 4)

-- n half bytes, the high half of a byte first
abbrev pub half_bytes : ℕ → List ℕ → List ℕ
half_bytes zero bytes = []
half_bytes (suc zero) bytes = field bytes 0 1 / 16 ∷ []
half_bytes (suc (suc n)) bytes = field bytes 0 1 / 16 ∷ field bytes 0 1 % 16
    ∷ half_bytes n (drop 1 bytes)

abbrev pub compact_sizes_of : List ℕ → List ℕ
compact_sizes_of payload =
    if size_bits payload == 4 then half_bytes (sample_count payload) (drop 12 payload)
    else map first_number
    (rows (sample_count payload) (size_bits payload / 8 ∷ []) (drop 12 payload))

-- of `stsz` where there is one, else of `stz2`
abbrev pub sample_sizes_of : Option (List ℕ) → List ℕ → List ℕ
sample_sizes_of (Some payload) compact = sizes_of payload
sample_sizes_of None compact = compact_sizes_of compact

abbrev pub durations_of : List ℕ → List (ℕ × ℕ)
durations_of payload = map (λ row. (slice_index row 0, slice_index row 1)) (leaf_rows stts payload)

abbrev pub offsets_of : List ℕ → List (ℕ × ℤ)
offsets_of payload =
    map (λ row. (slice_index row 0, composition_offset (version payload) (slice_index row 1)))
    (leaf_rows ctts payload)

abbrev pub chunk_rows_of : List ℕ → List ChunkRow
chunk_rows_of payload = map (λ row. record {
  first = slice_index row 0;
  count = slice_index row 1;
  description = slice_index row 2;
}) (leaf_rows stsc payload)

-- of 32 bits where there is a `stco`, else of 64
abbrev pub chunk_offsets_of : Option (List ℕ) → List ℕ → List ℕ
chunk_offsets_of (Some payload) large = map first_number (leaf_rows stco payload)
chunk_offsets_of None large = map first_number (leaf_rows co64 large)

-- the tables in the boxes of an `stbl`
abbrev pub tables_of : List Box → Tables
tables_of boxes = record {
  sizes = sample_sizes_of (payload_if (codes "stsz") boxes) (payload_of (codes "stz2") boxes);
  durations = durations_of (payload_of (codes "stts") boxes);
  offsets = option_map offsets_of (payload_if (codes "ctts") boxes);
  chunk_rows = chunk_rows_of (payload_of (codes "stsc") boxes);
  chunk_offsets = chunk_offsets_of (payload_if (codes "stco") boxes)
      (payload_of (codes "co64") boxes);
  sync = option_map (λ payload. map first_number (leaf_rows stss payload))
      (payload_if (codes "stss") boxes);
  dependencies = option_map (λ payload. drop 4 payload) (payload_if (codes "sdtp") boxes);
  groups = groupings_of (of_kind (codes "sbgp") boxes);
}
