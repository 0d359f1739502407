-- Laws of what tables name: where the samples of a chunk lie, and which index a sample has at a
-- key.
use Rattle.std.specs.Prelude.{◌≡◌, ◌↔◌, ℕ, ◌+◌, ◌<◌, ◌≤◌, List, [], ◌∷◌, length, take, drop, get_or, slice_index, IsTrue, if◌then◌else◌, pos}
use Rattle.mp4_boxes.specs.format.Bytes.{sum_of, AreBytes}
use Rattle.mp4_tables.specs.format.Repeated.{repeated}
use Rattle.mp4_tables.specs.format.Groups.{GroupKey, Grouping, GroupRule, key_rank, same_key, index_at, maps_of, group_test}
use Rattle.mp4_tables.specs.format.Tables.{ChunkRow}
use Rattle.mp4_tables.specs.format.PlainSamples.{Spot, row_of_chunk, in_chunks, in_chunks_total}
use Rattle.mp4_present.specs.format.Presentation.{IsParameter}

-- ---- chunks

-- the sum of numbers
abbrev pub sum_all : List ℕ → ℕ
sum_all ns = sum_of (λ n. n) ns

-- how many samples lie in the first k chunks
abbrev pub before_chunk : List ChunkRow → List ℕ → ℕ → ℕ
before_chunk rows offsets k = in_chunks_total rows 1 (take k offsets)

-- the j-th sample of a chunk, both from 0: it begins behind those before it in the chunk, and has
-- the description of the chunk's row
abbrev pub in_chunk : List ChunkRow → List ℕ → List ℕ → ℕ → ℕ → Spot
in_chunk rows offsets sizes k j =
    let first = before_chunk rows offsets k in
    record {
      at = pos (slice_index offsets k + sum_all (take j (drop first sizes)));
      size = slice_index sizes (first + j);
      description = (row_of_chunk rows (1 + k)).description;
    }

-- Where there are sizes for all chunks, the samples of each chunk follow those of the chunks before
-- it, and lie one after the other from its offset.
abbrev pub SamplesLieInChunks : Type 0
SamplesLieInChunks = (rows : List ChunkRow) (offsets sizes : List ℕ)
    → in_chunks_total rows 1 offsets ≤ length sizes
    → (k j : ℕ) → k < length offsets → j < (row_of_chunk rows (1 + k)).count → (d : Spot)
    → get_or (in_chunks rows 1 offsets sizes) (before_chunk rows offsets k + j) d
    ≡ in_chunk rows offsets sizes k j

-- ---- groups

-- the index that the `sbgp` of a key gives the i-th sample from 0: that of its rows, 0 behind them,
-- and 0 without one
abbrev pub index_by : GroupKey → List Grouping → ℕ → ℕ
index_by key [] i = 0
index_by key (g ∷ groupings) i = if same_key key g.key then slice_index (repeated g.rows) i
    else index_by key groupings i

-- Where `sbgp`s keep their rules, each sample has at each key the index that the `sbgp` of the key
-- gives it.
abbrev pub GroupsAreIndexes : Type 0
GroupsAreIndexes = (n : ℕ) (keys : List GroupKey) (groupings : List Grouping)
    → ((rule : GroupRule) (k : ℕ) → IsTrue (group_test rule n keys groupings k))
    → (i : ℕ) → i < n → (key : GroupKey) → index_at key (get_or (maps_of n groupings) i [])
    ≡ index_by key groupings i

-- a type of four bytes, and a parameter of 32 bits, where there is one
pub record IsKey (key : GroupKey) : Type 0 where
  pub kind_length : length key.kind ≡ 4
  pub kind : AreBytes key.kind
  pub parameter : IsParameter key.parameter

-- Keys are the same exactly if their ranks are.
abbrev pub KeysAreRanked : Type 0
KeysAreRanked = (a b : GroupKey) → IsKey a → IsKey b → (key_rank a ≡ key_rank b) ↔ (a ≡ b)
