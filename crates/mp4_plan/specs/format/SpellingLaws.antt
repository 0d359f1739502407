-- Laws of how a piece is spelled: which numbers of its samples stand once, which in each row, and
-- which rows its groups have.
use Rattle.std.specs.Prelude.{◌≡◌, ◌≢◌, ◌↔◌, ℕ, ◌<◌, Bool, true, false, List, [], ◌∷◌, length, drop, map, flat_map, Option, Some, None, pos}
use Rattle.std.specs.List.{AllByRecursion, list_any}
use Rattle.mp4_boxes.specs.format.Layout.{flags, has, column_values, tfhd_columns, sample_duration_present, sample_size_present, sample_flags_present, sample_composition_time_offset_present}
use Rattle.mp4_tables.specs.format.Repeated.{repeated}
use Rattle.mp4_tables.specs.format.Groups.{GroupKey, key_rank, same_key}
use Rattle.mp4_frag.specs.format.Fragments.{column}
use Rattle.mp4_present.specs.format.Presentation.{Presentation, Valid}
use Rattle.mp4_content.specs.format.TimedSamples.{TimedSample}
use Rattle.mp4_plan.specs.format.Pieces.{Piece, pieces}
use Rattle.mp4_plan.specs.format.Normal.{tfhd_bytes, trun_bytes, piece_keys, longest_runs}

-- ---- columns

-- all samples have one number
abbrev pub AreAlike : (TimedSample → ℕ) → List TimedSample → Type 0
AreAlike value [] = Unit {0}
AreAlike value (s ∷ samples) = AllByRecursion (λ (t : TimedSample). value t ≡ value s) samples

-- A number is spelled once: where all samples have one, it is the default and no column; where they
-- differ, it is a column and there is no default.
abbrev pub IsSpelledOnce : (TimedSample → ℕ) → List TimedSample → Option ℕ → Bool → Type 0
IsSpelledOnce value samples (Some n) is_column = AllByRecursion (λ (s : TimedSample). value s ≡ n)
    samples × (is_column ≡ false)
IsSpelledOnce value samples None is_column = (AreAlike value samples → ⊥) × (is_column ≡ true)

-- what the `tfhd` of a piece says of all samples: default_sample_duration, default_sample_size,
-- default_sample_flags behind two other fields
abbrev pub defaults : Piece → List (Option ℕ)
defaults piece = let head = drop 8 (tfhd_bytes piece) in
    column_values (flags head) tfhd_columns (drop 8 head)

-- the flags of its `trun`
abbrev pub run_bits : ℕ → Piece → ℕ
run_bits data_offset piece = flags (drop 8 (trun_bytes data_offset piece.samples))

-- Each number of the samples of a piece is spelled once, and composition offsets stand there
-- exactly if some is not 0.
pub record HasOneSpelling (data_offset : ℕ) (piece : Piece) : Type 0 where
  pub durations : IsSpelledOnce (λ (s : TimedSample). s.sample.duration) piece.samples
      (column (defaults piece) 2) (has (run_bits data_offset piece) sample_duration_present)
  pub sizes : IsSpelledOnce (λ (s : TimedSample). length s.sample.bytes) piece.samples
      (column (defaults piece) 3) (has (run_bits data_offset piece) sample_size_present)
  pub flags : IsSpelledOnce (λ (s : TimedSample). s.sample.flags) piece.samples
      (column (defaults piece) 4) (has (run_bits data_offset piece) sample_flags_present)
  pub offsets : (has (run_bits data_offset piece) sample_composition_time_offset_present ≡ false)
      ↔ AllByRecursion (λ (s : TimedSample). s.sample.offset ≡ pos 0) piece.samples

-- In the normal form of what is valid each piece has one spelling of its columns.
abbrev pub ColumnsAreSpelledOnce : Type 0
ColumnsAreSpelledOnce = (p : Presentation) (data_offset : ℕ) → Valid p
    → AllByRecursion (HasOneSpelling data_offset) (pieces p)

-- ---- rows of groups

abbrev pub DiffersFromNext : ℕ × ℕ → List (ℕ × ℕ) → Type 0
DiffersFromNext row [] = Unit {0}
DiffersFromNext row (next ∷ rows) = row.1 ≢ next.1

-- each row has another value than the next
abbrev pub RowsAlternate : List (ℕ × ℕ) → Type 0
RowsAlternate [] = Unit {0}
RowsAlternate (row ∷ rows) = DiffersFromNext row rows × RowsAlternate rows

-- the longest runs of equal values: joined they are the values, none is empty, and neighbours
-- differ
pub record AreLongestRows (values : List ℕ) (rows : List (ℕ × ℕ)) : Type 0 where
  pub joined : repeated rows ≡ values
  pub some : AllByRecursion (λ (row : ℕ × ℕ). 0 < row.0) rows
  pub longest : RowsAlternate rows

-- The rows of an `sbgp` are the longest runs of the indexes of its samples.
abbrev pub GroupRowsAreLongest : Type 0
GroupRowsAreLongest = (indexes : List ℕ) → AreLongestRows indexes (longest_runs indexes)

-- ---- keys of groups

-- the keys at which a list of samples has indexes
abbrev pub sample_keys : List TimedSample → List GroupKey
sample_keys samples =
    flat_map (λ (s : TimedSample). map (λ (group : GroupKey × ℕ). group.0) s.sample.groups) samples

-- each key is above the one before it
abbrev pub KeysRise : List GroupKey → Type 0
KeysRise [] = Unit {0}
KeysRise (key ∷ keys) = AllByRecursion (λ (other : GroupKey). key_rank key < key_rank other) keys
    × KeysRise keys

-- each key is one of others
abbrev pub AreAmong : List GroupKey → List GroupKey → Type 0
AreAmong others keys = AllByRecursion (λ (key : GroupKey). list_any (same_key key) others ≡ true)
    keys

-- these keys in their order, each once
pub record AreKeys (all keys : List GroupKey) : Type 0 where
  pub rise : KeysRise keys
  pub each : AreAmong keys all
  pub only : AreAmong all keys

-- A piece has an `sbgp` for each key at which some sample has an index, once, in the order of keys.
abbrev pub PieceKeysAreThose : Type 0
PieceKeysAreThose = (samples : List TimedSample)
    → AreKeys (sample_keys samples) (piece_keys samples)
