-- The normal form of a presentation: a fragmented file (ISO/IEC 14496-12, 8.8).
use Rattle.std.specs.Prelude.{ℕ, suc, ◌+◌, ◌==◌, nat_eq, nat_lt, not, Bool, if◌then◌else◌, List, [], ◌∷◌, ◌++◌, length, map, flat_map, Option, Some, None, codes}
use Rattle.std.specs.List.{list_all}
use Rattle.mp4_boxes.specs.format.Bytes.{spelled, unsigned}
use Rattle.mp4_boxes.specs.format.Written.{box_bytes, header_bytes, header_length, column_flags, column_bytes}
use Rattle.mp4_boxes.specs.format.Layout.{tfhd, tfdt, trun, sbgp, fields, row, default_base_is_moof, tfhd_columns, trun_columns, sample_columns}
use Rattle.mp4_tables.specs.format.Groups.{GroupKey, key_rank, same_key, index_at}
use Rattle.mp4_head.specs.format.Writing.{head_bytes}
use Rattle.mp4_present.specs.format.Presentation.{Presentation, heads, movie_length}
use Rattle.mp4_content.specs.format.TimedSamples.{TimedSample}
use Rattle.mp4_plan.specs.format.Pieces.{Piece, pieces}

-- the bytes of the piece's samples
abbrev pub piece_data : Piece → List ℕ
piece_data piece = flat_map (λ (s : TimedSample). s.sample.bytes) piece.samples

abbrev pub first_time : List TimedSample → ℕ
first_time [] = 0
first_time (s ∷ samples) = s.time

abbrev pub first_description : List TimedSample → ℕ
first_description [] = 0
first_description (s ∷ samples) = s.sample.description

-- ---- what stands once for all samples of a piece, and what in each row

-- the number that all of them are, if they are equal
abbrev pub common : List ℕ → Option ℕ
common [] = None
common (n ∷ ns) = if list_all (nat_eq n) ns then Some n else None

-- what the samples of a piece have in common; and whether some offset is not 0
pub record Shared : Type 0 where
  pub duration : Option ℕ
  pub size : Option ℕ
  pub flags : Option ℕ
  pub has_offsets : Bool

abbrev pub shared_by : List TimedSample → Shared
shared_by samples = record {
  duration = common (map (λ (s : TimedSample). s.sample.duration) samples);
  size = common (map (λ (s : TimedSample). length s.sample.bytes) samples);
  flags = common (map (λ (s : TimedSample). s.sample.flags) samples);
  has_offsets = not (list_all (λ (s : TimedSample). unsigned 4 s.sample.offset == 0) samples);
}

-- a number of a row, where it does not stand for all samples
abbrev pub own : Option ℕ → ℕ → Option ℕ
own (Some n) m = None
own None m = Some m

-- sample_duration, sample_size, sample_flags, sample_composition_time_offset
abbrev pub row_values : Shared → TimedSample → List (Option ℕ)
row_values shared s =
    own shared.duration s.sample.duration ∷ own shared.size (length s.sample.bytes)
    ∷ own shared.flags s.sample.flags
    ∷ (if shared.has_offsets then Some (unsigned 4 s.sample.offset) else None) ∷ []

-- the columns that each row has
abbrev pub row_flags : Shared → ℕ
row_flags shared = column_flags sample_columns (own shared.duration 0 ∷ own shared.size 0
    ∷ own shared.flags 0 ∷ (if shared.has_offsets then Some 0 else None) ∷ [])

abbrev pub trun_row : Shared → TimedSample → List ℕ
trun_row shared s = column_bytes sample_columns (row_values shared s)

-- data_offset says where the data begins after the first byte of `moof`; first_sample_flags is not
-- there
abbrev pub trun_bytes : ℕ → List TimedSample → List ℕ
trun_bytes data_offset samples =
    let shared = shared_by samples in
    let options = Some data_offset ∷ None ∷ [] in
    box_bytes (codes "trun") (
    spelled (fields trun 1) (1 ∷ (column_flags trun_columns options + row_flags shared)
    ∷ length samples ∷ [])
    ++ column_bytes trun_columns options ++ flat_map (trun_row shared) samples)

-- base_data_offset is not there; sample_description_index is; default_sample_duration,
-- default_sample_size and default_sample_flags are where all samples have them
abbrev pub tfhd_bytes : Piece → List ℕ
tfhd_bytes piece =
    let shared = shared_by piece.samples in
    let options = None ∷ Some (first_description piece.samples) ∷ shared.duration ∷ shared.size
    ∷ shared.flags ∷ [] in
    box_bytes (codes "tfhd")
    (spelled (fields tfhd 0) (0 ∷ (default_base_is_moof + column_flags tfhd_columns options)
    ∷ piece.id ∷ []) ++ column_bytes tfhd_columns options)

-- ---- groups

-- a key among keys in their order, each once
abbrev pub put_key : GroupKey → List GroupKey → List GroupKey
put_key key [] = key ∷ []
put_key key (other ∷ keys) =
    if same_key key other then other ∷ keys
    else if nat_lt (key_rank key) (key_rank other) then key ∷ other ∷ keys
    else other ∷ put_key key keys

abbrev pub in_key_order : List GroupKey → List GroupKey
in_key_order [] = []
in_key_order (key ∷ keys) = put_key key (in_key_order keys)

-- the keys at which some sample has an index, in their order
abbrev pub piece_keys : List TimedSample → List GroupKey
piece_keys samples =
    in_key_order (flat_map (λ (s : TimedSample).
    map (λ (group : GroupKey × ℕ). group.0) s.sample.groups) samples)

-- a value in front of rows of a count and a value: in the first of them if that has its value
abbrev pub put_run : ℕ → List (ℕ × ℕ) → List (ℕ × ℕ)
put_run value [] = (1, value) ∷ []
put_run value (row ∷ rows) = if value == row.1 then (suc row.0, value) ∷ rows
    else (1, value) ∷ row ∷ rows

-- the longest runs of equal values
abbrev pub longest_runs : List ℕ → List (ℕ × ℕ)
longest_runs [] = []
longest_runs (value ∷ values) = put_run value (longest_runs values)

-- version 0 without a parameter, version 1 with it
abbrev pub key_bytes : GroupKey → ℕ → List ℕ
key_bytes key count = with_parameter key.parameter
  where
    with_parameter : Option ℕ → List ℕ
    with_parameter None = spelled (1 ∷ 3 ∷ []) (0 ∷ 0 ∷ []) ++ key.kind
        ++ spelled (4 ∷ []) (count ∷ [])
    with_parameter (Some parameter) = spelled (1 ∷ 3 ∷ []) (1 ∷ 0 ∷ []) ++ key.kind
        ++ spelled (4 ∷ 4 ∷ []) (parameter ∷ count ∷ [])

-- an `sbgp` (8.9.2) with rows for all samples, those of index 0 too
abbrev pub sbgp_bytes : List TimedSample → GroupKey → List ℕ
sbgp_bytes samples key =
    let rows = longest_runs (map (λ (s : TimedSample). index_at key s.sample.groups) samples) in
    box_bytes (codes "sbgp") (key_bytes key (length rows)
    ++ flat_map (λ (r : ℕ × ℕ). spelled (row sbgp 0) (r.0 ∷ r.1 ∷ [])) rows)

-- ---- fragments

abbrev pub traf_bytes : ℕ → Piece → List ℕ
traf_bytes data_offset piece = box_bytes (codes "traf") (
    tfhd_bytes piece
    ++ box_bytes (codes "tfdt") (spelled (fields tfdt 1) (1 ∷ 0 ∷ first_time piece.samples ∷ []))
    ++ trun_bytes data_offset piece.samples
    ++ flat_map (sbgp_bytes piece.samples) (piece_keys piece.samples))

abbrev pub moof_bytes : ℕ → ℕ → Piece → List ℕ
moof_bytes sequence data_offset piece =
    box_bytes (codes "moof")
    (box_bytes (codes "mfhd") (spelled (1 ∷ 3 ∷ 4 ∷ []) (0 ∷ 0 ∷ sequence ∷ []))
    ++ traf_bytes data_offset piece)

-- how many bytes the `moof` of a piece takes, whatever its sequence number and data_offset
abbrev pub moof_length : Piece → ℕ
moof_length piece = length (moof_bytes 0 0 piece)

-- one `moof`, with its sequence number, and one `mdat` behind it
abbrev pub piece_bytes : ℕ → Piece → List ℕ
piece_bytes sequence piece =
    let payload = length (piece_data piece) in
    moof_bytes sequence (moof_length piece + header_length payload) piece
    ++ header_bytes (codes "mdat") payload ++ piece_data piece

-- pieces with sequence numbers from n on
abbrev pub pieces_bytes : ℕ → List Piece → List ℕ
pieces_bytes n [] = []
pieces_bytes n (piece ∷ more) = piece_bytes n piece ++ pieces_bytes (n + 1) more

-- the normal form
abbrev pub normal : Presentation → List ℕ
normal p = head_bytes p.movie (heads p) (movie_length p) ++ pieces_bytes 1 (pieces p)
