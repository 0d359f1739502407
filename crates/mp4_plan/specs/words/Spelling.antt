-- What is written of a piece, by what was planned and noted of it (ISO/IEC 14496-12, 8.8.4 to
-- 8.8.8, 8.9.2).
use Rattle.std.specs.Prelude.{◌≡◌, ℕ, ◌+◌, ◌-◌, ◌^◌, min, zero, suc, ◌==◌, Bool, true, false, if◌then◌else◌, List, [], ◌∷◌, ◌++◌, map, flat_map, slice_index, Option, Some, None, codes}
use Rattle.byteorder.specs.Endian.{big_bytes}
use Rattle.mp4_boxes.specs.format.Bytes.{unsigned}
use Rattle.mp4_boxes.specs.format.Written.{header_length}
use Rattle.mp4_plan.specs.declared.moof_rows.IndexRun.{IndexRun}
use Rattle.mp4_plan.specs.format.Normal.{own, longest_runs}
use Rattle.mp4_plan.specs.declared.moof_front.PieceHead.{PieceHead}
use Rattle.mp4_plan.specs.declared.planner.Planned.{Planned}
use Rattle.mp4_plan.specs.declared.moof_sizes.MoofSizes.{MoofSizes}
use Rattle.mp4_plan.specs.declared.noted_rows.Row.{Row}

-- a number of 32 bits, where there is one
abbrev pub option_bytes : Option ℕ → List ℕ
option_bytes None = []
option_bytes (Some n) = big_bytes 4 n

-- the composition offset of a row, where some offset is not 0
abbrev pub offset_of : Bool → Row → Option ℕ
offset_of true row = Some (unsigned 4 row.cto)
offset_of false row = None

-- a row of `trun`: what the samples don't have in common
abbrev pub run_row : Planned → Row → List ℕ
run_row p row = option_bytes (own p.duration row.duration) ++ option_bytes (own p.size row.size)
    ++ option_bytes (own p.flags row.flags) ++ option_bytes (offset_of p.has_offsets row)

abbrev pub run_rows : Planned → List Row → List ℕ
run_rows p rows = flat_map (run_row p) rows

-- ---- a `moof` as far as the rows of `trun`

-- a box of 8 bytes of header
abbrev pub box_front : List ℕ → ℕ → List ℕ
box_front kind size = big_bytes 4 size ++ kind

-- a bit that is set where a number is there, or where it is not
abbrev pub bit_of : Option ℕ → ℕ → ℕ
bit_of None bit = 0
bit_of (Some n) bit = bit

abbrev pub bit_without : Option ℕ → ℕ → ℕ
bit_without None bit = bit
bit_without (Some n) bit = 0

abbrev pub bit_if : Bool → ℕ → ℕ
bit_if true bit = bit
bit_if false bit = 0

-- its sequence number
unfoldable pub mfhd_front : ℕ → List ℕ
mfhd_front sequence = box_front (codes "mfhd") 16 ++ big_bytes 4 0 ++ big_bytes 4 sequence

-- default_base_is_moof, sample_description_index, and what all samples have in common
unfoldable pub head_bits : Planned → ℕ
head_bits p = 0x020002 + bit_of p.duration 0x8 + bit_of p.size 0x10 + bit_of p.flags 0x20

unfoldable pub tfhd_front : PieceHead → Planned → ℕ → ℕ → List ℕ
tfhd_front head p bits size =
    box_front (codes "tfhd") size ++ big_bytes 4 bits ++ big_bytes 4 head.id
    ++ big_bytes 4 head.description
    ++ option_bytes p.duration ++ option_bytes p.size ++ option_bytes p.flags

-- version 1, with the decode time
unfoldable pub tfdt_front : ℕ → List ℕ
tfdt_front time = box_front (codes "tfdt") 20 ++ big_bytes 4 0x1000000 ++ big_bytes 8 time

-- version 1, data_offset, and the columns that the samples don't have in common
unfoldable pub run_bits : Planned → ℕ
run_bits p = 0x1000001 + bit_without p.duration 0x100 + bit_without p.size 0x200
    + bit_without p.flags 0x400 + bit_if p.has_offsets 0x800

unfoldable pub trun_front : ℕ → ℕ → ℕ → ℕ → List ℕ
trun_front bits count data_offset size = box_front (codes "trun") size ++ big_bytes 4 bits
    ++ big_bytes 4 count ++ big_bytes 4 data_offset

-- a size as it is written, as far as 32 bits go
abbrev pub short : ℕ → ℕ
short size = min size (2 ^ 32 - 1)

-- a `moof` as far as the rows of its `trun`; the data lie behind it and the header of `mdat`
unfoldable pub moof_front : PieceHead → Planned → MoofSizes → List ℕ
moof_front head p sizes =
    box_front (codes "moof") (short sizes.moof) ++ mfhd_front head.sequence
    ++ box_front (codes "traf") (short sizes.traf)
    ++ tfhd_front head p (head_bits p) (short sizes.tfhd) ++ tfdt_front head.time
    ++ trun_front (run_bits p) p.count (sizes.moof + header_length p.bytes) (short sizes.trun)

-- a row of `sbgp`
abbrev pub group_row : ℕ × ℕ → List ℕ
group_row run = big_bytes 4 run.0 ++ big_bytes 4 run.1

-- the rows of an `sbgp` for the indexes at a place
abbrev pub group_rows : ℕ → List Row → List ℕ
group_rows place rows =
    flat_map group_row (longest_runs (map (λ (row : Row). slice_index row.groups place) rows))

-- the runs that are still to come, with one of so many in hand
abbrev pub resumed : ℕ → ℕ → List ℕ → List (ℕ × ℕ)
resumed count index [] = (count, index) ∷ []
resumed count index (v ∷ vs) = if index == v then resumed (suc count) v vs
    else (count, index) ∷ resumed 1 v vs

-- the runs that are to come, with the one in hand if there is one
abbrev pub runs_left : ℕ → ℕ → List ℕ → List (ℕ × ℕ)
runs_left zero index values = longest_runs values
runs_left (suc count) index values = resumed (suc count) index values

-- With one index more some of the runs that were to come are written.
abbrev pub WritesRuns : (List ℕ → Type 0) → IndexRun → IndexRun → ℕ → List ℕ → Type 0
WritesRuns Puts run next index values =
    (done : List (ℕ × ℕ)) × Puts (flat_map group_row done)
    × (runs_left run.count run.index (index ∷ values) ≡ done
    ++ runs_left next.count next.index values)
