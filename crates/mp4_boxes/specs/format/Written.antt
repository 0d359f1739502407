-- How boxes are written (ISO/IEC 14496-12, 4.2.2).
use Rattle.std.specs.Prelude.{ℕ, ◌+◌, ◌^◌, nat_lt, if◌then◌else◌, List, [], ◌∷◌, ◌++◌, length, Option, Some, None}
use Rattle.byteorder.specs.Endian.{big_bytes}
use Rattle.mp4_boxes.specs.format.Layout.{Column}

-- the header of a box with so many bytes of payload: of 8 bytes, or of 16 where 32 bits do not hold
-- the size
abbrev pub header_bytes : List ℕ → ℕ → List ℕ
header_bytes kind payload =
    if nat_lt (8 + payload) (2 ^ 32) then big_bytes 4 (8 + payload) ++ kind
    else big_bytes 4 1 ++ kind ++ big_bytes 8 (16 + payload)

abbrev pub header_length : ℕ → ℕ
header_length payload = if nat_lt (8 + payload) (2 ^ 32) then 8 else 16

-- a box with a header of 8 bytes
abbrev pub box_bytes : List ℕ → List ℕ → List ℕ
box_bytes kind payload = big_bytes 4 (8 + length payload) ++ kind ++ payload

-- the flags of the columns that have a number
abbrev pub column_flags : List Column → List (Option ℕ) → ℕ
column_flags [] values = 0
column_flags (c ∷ columns) [] = 0
column_flags (c ∷ columns) (None ∷ values) = column_flags columns values
column_flags (c ∷ columns) (Some n ∷ values) = c.flag + column_flags columns values

-- their numbers, one after the other
abbrev pub column_bytes : List Column → List (Option ℕ) → List ℕ
column_bytes [] values = []
column_bytes (c ∷ columns) [] = []
column_bytes (c ∷ columns) (None ∷ values) = column_bytes columns values
column_bytes (c ∷ columns) (Some n ∷ values) = big_bytes c.width n ++ column_bytes columns values
