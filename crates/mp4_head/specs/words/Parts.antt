-- Parts of what is written.
use Rattle.std.specs.Prelude.{ℕ, ◌-◌, ◌^◌, min, ℤ, List, [], ◌∷◌, ◌++◌, length, replicate, codes}
use Rattle.std.specs.List.{flat_map}
use Rattle.byteorder.specs.Endian.{big_bytes}
use Rattle.mp4_boxes.specs.format.Bytes.{unsigned}
use Rattle.mp4_boxes.specs.format.Written.{box_bytes}
use Rattle.mp4_boxes.specs.format.Bytes.{spelled}
use Rattle.mp4_boxes.specs.format.Layout.{elst, stsd, fields}
use Rattle.mp4_head.specs.format.Head.{Edit, Kept, TrackHead}
use Rattle.mp4_head.specs.format.Writing.{edit_bytes, kept_bytes, dinf_bytes, stbl_bytes}

-- `elst`
abbrev pub edit_list_bytes : List Edit → List ℕ
edit_list_bytes edits =
    box_bytes (codes "elst") (spelled (fields elst 1) (1 ∷ 0 ∷ length edits ∷ [])
    ++ flat_map edit_bytes edits)

-- `stsd`
abbrev pub descriptions_bytes : List Kept → List ℕ
descriptions_bytes descriptions =
    box_bytes (codes "stsd") (spelled (fields stsd 0) (0 ∷ 0 ∷ length descriptions ∷ [])
    ++ flat_map kept_bytes descriptions)

-- `minf`
abbrev pub information_bytes : TrackHead → List ℕ
information_bytes t = box_bytes (codes "minf") (kept_bytes t.media.header ++ dinf_bytes
    ++ stbl_bytes t.media.descriptions t.group_descriptions)

-- the four bytes of each of these numbers
abbrev pub matrix_bytes : List ℤ → List ℕ
matrix_bytes matrix = flat_map (λ z. big_bytes 4 (unsigned 4 z)) matrix

-- room for a size, and the type of a box
abbrev pub unsized : List ℕ → List ℕ
unsized kind = replicate 4 0 ++ kind

-- as far as 128 bits go
abbrev pub capped : ℕ → ℕ
capped n = min n (2 ^ 128 - 1)
