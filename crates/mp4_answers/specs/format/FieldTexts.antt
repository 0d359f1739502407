-- The fields of a box as text: lines under the line of the box, or members of its object of JSON.
use Rattle.std.specs.Prelude.{ℕ, zero, suc, ◌+◌, ◌-◌, ◌*◌, ◌/◌, ◌==◌, nat_le, nat_lt, ◌&&◌, min, if◌then◌else◌, List, [], ◌∷◌, ◌++◌, length, take, drop, replicate, Bool, Option, Some, None, codes, decimal}
use Rattle.std.specs.Fmt.{signed_decimal}
use Rattle.std.specs.List.{list_all}
use Rattle.sha2.specs.Sha256.{sha256}
use Rattle.mp4_boxes.specs.format.Bytes.{field, signed_field}
use Rattle.mp4_answers.specs.declared.jobs.Syntax.{Syntax}
use Rattle.mp4_answers.specs.declared.jobs.Syntax.TheVariants as syntaxes
use Rattle.mp4_answers.specs.declared.layouts.FieldKind.{FieldKind}
use Rattle.mp4_answers.specs.declared.layouts.FieldKind.TheVariants as kinds
use Rattle.mp4_answers.specs.declared.layouts.LeafHead.{LeafHead}
use Rattle.mp4_answers.specs.declared.text.field_lines.FieldSpot.{FieldSpot}
use Rattle.mp4_answers.specs.declared.text.field_lines.FieldSpot.TheVariants as spots
use Rattle.mp4_answers.specs.format.DifferenceObject.{escaped}
use Rattle.mp4_answers.specs.format.Layouts.{Field, Layout, Tail, nothing, rows, kept, width, width_of, count_of, head_of, fields_of, tail_of, layout_of}
use Rattle.mp4_answers.specs.format.Texts.{hex_text, line_feed, space}

-- ---- a value under its name

-- in a line of its own, in the line of a row, or as a member of an object
abbrev pub before : FieldSpot → List ℕ
before (spots.Line levels) = replicate (2 * levels) 32
before spots.Cell = space
before spots.Member = codes ",\""

abbrev pub between : FieldSpot → List ℕ
between (spots.Line levels) = codes ": "
between spots.Cell = codes "="
between spots.Member = codes "\":"

abbrev pub behind : FieldSpot → List ℕ
behind (spots.Line levels) = line_feed
behind _ = []

abbrev pub quote : FieldSpot → List ℕ
quote spots.Member = codes "\""
quote _ = []

abbrev pub quoted : FieldSpot → List ℕ → List ℕ
quoted spot text = quote spot ++ text ++ quote spot

abbrev pub named_text : FieldSpot → List ℕ → List ℕ → List ℕ
named_text spot name value = before spot ++ name ++ between spot ++ value ++ behind spot

-- ---- values

-- the number of some bytes, of eight at most
abbrev pub number_of : List ℕ → List ℕ
number_of bytes = decimal (field bytes 0 (min (length bytes) 8))

abbrev pub signed_of : List ℕ → List ℕ
signed_of bytes = signed_decimal (signed_field bytes 0 (min (length bytes) 8))

-- four characters that are printable, else digits
abbrev pub code_of : FieldSpot → List ℕ → List ℕ
code_of spots.Member bytes = escaped bytes
code_of _ bytes = bytes

abbrev pub is_printable : List ℕ → Bool
is_printable bytes = list_all (λ b. nat_le 32 b && nat_le b 126) bytes

-- the numbers of a matrix, of four bytes each
abbrev pub apart : FieldSpot → List ℕ
apart spots.Member = codes ","
apart _ = space

abbrev pub numbers_of : List ℕ → ℕ → List ℕ → List ℕ
numbers_of between zero bytes = []
numbers_of between (suc n) bytes = numbers_of between n bytes
    ++ (if nat_lt 0 n then between else [])
    ++ signed_decimal (signed_field bytes (4 * n) 4)

abbrev pub opening : FieldSpot → List ℕ
opening spots.Member = codes "["
opening _ = []

abbrev pub closing : FieldSpot → List ℕ
closing spots.Member = codes "]"
closing _ = []

abbrev pub value_text : FieldSpot → FieldKind → LeafHead → List ℕ → List ℕ
value_text spot kinds.Number head bytes = number_of bytes
value_text spot kinds.Signed head bytes = signed_of bytes
value_text spot kinds.Offset head bytes =
    if nat_lt 0 head.version then signed_of bytes else number_of bytes
value_text spot kinds.Hex head bytes = quoted spot (hex_text bytes)
value_text spot kinds.Code head bytes = quoted spot
    (if is_printable bytes then code_of spot bytes else hex_text bytes)
value_text spot kinds.Matrix head bytes = opening spot
    ++ numbers_of (apart spot) (length bytes / 4) bytes ++ closing spot

-- ---- fields

-- a field of these bytes; nothing where it isn't there
abbrev pub field_text : FieldSpot → LeafHead → Field → List ℕ → List ℕ
field_text spot head f bytes = if width head f == 0 then []
    else named_text spot f.name (value_text spot f.kind head bytes)

-- the fields of which all bytes are there, up to the first that lacks some
abbrev pub fields_text : FieldSpot → LeafHead → List Field → List ℕ → List ℕ
fields_text spot head [] bytes = []
fields_text spot head (f ∷ fields) bytes = if nat_lt (length bytes) (width head f) then []
    else field_text spot head f (take (width head f) bytes)
    ++ fields_text spot head fields (drop (width head f) bytes)

-- a number, where it isn't 0
abbrev pub some_text : FieldSpot → List ℕ → ℕ → List ℕ
some_text spot name n = if nat_lt 0 n then named_text spot name (decimal n) else []

-- how many bytes are missing, and how many are left over, where so many are there and so many due
abbrev pub notes_text : FieldSpot → ℕ → ℕ → List ℕ
notes_text spot there due = some_text spot (codes "missing_bytes") (due - there)
    ++ some_text spot (codes "left_over_bytes") (there - due)

-- ---- what follows the fields

-- the most bytes that are spelled; of more the digest stands there
abbrev pub most_spelled : ℕ
most_spelled = 64

abbrev pub kept_text : FieldSpot → List ℕ → List ℕ → List ℕ
kept_text spot name bytes =
    named_text spot (name ++ codes "_bytes") (decimal (length bytes))
    ++ (if nat_lt most_spelled (length bytes)
    then named_text spot (name ++ codes "_sha256") (quoted spot (hex_text (sha256 bytes)))
    else named_text spot name (quoted spot (hex_text bytes)))

-- a row of this number, from 1 on
abbrev pub row_text : FieldSpot → LeafHead → List Field → ℕ → List ℕ → List ℕ
row_text (spots.Line levels) head columns number bytes = replicate (2 * levels) 32
    ++ codes "row " ++ decimal number ++ codes ":" ++ fields_text spots.Cell head columns bytes
    ++ line_feed
row_text _ head columns number bytes = (if nat_lt 1 number then codes "," else [])
    ++ codes "{\"row\":" ++ decimal number ++ fields_text spots.Member head columns bytes
    ++ codes "}"

-- the most bytes of a row that are read; all of the table are shorter
abbrev pub most_row : ℕ
most_row = 64

-- the first n of the rows that begin these bytes
abbrev pub rows_text : FieldSpot → LeafHead → List Field → ℕ → List ℕ → List ℕ
rows_text spot head columns zero bytes = []
rows_text spot head columns (suc n) bytes = rows_text spot head columns n bytes
    ++ row_text spot head columns (suc n)
    (take (min (width_of head columns) most_row) (drop (n * width_of head columns) bytes))

-- how many of the rows that are due have room
abbrev pub rows_there : ℕ → ℕ → ℕ → ℕ
rows_there due width room = if width == 0 then 0 else min due (room / width)

-- how many rows are due; where they go to the end of the box, as many as have room
abbrev pub rows_due : Option ℕ → ℕ → ℕ → ℕ
rows_due (Some n) width room = n
rows_due None width room = if width == 0 then 0 else room / width

abbrev pub before_rows : FieldSpot → List ℕ
before_rows (spots.Line levels) = []
before_rows _ = codes ",\"rows\":["

abbrev pub behind_rows : FieldSpot → List ℕ
behind_rows (spots.Line levels) = []
behind_rows _ = codes "]"

-- at most so many rows, and how many more are there
abbrev pub run_text : FieldSpot → ℕ → LeafHead → List Field → ℕ → List ℕ → List ℕ
run_text spot most head columns there bytes = before_rows spot
    ++ rows_text spot head columns (min there most) bytes ++ behind_rows spot
    ++ some_text spot (codes "more_rows") (there - min there most)

-- what follows the fields, which the first bytes tell of, in the bytes that are left
abbrev pub tail_text : FieldSpot → ℕ → LeafHead → Tail → List ℕ → List ℕ → List ℕ
tail_text spot most head nothing front bytes = []
tail_text spot most head (kept name) front bytes = kept_text spot name bytes
tail_text spot most head (rows count columns) front bytes = run_text spot most head columns
    (rows_there (rows_due (count_of count head front) (width_of head columns) (length bytes))
    (width_of head columns) (length bytes)) bytes

-- how many bytes it has
abbrev pub tail_width : LeafHead → Tail → List ℕ → ℕ → ℕ
tail_width head nothing front room = 0
tail_width head (kept name) front room = room
tail_width head (rows count columns) front room =
    rows_due (count_of count head front) (width_of head columns) room * width_of head columns

-- ---- the fields of a box

-- the most bytes that are read for the fields; all of the table are shorter
abbrev pub most_head : ℕ
most_head = 128

abbrev pub before_fields : FieldSpot → ℕ → List ℕ
before_fields (spots.Line levels) n = []
before_fields _ n = codes ",\"fields\":{\"bytes\":" ++ decimal n

abbrev pub behind_fields : FieldSpot → List ℕ
behind_fields (spots.Line levels) = []
behind_fields _ = codes "}"

-- the fields of these widths, what follows them, and what is missing and left over
abbrev pub laid_text : FieldSpot → ℕ → LeafHead → List Field → Tail → List ℕ → List ℕ
laid_text spot most head fields tail payload = fields_text spot head fields (take most_head payload)
    ++ tail_text spot most head tail (take most_head payload) (drop (width_of head fields) payload)
    ++ notes_text spot (length payload) (width_of head fields
    + tail_width head tail (take most_head payload) (length payload - width_of head fields))

-- by the layout of the box
abbrev pub layout_text : FieldSpot → ℕ → Option Layout → List ℕ → List ℕ
layout_text spot most None payload = []
layout_text spot most (Some l) payload = let head = head_of l.versions (take most_head payload) in
    before_fields spot (length payload)
    ++ laid_text spot most head (fields_of l head) (tail_of l head) payload
    ++ behind_fields spot

-- where fields are told, within so many boxes
abbrev pub spot_of : Syntax → ℕ → FieldSpot
spot_of syntaxes.Text levels = spots.Line levels
spot_of syntaxes.Json levels = spots.Member

-- the fields of a box of this type, and at most so many of its rows
abbrev pub box_fields : FieldSpot → ℕ → List ℕ → List ℕ → List ℕ
box_fields spot most kind payload = layout_text spot most (layout_of kind) payload
