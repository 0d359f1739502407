-- The boxes of a written `moof`, by what was planned of its samples.
use Rattle.std.proofs.Common.{◌≡◌, ℕ, ◌+◌, ◌-◌, ◌*◌, ◌^◌, ◌≤◌, min, Bool, true, false, List, [], ◌∷◌, ◌++◌, length, Option, Some, None, refl, ap, append_assoc, length-append, arith}
use Rattle.std.specs.Prelude.{codes}
use Rattle.byteorder.specs.Endian.{big_bytes}
use Rattle.mp4_boxes.specs.format.Bytes.{spelled}
use Rattle.mp4_boxes.specs.format.Layout.{trun, fields, trun_columns}
use Rattle.mp4_boxes.specs.format.Written.{box_bytes, column_flags, column_bytes}
use Rattle.mp4_plan.specs.format.Normal.{Shared, own, row_flags}
use Rattle.mp4_plan.specs.words.Sizes.{own_size, offset_size, row_size}
use Rattle.mp4_plan.specs.words.Spelling.{option_bytes, offset_of, run_row, run_rows, box_front, bit_of, bit_without, bit_if}
use Rattle.mp4_plan.specs.declared.planner.Planned.{Planned}
use Rattle.mp4_plan.specs.declared.noted_rows.Row.{Row}
use Rattle.mp4_plan.proofs.WrittenRun.{head_payload}

-- a box with its size in front
pub box_is : (kind payload : List ℕ) (size : ℕ) → size ≡ 8 + length payload → box_front kind size ++ payload ≡ box_bytes kind payload
box_is kind payload size e = ap (λ n. box_front kind n ++ payload) e

-- a size that fits 32 bits is written as it is
pub short_is : (n m : ℕ) → n ≤ m → m ≤ 2 ^ 30 → min n (2 ^ 32 - 1) ≡ n
short_is n m le few = omega (arith, le, few)

-- ---- `tfhd`

abbrev pub head_said : (id description : ℕ) (d z f : Option ℕ) → List ℕ
head_said id description d z f =
    box_front (codes "tfhd") (32 - own_size d - own_size z - own_size f) ++ big_bytes 4 (0x020002 + bit_of d 0x8 + bit_of z 0x10 + bit_of f 0x20)
    ++ big_bytes 4 id ++ big_bytes 4 description ++ option_bytes d ++ option_bytes z ++ option_bytes f

pub head_is : (id description : ℕ) (d z f : Option ℕ) → head_said id description d z f ≡ box_bytes (codes "tfhd") (head_payload id description d z f)
head_is id description None None None = refl
head_is id description None None (Some f) = refl
head_is id description None (Some z) None = refl
head_is id description None (Some z) (Some f) = refl
head_is id description (Some d) None None = refl
head_is id description (Some d) None (Some f) = refl
head_is id description (Some d) (Some z) None = refl
head_is id description (Some d) (Some z) (Some f) = refl

pub head_length : (id description : ℕ) (d z f : Option ℕ) → length (head_said id description d z f) ≡ 32 - own_size d - own_size z - own_size f
head_length id description None None None = refl
head_length id description None None (Some f) = refl
head_length id description None (Some z) None = refl
head_length id description None (Some z) (Some f) = refl
head_length id description (Some d) None None = refl
head_length id description (Some d) None (Some f) = refl
head_length id description (Some d) (Some z) None = refl
head_length id description (Some d) (Some z) (Some f) = refl

-- ---- `trun`

abbrev pub run_said : (d z f : Option ℕ) (o : Bool) → ℕ → ℕ → List ℕ
run_said d z f o count place = big_bytes 4 (0x1000001 + bit_without d 0x100 + bit_without z 0x200 + bit_without f 0x400 + bit_if o 0x800) ++ big_bytes 4 count ++ big_bytes 4 place

abbrev pub run_front : Shared → ℕ → ℕ → List ℕ
run_front shared count place =
    spelled (fields trun 1) (1 ∷ (column_flags trun_columns (Some place ∷ None ∷ []) + row_flags shared) ∷ count ∷ []) ++ column_bytes trun_columns (Some place ∷ None ∷ [])

pub run_is : (d z f : Option ℕ) (o : Bool) (count place : ℕ) → run_said d z f o count place ≡ run_front (record { duration = d; size = z; flags = f; has_offsets = o }) count place
run_is None None None false count place = refl
run_is None None None true count place = refl
run_is None None (Some f) false count place = refl
run_is None None (Some f) true count place = refl
run_is None (Some z) None false count place = refl
run_is None (Some z) None true count place = refl
run_is None (Some z) (Some f) false count place = refl
run_is None (Some z) (Some f) true count place = refl
run_is (Some d) None None false count place = refl
run_is (Some d) None None true count place = refl
run_is (Some d) None (Some f) false count place = refl
run_is (Some d) None (Some f) true count place = refl
run_is (Some d) (Some z) None false count place = refl
run_is (Some d) (Some z) None true count place = refl
run_is (Some d) (Some z) (Some f) false count place = refl
run_is (Some d) (Some z) (Some f) true count place = refl

-- ---- rows of `trun`

own_length : (o : Option ℕ) (n : ℕ) → length (option_bytes (own o n)) ≡ own_size o
own_length None n = refl
own_length (Some m) n = refl

offset_length : (o : Bool) (row : Row) → length (option_bytes (offset_of o row)) ≡ offset_size o
offset_length true row = refl
offset_length false row = refl

row_length : (p : Planned) (row : Row) → length (run_row p row) ≡ row_size p
row_length p row =
    let a = own_length p.duration row.duration in
    let b = own_length p.size row.size in
    let c = own_length p.flags row.flags in
    let d = offset_length p.has_offsets row in
    let x = option_bytes (own p.duration row.duration) in
    let y = option_bytes (own p.size row.size) in
    let z = option_bytes (own p.flags row.flags) in
    let w = option_bytes (offset_of p.has_offsets row) in
    omega (arith, a, b, c, d, length-append x y, length-append (x ++ y) z, length-append (x ++ y ++ z) w)

-- how long the rows are
pub rows_length : (p : Planned) (rows : List Row) → length (run_rows p rows) ≡ row_size p * length rows
rows_length p [] = omega arith
rows_length p (row ∷ rows) =
    let one = row_length p row in
    let others = rows_length p rows in
    omega (arith, one, others, length-append (run_row p row) (run_rows p rows))

-- ---- boxes in boxes

-- the boxes of a `moof`, one after the other
pub nested : (a b c d e f r g : List ℕ) → a ++ b ++ c ++ d ++ e ++ f ++ r ++ g ≡ a ++ (b ++ (c ++ (d ++ e ++ (f ++ r) ++ g)))
nested a b c d e f r g = simp append_assoc refl
