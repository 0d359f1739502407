-- Numbers that stand in a box only where a flag says so, one by one.
use Rattle.std.proofs.Common.{◌≡◌, ℕ, ◌+◌, List, [], ◌∷◌, drop, Bool, true, false, cond, Option, Some, None, refl, sym, ap, ◌∙◌, add-zero, arith}
use Rattle.std.proofs.lemmas.List.{drop-drop}
use Rattle.mp4_boxes.specs.format.Bytes.{field, width_of}
use Rattle.mp4_boxes.specs.format.Layout.{Column, has, present, column_values, sample_columns, tfhd_columns}
use Rattle.mp4_boxes.proofs.OfBytes.{field_dropped}
use Rattle.mp4_frag.specs.words.ColumnsRead.{taken, number_if, row_room, rows_from, head_room}

-- the width of columns is that of the first, if it is there, and of the others
pub width_step : (bits : ℕ) (c : Column) (columns : List Column) → width_of (present bits (c ∷ columns)) ≡ taken (has bits c.flag) c.width + width_of (present bits columns)
width_step bits c columns =
    elim (has bits c.flag) as (λ b. width_of (cond b (c.width ∷ present bits columns) (present bits columns)) ≡ taken b c.width + width_of (present bits columns)) [ true ↦ refl | false ↦ omega arith ]

-- the values of columns are that of the first and those of the others behind it
pub value_step : (bits : ℕ) (c : Column) (columns : List Column) (place : ℕ) (bytes : List ℕ)
    → column_values bits (c ∷ columns) (drop place bytes) ≡ number_if (has bits c.flag) bytes place c.width ∷ column_values bits columns (drop (place + taken (has bits c.flag) c.width) bytes)
value_step bits c columns place bytes =
    elim (has bits c.flag) as (λ b. cond b (Some (field (drop place bytes) 0 c.width) ∷ column_values bits columns (drop c.width (drop place bytes))) (None ∷ column_values bits columns (drop place bytes))
    ≡ number_if b bytes place c.width ∷ column_values bits columns (drop (place + taken b c.width) bytes)) [
      | true ↦ rw (field_dropped place 0 c.width bytes, drop-drop c.width place bytes, add-zero place) refl
      | false ↦ rw (add-zero place) refl
    ]

-- numbers of bytes that are added one by one
two_taken : (w v a b : ℕ) → w ≡ a + v → v ≡ b + 0 → w ≡ a + b
two_taken w v a b e f = omega arith

three_more : (w v u t a b c : ℕ) → w ≡ a + v → v ≡ b + u → u ≡ c + t → w ≡ a + b + c + t
three_more w v u t a b c e f g = omega arith

abbrev column : ℕ → ℕ → Column
column flag width = record { flag = flag; width = width }

-- a row takes the widths of its columns
pub row_width : (bits : ℕ) → row_room bits ≡ taken (has bits 256) 4 + taken (has bits 512) 4 + taken (has bits 1024) 4 + taken (has bits 2048) 4
row_width bits =
    three_more _ _ _ _ _ _ _ (width_step bits (column 256 4) (column 512 4 ∷ column 1024 4 ∷ column 2048 4 ∷ []))
    (width_step bits (column 512 4) (column 1024 4 ∷ column 2048 4 ∷ []))
    (width_step bits (column 1024 4) (column 2048 4 ∷ []))
    ∙ ap (λ n. taken (has bits 256) 4 + taken (has bits 512) 4 + taken (has bits 1024) 4 + n) (width_step bits (column 2048 4) [] ∙ add-zero _)

pub trun_width : (bits : ℕ) → rows_from bits ≡ 8 + (taken (has bits 1) 4 + taken (has bits 4) 4)
trun_width bits = ap (λ n. 8 + n) (two_taken _ _ _ _ (width_step bits (column 1 4) (column 4 4 ∷ [])) (width_step bits (column 4 4) []))

pub tfhd_width : (bits : ℕ) → head_room bits ≡ 8 + (taken (has bits 1) 8 + taken (has bits 2) 4 + taken (has bits 8) 4 + (taken (has bits 16) 4 + taken (has bits 32) 4))
tfhd_width bits =
    let first = three_more _ _ _ _ _ _ _ (width_step bits (column 1 8) (column 2 4 ∷ column 8 4 ∷ column 16 4 ∷ column 32 4 ∷ []))
    (width_step bits (column 2 4) (column 8 4 ∷ column 16 4 ∷ column 32 4 ∷ []))
    (width_step bits (column 8 4) (column 16 4 ∷ column 32 4 ∷ [])) in
    let last = two_taken _ _ _ _ (width_step bits (column 16 4) (column 32 4 ∷ [])) (width_step bits (column 32 4) []) in
    ap (λ n. 8 + n) (first ∙ ap (λ n. taken (has bits 1) 8 + taken (has bits 2) 4 + taken (has bits 8) 4 + n) last)

-- one more value in front
value_more : (bits : ℕ) (c : Column) (columns : List Column) (p q : ℕ) (bytes : List ℕ) (b : Bool) (t : Option ℕ) (ts : List (Option ℕ))
    → b ≡ has bits c.flag → q ≡ p + taken b c.width → t ≡ number_if b bytes p c.width → ts ≡ column_values bits columns (drop q bytes)
    → t ∷ ts ≡ column_values bits (c ∷ columns) (drop p bytes)
value_more bits c columns p q bytes b t ts eb eq et ets =
    rw (et, ets, eq, eb) (sym (value_step bits c columns p bytes))

-- the values of a row, one by one
pub row_read : (bits p q r s : ℕ) (bytes : List ℕ) (a b c d : Bool) (t u v w : Option ℕ)
    → a ≡ has bits 256 → b ≡ has bits 512 → c ≡ has bits 1024 → d ≡ has bits 2048
    → q ≡ p + taken a 4 → r ≡ q + taken b 4 → s ≡ r + taken c 4
    → t ≡ number_if a bytes p 4 → u ≡ number_if b bytes q 4 → v ≡ number_if c bytes r 4 → w ≡ number_if d bytes s 4
    → t ∷ u ∷ v ∷ w ∷ [] ≡ column_values bits sample_columns (drop p bytes)
row_read bits p q r s bytes a b c d t u v w ea eb ec ed eq er es et eu ev ew =
    value_more bits (column 256 4) (column 512 4 ∷ column 1024 4 ∷ column 2048 4 ∷ []) p q bytes a t (u ∷ v ∷ w ∷ []) ea eq et
    (value_more bits (column 512 4) (column 1024 4 ∷ column 2048 4 ∷ []) q r bytes b u (v ∷ w ∷ []) eb er eu
    (value_more bits (column 1024 4) (column 2048 4 ∷ []) r s bytes c v (w ∷ []) ec es ev
    (value_more bits (column 2048 4) [] s (s + taken d 4) bytes d w [] ed refl ew refl)))

-- the values of a `tfhd`
pub tfhd_read : (bits q r s o : ℕ) (bytes : List ℕ) (a b c d e : Bool) (t u v w x : Option ℕ)
    → a ≡ has bits 1 → b ≡ has bits 2 → c ≡ has bits 8 → d ≡ has bits 16 → e ≡ has bits 32
    → q ≡ 8 + taken a 8 → r ≡ q + taken b 4 → s ≡ r + taken c 4 → o ≡ s + taken d 4
    → t ≡ number_if a bytes 8 8 → u ≡ number_if b bytes q 4 → v ≡ number_if c bytes r 4 → w ≡ number_if d bytes s 4 → x ≡ number_if e bytes o 4
    → t ∷ u ∷ v ∷ w ∷ x ∷ [] ≡ column_values bits tfhd_columns (drop 8 bytes)
tfhd_read bits q r s o bytes a b c d e t u v w x ea eb ec ed ee eq er es eo et eu ev ew ex =
    value_more bits (column 1 8) (column 2 4 ∷ column 8 4 ∷ column 16 4 ∷ column 32 4 ∷ []) 8 q bytes a t (u ∷ v ∷ w ∷ x ∷ []) ea eq et
    (value_more bits (column 2 4) (column 8 4 ∷ column 16 4 ∷ column 32 4 ∷ []) q r bytes b u (v ∷ w ∷ x ∷ []) eb er eu
    (value_more bits (column 8 4) (column 16 4 ∷ column 32 4 ∷ []) r s bytes c v (w ∷ x ∷ []) ec es ev
    (value_more bits (column 16 4) (column 32 4 ∷ []) s o bytes d w (x ∷ []) ed eo ew
    (value_more bits (column 32 4) [] o (o + taken e 4) bytes e x [] ee refl ex refl))))
