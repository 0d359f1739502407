-- Rows of a count and a value: in `stts`, `ctts`, `sbgp` (ISO/IEC 14496-12, 8.6.1, 8.9.2).
use Rattle.std.specs.Prelude.{ℕ, List, flat_map, replicate}
use Rattle.mp4_boxes.specs.format.Bytes.{sum_of}

-- each row's value as often as its count, joined
abbrev pub repeated : {A : Type 0} → List (ℕ × A) → List A
repeated rows = flat_map (λ row. replicate row.0 row.1) rows

-- how many values the rows stand for
abbrev pub total : {A : Type 0} → List (ℕ × A) → ℕ
total rows = sum_of (λ row. row.0) rows
