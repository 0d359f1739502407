-- Fields of boxes as they are read by place.
use Rattle.std.proofs.Common.{◌≡◌, ℕ, zero, suc, ◌+◌, ◌-◌, ◌*◌, ◌≤◌, ◌<◌, ◌++◌, ◌∙◌, List, ap, sym, arith, length, take, drop, min, Some, inl, inr, ◌⊎◌}
use Rattle.std.proofs.Math.Nat.{mul-le-mul_right, suc-mul}
use Rattle.std.proofs.lemmas.List.{take_all, drop_all}
use Rattle.mp4_store.specs.words.Device.{range}
use Rattle.mp4_answers.specs.declared.layouts.LeafHead.{LeafHead}
use Rattle.mp4_answers.specs.declared.text.field_lines.FieldSpot.{FieldSpot}
use Rattle.mp4_answers.specs.format.FieldTexts.{before_fields, behind_fields, box_fields, fields_text, laid_text, layout_text, notes_text, row_text, rows_text, tail_text, tail_width}
use Rattle.mp4_answers.specs.format.Layouts.{Field, Layout, Tail, fields_of, head_of, layout_of, tail_of, width_of}
use Rattle.mp4_answers.proofs.HeadersUnder.{length_range}
use Rattle.mp4_answers.proofs.StripWalks.{drop_range, take_range}
use Rattle.mp4_plan.proofs.Pushes.{behind}

lt_or_le : (n k : ℕ) → (n < k) ⊎ (k ≤ n)
lt_or_le n zero = inr (omega arith)
lt_or_le zero (suc k) = inl (omega arith)
lt_or_le (suc n) (suc k) = more (lt_or_le n k)
  where
    more : (n < k) ⊎ (k ≤ n) → (suc n < suc k) ⊎ (suc k ≤ suc n)
    more (inl lt) = inl (omega (arith, lt))
    more (inr le) = inr (omega (arith, le))

-- ---- parts of a payload

-- a part of a range is a range
range_range : (file : List ℕ) (from len at n : ℕ) → at + n ≤ len → range (range file from len) at n ≡ range file (from + at) n
range_range file from len at n le = ap (λ (xs : List ℕ). take n xs) (drop_range file from at len (omega (arith, le))) ∙ take_range file (from + at) n (len - at) (omega (arith, le))

-- the first bytes, as many as are there
pub front_read : (file : List ℕ) (from len : ℕ) → from + len ≤ length file → range file from (min len 128) ≡ take 128 (range file from len)
front_read file from len w = by_size (lt_or_le len 128)
  where
    by_size : (len < 128) ⊎ (128 ≤ len) → range file from (min len 128) ≡ take 128 (range file from len)
    by_size (inl lt) =
        let e : min len 128 ≡ len = omega (arith, lt) in
        let l = length_range file from len w in
        ap (λ (n : ℕ). range file from n) e ∙ sym (take_all 128 (range file from len) (omega (arith, l, lt)))
    by_size (inr le) =
        let e : min len 128 ≡ 128 = omega (arith, le) in
        ap (λ (n : ℕ). range file from n) e ∙ sym (take_range file from 128 len le)

-- what follows some bytes, as many as are there
pub rest_read : (file : List ℕ) (from len n : ℕ) → from + len ≤ length file → range file (from + min n len) (len - min n len) ≡ drop n (range file from len)
rest_read file from len n w = by_size (lt_or_le len n)
  where
    by_size : (len < n) ⊎ (n ≤ len) → range file (from + min n len) (len - min n len) ≡ drop n (range file from len)
    by_size (inl lt) =
        let e : len - min n len ≡ 0 = omega (arith, lt) in
        let l = length_range file from len w in
        ap (λ (k : ℕ). range file (from + min n len) k) e ∙ sym (drop_all n (range file from len) (omega (arith, l, lt)))
    by_size (inr le) =
        let e : min n len ≡ n = omega (arith, le) in
        ap (λ (k : ℕ). range file (from + k) (len - k)) e ∙ sym (drop_range file from n len le)

-- ---- rows

-- so many rows end no later than more of them
pub rows_within : (number count width len : ℕ) → number < count → count * width ≤ len → number * width + width ≤ len
rows_within number count width len lt le =
    let m : suc number * width ≤ count * width = mul-le-mul_right width (omega (arith, lt)) in
    let e : suc number * width ≡ number * width + width = suc-mul number width in
    omega (arith, m, e, le)

-- one row more
pub rows_more : (spot : FieldSpot) (head : LeafHead) (columns : List Field) (file : List ℕ) (from len number : ℕ) (old text new : List ℕ) → number * width_of head columns + width_of head columns ≤ len
    → text ≡ old ++ rows_text spot head columns number (range file from len)
    → new ≡ text ++ row_text spot head columns (number + 1) (range file (from + number * width_of head columns) (min (width_of head columns) 64))
    → new ≡ old ++ rows_text spot head columns (number + 1) (range file from len)
rows_more spot head columns file from len number old text new le p q =
    let width = width_of head columns in
    let next : suc number ≡ number + 1 = omega arith in
    let part = range_range file from len (number * width) (min width 64) (omega (arith, le)) in
    behind old text new (rows_text spot head columns number (range file from len)) _ p q
    ∙ ap (λ (bytes : List ℕ). old ++ (rows_text spot head columns number (range file from len) ++ row_text spot head columns (number + 1) bytes)) (sym part)
    ∙ ap (λ (n : ℕ). old ++ (rows_text spot head columns number (range file from len) ++ row_text spot head columns n (range (range file from len) (number * width) (min width 64)))) (sym next)
    ∙ ap (λ (n : ℕ). old ++ rows_text spot head columns n (range file from len)) next

-- ---- all of a box

-- its fields, what follows them, and what is missing and left over
pub laid_joined : (spot : FieldSpot) (most : ℕ) (head : LeafHead) (fields : List Field) (tail : Tail) (file front : List ℕ) (from len : ℕ) (old one two new : List ℕ) → from + len ≤ length file → front ≡ take 128 (range file from len)
    → one ≡ old ++ fields_text spot head fields front
    → two ≡ one ++ tail_text spot most head tail front (range file (from + min (width_of head fields) len) (len - min (width_of head fields) len))
    → new ≡ two ++ notes_text spot len (width_of head fields + tail_width head tail front (len - min (width_of head fields) len))
    → new ≡ old ++ laid_text spot most head fields tail (range file from len)
laid_joined spot most head fields tail file front from len old one two new w f p q r =
    let width = width_of head fields in
    let payload = range file from len in
    let l : len ≡ length payload = sym (length_range file from len w) in
    let n : len - min width len ≡ length payload - width = omega (arith, l) in
    let rest = rest_read file from len width w in
    behind old two new (fields_text spot head fields front ++ tail_text spot most head tail front (range file (from + min width len) (len - min width len))) _
    (behind old one two (fields_text spot head fields front) _ p q) r
    ∙ (λ i. old ++ (fields_text spot head fields (f i) ++ tail_text spot most head tail (f i) (rest i) ++ notes_text spot (l i) (width + tail_width head tail (f i) (n i))))

-- the fields of a box by its layout
pub layout_joined : (spot : FieldSpot) (most : ℕ) (l : Layout) (head : LeafHead) (file front : List ℕ) (from len : ℕ) (old one two new : List ℕ) → from + len ≤ length file → front ≡ take 128 (range file from len)
    → head ≡ head_of l.versions front
    → one ≡ old ++ before_fields spot len
    → two ≡ one ++ laid_text spot most head (fields_of l head) (tail_of l head) (range file from len)
    → new ≡ two ++ behind_fields spot
    → new ≡ old ++ layout_text spot most (Some l) (range file from len)
layout_joined spot most l head file front from len old one two new w f h p q r =
    let n : len ≡ length (range file from len) = sym (length_range file from len w) in
    let e : head ≡ head_of l.versions (take 128 (range file from len)) = h ∙ ap (λ (xs : List ℕ). head_of l.versions xs) f in
    behind old two new (before_fields spot len ++ laid_text spot most head (fields_of l head) (tail_of l head) (range file from len)) _
    (behind old one two (before_fields spot len) _ p q) r
    ∙ (λ i. old ++ (before_fields spot (n i) ++ laid_text spot most (e i) (fields_of l (e i)) (tail_of l (e i)) (range file from len) ++ behind_fields spot))

-- the same, by the type of the box
pub box_joined : (spot : FieldSpot) (most : ℕ) (kind : List ℕ) (l : Layout) (file : List ℕ) (offset header end : ℕ) (old new : List ℕ) → Some l ≡ layout_of kind
    → new ≡ old ++ layout_text spot most (Some l) (range file (offset + header) (end - (offset + header)))
    → new ≡ old ++ box_fields spot most kind (range file (offset + header) (end - offset - header))
box_joined spot most kind l file offset header end old new e p =
    let n : end - (offset + header) ≡ end - offset - header = omega arith in
    p ∙ (λ i. old ++ layout_text spot most (e i) (range file (offset + header) (n i)))
