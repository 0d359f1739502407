-- A walk over counted boxes names the first fault: what is left of the definition behind the boxes that were passed.
use Rattle.std.proofs.Common.{◌≡◌, ℕ, suc, ◌+◌, ◌-◌, ◌<◌, ◌≤◌, true, false, ltb, List, [], ◌∷◌, ◌++◌, length, drop, Result, Ok, Err, refl, sym, ap, subst, ◌∙◌, arith}
use Rattle.std.specs.Prelude.{nat_lt}
use Rattle.mp4_boxes.specs.format.Bytes.{field}
use Rattle.mp4_boxes.specs.format.Box.{Box, Header, Container, counted, header_at, box_of, sizes, first_boxes, counted_container}
use Rattle.mp4_boxes.specs.format.BoxFaults.{header_there}
use Rattle.mp4_boxes.specs.format.FirstFault.{boxes_behind, counted_or_fault, no_tests}
use Rattle.mp4_boxes.specs.declared.fault.Fault.{Fault}
use Rattle.mp4_boxes.proofs.Walking.{Passed, passed_more, passed_more-boxes, passed_boxes, passed_few, passed_within, read_there}
use Rattle.mp4_boxes.proofs.Plain.{ltb_by, ltb_not_by}

-- so many boxes of these bytes, of a box of this type and place
abbrev pub counted_in : List ℕ → ℕ → ℕ → List ℕ → ℕ → Container
counted_in kind offset base bytes n = record { kind = kind; offset = offset; at = base; bytes = bytes; extent = counted n }

-- the definition goes on behind the boxes that were passed
abbrev pub CountsOn : List ℕ → ℕ → ℕ → List ℕ → ℕ → ℕ → Type 0
CountsOn kind offset base bytes n count = counted_or_fault (counted_in kind offset base bytes n)
    ≡ boxes_behind (suc (length bytes) - count) no_tests (counted_in kind offset base bytes n) (first_boxes count base bytes)

pub counts_none : (kind : List ℕ) (offset base : ℕ) (bytes : List ℕ) (n : ℕ) → CountsOn kind offset base bytes n 0
counts_none kind offset base bytes n = let e : suc (length bytes) - 0 ≡ suc (length bytes) = omega arith in rw e refl

-- where it goes on, by the boxes that were passed, with one step left at least
counts : (kind : List ℕ) (offset base : ℕ) (bytes : List ℕ) (n count at : ℕ) (p : Passed base bytes count at) → CountsOn kind offset base bytes n count
    → counted_or_fault (counted_in kind offset base bytes n) ≡ boxes_behind (suc (length bytes - count)) no_tests (counted_in kind offset base bytes n) p.boxes
counts kind offset base bytes n count at p g =
    let few = passed_few base bytes count at p in
    let within = passed_within base bytes count at p in
    let k : suc (length bytes) - count ≡ suc (length bytes - count) = omega arith in
    g ∙ (λ i. boxes_behind (k i) no_tests (counted_in kind offset base bytes n) (passed_boxes base bytes count at p i))

there : (kind : List ℕ) (base : ℕ) (bytes : List ℕ) (count at : ℕ) (p : Passed base bytes count at) (r : Result Header Fault)
    → header_there false (length (drop at bytes)) (drop at bytes) kind (base + at) ≡ r
    → header_there false (length (drop (sizes p.boxes) bytes)) (drop (sizes p.boxes) bytes) kind (base + sizes p.boxes) ≡ r
there kind base bytes count at p r e = ap (λ (k : ℕ). header_there false (length (drop k bytes)) (drop k bytes) kind (base + k)) p.taken ∙ e

step_fails : (k : ℕ) (kind : List ℕ) (offset base : ℕ) (bytes : List ℕ) (n : ℕ) (before : List Box) (f : Fault) → nat_lt (length before) n ≡ true
    → header_there false (length (drop (sizes before) bytes)) (drop (sizes before) bytes) kind (base + sizes before) ≡ Err f
    → boxes_behind (suc k) no_tests (counted_in kind offset base bytes n) before ≡ Err f
step_fails k kind offset base bytes n before f d e = rw (d, e) refl

step_more : (k : ℕ) (kind : List ℕ) (offset base : ℕ) (bytes : List ℕ) (n : ℕ) (before : List Box) (h : Header) → nat_lt (length before) n ≡ true
    → header_there false (length (drop (sizes before) bytes)) (drop (sizes before) bytes) kind (base + sizes before) ≡ Ok h
    → boxes_behind (suc k) no_tests (counted_in kind offset base bytes n) before
    ≡ boxes_behind k no_tests (counted_in kind offset base bytes n) (before ++ box_of (base + sizes before) (drop (sizes before) bytes) h ∷ [])
step_more k kind offset base bytes n before h d e = rw (d, e) refl

step_end : (k : ℕ) (kind : List ℕ) (offset base : ℕ) (bytes : List ℕ) (n : ℕ) (before : List Box) → nat_lt (length before) n ≡ false
    → boxes_behind (suc k) no_tests (counted_in kind offset base bytes n) before ≡ Ok before
step_end k kind offset base bytes n before d = rw d refl

pub counts_more : (kind : List ℕ) (offset base : ℕ) (bytes : List ℕ) (n count at : ℕ) (h : Header) → Passed base bytes count at → count < n
    → header_there false (length (drop at bytes)) (drop at bytes) kind (base + at) ≡ Ok h
    → CountsOn kind offset base bytes n count → CountsOn kind offset base bytes n (count + 1)
counts_more kind offset base bytes n count at h p lt e g =
    let read : header_at false (drop at bytes) ≡ Ok h = read_there (drop at bytes) kind (base + at) h e in
    let q = passed_more base bytes count at h p read in
    let same : first_boxes (count + 1) base bytes ≡ p.boxes ++ box_of (base + sizes p.boxes) (drop (sizes p.boxes) bytes) h ∷ [] = passed_boxes base bytes (count + 1) (at + h.size) q ∙ passed_more-boxes base bytes count at h p read in
    let few = passed_few base bytes count at p in
    let within = passed_within base bytes count at p in
    let k : length bytes - count ≡ suc (length bytes) - (count + 1) = omega arith in
    let many = p.many in
    counts kind offset base bytes n count at p g
    ∙ step_more (length bytes - count) kind offset base bytes n p.boxes h (ltb_by (length p.boxes) n (ltb (length p.boxes) n) refl (omega (arith, many, lt))) (there kind base bytes count at p (Ok h) e)
    ∙ (λ i. boxes_behind (k i) no_tests (counted_in kind offset base bytes n) (sym same i))

counts_fail : (kind : List ℕ) (offset base : ℕ) (bytes : List ℕ) (n count at : ℕ) (f : Fault) → Passed base bytes count at → count < n
    → header_there false (length (drop at bytes)) (drop at bytes) kind (base + at) ≡ Err f
    → CountsOn kind offset base bytes n count → counted_or_fault (counted_in kind offset base bytes n) ≡ Err f
counts_fail kind offset base bytes n count at f p lt e g =
    let many = p.many in
    counts kind offset base bytes n count at p g
    ∙ step_fails (length bytes - count) kind offset base bytes n p.boxes f (ltb_by (length p.boxes) n (ltb (length p.boxes) n) refl (omega (arith, many, lt))) (there kind base bytes count at p (Err f) e)

counts_end : (kind : List ℕ) (offset base : ℕ) (bytes : List ℕ) (n count at : ℕ) → Passed base bytes count at → n ≤ count
    → CountsOn kind offset base bytes n count → counted_or_fault (counted_in kind offset base bytes n) ≡ Ok (first_boxes count base bytes)
counts_end kind offset base bytes n count at p le g =
    let many = p.many in
    counts kind offset base bytes n count at p g
    ∙ step_end (length bytes - count) kind offset base bytes n p.boxes (ltb_not_by (length p.boxes) n (ltb (length p.boxes) n) refl (omega (arith, many, le)))
    ∙ ap (λ (bs : List Box). Ok bs) (sym (passed_boxes base bytes count at p))

-- ---- of a box

as_box : (b : Box) (base : ℕ) (bytes : List ℕ) (n : ℕ) (r : Result (List Box) Fault) → base ≡ b.offset + b.header + 8 → bytes ≡ drop 8 b.payload → n ≡ field b.payload 4 4
    → counted_or_fault (counted_in b.kind b.offset base bytes n) ≡ r → counted_or_fault (counted_container b) ≡ r
as_box b base bytes n r e g d h = subst (λ (c : Container). counted_or_fault c ≡ r) (λ i. counted_in b.kind b.offset (e i) (g i) (d i)) h

pub counted_stops : (b : Box) (base : ℕ) (bytes : List ℕ) (n count at : ℕ) (f : Fault) → base ≡ b.offset + b.header + 8 → bytes ≡ drop 8 b.payload → n ≡ field b.payload 4 4
    → Passed base bytes count at → count < n → header_there false (length (drop at bytes)) (drop at bytes) b.kind (base + at) ≡ Err f
    → CountsOn b.kind b.offset base bytes n count → counted_or_fault (counted_container b) ≡ Err f
counted_stops b base bytes n count at f e g d p lt h on = as_box b base bytes n (Err f) e g d (counts_fail b.kind b.offset base bytes n count at f p lt h on)

pub counted_ends : (b : Box) (base : ℕ) (bytes : List ℕ) (n count at : ℕ) → base ≡ b.offset + b.header + 8 → bytes ≡ drop 8 b.payload → n ≡ field b.payload 4 4
    → Passed base bytes count at → n ≤ count
    → CountsOn b.kind b.offset base bytes n count → counted_or_fault (counted_container b) ≡ Ok (first_boxes count base bytes)
counted_ends b base bytes n count at e g d p le on = as_box b base bytes n (Ok (first_boxes count base bytes)) e g d (counts_end b.kind b.offset base bytes n count at p le on)
