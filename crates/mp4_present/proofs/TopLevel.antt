-- A walk over the boxes of the file itself.
use Rattle.std.proofs.Common.{◌≡◌, ℕ, ◌+◌, ◌-◌, ◌≤◌, true, List, [], ◌∷◌, ◌++◌, length, take, drop, Ok, sym, ap, subst, ◌∙◌, arith, length-drop}
use Rattle.std.specs.Prelude.{codes, min, Result}
use Rattle.std.proofs.lemmas.List.{drop-drop}
use Rattle.mp4_boxes.specs.format.Box.{Box, Header, header_at, box_of, sizes, LieEndToEnd, file_container, Tiles}
use Rattle.mp4_boxes.specs.format.BoxFaults.{header_there, type_of}
use Rattle.mp4_boxes.specs.words.View.{top_header_seen}
use Rattle.mp4_boxes.specs.declared.headers.TopHeader.{TopHeader}
use Rattle.mp4_boxes.specs.declared.fault.Fault.{Fault}
use Rattle.mp4_boxes.proofs.Tiling.{header_is, box_size, lies_push, sizes-append, sizes-cons, sizes_fit}
use Rattle.mp4_store.specs.words.Device.{range}
use Rattle.mp4_boxes.proofs.HeaderFronts.{header_there-take}
use Rattle.mp4_boxes.proofs.Walking.{located_ok}
use Rattle.mp4_present.specs.words.Reading.{IsTopHeader, top_box}

-- these boxes lie from the front of the file up to a place
pub record TopPassed (file : List ℕ) (boxes : List Box) (at : ℕ) : Type 0 where
  pub lie : LieEndToEnd true 0 file boxes
  pub taken : sizes boxes ≡ at

pub read_there : (file : List ℕ) (at : ℕ) (h : TopHeader) → IsTopHeader file at h → header_at true (drop at file) ≡ Ok (top_header_seen at h)
read_there file at h e =
    let l : length (drop at file) ≡ length file - at = length-drop at file in
    located_ok (codes "file") at (type_of (drop at file)) (header_at true (drop at file)) (top_header_seen at h) (subst (λ (n : ℕ). header_there true n (drop at file) (codes "file") at ≡ Ok (top_header_seen at h)) (sym l) e)

-- one more box of the file
pub top_more : (file : List ℕ) (boxes : List Box) (at : ℕ) (h : TopHeader) → TopPassed file boxes at → IsTopHeader file at h → at ≤ h.end → TopPassed file (boxes ++ top_box file at h ∷ []) h.end
top_more file boxes at h p e le =
    let t = p.taken in
    let g = top_header_seen at h in
    let read : header_at true (drop (sizes boxes) file) ≡ Ok g = ap (λ (k : ℕ). header_at true (drop k file)) t ∙ read_there file at h e in
    let b = box_of (0 + sizes boxes) (drop (sizes boxes) file) g in
    let big = box_size (0 + sizes boxes) (drop (sizes boxes) file) g (header_is true (drop (sizes boxes) file) g read) in
    let place : 0 + sizes boxes ≡ at = omega arith in
    let part : drop h.header (drop (sizes boxes) file) ≡ drop (at + h.header) file = ap (λ (k : ℕ). drop h.header (drop k file)) t ∙ drop-drop h.header at file in
    let same : b ≡ top_box file at h = λ i. record { kind = h.kind.0; offset = place i; header = h.header; payload = take (h.end - at - h.header) (part i) } in
    record {
      lie = subst (λ (x : Box). LieEndToEnd true 0 file (boxes ++ x ∷ [])) same (lies_push true 0 file boxes g p.lie read);
      taken = subst (λ (x : Box). sizes (boxes ++ x ∷ []) ≡ h.end) same (omega (arith, t, big, le, sizes-append boxes (b ∷ []), sizes-cons b []));
    }

-- the boxes up to the end are those of the file
pub top_tiles : (file : List ℕ) (boxes : List Box) (at : ℕ) → TopPassed file boxes at → length file ≤ at → Tiles (file_container file) boxes
top_tiles file boxes at p le =
    let fit = sizes_fit true 0 file boxes p.lie in
    let t = p.taken in
    record { front = (p.lie, tt); full = omega arith }

-- a header in the bytes that were read is the one in the file
pub read_in_file : (file bytes : List ℕ) (at left n : ℕ) (r : Result Header Fault) → bytes ≡ range file at n → left ≡ length file - at → n ≡ min left 16
    → header_there true left bytes (codes "file") at ≡ r → header_there true (length file - at) (drop at file) (codes "file") at ≡ r
read_in_file file bytes at left n r b l m e =
    let front : header_there true left bytes (codes "file") at ≡ header_there true left (drop at file) (codes "file") at = ap (λ (bs : List ℕ). header_there true left bs (codes "file") at) b ∙ header_there-take true left (drop at file) (codes "file") at n (omega arith) in
    ap (λ (k : ℕ). header_there true k (drop at file) (codes "file") at) (sym l) ∙ sym front ∙ e
