-- A walk over boxes that lie end to end, one header after the other.
use Rattle.std.proofs.Common.{◌≡◌, ℕ, zero, suc, ◌+◌, ◌-◌, ◌<◌, ◌≤◌, false, List, [], ◌∷◌, ◌++◌, length, take, drop, Result, Ok, Err, IfOk, IsErr, IsOk, refl, sym, ap, subst, ◌∙◌, arith, length-append, length-drop}
use Rattle.std.proofs.lemmas.List.{drop-take, take_rest}
use Rattle.mp4_boxes.specs.format.Box.{Box, Header, header_at, box_of, size, sizes, LieEndToEnd, box_and_more, first_boxes, HasBoxes}
use Rattle.mp4_boxes.specs.format.Box.{Tiles, to_end_of_box}
use Rattle.mp4_boxes.specs.format.BoxFaults.{IsHeaderFault, located, header_there, type_of, unreadable}
use Rattle.mp4_boxes.specs.declared.fault.Fault.{Fault}
use Rattle.mp4_boxes.specs.declared.fault.Kind.{Kind}
use Rattle.mp4_boxes.proofs.Tiling.{header_is, box_size, first_fits, lies_push, sizes-append, sizes-cons, sizes_fit}

-- Boxes lie end to end from the front of the bytes up to a place of them; so many were passed.
pub record Passed (base : ℕ) (bytes : List ℕ) (count at : ℕ) : Type 0 where
  pub boxes : List Box
  pub lie : LieEndToEnd false base bytes boxes
  pub taken : sizes boxes ≡ at
  pub many : length boxes ≡ count

-- none yet
pub passed_none : (base : ℕ) (bytes : List ℕ) → Passed base bytes 0 0
passed_none base bytes = record { boxes = []; lie = tt; taken = refl; many = refl }

-- one more, where a header can be read
pub passed_more : (base : ℕ) (bytes : List ℕ) (count at : ℕ) (h : Header) → Passed base bytes count at → header_at false (drop at bytes) ≡ Ok h → Passed base bytes (count + 1) (at + h.size)
passed_more base bytes count at h p e =
    let f : header_at false (drop (sizes p.boxes) bytes) ≡ Ok h = ap (λ (k : ℕ). header_at false (drop k bytes)) p.taken ∙ e in
    let b = box_of (base + sizes p.boxes) (drop (sizes p.boxes) bytes) h in
    let big = box_size (base + sizes p.boxes) (drop (sizes p.boxes) bytes) h (header_is false (drop (sizes p.boxes) bytes) h f) in
    record {
      boxes = p.boxes ++ b ∷ [];
      lie = lies_push false base bytes p.boxes h p.lie f;
      taken = omega (arith, p.taken, big, sizes-append p.boxes (b ∷ []), sizes-cons b []);
      many = omega (arith, p.many, length-append p.boxes (b ∷ []));
    }

-- each box takes some bytes
pub length_few : (base : ℕ) (bytes : List ℕ) (boxes : List Box) → LieEndToEnd false base bytes boxes → length boxes ≤ sizes boxes
length_few base bytes [] l = omega arith
length_few base bytes (b ∷ boxes) l =
    omega (arith, sizes-cons b boxes, length_few (base + size b) (drop (size b) bytes) boxes l.1, (first_fits false base bytes b boxes l).0)

-- no more boxes were passed than bytes
pub passed_few : (base : ℕ) (bytes : List ℕ) (count at : ℕ) → Passed base bytes count at → count ≤ at
passed_few base bytes count at p = omega (arith, length_few base bytes p.boxes p.lie, p.taken, p.many)

-- the boxes are those passed before, and the one that was read
pub passed_more-boxes : (base : ℕ) (bytes : List ℕ) (count at : ℕ) (h : Header) (p : Passed base bytes count at) (e : header_at false (drop at bytes) ≡ Ok h)
    → (passed_more base bytes count at h p e).boxes ≡ p.boxes ++ box_of (base + sizes p.boxes) (drop (sizes p.boxes) bytes) h ∷ []
unfolding passed_more
passed_more-boxes base bytes count at h p e = refl

-- the place lies in the bytes
pub passed_within : (base : ℕ) (bytes : List ℕ) (count at : ℕ) → Passed base bytes count at → at ≤ length bytes
passed_within base bytes count at p = omega (arith, sizes_fit false base bytes p.boxes p.lie, p.taken)

-- a box in front, where its header can be read
pub first_then : (at : ℕ) (bytes : List ℕ) (b : Box) (more : List Box) (r : Result Header Kind) (h : Header) (behind : Header → List Box) → r ≡ Ok h → b ≡ box_of at bytes h → more ≡ behind h
    → box_and_more at bytes r behind ≡ b ∷ more
first_then at bytes b more (Ok g) h behind e f m = let same : g ≡ h = cc in rw (same, f, m) refl
first_then at bytes b more (Err k) h behind e f m = absurd cc

-- Boxes that lie end to end are the first that are found there.
pub first_boxes-lie : (at : ℕ) (bytes : List ℕ) (boxes : List Box) → LieEndToEnd false at bytes boxes → first_boxes (length boxes) at bytes ≡ boxes
first_boxes-lie at bytes [] l = refl
first_boxes-lie at bytes (b ∷ boxes) l =
    let h = l.0.0 in
    let e : size b ≡ h.size = ap size l.0.2 ∙ box_size at bytes h (header_is false bytes h l.0.1) in
    let same : first_boxes (length boxes) (at + h.size) (drop h.size bytes) ≡ boxes = subst (λ (n : ℕ). first_boxes (length boxes) (at + n) (drop n bytes) ≡ boxes) e (first_boxes-lie (at + size b) (drop (size b) bytes) boxes l.1) in
    first_then at bytes b boxes (header_at false bytes) h (λ g. first_boxes (length boxes) (at + g.size) (drop g.size bytes)) l.0.1 l.0.2 (sym same)

-- ---- the box in front

-- what a fact says of the header that was read
pub at_ok : {A : Type 0} (r : Result A Kind) (P : A → Type 0) (x : A) → r ≡ Ok x → IfOk {E = Kind} r P → P x
at_ok {A} r P x e p = let q : IfOk {E = Kind} (Ok x) P = subst (λ (s : Result A Kind). IfOk {E = Kind} s P) e p in q

-- The parts of the bytes by a header that was read are its box and what follows.
pub first_part : (at : ℕ) (bytes : List ℕ) (h : Header) (rest whole payload : List ℕ) → header_at false bytes ≡ Ok h → whole ≡ take h.size bytes → rest ≡ drop h.size bytes → payload ≡ drop h.length whole
    → IfOk (header_at false bytes) (λ g. (record { kind = h.kind; offset = at; header = h.length; payload = payload } ≡ box_of at bytes g) × (rest ≡ drop g.size bytes))
first_part at bytes h rest whole payload e w r p =
    let read = header_is false bytes h e in
    let inside = read.inside in
    let split : h.length + (h.size - h.length) ≡ h.size = omega arith in
    let parts : payload ≡ take (h.size - h.length) (drop h.length bytes) =
    p ∙ ap (drop h.length) w ∙ ap (λ (n : ℕ). drop h.length (take n bytes)) (sym split) ∙ drop-take h.length (h.size - h.length) bytes in
    rw e ((λ i. record { kind = h.kind; offset = at; header = h.length; payload = parts i }), r)

-- Of some boxes in front of the bytes: the first, and the others behind it.
pub record Next (count at : ℕ) (bytes : List ℕ) : Type 0 where
  pub h : Header
  pub readable : header_at false bytes ≡ Ok h
  pub boxes : first_boxes count at bytes ≡ box_of at bytes h ∷ first_boxes (count - 1) (at + h.size) (drop h.size bytes)
  pub has : HasBoxes (count - 1) (at + h.size) (drop h.size bytes)

next_by : (n at : ℕ) (bytes : List ℕ) (r : Result Header Kind) → header_at false bytes ≡ r
    → LieEndToEnd false at bytes (box_and_more at bytes r (λ h. first_boxes n (at + h.size) (drop h.size bytes)))
    → length (box_and_more at bytes r (λ h. first_boxes n (at + h.size) (drop h.size bytes))) ≡ suc n
    → (h : Header) × (r ≡ Ok h) × HasBoxes n (at + h.size) (drop h.size bytes)
next_by n at bytes (Ok h) e lie many =
    let b = box_of at bytes h in
    let big : size b ≡ h.size = box_size at bytes h (header_is false bytes h e) in
    let behind = subst (λ (k : ℕ). LieEndToEnd false (at + k) (drop k bytes) (first_boxes n (at + h.size) (drop h.size bytes))) big lie.1 in
    (h, refl, record { lie = behind; many = omega (arith, many) })
next_by n at bytes (Err k) e lie many = absurd (omega (arith, many))

next_of : (count at : ℕ) (bytes : List ℕ) → HasBoxes count at bytes → 0 < count → Next count at bytes
next_of zero at bytes has some = absurd (omega arith)
next_of (suc n) at bytes has some =
    let r = next_by n at bytes (header_at false bytes) refl has.lie has.many in
    let one : suc n - 1 ≡ n = omega arith in
    record {
      h = r.0;
      readable = r.1;
      boxes = subst (λ (k : ℕ). first_boxes (suc n) at bytes ≡ box_of at bytes r.0 ∷ first_boxes k (at + r.0.size) (drop r.0.size bytes)) (sym one)
          (first_then at bytes (box_of at bytes r.0) (first_boxes n (at + r.0.size) (drop r.0.size bytes)) (header_at false bytes) r.0 (λ h. first_boxes n (at + h.size) (drop h.size bytes)) r.1 refl refl);
      has = subst (λ (k : ℕ). HasBoxes k (at + r.0.size) (drop r.0.size bytes)) (sym one) r.2;
    }

-- What is left behind the first box, by the bytes that are left.
pub record Moved (count at : ℕ) (bytes : List ℕ) (b : Box) (behind : ℕ) (rest : List ℕ) : Type 0 where
  pub readable : IsOk (header_at false bytes)
  pub boxes : first_boxes count at bytes ≡ b ∷ first_boxes (count - 1) behind rest
  pub has : HasBoxes (count - 1) behind rest
  pub shorter : length rest ≤ length bytes

pub moved : (count at : ℕ) (bytes : List ℕ) (b : Box) (rest : List ℕ) → HasBoxes count at bytes → 0 < count
    → IfOk (header_at false bytes) (λ h. (b ≡ box_of at bytes h) × (rest ≡ drop h.size bytes)) → Moved count at bytes b (at + (length bytes - length rest)) rest
moved count at bytes b rest has some is =
    let n = next_of count at bytes has some in
    let s = at_ok (header_at false bytes) (λ h. (b ≡ box_of at bytes h) × (rest ≡ drop h.size bytes)) n.h n.readable is in
    let read = header_is false bytes n.h n.readable in
    let f = read.fits in
    let left : length rest ≡ length bytes - n.h.size = ap length s.1 ∙ length-drop n.h.size bytes in
    let place : at + (length bytes - length rest) ≡ at + n.h.size = omega arith in
    record {
      readable = rw n.readable refl;
      boxes = rw (place, s.0, s.1) n.boxes;
      has = rw (place, s.1) n.has;
      shorter = omega arith;
    }

-- ---- what a walk answers

-- a header that was read is one
pub located_ok : (container : List ℕ) (at : ℕ) (box_type : List ℕ) (r : Result Header Kind) (h : Header) → located container at box_type r ≡ Ok h → r ≡ Ok h
located_ok container at box_type (Ok g) h e = let same : g ≡ h = cc in ap (λ (x : Header). Ok x) same
located_ok container at box_type (Err k) h e = absurd cc

-- a fault that was found says in which way there is none
pub located_err : (container : List ℕ) (at : ℕ) (box_type : List ℕ) (r : Result Header Kind) (f : Fault) → located container at box_type r ≡ Err f → (kind : Kind) × (r ≡ Err kind) × (f ≡ unreadable container at box_type kind)
located_err container at box_type (Ok g) f e = absurd cc
located_err container at box_type (Err k) f e = let same : unreadable container at box_type k ≡ f = cc in (k, refl, sym same)

-- a header that was read in front of all bytes of a container, and a fault that was found there
pub read_there : (bytes container : List ℕ) (place : ℕ) (h : Header) → header_there false (length bytes) bytes container place ≡ Ok h → header_at false bytes ≡ Ok h
read_there bytes container place h e = located_ok container place (type_of bytes) (header_at false bytes) h e

pub none_there : (bytes container : List ℕ) (place : ℕ) (f : Fault) → header_there false (length bytes) bytes container place ≡ Err f → IsErr (header_at false bytes)
none_there bytes container place f e = let found = located_err container place (type_of bytes) (header_at false bytes) f e in rw found.1 refl

-- the same for a header that was read behind some bytes
pub read_behind : (bytes : List ℕ) (at : ℕ) (container : List ℕ) (place : ℕ) (h : Header)
    → header_there false (length (take (length bytes - at) (drop at bytes))) (take (length bytes - at) (drop at bytes)) container place ≡ Ok h → header_at false (drop at bytes) ≡ Ok h
read_behind bytes at container place h e =
    let r = rw (take_rest bytes at) at e in located_ok container place (type_of (drop at bytes)) (header_at false (drop at bytes)) h r

-- and for a fault, where the container's type is known by another word
pub fault_behind : (bytes : List ℕ) (at : ℕ) (container kind : List ℕ) (place : ℕ) (f : Fault) → container ≡ kind
    → header_there false (length (take (length bytes - at) (drop at bytes))) (take (length bytes - at) (drop at bytes)) container place ≡ Err f
    → header_there false (length (drop at bytes)) (drop at bytes) kind place ≡ Err f
fault_behind bytes at container kind place f k e = rw (take_rest bytes at, k) at e

-- the boxes that were passed are those that an iterator then gives
pub passed_boxes : (base : ℕ) (bytes : List ℕ) (count at : ℕ) (p : Passed base bytes count at) → first_boxes count base bytes ≡ p.boxes
passed_boxes base bytes count at p = ap (λ (n : ℕ). first_boxes n base bytes) (sym p.many) ∙ first_boxes-lie base bytes p.boxes p.lie

pub passed_has : (base : ℕ) (bytes : List ℕ) (count at : ℕ) → Passed base bytes count at → HasBoxes count base bytes
passed_has base bytes count at p = let e = passed_boxes base bytes count at p in record { lie = rw e p.lie; many = rw e p.many }

-- a walk that reached the end of a box has passed its boxes
pub passed_tiles : (kind : List ℕ) (offset base : ℕ) (bytes : List ℕ) (count at : ℕ) → Passed base bytes count at → length bytes ≤ at
    → Tiles (record { kind = kind; offset = offset; at = base; bytes = bytes; extent = to_end_of_box }) (first_boxes count base bytes)
passed_tiles kind offset base bytes count at p le =
    let e = passed_boxes base bytes count at p in
    let w = passed_within base bytes count at p in
    let t = p.taken in
    record { front = (rw e p.lie, tt); full = rw e (omega arith) }

-- a walk that found no header, where bytes are left, has found a fault
pub passed_fault : (kind : List ℕ) (offset base : ℕ) (bytes : List ℕ) (count at : ℕ) (f : Fault) → Passed base bytes count at → at < length bytes
    → header_there false (length (drop at bytes)) (drop at bytes) kind (base + at) ≡ Err f
    → IsHeaderFault (record { kind = kind; offset = offset; at = base; bytes = bytes; extent = to_end_of_box }) f
passed_fault kind offset base bytes count at f p lt e =
    let r = located_err kind (base + at) (type_of (drop at bytes)) (header_at false (drop at bytes)) f e in
    let t = p.taken in
    record {
      before = p.boxes;
      front = (p.lie, tt);
      due = omega arith;
      kind = r.0;
      fails = ap (λ (n : ℕ). header_at false (drop n bytes)) t ∙ r.1;
      named = r.2 ∙ ap (λ (n : ℕ). unreadable kind (base + n) (type_of (drop n bytes)) r.0) (sym t);
    }
