-- Boxes between two places of a payload, one by one.
use Rattle.std.proofs.Common.{◌≡◌, ℕ, zero, suc, ◌+◌, ◌-◌, ◌≤◌, false, List, [], ◌∷◌, length, take, drop, Result, Ok, Err, IsErr, refl, sym, ap, ◌∙◌, arith, length-take, length-drop}
use Rattle.std.proofs.lemmas.List.{drop-drop, drop-take}
use Rattle.mp4_boxes.specs.format.Box.{Box, Header, header_at, box_of, box_and_more, first_boxes}
use Rattle.mp4_boxes.specs.format.BoxFaults.{header_there}
use Rattle.mp4_boxes.specs.declared.fault.Fault.{Fault}
use Rattle.mp4_boxes.specs.declared.fault.Kind.{Kind}
use Rattle.mp4_boxes.proofs.Walking.{read_there, none_there}
use Rattle.mp4_boxes.proofs.Tiling.{header_is}
use Rattle.mp4_frag.specs.words.Walks.{part_of, boxes_in, boxes_between}

none_in : (n at : ℕ) (bytes : List ℕ) → length bytes ≡ 0 → first_boxes n at bytes ≡ []
none_in zero at bytes e = refl
none_in (suc n) at [] e = refl
none_in (suc n) at (b ∷ bytes) e = absurd (omega (arith, e))

-- a box and what is found behind it
behind_alike : (at : ℕ) (bytes : List ℕ) (r : Result Header Kind) (f g : Header → List Box) → ((h : Header) → r ≡ Ok h → f h ≡ g h) → box_and_more at bytes r f ≡ box_and_more at bytes r g
behind_alike at bytes (Ok h) f g e = ap (λ (boxes : List Box). box_of at bytes h ∷ boxes) (e h refl)
behind_alike at bytes (Err kind) f g e = refl

-- as many boxes as there are bytes are enough to seek
enough : (n m at : ℕ) (bytes : List ℕ) → length bytes ≤ n → length bytes ≤ m → first_boxes n at bytes ≡ first_boxes m at bytes
enough zero m at bytes h k = sym (none_in m at bytes (omega arith))
enough (suc n) zero at bytes h k = none_in (suc n) at bytes (omega arith)
enough (suc n) (suc m) at bytes h k =
    behind_alike at bytes (header_at false bytes) (λ g. first_boxes n (at + g.size) (drop g.size bytes)) (λ g. first_boxes m (at + g.size) (drop g.size bytes))
    (λ g e.
    let r = header_is false bytes g e in
    let short = length-drop g.size bytes in
    let eight = r.length in
    let inside = r.inside in
    enough n m (at + g.size) (drop g.size bytes) (omega arith) (omega arith))

first_then : (at : ℕ) (bytes : List ℕ) (r : Result Header Kind) (h : Header) (behind : Header → List Box) → r ≡ Ok h → box_and_more at bytes r behind ≡ box_of at bytes h ∷ behind h
first_then at bytes (Ok g) h behind e = let same : g ≡ h = cc in rw same refl
first_then at bytes (Err k) h behind e = absurd cc

-- the boxes in front of bytes are the first and those behind it
boxes_first : (n at : ℕ) (bytes : List ℕ) (h : Header) → length bytes ≡ n → header_at false bytes ≡ Ok h → first_boxes n at bytes ≡ box_of at bytes h ∷ boxes_in (at + h.size) (drop h.size bytes)
boxes_first zero at bytes h e f =
    let r = header_is false bytes h f in
    let eight = r.length in
    let inside = r.inside in
    let fits = r.fits in absurd (omega arith)
boxes_first (suc n) at bytes h e f =
    let r = header_is false bytes h f in
    let eight = r.length in
    let inside = r.inside in
    let short = length-drop h.size bytes in
    first_then at bytes (header_at false bytes) h (λ g. first_boxes n (at + g.size) (drop g.size bytes)) f
    ∙ ap (λ (boxes : List Box). box_of at bytes h ∷ boxes) (enough n (length (drop h.size bytes)) (at + h.size) (drop h.size bytes) (omega arith) (omega arith))

-- parts of a part
pub part_behind : (payload : List ℕ) (at n end : ℕ) → at + n ≤ end → drop n (part_of payload at end) ≡ part_of payload (at + n) end
part_behind payload at n end h =
    let whole : end - at ≡ n + (end - (at + n)) = omega arith in
    ap (λ m. drop n (take m (drop at payload))) whole ∙ drop-take n (end - (at + n)) (drop at payload) ∙ ap (take (end - (at + n))) (drop-drop n at payload)

part_front : (payload : List ℕ) (m n : ℕ) → m ≤ n → take m (take n payload) ≡ take m payload
part_front payload zero n h = refl
part_front [] (suc m) zero h = refl
part_front [] (suc m) (suc n) h = refl
part_front (b ∷ payload) (suc m) zero h = absurd (omega arith)
part_front (b ∷ payload) (suc m) (suc n) h = ap (λ (bs : List ℕ). b ∷ bs) (part_front payload m n (omega arith))

pub part_inside : (payload : List ℕ) (at l size end : ℕ) → l ≤ size → at + size ≤ end → take (size - l) (drop l (part_of payload at end)) ≡ part_of payload (at + l) (at + size)
part_inside payload at l size end h k =
    let width : at + size - (at + l) ≡ size - l = omega arith in
    ap (take (size - l)) (part_behind payload at l end (omega arith))
    ∙ part_front (drop (at + l) payload) (size - l) (end - (at + l)) (omega arith)
    ∙ ap (λ m. take m (drop (at + l) payload)) (sym width)

pub part_length : (payload : List ℕ) (at end : ℕ) → at ≤ end → end ≤ length payload → length (part_of payload at end) ≡ end - at
part_length payload at end h k = omega (arith, length-take (end - at) (drop at payload), length-drop at payload)

-- where a header can be read, the first box and those behind it
pub box_there : (payload : List ℕ) (at end : ℕ) (kind : List ℕ) (l size : ℕ) → at ≤ end → end ≤ length payload → header_at false (part_of payload at end) ≡ Ok (record { kind = kind; length = l; size = size })
    → boxes_between payload at end ≡ record { kind = kind; offset = at; header = at + l - at; payload = part_of payload (at + l) (at + size) } ∷ boxes_between payload (at + size) end
unfolding boxes_between
box_there payload at end kind l size h k e =
    let r = header_is false (part_of payload at end) (record { kind = kind; length = l; size = size }) e in
    let long = part_length payload at end h k in
    let inside = r.inside in
    let fits = r.fits in
    let width : at + l - at ≡ l = omega arith in
    boxes_first (length (part_of payload at end)) at (part_of payload at end) (record { kind = kind; length = l; size = size }) refl e
    ∙ (let payload_is = part_inside payload at l size end inside (omega arith) in
    let behind = part_behind payload at size end (omega arith) in
    λ i. record { kind = kind; offset = at; header = sym width i; payload = payload_is i } ∷ boxes_in (at + size) (behind i))

-- where none can be read, there is no box
pub box_none : (payload : List ℕ) (at end : ℕ) → IsErr (header_at false (part_of payload at end)) → boxes_between payload at end ≡ []
unfolding boxes_between
box_none payload at end e = none (length (part_of payload at end)) (header_at false (part_of payload at end)) refl e
  where
    none_more : (n : ℕ) (r : Result Header Kind) → IsErr r → box_and_more at (part_of payload at end) r (λ g. first_boxes n (at + g.size) (drop g.size (part_of payload at end))) ≡ []
    none_more n (Ok h) f = absurd cc
    none_more n (Err kind) f = refl

    none : (n : ℕ) (r : Result Header Kind) → header_at false (part_of payload at end) ≡ r → IsErr (header_at false (part_of payload at end)) → first_boxes n at (part_of payload at end) ≡ []
    none zero r f g = refl
    none (suc n) r f g = none_more n (header_at false (part_of payload at end)) g

-- where a header was read that says where its box ends
pub box_read : (payload : List ℕ) (at end : ℕ) (kind container : List ℕ) (place l behind left : ℕ) → at ≤ end → end ≤ length payload → left ≡ end - at → at + l ≤ behind
    → header_there false left (part_of payload at end) container place ≡ Ok (record { kind = kind; length = l; size = behind - at })
    → boxes_between payload at end ≡ record { kind = kind; offset = at; header = at + l - at; payload = part_of payload (at + l) behind } ∷ boxes_between payload behind end
box_read payload at end kind container place l behind left h k e f g =
    let all : left ≡ length (part_of payload at end) = e ∙ sym (part_length payload at end h k) in
    let size : at + (behind - at) ≡ behind = omega arith in
    rw size at (box_there payload at end kind l (behind - at) h k (read_there (part_of payload at end) container place _ (rw all at g)))

-- and where a fault was found
pub none_read : (payload : List ℕ) (at end : ℕ) (container : List ℕ) (place left : ℕ) (fault : Fault) → at ≤ end → end ≤ length payload → left ≡ end - at
    → header_there false left (part_of payload at end) container place ≡ Err fault → boxes_between payload at end ≡ []
none_read payload at end container place left fault h k e g =
    let all : left ≡ length (part_of payload at end) = e ∙ sym (part_length payload at end h k) in
    box_none payload at end (none_there (part_of payload at end) container place fault (rw all at g))

-- nor behind the end
pub box_end : (payload : List ℕ) (at end : ℕ) → end ≤ at → boxes_between payload at end ≡ []
unfolding boxes_between
box_end payload at end h =
    let z : end - at ≡ 0 = omega arith in
    ap (λ n. boxes_in at (take n (drop at payload))) z

-- all boxes of the payload
pub all_boxes : (payload : List ℕ) → boxes_between payload 0 (length payload) ≡ boxes_in 0 payload
unfolding boxes_between
all_boxes payload = ap (λ n. boxes_in 0 (take n payload)) (omega arith) ∙ ap (boxes_in 0) (take_all payload)
  where
    take_all : (bytes : List ℕ) → take (length bytes) bytes ≡ bytes
    take_all [] = refl
    take_all (b ∷ bytes) = ap (λ (bs : List ℕ). b ∷ bs) (take_all bytes)
