-- The first boxes of a box fill it up to the next one.
use Rattle.std.proofs.Common.{◌≡◌, ℕ, ◌+◌, ◌-◌, ◌≤◌, Bool, true, false, cond, List, [], ◌∷◌, ◌++◌, length, take, drop, Result, Ok, Err, ltb, eqb, refl, sym, ap, subst, ◌∙◌, rules, arith}
use Rattle.std.proofs.lemmas.Bool.{ltb-false}
use Rattle.std.proofs.lemmas.List.{drop-take, length-drop, length-take, take-take}
use Rattle.mp4_boxes.specs.format.Bytes.{field}
use Rattle.mp4_boxes.specs.format.Box.{Box, Header, LieEndToEnd, Tiles, box_container, fitting, header_at, header_in, size, sizes}
use Rattle.mp4_boxes.specs.format.BoxFaults.{located, type_of}
use Rattle.mp4_boxes.specs.declared.fault.Kind.{Kind}
use Rattle.mp4_boxes.specs.declared.fault.Kind.TheVariants.{ShortHeader, BadSize, Overrun}
use Rattle.mp4_boxes.proofs.HeaderFronts.{header_there-take}
use Rattle.mp4_boxes.proofs.Walking.{located_ok}
use Rattle.mp4_boxes.proofs.Tiling.{box_size, header_is, lies_behind, sizes-cons, sizes_fit, guard}
use Rattle.mp4_frag.specs.words.Tracking.{front_before}

-- ---- a header

ok_same : {A : Type 0} (x y : A) → ◌≡◌ {A = Result A Kind} (Ok x) (Ok y) → x ≡ y
ok_same x y e = cc

not_less : (a b : ℕ) → b ≤ a → ltb a b ≡ false
not_less a b h = search (rules, h)

fitting_less : (left n least : ℕ) (h g : Header) → fitting left least h ≡ Ok g → g.size ≤ n → (fitting n least h ≡ Ok g) × (least ≤ n)
fitting_less left n least h g e fits =
    let a = guard (ltb h.size least) BadSize (cond (ltb left h.size) (Err Overrun) (Ok h)) g e in
    let b = guard (ltb left h.size) Overrun (Ok h) g a.1 in
    let same : h ≡ g = ok_same h g b.1 in
    let large : least ≤ h.size = ltb-false _ _ a.0 in
    let size_is = ap (λ (x : Header). x.size) same in
    let within : ltb n h.size ≡ false = not_less n h.size (omega (arith, fits, size_is)) in
    (rw (a.0, within) b.1, omega (arith, large, fits, size_is))

-- it is the same where the bytes end behind its box
said_less : (left n small : ℕ) (wide thin h : Header) (v : Bool) → eqb small 1 ≡ v
    → cond (ltb left 8) (Err ShortHeader) (cond v (cond (ltb left 16) (Err ShortHeader) (fitting left 16 wide)) (cond (eqb small 0) (Err BadSize) (fitting left 8 thin))) ≡ Ok h → h.size ≤ n
    → cond (ltb n 8) (Err ShortHeader) (cond v (cond (ltb n 16) (Err ShortHeader) (fitting n 16 wide)) (cond (eqb small 0) (Err BadSize) (fitting n 8 thin))) ≡ Ok h
said_less left n small wide thin h true w e fits =
    let a = guard (ltb left 8) ShortHeader (cond (ltb left 16) (Err ShortHeader) (fitting left 16 wide)) h e in
    let b = guard (ltb left 16) ShortHeader (fitting left 16 wide) h a.1 in
    let f = fitting_less left n 16 wide h b.1 fits in
    rw (not_less n 8 (omega (arith, f.1)), not_less n 16 f.1) f.0
said_less left n small wide thin h false w e fits =
    let a = guard (ltb left 8) ShortHeader (cond (eqb small 0) (Err BadSize) (fitting left 8 thin)) h e in
    let b = guard (eqb small 0) BadSize (fitting left 8 thin) h a.1 in
    let f = fitting_less left n 8 thin h b.1 fits in
    rw (not_less n 8 f.1, b.0) f.0

header_less : (left n : ℕ) (bytes : List ℕ) (h : Header) → header_in false left bytes ≡ Ok h → h.size ≤ n → header_in false n bytes ≡ Ok h
header_less left n bytes h e fits =
    said_less left n (field bytes 0 4) (record { kind = take 4 (drop 4 bytes); length = 16; size = field bytes 8 8 }) (record { kind = take 4 (drop 4 bytes); length = 8; size = field bytes 0 4 }) h (eqb (field bytes 0 4) 1) refl e fits

header_cut : (n : ℕ) (bytes : List ℕ) (h : Header) → header_at false bytes ≡ Ok h → h.size ≤ n → n ≤ length bytes → header_at false (take n bytes) ≡ Ok h
header_cut n bytes h e fits le =
    let less = header_less (length bytes) n bytes h e fits in
    let there = header_there-take false n bytes [] 0 n (omega arith) ∙ ap (located [] 0 (type_of bytes)) less in
    let long : length (take n bytes) ≡ n = omega (arith, length-take n bytes, le) in
    ap (λ k. header_in false k (take n bytes)) long ∙ located_ok [] 0 (type_of (take n bytes)) (header_in false n (take n bytes)) h there

-- ---- boxes

-- a part of some first bytes
part_cut : (l size n : ℕ) (bytes : List ℕ) → l ≤ size → size ≤ n → take (size - l) (drop l (take n bytes)) ≡ take (size - l) (drop l bytes)
part_cut l size n bytes h k =
    let split : n ≡ l + (n - l) = omega (arith, h, k) in
    ap (λ m. take (size - l) (drop l (take m bytes))) split ∙ ap (take (size - l)) (drop-take l (n - l) bytes) ∙ take-take (size - l) (n - l) (drop l bytes) (omega (arith, h, k))

lie_cut : (n at : ℕ) (bytes : List ℕ) (boxes : List Box) → LieEndToEnd false at bytes boxes → sizes boxes ≤ n → n ≤ length bytes → LieEndToEnd false at (take n bytes) boxes
lie_cut n at bytes [] l fits le = tt
lie_cut n at bytes (b ∷ boxes) l fits le =
    let h = l.0.0 in
    let r = header_is false bytes h l.0.1 in
    let inside = r.inside in
    let wide : size b ≡ h.size = ap size l.0.2 ∙ box_size at bytes h r in
    let all = sizes-cons b boxes in
    let split : n ≡ size b + (n - size b) = omega (arith, all, fits) in
    let behind : drop (size b) (take n bytes) ≡ take (n - size b) (drop (size b) bytes) = ap (λ m. drop (size b) (take m bytes)) split ∙ drop-take (size b) (n - size b) bytes in
    let more = lie_cut (n - size b) (at + size b) (drop (size b) bytes) boxes l.1 (omega (arith, all, fits)) (omega (arith, le, length-drop (size b) bytes)) in
    let payload = part_cut h.length h.size n bytes inside (omega (arith, all, fits, wide)) in (
      (h, header_cut n bytes h l.0.1 (omega (arith, all, fits, wide)) le, l.0.2 ∙ (λ i. record { kind = h.kind; offset = at; header = h.length; payload = sym payload i })),
      subst (λ (bs : List ℕ). LieEndToEnd false (at + size b) bs boxes) (sym behind) more,
    )

-- those before a box fill the container up to it
pub tiles_before : (moof traf : Box) (front later : List Box) → Tiles (box_container moof) (front ++ traf ∷ later) → Tiles (box_container (front_before moof traf)) front
tiles_before moof traf front later t =
    let at = moof.offset + moof.header in
    let n = sizes front in
    let lie = t.front.0 in
    let behind = lies_behind false at moof.payload front (traf ∷ later) lie in
    let place : traf.offset ≡ at + n = ap (λ (b : Box). b.offset) behind.0.2 in
    let some = lie_front front (traf ∷ later) at moof.payload lie in
    let fits = sizes_fit false at moof.payload front some in
    let cut : traf.offset - at ≡ n = omega (arith, place) in
    let long : length (take n moof.payload) ≡ n = omega (arith, length-take n moof.payload, fits) in
    record {
      front = (subst (λ k. LieEndToEnd false at (take k moof.payload) front) (sym cut) (lie_cut n at moof.payload front some (omega arith) fits), tt);
      full = sym long ∙ ap (λ k. length (take k moof.payload)) (sym cut);
    }
  where
    lie_front : (xs ys : List Box) (at : ℕ) (bytes : List ℕ) → LieEndToEnd false at bytes (xs ++ ys) → LieEndToEnd false at bytes xs
    lie_front [] ys at bytes l = tt
    lie_front (x ∷ xs) ys at bytes l = (l.0, lie_front xs ys (at + size x) (drop (size x) bytes) l.1)
