-- Numbers read from bytes fit their fields, and what boxes hold that lie in bytes are bytes.
use Rattle.std.proofs.Common.{◌≡◌, ℕ, zero, suc, ◌+◌, ◌-◌, ◌*◌, ◌^◌, ◌<◌, ◌≤◌, Bool, true, false, cond, ltb, eqb, List, [], ◌∷◌, length, take, drop, Result, Ok, Err, Option, Some, None, refl, sym, ap, subst, ◌∙◌, arith, lit<}
use Rattle.std.specs.Prelude.{ℤ, pos, negsuc, ◌-ℤ◌, slice_index, FitsSigned, IfSome, unwrap_or, bytes_eq}
use Rattle.std.specs.Int.{w16, w32, w64}
use Rattle.std.specs.List.{AllByRecursion}
use Rattle.std.proofs.lemmas.Bool.{ltb-true, ltb-false, cond_both}
use Rattle.std.proofs.lemmas.List.{get_or-drop, length-take, length-drop}
use Rattle.std.proofs.lemmas.Int.{ints}
use Rattle.byteorder.specs.Endian.{twos_complement}
use Rattle.byteorder.specs.Numbers.{big_from-lt}
use Rattle.mp4_boxes.specs.format.Bytes.{AreBytes, field, numbers, rows, width_of}
use Rattle.mp4_boxes.specs.declared.fault.Kind.{Kind}
use Rattle.mp4_boxes.specs.declared.fault.Kind.TheVariants.{BadSize, Overrun}
use Rattle.mp4_boxes.specs.format.Box.{Box, Header, fitting, header_at, box_of, size, LieEndToEnd, Container, may_be_open, Tiles}
use Rattle.mp4_boxes.specs.format.Children.{of_kind, payload_if, payload_of}
use Rattle.mp4_boxes.specs.format.Layout.{time_width}
use Rattle.mp4_boxes.proofs.Each.{each_of_kind}
use Rattle.mp4_boxes.proofs.Tiling.{header_is}

-- ---- bytes

-- the empty list is one of bytes
pub no_bytes : AreBytes []
no_bytes i = lit< tt

-- what is left of bytes are bytes
pub bytes_dropped : (n : ℕ) (bytes : List ℕ) → AreBytes bytes → AreBytes (drop n bytes)
bytes_dropped n bytes h i = subst (λ (b : ℕ). b < 256) (sym (get_or-drop n bytes i 0)) (h (n + i))

-- the first of them are
pub bytes_taken : (n : ℕ) (bytes : List ℕ) → AreBytes bytes → AreBytes (take n bytes)
bytes_taken zero bytes h i = lit< tt
bytes_taken (suc n) [] h i = lit< tt
bytes_taken (suc n) (b ∷ bytes) h zero = h 0
bytes_taken (suc n) (b ∷ bytes) h (suc i) = bytes_taken n bytes (λ k. h (suc k)) i

-- ---- numbers

-- a number is below what its width can't hold
pub field_below : (bytes : List ℕ) (place width : ℕ) → AreBytes bytes → field bytes place width < 256 ^ width
field_below bytes place width h = big_from-lt place width bytes h

-- a place behind dropped bytes
pub field_dropped : (n place width : ℕ) (bytes : List ℕ) → field (drop n bytes) place width ≡ field bytes (n + place) width
field_dropped n place zero bytes = refl
field_dropped n place (suc width) bytes =
    let first = get_or-drop n bytes place 0 in
    let more = field_dropped n (suc place) width bytes in
    let next : n + suc place ≡ suc (n + place) = omega arith in
    let behind = ap (λ (k : ℕ). field bytes k width) next in
    λ i. first i * 256 ^ width + (more ∙ behind) i

-- each number of a row is below what the width of its field can't hold
abbrev pub FitsRow : List ℕ → List ℕ → Type 0
FitsRow widths row = (k : ℕ) → slice_index row k < 256 ^ slice_index widths k

-- the numbers of fields fit them
pub numbers_fit : (widths bytes : List ℕ) → AreBytes bytes → FitsRow widths (numbers widths bytes)
numbers_fit [] bytes h k = lit< tt
numbers_fit (w ∷ widths) bytes h zero = field_below bytes 0 w h
numbers_fit (w ∷ widths) bytes h (suc k) = numbers_fit widths (drop w bytes) (bytes_dropped w bytes h) k

-- so do those of rows
pub rows_fit : (n : ℕ) (widths bytes : List ℕ) → AreBytes bytes → AllByRecursion (FitsRow widths) (rows n widths bytes)
rows_fit zero widths bytes h = tt
rows_fit (suc n) widths bytes h = (numbers_fit widths bytes h, rows_fit n widths (drop (width_of widths) bytes) (bytes_dropped (width_of widths) bytes h))

-- a time takes at most eight bytes
pub time_below : (v n : ℕ) → n < 256 ^ time_width v → n < 2 ^ 64
time_below v n h = below (eqb v 0) h
  where
    below : (b : Bool) → n < 256 ^ cond b 4 8 → n < 2 ^ 64
    below true lt = omega arith
    below false lt = omega arith

-- ---- two's complement

-- two bytes as two's complement fit 16 bits
pub signed_16 : (n : ℕ) → n < 2 ^ 16 → FitsSigned w16 (twos_complement 2 n)
signed_16 n h = by_half (ltb n (2 ^ 15)) refl
  where
    by_half : (b : Bool) → ltb n (2 ^ 15) ≡ b → FitsSigned w16 (cond b (pos n) (pos n -ℤ pos (2 ^ 16)))
    by_half true e = let lt : n < 2 ^ 15 = ltb-true n (2 ^ 15) e in record { sfits = lt }
    by_half false e =
        let le : 2 ^ 15 ≤ n = ltb-false n (2 ^ 15) e in
        let below : pos n -ℤ pos (2 ^ 16) ≡ negsuc (2 ^ 16 - suc n) = omega (arith, ints) in
        subst (λ (z : ℤ). FitsSigned w16 z) (sym below) (record { sfits = omega arith })

-- four bytes fit 32
pub signed_32 : (n : ℕ) → n < 2 ^ 32 → FitsSigned w32 (twos_complement 4 n)
signed_32 n h = by_half (ltb n (2 ^ 31)) refl
  where
    by_half : (b : Bool) → ltb n (2 ^ 31) ≡ b → FitsSigned w32 (cond b (pos n) (pos n -ℤ pos (2 ^ 32)))
    by_half true e = let lt : n < 2 ^ 31 = ltb-true n (2 ^ 31) e in record { sfits = lt }
    by_half false e =
        let le : 2 ^ 31 ≤ n = ltb-false n (2 ^ 31) e in
        let below : pos n -ℤ pos (2 ^ 32) ≡ negsuc (2 ^ 32 - suc n) = omega (arith, ints) in
        subst (λ (z : ℤ). FitsSigned w32 z) (sym below) (record { sfits = omega arith })

-- eight bytes fit 64
pub signed_64 : (n : ℕ) → n < 2 ^ 64 → FitsSigned w64 (twos_complement 8 n)
signed_64 n h = by_half (ltb n (2 ^ 63)) refl
  where
    by_half : (b : Bool) → ltb n (2 ^ 63) ≡ b → FitsSigned w64 (cond b (pos n) (pos n -ℤ pos (2 ^ 64)))
    by_half true e = let lt : n < 2 ^ 63 = ltb-true n (2 ^ 63) e in record { sfits = lt }
    by_half false e =
        let le : 2 ^ 63 ≤ n = ltb-false n (2 ^ 63) e in
        let below : pos n -ℤ pos (2 ^ 64) ≡ negsuc (2 ^ 64 - suc n) = omega (arith, ints) in
        subst (λ (z : ℤ). FitsSigned w64 z) (sym below) (record { sfits = omega arith })

-- a signed time
pub signed_time : (v n : ℕ) → n < 256 ^ time_width v → FitsSigned w64 (twos_complement (time_width v) n)
signed_time v n h = by_width (eqb v 0) h
  where
    by_width : (b : Bool) → n < 256 ^ cond b 4 8 → FitsSigned w64 (twos_complement (cond b 4 8) n)
    by_width true lt = let small = signed_32 n lt in record { sfits = omega (arith, small.sfits) }
    by_width false lt = signed_64 n lt

-- ---- boxes

-- a type of four bytes, and a payload of bytes
pub record IsOfBytes (b : Box) : Type 0 where
  pub kind_length : length b.kind ≡ 4
  pub kind : AreBytes b.kind
  pub payload : AreBytes b.payload

-- a header that was read has the type that stands there
abbrev HasKind : List ℕ → Result Header Kind → Type 0
HasKind kind (Ok h) = h.kind ≡ kind
HasKind kind (Err k) = Unit {0}

-- a header that fits has the type that was read
fitting_kind : (left least : ℕ) (h : Header) → HasKind h.kind (fitting left least h)
fitting_kind left least h =
    cond_both (ltb h.size least) (Err BadSize) (cond (ltb left h.size) (Err Overrun) (Ok h)) (HasKind h.kind) (λ e. tt)
    (λ e. cond_both (ltb left h.size) (Err Overrun) (Ok h) (HasKind h.kind) (λ f. tt) (λ f. refl))

-- any header has the type that stands there
header_kind : (is_open : Bool) (bytes : List ℕ) → HasKind (take 4 (drop 4 bytes)) (header_at is_open bytes)
header_kind is_open bytes =
    let kind = take 4 (drop 4 bytes) in
    let small = field bytes 0 4 in
    cond_both (ltb (length bytes) 8) _ _ (HasKind kind) (λ e. tt) (λ e. cond_both (eqb small 1) _ _ (HasKind kind)
    (λ f. cond_both (ltb (length bytes) 16) _ _ (HasKind kind) (λ g. tt) (λ g. fitting_kind (length bytes) 16 (record { kind = kind; length = 16; size = field bytes 8 8 })))
    (λ f. cond_both (eqb small 0) _ _ (HasKind kind) (λ g. cond_both is_open _ _ (HasKind kind) (λ i. refl) (λ i. tt)) (λ g. fitting_kind (length bytes) 8 (record { kind = kind; length = 8; size = small }))))

-- a type of bytes has four of them
four : (bytes : List ℕ) → 8 ≤ length bytes → length (take 4 (drop 4 bytes)) ≡ 4
four bytes h = omega (arith, length-take 4 (drop 4 bytes), length-drop 4 bytes)

-- the box of a header that was read in bytes
box_of_bytes : (is_open : Bool) (at : ℕ) (bytes : List ℕ) (h : Header) → AreBytes bytes → header_at is_open bytes ≡ Ok h → IsOfBytes (box_of at bytes h)
box_of_bytes is_open at bytes h are e =
    let r = header_is is_open bytes h e in
    let k : h.kind ≡ take 4 (drop 4 bytes) = subst (λ (x : Result Header Kind). HasKind (take 4 (drop 4 bytes)) x) e (header_kind is_open bytes) in
    record {
      kind_length = ap (λ (xs : List ℕ). length xs) k ∙ four bytes (omega (arith, r.length, r.inside, r.fits));
      kind = subst AreBytes (sym k) (bytes_taken 4 (drop 4 bytes) (bytes_dropped 4 bytes are));
      payload = bytes_taken (h.size - h.length) (drop h.length bytes) (bytes_dropped h.length bytes are);
    }

-- the boxes that lie in bytes
pub boxes_of_bytes : (is_open : Bool) (at : ℕ) (bytes : List ℕ) (bs : List Box) → AreBytes bytes → LieEndToEnd is_open at bytes bs → AllByRecursion IsOfBytes bs
boxes_of_bytes is_open at bytes [] are l = tt
boxes_of_bytes is_open at bytes (b ∷ bs) are l = (
  subst IsOfBytes (sym l.0.2) (box_of_bytes is_open at bytes l.0.0 are l.0.1),
  boxes_of_bytes is_open (at + size b) (drop (size b) bytes) bs (bytes_dropped (size b) bytes are) l.1,
)

-- the boxes of a container of bytes
pub tiled_of_bytes : (c : Container) (bs : List Box) → AreBytes c.bytes → Tiles c bs → AllByRecursion IsOfBytes bs
tiled_of_bytes c bs are t = boxes_of_bytes (may_be_open c.extent) c.at c.bytes bs are t.front.0

-- the step of `payload_if_of_bytes`
payload_choice : (v : Bool) (payload : List ℕ) (o : Option (List ℕ)) → AreBytes payload → IfSome o AreBytes → IfSome (cond v (Some payload) o) AreBytes
payload_choice true payload o h k = h
payload_choice false payload o h k = k

-- the payload of the first box of a type, if there is one
pub payload_if_of_bytes : (kind : List ℕ) (bs : List Box) → AllByRecursion IsOfBytes bs → IfSome (payload_if kind bs) AreBytes
payload_if_of_bytes kind [] h = tt
payload_if_of_bytes kind (b ∷ bs) h = payload_choice (bytes_eq kind b.kind) b.payload (payload_if kind bs) h.0.payload (payload_if_of_bytes kind bs h.1)

-- a payload that need not be there, or no bytes
or_none : (o : Option (List ℕ)) → IfSome o AreBytes → AreBytes (unwrap_or o [])
or_none None h = no_bytes
or_none (Some payload) h = h

-- the payload of the first box of a type, or no bytes
pub payload_of_bytes : (kind : List ℕ) (bs : List Box) → AllByRecursion IsOfBytes bs → AreBytes (payload_of kind bs)
payload_of_bytes kind bs h = or_none (payload_if kind bs) (payload_if_of_bytes kind bs h)

-- boxes of bytes have payloads of bytes
payloads : (kind : List ℕ) (bs : List Box) → AllByRecursion (λ (c : Box). IsOfBytes c × (bytes_eq kind c.kind ≡ true)) bs → AllByRecursion (λ (b : Box). AreBytes b.payload) bs
payloads kind [] h = tt
payloads kind (b ∷ bs) h = (h.0.0.payload, payloads kind bs h.1)

-- the payloads of the boxes of a type
pub payloads_of_bytes : (kind : List ℕ) (bs : List Box) → AllByRecursion IsOfBytes bs → AllByRecursion (λ (b : Box). AreBytes b.payload) (of_kind kind bs)
payloads_of_bytes kind bs h = payloads kind (of_kind kind bs) (each_of_kind IsOfBytes kind bs h)
