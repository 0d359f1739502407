-- A box that was written with a header of 8 bytes, or of 16 where 32 bits do not hold its size, lies in front of what follows.
use Rattle.std.proofs.Common.{◌≡◌, ℕ, zero, suc, ◌+◌, ◌*◌, ◌-◌, ◌^◌, ◌<◌, Bool, true, false, cond, ltb, List, ◌∷◌, ◌++◌, length, take, drop, Ok, refl, sym, ap, subst, ◌∙◌, append_assoc, length-append, arith, add-zero}
use Rattle.std.specs.Prelude.{nat_lt}
use Rattle.std.proofs.lemmas.Bool.{le-ltb, ltb-true}
use Rattle.std.proofs.lemmas.List.{take_at, drop_at, drop-drop, get_or-drop}
use Rattle.byteorder.specs.Endian.{big_from, big_bytes}
use Rattle.byteorder.specs.Numbers.{big_number-reads_back}
use Rattle.mp4_boxes.specs.format.Bytes.{field}
use Rattle.mp4_boxes.specs.format.Written.{header_bytes, header_length}
use Rattle.mp4_boxes.specs.format.Box.{Box, header_at, box_of, size, LieEndToEnd}
use Rattle.mp4_boxes.proofs.Lying.{lies}

shifted : (place from width : ℕ) (bytes : List ℕ) → big_from (place + from) width bytes ≡ big_from from width (drop place bytes)
shifted place from zero bytes = refl
shifted place from (suc width) bytes =
    let next : suc (place + from) ≡ place + suc from = omega arith in
    λ i. sym (get_or-drop place bytes from 0) i * 256 ^ width + (ap (λ (n : ℕ). big_from n width bytes) next ∙ shifted place (suc from) width bytes) i

-- a number at a place is the first behind the bytes before it
pub field_at : (place width : ℕ) (bytes : List ℕ) → field bytes place width ≡ field (drop place bytes) 0 width
field_at place width bytes = ap (λ (n : ℕ). big_from n width bytes) (sym (add-zero place)) ∙ shifted place 0 width bytes

-- the parts of a box with a header of 16 bytes, with what follows
module _ (kind payload rest : List ℕ) (four : length kind ≡ 4) (fits : 16 + length payload < 2 ^ 64) where
  -- its bytes, and what follows
  abbrev pub long_bytes : List ℕ
  long_bytes = (big_bytes 4 1 ++ kind ++ big_bytes 8 (16 + length payload)) ++ (payload ++ rest)

  regrouped : long_bytes ≡ big_bytes 4 1 ++ (kind ++ (big_bytes 8 (16 + length payload) ++ (payload ++ rest)))
  regrouped = simp append_assoc

  behind_one : drop 4 long_bytes ≡ kind ++ (big_bytes 8 (16 + length payload) ++ (payload ++ rest))
  behind_one = ap (drop 4) regrouped

  kind_is : take 4 (drop 4 long_bytes) ≡ kind
  kind_is = ap (take 4) behind_one ∙ take_at kind (big_bytes 8 (16 + length payload) ++ (payload ++ rest)) 4 four

  behind_kind : drop 8 long_bytes ≡ big_bytes 8 (16 + length payload) ++ (payload ++ rest)
  behind_kind = sym (drop-drop 4 4 long_bytes) ∙ ap (drop 4) behind_one ∙ drop_at kind (big_bytes 8 (16 + length payload) ++ (payload ++ rest)) 4 four

  size_is : field long_bytes 8 8 ≡ 16 + length payload
  size_is = field_at 8 8 long_bytes ∙ ap (big_from 0 8) behind_kind ∙ big_number-reads_back 8 (16 + length payload) (payload ++ rest) fits

  behind_header : drop 16 long_bytes ≡ payload ++ rest
  behind_header = sym (drop-drop 8 8 long_bytes) ∙ ap (drop 8) behind_kind ∙ drop_at (big_bytes 8 (16 + length payload)) (payload ++ rest) 8 refl

  length_is : length long_bytes ≡ 16 + length payload + length rest
  length_is = omega (arith, four, length-append (big_bytes 4 1 ++ kind ++ big_bytes 8 (16 + length payload)) (payload ++ rest), length-append (big_bytes 4 1 ++ kind) (big_bytes 8 (16 + length payload)), length-append (big_bytes 4 1) kind, length-append payload rest)

  header_is : (is_open : Bool) → header_at is_open long_bytes ≡ Ok (record { kind = kind; length = 16; size = 16 + length payload })
  header_is is_open =
      let a : ltb (length long_bytes) 8 ≡ false = le-ltb _ _ (omega (arith, length_is)) in
      let c : ltb (length long_bytes) 16 ≡ false = le-ltb _ _ (omega (arith, length_is)) in
      let d : ltb (field long_bytes 8 8) 16 ≡ false = le-ltb _ _ (omega (arith, size_is)) in
      let e : ltb (length long_bytes) (field long_bytes 8 8) ≡ false = le-ltb _ _ (omega (arith, size_is, length_is)) in
      rw (a, c, d, e) (λ i. Ok (record { kind = kind_is i; length = 16; size = size_is i }))

  -- the box itself
  abbrev pub long_box : ℕ → Box
  long_box at = record { kind = kind; offset = at; header = 16; payload = payload }

  box_is : (at : ℕ) → long_box at ≡ box_of at long_bytes (record { kind = kind; length = 16; size = 16 + length payload })
  box_is at =
      let n : (16 + length payload) - 16 ≡ length payload = omega arith in
      let p : payload ≡ take ((16 + length payload) - 16) (drop 16 long_bytes) = sym (ap (λ (k : ℕ). take k (drop 16 long_bytes)) n ∙ ap (take (length payload)) behind_header ∙ take_at payload rest (length payload) refl) in
      λ i. record { kind = kind; offset = at; header = 16; payload = p i }

  behind_is : (at : ℕ) → drop (size (long_box at)) long_bytes ≡ rest
  behind_is at = sym (drop-drop (length payload) 16 long_bytes) ∙ ap (drop (length payload)) behind_header ∙ drop_at payload rest (length payload) refl

  -- a box with a header of 16 bytes lies in front of what follows
  pub lies_long : (is_open : Bool) (at : ℕ) (bs : List Box) → LieEndToEnd is_open (at + (16 + length payload)) rest bs → LieEndToEnd is_open at long_bytes (long_box at ∷ bs)
  lies_long is_open at bs l = (
    (record { kind = kind; length = 16; size = 16 + length payload }, header_is is_open, box_is at),
    subst (λ (xs : List ℕ). LieEndToEnd is_open (at + (16 + length payload)) xs bs) (sym (behind_is at)) l,
  )

-- the box that is written with the header that its size needs
abbrev pub data_box : List ℕ → List ℕ → ℕ → Box
data_box kind payload at = record { kind = kind; offset = at; header = header_length (length payload); payload = payload }

by_size : (kind payload rest : List ℕ) (is_open : Bool) (at : ℕ) (bs : List Box) (v : Bool) → nat_lt (8 + length payload) (2 ^ 32) ≡ v → length kind ≡ 4 → 16 + length payload < 2 ^ 64
    → LieEndToEnd is_open (at + (cond v 8 16 + length payload)) rest bs
    → LieEndToEnd is_open at (cond v (big_bytes 4 (8 + length payload) ++ kind) (big_bytes 4 1 ++ kind ++ big_bytes 8 (16 + length payload)) ++ (payload ++ rest))
    (record { kind = kind; offset = at; header = cond v 8 16; payload = payload } ∷ bs)
by_size kind payload rest is_open at bs true e four fits l =
    let lt : 8 + length payload < 2 ^ 32 = ltb-true (8 + length payload) (2 ^ 32) e in
    let same : (big_bytes 4 (8 + length payload) ++ kind ++ payload) ++ rest ≡ (big_bytes 4 (8 + length payload) ++ kind) ++ (payload ++ rest) = append_assoc (big_bytes 4 (8 + length payload) ++ kind) payload rest in
    subst (λ (bytes : List ℕ). LieEndToEnd is_open at bytes (record { kind = kind; offset = at; header = 8; payload = payload } ∷ bs)) same (lies kind payload rest four lt is_open at bs l)
by_size kind payload rest is_open at bs false e four fits l = lies_long kind payload rest four fits is_open at bs l

-- It lies in front of what follows.
pub lies_data : (kind payload rest : List ℕ) (is_open : Bool) (at : ℕ) (bs : List Box) → length kind ≡ 4 → 16 + length payload < 2 ^ 64
    → LieEndToEnd is_open (at + (header_length (length payload) + length payload)) rest bs
    → LieEndToEnd is_open at (header_bytes kind (length payload) ++ (payload ++ rest)) (data_box kind payload at ∷ bs)
lies_data kind payload rest is_open at bs four fits l = by_size kind payload rest is_open at bs (nat_lt (8 + length payload) (2 ^ 32)) refl four fits l

-- how long its header is
pub length-header_bytes : (kind : List ℕ) (n : ℕ) → length kind ≡ 4 → length (header_bytes kind n) ≡ header_length n
length-header_bytes kind n four = by_length (nat_lt (8 + n) (2 ^ 32))
  where
    by_length : (v : Bool) → length (cond v (big_bytes 4 (8 + n) ++ kind) (big_bytes 4 1 ++ kind ++ big_bytes 8 (16 + n))) ≡ cond v 8 16
    by_length true = omega (arith, four, length-append (big_bytes 4 (8 + n)) kind)
    by_length false = omega (arith, four, length-append (big_bytes 4 1 ++ kind) (big_bytes 8 (16 + n)), length-append (big_bytes 4 1) kind)
