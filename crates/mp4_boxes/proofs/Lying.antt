-- A box that was written lies in front of what follows.
use Rattle.std.proofs.Common.{◌≡◌, ℕ, ◌+◌, ◌-◌, ◌^◌, ◌<◌, Bool, false, ltb, eqb, List, ◌∷◌, ◌++◌, length, take, drop, Ok, refl, sym, ap, subst, ◌∙◌, append_assoc, arith}
use Rattle.std.proofs.lemmas.Bool.{le-ltb, ne_eqb}
use Rattle.std.proofs.lemmas.List.{length-append, take_at, drop_at, drop-drop}
use Rattle.byteorder.specs.Endian.{big_from, big_bytes}
use Rattle.byteorder.specs.Numbers.{big_number-reads_back, length-bytes_high_first}
use Rattle.mp4_boxes.specs.format.Bytes.{field}
use Rattle.mp4_boxes.specs.format.Written.{box_bytes}
use Rattle.mp4_boxes.specs.format.Box.{Box, header_at, box_of, size, LieEndToEnd}

eqb_not : (m n : ℕ) → n < m → eqb m n ≡ false
eqb_not m n h = ne_eqb m n (λ e. omega (arith, e, h))

-- the parts of a written box with what follows
module _ (kind payload rest : List ℕ) (four : length kind ≡ 4) (fits : 8 + length payload < 2 ^ 32) where
  abbrev pub bytes : List ℕ
  bytes = box_bytes kind payload ++ rest

  regrouped : bytes ≡ big_bytes 4 (8 + length payload) ++ (kind ++ (payload ++ rest))
  regrouped = simp append_assoc

  field_is : field bytes 0 4 ≡ 8 + length payload
  field_is = ap (big_from 0 4) regrouped ∙ big_number-reads_back 4 (8 + length payload) (kind ++ (payload ++ rest)) fits

  behind_size : drop 4 bytes ≡ kind ++ (payload ++ rest)
  behind_size = ap (drop 4) regrouped ∙ drop_at (big_bytes 4 (8 + length payload)) (kind ++ (payload ++ rest)) 4 refl

  kind_is : take 4 (drop 4 bytes) ≡ kind
  kind_is = ap (take 4) behind_size ∙ take_at kind (payload ++ rest) 4 four

  behind_header : drop 8 bytes ≡ payload ++ rest
  behind_header = sym (drop-drop 4 4 bytes) ∙ ap (drop 4) behind_size ∙ drop_at kind (payload ++ rest) 4 four

  length_is : length bytes ≡ 8 + length payload + length rest
  length_is = ap (λ (xs : List ℕ). length xs) regrouped ∙ omega (arith, four, length-append (big_bytes 4 (8 + length payload)) (kind ++ (payload ++ rest)), length-append kind (payload ++ rest), length-append payload rest, length-bytes_high_first 4 (8 + length payload))

  header_is : (is_open : Bool) → header_at is_open bytes ≡ Ok (record { kind = kind; length = 8; size = 8 + length payload })
  header_is is_open =
      let a : ltb (length bytes) 8 ≡ false = le-ltb _ _ (omega (arith, length_is)) in
      let b : eqb (field bytes 0 4) 1 ≡ false = ap (λ (n : ℕ). eqb n 1) field_is ∙ eqb_not (8 + length payload) 1 (omega arith) in
      let c : eqb (field bytes 0 4) 0 ≡ false = ap (λ (n : ℕ). eqb n 0) field_is ∙ eqb_not (8 + length payload) 0 (omega arith) in
      let d : ltb (field bytes 0 4) 8 ≡ false = le-ltb _ _ (omega (arith, field_is)) in
      let e : ltb (length bytes) (field bytes 0 4) ≡ false = le-ltb _ _ (omega (arith, field_is, length_is)) in
      rw (a, b, c, d, e) (λ i. Ok (record { kind = kind_is i; length = 8; size = field_is i }))

  -- the box itself
  abbrev pub the_box : ℕ → Box
  the_box at = record { kind = kind; offset = at; header = 8; payload = payload }

  box_is : (at : ℕ) → the_box at ≡ box_of at bytes (record { kind = kind; length = 8; size = 8 + length payload })
  box_is at =
      let n : (8 + length payload) - 8 ≡ length payload = omega arith in
      let p : payload ≡ take ((8 + length payload) - 8) (drop 8 bytes) = sym (ap (λ (k : ℕ). take k (drop 8 bytes)) n ∙ ap (take (length payload)) behind_header ∙ take_at payload rest (length payload) refl) in
      λ i. record { kind = kind; offset = at; header = 8; payload = p i }

  behind_is : (at : ℕ) → drop (size (the_box at)) bytes ≡ rest
  behind_is at = sym (drop-drop (length payload) 8 bytes) ∙ ap (drop (length payload)) behind_header ∙ drop_at payload rest (length payload) refl

  -- the box lies in front of what follows
  pub lies : (is_open : Bool) (at : ℕ) (bs : List Box) → LieEndToEnd is_open (at + (8 + length payload)) rest bs → LieEndToEnd is_open at bytes (the_box at ∷ bs)
  lies is_open at bs l = (
    (record { kind = kind; length = 8; size = 8 + length payload }, header_is is_open, box_is at),
    subst (λ (xs : List ℕ). LieEndToEnd is_open (at + (8 + length payload)) xs bs) (sym (behind_is at)) l,
  )
