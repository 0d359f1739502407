-- Boxes from the front of bytes on, one after the other, and what is left of them.
use Rattle.std.proofs.Common.{◌≡◌, ℕ, zero, suc, ◌+◌, ◌-◌, ◌<◌, ◌≤◌, ◌^◌, Bool, true, false, if◌then◌else◌, List, [], ◌∷◌, ◌++◌, length, take, drop, refl, sym, ap, ◌∙◌, arith, append_assoc, length-append, length-drop}
use Rattle.std.specs.Prelude.{Result, Ok, Err, IfOk, ◌&&◌, nat_le, nat_lt, map, filter, flat_map}
use Rattle.std.proofs.lemmas.Bool.{le-leb, leb-true, lt-ltb, ltb-true}
use Rattle.mp4_boxes.specs.format.Bytes.{field}
use Rattle.std.proofs.lemmas.List.{length-take-le}
use Rattle.mp4_boxes.proofs.WrittenBoxes.{length-box_bytes}
use Rattle.mp4_boxes.proofs.Plain.{not_true_is}
use Rattle.mp4_head.specs.format.Head.{Kept}
use Rattle.mp4_head.specs.format.Writing.{kept_bytes}
use Rattle.mp4_content.specs.format.BitRates.{begins_box, first_box, leading_boxes, behind_boxes, boxes_of, end_of, is_left, left_of_boxes, tiles_left, are_zeros}

pub three : (a b c : Bool) → (a && b && c) ≡ true → (a ≡ true) × (b ≡ true) × (c ≡ true)
three true true true e = (refl, refl, refl)
three true true false e = absurd cc
three true false c e = absurd cc
three false b c e = absurd cc

nothing_more : (bs : List ℕ) → bs ++ [] ≡ bs
nothing_more [] = refl
nothing_more (b ∷ bs) = ap (λ cs. b ∷ cs) (nothing_more bs)

-- what begins with a box
pub begun : (bytes : List ℕ) → begins_box bytes ≡ true → (8 ≤ field bytes 0 4) × (field bytes 0 4 ≤ length bytes) × (field bytes 0 4 < 2 ^ 32)
unfolding begins_box
begun bytes e =
    let h = three (nat_le 8 (field bytes 0 4)) (nat_le (field bytes 0 4) (length bytes)) (nat_lt (field bytes 0 4) (2 ^ 32)) e in
    (leb-true 8 (field bytes 0 4) h.0, leb-true (field bytes 0 4) (length bytes) h.1, ltb-true (field bytes 0 4) (2 ^ 32) h.2)

pub begins : (bytes : List ℕ) → 8 ≤ field bytes 0 4 → field bytes 0 4 ≤ length bytes → field bytes 0 4 < 2 ^ 32 → begins_box bytes ≡ true
unfolding begins_box
begins bytes a b c = rw (le-leb 8 (field bytes 0 4) a, le-leb (field bytes 0 4) (length bytes) b, lt-ltb (field bytes 0 4) (2 ^ 32) c) refl

-- a header takes eight bytes
pub too_short : (bytes : List ℕ) → length bytes < 8 → begins_box bytes ≡ false
too_short bytes few = not_true_is (begins_box bytes) (λ e. let h = begun bytes e in let a = h.0 in let b = h.1 in omega (arith, a, b, few))

pub rest_shorter : (bytes : List ℕ) → begins_box bytes ≡ true → length (drop (field bytes 0 4) bytes) + 8 ≤ length bytes
rest_shorter bytes e =
    let h = begun bytes e in
    let a = h.0 in
    let b = h.1 in
    omega (arith, a, b, length-drop (field bytes 0 4) bytes)

pub chosen_same : {A : Type 0} (v : Bool) (x y z : A) → (v ≡ true → x ≡ y) → (if v then x else z) ≡ (if v then y else z)
chosen_same true x y z f = f refl
chosen_same false x y z f = refl

-- ---- however many are asked for beyond all

boxes_enough : (n m : ℕ) (bytes : List ℕ) → length bytes ≤ n → length bytes ≤ m → leading_boxes n bytes ≡ leading_boxes m bytes
boxes_enough zero zero bytes h k = refl
boxes_enough zero (suc m) bytes h k = rw (too_short bytes (omega (arith, h))) refl
boxes_enough (suc n) zero bytes h k = rw (too_short bytes (omega (arith, k))) refl
boxes_enough (suc n) (suc m) bytes h k =
    let rest = drop (field bytes 0 4) bytes in
    chosen_same (begins_box bytes) (first_box bytes ∷ leading_boxes n rest) (first_box bytes ∷ leading_boxes m rest) []
    (λ e. let less = rest_shorter bytes e in ap (λ (ks : List Kept). first_box bytes ∷ ks) (boxes_enough n m rest (omega (arith, less, h)) (omega (arith, less, k))))

end_enough : (n m : ℕ) (bytes : List ℕ) → length bytes ≤ n → length bytes ≤ m → behind_boxes n bytes ≡ behind_boxes m bytes
end_enough zero zero bytes h k = refl
end_enough zero (suc m) bytes h k = rw (too_short bytes (omega (arith, h))) refl
end_enough (suc n) zero bytes h k = rw (too_short bytes (omega (arith, k))) refl
end_enough (suc n) (suc m) bytes h k =
    let rest = drop (field bytes 0 4) bytes in
    chosen_same (begins_box bytes) (behind_boxes n rest) (behind_boxes m rest) bytes
    (λ e. let less = rest_shorter bytes e in end_enough n m rest (omega (arith, less, h)) (omega (arith, less, k)))

-- ---- the first of them, and the others

boxes_begin : (bytes : List ℕ) → begins_box bytes ≡ true → boxes_of bytes ≡ first_box bytes ∷ boxes_of (drop (field bytes 0 4) bytes)
boxes_begin [] e = absurd (no_bytes e)
  where
    no_bytes : begins_box [] ≡ true → ⊥
    no_bytes e = let h = begun [] e in let a = h.0 in let b = h.1 in omega (arith, a, b)
boxes_begin (b ∷ bytes) e =
    let rest = drop (field (b ∷ bytes) 0 4) (b ∷ bytes) in
    let less = rest_shorter (b ∷ bytes) e in
    rw e (ap (λ (ks : List Kept). first_box (b ∷ bytes) ∷ ks) (boxes_enough (length bytes) (length rest) rest (omega (arith, less)) (omega arith)))

end_begin : (bytes : List ℕ) → begins_box bytes ≡ true → end_of bytes ≡ end_of (drop (field bytes 0 4) bytes)
end_begin [] e = absurd (no_bytes e)
  where
    no_bytes : begins_box [] ≡ true → ⊥
    no_bytes e = let h = begun [] e in let a = h.0 in let b = h.1 in omega (arith, a, b)
end_begin (b ∷ bytes) e =
    let rest = drop (field (b ∷ bytes) 0 4) (b ∷ bytes) in
    let less = rest_shorter (b ∷ bytes) e in
    rw e (end_enough (length bytes) (length rest) rest (omega (arith, less)) (omega arith))

pub boxes_stop : (n : ℕ) (bytes : List ℕ) → begins_box bytes ≡ false → leading_boxes n bytes ≡ []
boxes_stop zero bytes e = refl
boxes_stop (suc n) bytes e = rw e refl

pub end_stop : (n : ℕ) (bytes : List ℕ) → begins_box bytes ≡ false → behind_boxes n bytes ≡ bytes
end_stop zero bytes e = refl
end_stop (suc n) bytes e = rw e refl

-- ---- what is left of them

-- the bytes of what is left of all boxes
abbrev pub left_bytes : Bool → (Kept → Kept) → List ℕ → List ℕ
left_bytes rates change bytes = flat_map kept_bytes (left_of_boxes rates change (boxes_of bytes))

-- those of some boxes, so far, with what is to come
pub record IsLeftSoFar (rates : Bool) (change : Kept → Kept) (bytes left rest : List ℕ) : Type 0 where
  pub bytes_left : left ++ left_bytes rates change rest ≡ left_bytes rates change bytes
  pub ends : end_of rest ≡ end_of bytes

pub so_far_none : (rates : Bool) (change : Kept → Kept) (bytes : List ℕ) → IsLeftSoFar rates change bytes [] bytes
so_far_none rates change bytes = record { bytes_left = refl; ends = refl }

pub one_more_by : (v : Bool) (change : Kept → Kept) (k : Kept) (ks : List Kept) → flat_map kept_bytes (map change (if v then k ∷ ks else ks)) ≡ flat_map kept_bytes (map change (if v then k ∷ [] else [])) ++ flat_map kept_bytes (map change ks)
one_more_by true change k ks = ap (λ (bs : List ℕ). bs ++ flat_map kept_bytes (map change ks)) (sym (nothing_more (kept_bytes (change k))))
one_more_by false change k ks = refl

one_more : (rates : Bool) (change : Kept → Kept) (k : Kept) (ks : List Kept) → flat_map kept_bytes (left_of_boxes rates change (k ∷ ks)) ≡ flat_map kept_bytes (left_of_boxes rates change (k ∷ [])) ++ flat_map kept_bytes (left_of_boxes rates change ks)
one_more rates change k ks = one_more_by (is_left rates k) change k (filter (is_left rates) ks)

pub so_far_more : (rates : Bool) (change : Kept → Kept) (bytes left rest new next : List ℕ) (k : Kept) → IsLeftSoFar rates change bytes left rest → begins_box rest ≡ true → k ≡ first_box rest → next ≡ drop (field rest 0 4) rest
    → new ≡ left ++ flat_map kept_bytes (left_of_boxes rates change (k ∷ [])) → IsLeftSoFar rates change bytes new next
so_far_more rates change bytes left rest new next k h e is behind put =
    let first = flat_map kept_bytes (left_of_boxes rates change (first_box rest ∷ [])) in
    let dropped = drop (field rest 0 4) rest in
    let split : left_bytes rates change rest ≡ first ++ left_bytes rates change dropped =
    ap (λ (ks : List Kept). flat_map kept_bytes (left_of_boxes rates change ks)) (boxes_begin rest e) ∙ one_more rates change (first_box rest) (boxes_of dropped) in
    let now : new ≡ left ++ first = put ∙ ap (λ (x : Kept). left ++ flat_map kept_bytes (left_of_boxes rates change (x ∷ []))) is in
    record {
      bytes_left = (λ i. now i ++ left_bytes rates change (behind i)) ∙ append_assoc left first (left_bytes rates change dropped) ∙ ap (λ bs. left ++ bs) (sym split) ∙ h.bytes_left;
      ends = ap end_of behind ∙ sym (end_begin rest e) ∙ h.ends;
    }

-- where no box follows, all are there
pub so_far_all : (rates : Bool) (change : Kept → Kept) (bytes left rest : List ℕ) → IsLeftSoFar rates change bytes left rest → begins_box rest ≡ false → (left ≡ left_bytes rates change bytes) × (rest ≡ end_of bytes)
so_far_all rates change bytes left rest h e =
    let none : left_bytes rates change rest ≡ [] = ap (λ (ks : List Kept). flat_map kept_bytes (left_of_boxes rates change ks)) (boxes_stop (length rest) rest e) in
    (sym (nothing_more left) ∙ ap (λ bs. left ++ bs) (sym none) ∙ h.bytes_left, sym (end_stop (length rest) rest e) ∙ h.ends)

-- the whole, where the boxes tile the bytes up to zeros, and where they don't
pub whole_left : (rates : Bool) (change : Kept → Kept) (zeros : ℕ) (bytes left rest new : List ℕ) → IsLeftSoFar rates change bytes left rest → begins_box rest ≡ false → are_zeros zeros rest ≡ true → new ≡ left ++ rest → new ≡ tiles_left rates change zeros bytes
whole_left rates change zeros bytes left rest new h e z put =
    let all = so_far_all rates change bytes left rest h e in
    let tile : are_zeros zeros (end_of bytes) ≡ true = ap (are_zeros zeros) (sym all.1) ∙ z in
    put ∙ (λ i. all.0 i ++ all.1 i) ∙ sym (ap (λ (v : Bool). if v then left_bytes rates change bytes ++ end_of bytes else bytes) tile)

pub whole_stays : (rates : Bool) (change : Kept → Kept) (zeros : ℕ) (bytes left rest new : List ℕ) → IsLeftSoFar rates change bytes left rest → begins_box rest ≡ false → are_zeros zeros rest ≡ false → new ≡ bytes → new ≡ tiles_left rates change zeros bytes
whole_stays rates change zeros bytes left rest new h e z same =
    let all = so_far_all rates change bytes left rest h e in
    let tile : are_zeros zeros (end_of bytes) ≡ false = ap (are_zeros zeros) (sym all.1) ∙ z in
    same ∙ sym (ap (λ (v : Bool). if v then left_bytes rates change bytes ++ end_of bytes else bytes) tile)

-- whether the size that is read is that of a box
pub small_size : (bytes : List ℕ) → field bytes 0 4 < 8 → begins_box bytes ≡ false
small_size bytes few = not_true_is (begins_box bytes) (λ e. let a = (begun bytes e).0 in omega (arith, a, few))

pub begins_if : (bytes : List ℕ) → 8 ≤ field bytes 0 4 → field bytes 0 4 < 2 ^ 32 → nat_le (field bytes 0 4) (length bytes) ≡ begins_box bytes
unfolding begins_box
begins_if bytes a b = rw (le-leb 8 (field bytes 0 4) a, lt-ltb (field bytes 0 4) (2 ^ 32) b) (last (nat_le (field bytes 0 4) (length bytes)))
  where
    last : (v : Bool) → v ≡ (v && true)
    last true = refl
    last false = refl

-- ---- how long it is

first_long : (bytes : List ℕ) → begins_box bytes ≡ true → length (kept_bytes (first_box bytes)) ≡ field bytes 0 4
first_long bytes e =
    let h = begun bytes e in
    let a = h.0 in
    let b = h.1 in
    let kind : length (take 4 (drop 4 bytes)) ≡ 4 = length-take-le 4 (drop 4 bytes) (omega (arith, a, b, length-drop 4 bytes)) in
    let payload : length (take (field bytes 0 4 - 8) (drop 8 bytes)) ≡ field bytes 0 4 - 8 = length-take-le (field bytes 0 4 - 8) (drop 8 bytes) (omega (arith, a, b, length-drop 8 bytes)) in
    omega (arith, length-box_bytes (first_box bytes).kind (first_box bytes).payload kind, payload, a)

-- a change makes no box longer
abbrev pub MakesNoLonger : (Kept → Kept) → Type 0
MakesNoLonger change = (k : Kept) → length (kept_bytes (change k)) ≤ length (kept_bytes k)

one_short : (v : Bool) (change : Kept → Kept) → MakesNoLonger change → (k : Kept) (ks : List Kept) → length (flat_map kept_bytes (map change (if v then k ∷ ks else ks))) ≤ length (kept_bytes k) + length (flat_map kept_bytes (map change ks))
one_short true change short k ks = let less = short k in omega (arith, less, length-append (kept_bytes (change k)) (flat_map kept_bytes (map change ks)))
one_short false change short k ks = omega arith

boxes_short : (rates : Bool) (change : Kept → Kept) → MakesNoLonger change → (n : ℕ) (bytes : List ℕ) → length (flat_map kept_bytes (left_of_boxes rates change (leading_boxes n bytes))) + length (behind_boxes n bytes) ≤ length bytes
boxes_short rates change short zero bytes = omega arith
boxes_short rates change short (suc n) bytes = by (begins_box bytes) refl (boxes_short rates change short n (drop (field bytes 0 4) bytes))
  where
    by : (v : Bool) → begins_box bytes ≡ v → length (flat_map kept_bytes (left_of_boxes rates change (leading_boxes n (drop (field bytes 0 4) bytes)))) + length (behind_boxes n (drop (field bytes 0 4) bytes)) ≤ length (drop (field bytes 0 4) bytes)
        → length (flat_map kept_bytes (left_of_boxes rates change (leading_boxes (suc n) bytes))) + length (behind_boxes (suc n) bytes) ≤ length bytes
    by true e h = rw e (
        let one = one_short (is_left rates (first_box bytes)) change short (first_box bytes) (filter (is_left rates) (leading_boxes n (drop (field bytes 0 4) bytes))) in
        let long = first_long bytes e in
        let within = (begun bytes e).1 in
        omega (arith, h, one, long, within, length-drop (field bytes 0 4) bytes))
    by false e h = rw e (omega arith)

pub tiles_short : (rates : Bool) (change : Kept → Kept) → MakesNoLonger change → (zeros : ℕ) (bytes : List ℕ) → length (tiles_left rates change zeros bytes) ≤ length bytes
tiles_short rates change short zeros bytes = by (are_zeros zeros (end_of bytes))
  where
    by : (v : Bool) → length (if v then left_bytes rates change bytes ++ end_of bytes else bytes) ≤ length bytes
    by true = let few = boxes_short rates change short (length bytes) bytes in omega (arith, few, length-append (left_bytes rates change bytes) (end_of bytes))
    by false = omega arith

-- a clause at Ok follows from another
pub if_ok : {A E : Type 0} (P Q : A → Type 0) (r : Result A E) → ((x : A) → P x → Q x) → IfOk r P → IfOk r Q
if_ok P Q (Ok x) f h = f x h
if_ok P Q (Err e) f h = tt
