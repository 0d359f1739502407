-- Boxes that were written are read again, and what is left of them once more is the same.
use Rattle.std.proofs.Common.{◌≡◌, ℕ, zero, suc, ◌+◌, ◌-◌, ◌<◌, ◌≤◌, ◌^◌, Bool, true, false, if◌then◌else◌, List, [], ◌∷◌, ◌++◌, length, take, drop, refl, sym, ap, subst, ◌∙◌, arith, append_assoc, length-append, length-drop}
use Rattle.std.specs.Prelude.{◌&&◌, ◌||◌, not, map, filter, flat_map, codes, bytes_eq}
use Rattle.std.specs.List.{AllByRecursion}
use Rattle.std.proofs.lemmas.List.{drop_at, length-take-le}
use Rattle.std.specs.Int.{byte_at}
use Rattle.byteorder.specs.Endian.{big_bytes}
use Rattle.byteorder.specs.Numbers.{length-bytes_high_first}
use Rattle.mp4_boxes.specs.format.Bytes.{AreBytes, field}
use Rattle.mp4_boxes.proofs.Each.{each_value, each_kept, each_weaker}
use Rattle.mp4_boxes.proofs.Fields.{field_again}
use Rattle.mp4_boxes.proofs.OfBytes.{bytes_dropped, bytes_taken, no_bytes}
use Rattle.mp4_boxes.proofs.WrittenBoxes.{length-box_bytes}
use Rattle.mp4_head.specs.format.Head.{Kept}
use Rattle.mp4_head.specs.format.Writing.{kept_bytes}
use Rattle.mp4_content.specs.format.BitRates.{begins_box, first_box, leading_boxes, behind_boxes, boxes_of, end_of, is_left, left_of_boxes, tiles_left, are_zeros}
use Rattle.mp4_content.proofs.FirstBoxes.{begins, begun, left_bytes, rest_shorter, too_short, boxes_stop, end_stop}

take_at : (xs ys : List ℕ) (n : ℕ) → length xs ≡ n → take n (xs ++ ys) ≡ xs
take_at [] ys zero e = refl
take_at [] ys (suc n) e = absurd (omega (arith, e))
take_at (x ∷ xs) ys zero e = absurd (omega (arith, e))
take_at (x ∷ xs) ys (suc n) e = ap (λ bs. x ∷ bs) (take_at xs ys n (omega (arith, e)))

drop_twice : (n m : ℕ) (xs : List ℕ) → drop n (drop m xs) ≡ drop (m + n) xs
drop_twice n zero xs = ap (λ k. drop k xs) (sym (zero_left n))
  where
    zero_left : (n : ℕ) → 0 + n ≡ n
    zero_left n = omega arith
drop_twice zero (suc m) [] = ap (λ k. drop k []) (sym (none_more m))
  where
    none_more : (m : ℕ) → suc m + 0 ≡ suc m
    none_more m = omega arith
drop_twice (suc n) (suc m) [] = sym (ap (λ k. drop k []) (next m n))
  where
    next : (m n : ℕ) → suc m + suc n ≡ suc (m + suc n)
    next m n = omega arith
drop_twice n (suc m) (x ∷ xs) = drop_twice n m xs ∙ sym (ap (λ k. drop k (x ∷ xs)) (next m n))
  where
    next : (m n : ℕ) → suc m + n ≡ suc (m + n)
    next m n = omega arith

-- ---- bytes

pub bytes_joined : (xs ys : List ℕ) → AreBytes xs → AreBytes ys → AreBytes (xs ++ ys)
bytes_joined [] ys h k i = k i
bytes_joined (x ∷ xs) ys h k zero = h 0
bytes_joined (x ∷ xs) ys h k (suc i) = bytes_joined xs ys (λ j. h (suc j)) k i

number_bytes : (n x : ℕ) → AreBytes (big_bytes n x)
number_bytes zero x i = no_bytes i
number_bytes (suc n) x zero = one_byte n
  where
    one_byte : (n : ℕ) → byte_at n x < 256
    one_byte zero = omega arith
    one_byte (suc n) = omega arith
number_bytes (suc n) x (suc i) = number_bytes n x i

-- a box with a header of 8 bytes
pub record IsShortBox (k : Kept) : Type 0 where
  pub kind : length k.kind ≡ 4
  pub size : 8 + length k.payload < 2 ^ 32

-- ---- a box that was written

module _ (k : Kept) (rest : List ℕ) (short : IsShortBox k) where
  abbrev whole : List ℕ
  whole = kept_bytes k ++ rest

  abbrev size_bytes : List ℕ
  size_bytes = big_bytes 4 (8 + length k.payload)

  regrouped : whole ≡ size_bytes ++ (k.kind ++ (k.payload ++ rest))
  regrouped = append_assoc size_bytes (k.kind ++ k.payload) rest ∙ ap (λ bs. size_bytes ++ bs) (append_assoc k.kind k.payload rest)

  size_again : field whole 0 4 ≡ 8 + length k.payload
  size_again = ap (λ bs. field bs 0 4) regrouped ∙ field_again 4 (8 + length k.payload) (k.kind ++ (k.payload ++ rest)) short.size

  size_long : length size_bytes ≡ 4
  size_long = length-bytes_high_first 4 (8 + length k.payload)

  long : length whole ≡ 8 + length k.payload + length rest
  long = length-append (kept_bytes k) rest ∙ ap (λ n. n + length rest) (length-box_bytes k.kind k.payload short.kind)

  pub begins_again : begins_box whole ≡ true
  begins_again =
      let size = size_again in
      let all = long in
      begins whole (omega (arith, size)) (omega (arith, size, all)) (subst (λ n. n < 2 ^ 32) (sym size) short.size)

  behind_size : drop 4 whole ≡ k.kind ++ (k.payload ++ rest)
  behind_size = ap (drop 4) regrouped ∙ drop_at size_bytes (k.kind ++ (k.payload ++ rest)) 4 size_long

  kind_again : take 4 (drop 4 whole) ≡ k.kind
  kind_again = ap (take 4) behind_size ∙ take_at k.kind (k.payload ++ rest) 4 short.kind

  behind_kind : drop 8 whole ≡ k.payload ++ rest
  behind_kind = sym (drop_twice 4 4 whole) ∙ ap (drop 4) behind_size ∙ drop_at k.kind (k.payload ++ rest) 4 short.kind

  payload_again : take (field whole 0 4 - 8) (drop 8 whole) ≡ k.payload
  payload_again =
      let size = size_again in
      let n : field whole 0 4 - 8 ≡ length k.payload = omega (arith, size) in
      (λ i. take (n i) (behind_kind i)) ∙ take_at k.payload rest (length k.payload) refl

  pub box_again : first_box whole ≡ k
  box_again = λ i. record { kind = kind_again i; payload = payload_again i }

  pub rest_again : drop (field whole 0 4) whole ≡ rest
  rest_again = ap (λ n. drop n whole) size_again ∙ drop_at (kept_bytes k) rest (8 + length k.payload) (length-box_bytes k.kind k.payload short.kind)

-- ---- boxes that were written

boxes_again : (n : ℕ) (ks : List Kept) (rest : List ℕ) → AllByRecursion IsShortBox ks → begins_box rest ≡ false → length ks ≤ n → leading_boxes n (flat_map kept_bytes ks ++ rest) ≡ ks
boxes_again n [] rest h e le = boxes_stop n rest e
boxes_again zero (k ∷ ks) rest h e le = absurd (omega (arith, le))
boxes_again (suc n) (k ∷ ks) rest h e le =
    let more = flat_map kept_bytes ks ++ rest in
    let joined : flat_map kept_bytes (k ∷ ks) ++ rest ≡ kept_bytes k ++ more = append_assoc (kept_bytes k) (flat_map kept_bytes ks) rest in
    ap (leading_boxes (suc n)) joined
    ∙ ap (λ (b : Bool). if b then first_box (kept_bytes k ++ more) ∷ leading_boxes n (drop (field (kept_bytes k ++ more) 0 4) (kept_bytes k ++ more)) else []) (begins_again k more h.0)
    ∙ (λ i. box_again k more h.0 i ∷ leading_boxes n (rest_again k more h.0 i))
    ∙ ap (λ xs. k ∷ xs) (boxes_again n ks rest h.1 e (omega (arith, le)))

end_again : (n : ℕ) (ks : List Kept) (rest : List ℕ) → AllByRecursion IsShortBox ks → begins_box rest ≡ false → length ks ≤ n → behind_boxes n (flat_map kept_bytes ks ++ rest) ≡ rest
end_again n [] rest h e le = end_stop n rest e
end_again zero (k ∷ ks) rest h e le = absurd (omega (arith, le))
end_again (suc n) (k ∷ ks) rest h e le =
    let more = flat_map kept_bytes ks ++ rest in
    let joined : flat_map kept_bytes (k ∷ ks) ++ rest ≡ kept_bytes k ++ more = append_assoc (kept_bytes k) (flat_map kept_bytes ks) rest in
    ap (behind_boxes (suc n)) joined
    ∙ ap (λ (b : Bool). if b then behind_boxes n (drop (field (kept_bytes k ++ more) 0 4) (kept_bytes k ++ more)) else kept_bytes k ++ more) (begins_again k more h.0)
    ∙ ap (behind_boxes n) (rest_again k more h.0)
    ∙ end_again n ks rest h.1 e (omega (arith, le))

many_few : (ks : List Kept) (rest : List ℕ) → AllByRecursion IsShortBox ks → length ks ≤ length (flat_map kept_bytes ks ++ rest)
many_few [] rest h = omega arith
many_few (k ∷ ks) rest h =
    let more = many_few ks rest h.1 in
    let joined : flat_map kept_bytes (k ∷ ks) ++ rest ≡ kept_bytes k ++ (flat_map kept_bytes ks ++ rest) = append_assoc (kept_bytes k) (flat_map kept_bytes ks) rest in
    omega (arith, more, ap (λ bs. length bs) joined, length-append (kept_bytes k) (flat_map kept_bytes ks ++ rest), length-box_bytes k.kind k.payload h.0.kind)

-- ---- boxes that were read

first_short : (bytes : List ℕ) → begins_box bytes ≡ true → IsShortBox (first_box bytes)
first_short bytes e =
    let h = begun bytes e in
    let a = h.0 in
    let b = h.1 in
    let c = h.2 in
    record {
      kind = length-take-le 4 (drop 4 bytes) (omega (arith, a, b, length-drop 4 bytes));
      size = omega (arith, a, c, length-take-le (field bytes 0 4 - 8) (drop 8 bytes) (omega (arith, a, b, length-drop 8 bytes)));
    }

chosen : {A : Type 0} (P : A → Type 0) (v : Bool) (x y : A) → (v ≡ true → P x) → P y → P (if v then x else y)
chosen P true x y h k = h refl
chosen P false x y h k = k

boxes_are_short : (n : ℕ) (bytes : List ℕ) → AllByRecursion IsShortBox (leading_boxes n bytes)
boxes_are_short zero bytes = tt
boxes_are_short (suc n) bytes = chosen (AllByRecursion IsShortBox) (begins_box bytes) (first_box bytes ∷ leading_boxes n (drop (field bytes 0 4) bytes)) []
    (λ e. (first_short bytes e, boxes_are_short n (drop (field bytes 0 4) bytes))) tt

no_box_by : (v : Bool) (bytes rest : List ℕ) → begins_box bytes ≡ v → (v ≡ true → begins_box rest ≡ false) → begins_box (if v then rest else bytes) ≡ false
no_box_by true bytes rest e f = f refl
no_box_by false bytes rest e f = e

no_box_behind : (n : ℕ) (bytes : List ℕ) → length bytes ≤ n → begins_box (behind_boxes n bytes) ≡ false
no_box_behind zero bytes le = too_short bytes (omega (arith, le))
no_box_behind (suc n) bytes le =
    let rest = drop (field bytes 0 4) bytes in
    no_box_by (begins_box bytes) bytes (behind_boxes n rest) refl (λ e. let less = rest_shorter bytes e in no_box_behind n rest (omega (arith, less, le)))

-- ---- what is left of them

-- a change of boxes that keeps their types, and makes them no longer
pub record IsLasting (change : Kept → Kept) : Type 0 where
  pub kind : (k : Kept) → (change k).kind ≡ k.kind
  pub shorter : (k : Kept) → length (change k).payload ≤ length k.payload
  pub bytes : (k : Kept) → AreBytes k.payload → AreBytes (change k).payload

module _ (rates : Bool) (change : Kept → Kept) (lasting : IsLasting change) where
  changed_short : (k : Kept) → IsShortBox k → IsShortBox (change k)
  changed_short k h = record {
    kind = ap (λ bs. length bs) (lasting.kind k) ∙ h.kind;
    size = let less = lasting.shorter k in let size = h.size in omega (arith, less, size);
  }

  left_short : (ks : List Kept) → AllByRecursion IsShortBox ks → AllByRecursion IsShortBox (left_of_boxes rates change ks)
  left_short ks h = each_value IsShortBox IsShortBox change changed_short (filter (is_left rates) ks)
      (each_weaker (λ k. IsShortBox k × (is_left rates k ≡ true)) IsShortBox (λ k both. both.0) (filter (is_left rates) ks) (each_kept IsShortBox (is_left rates) ks h))

  -- boxes that were written, of which something else is left
  pub tiles_next : (other : Bool) (next all : Kept → Kept) (most : Bool) → ((ks : List Kept) → left_of_boxes other next (left_of_boxes rates change ks) ≡ left_of_boxes most all ks)
      → (zeros : ℕ) (bytes : List ℕ) → tiles_left other next zeros (tiles_left rates change zeros bytes) ≡ tiles_left most all zeros bytes
  tiles_next other next all most joined zeros bytes = by (are_zeros zeros (end_of bytes)) refl
    where
      by : (v : Bool) → are_zeros zeros (end_of bytes) ≡ v → tiles_left other next zeros (if v then left_bytes rates change bytes ++ end_of bytes else bytes) ≡ (if v then left_bytes most all bytes ++ end_of bytes else bytes)
      by true e =
          let ks = left_of_boxes rates change (boxes_of bytes) in
          let tail = end_of bytes in
          let once = flat_map kept_bytes ks ++ tail in
          let short = left_short (boxes_of bytes) (boxes_are_short (length bytes) bytes) in
          let none = no_box_behind (length bytes) bytes (omega arith) in
          let few = many_few ks tail short in
          let boxes : boxes_of once ≡ ks = boxes_again (length once) ks tail short none few in
          let ends : end_of once ≡ tail = end_again (length once) ks tail short none few in
          let tile : are_zeros zeros (end_of once) ≡ true = ap (are_zeros zeros) ends ∙ e in
          ap (λ (b : Bool). if b then left_bytes other next once ++ end_of once else once) tile
          ∙ (λ i. flat_map kept_bytes (left_of_boxes other next (boxes i)) ++ ends i)
          ∙ ap (λ xs. flat_map kept_bytes xs ++ tail) (joined (boxes_of bytes))
      by false e = ap (λ (b : Bool). if b then left_bytes other next bytes ++ end_of bytes else bytes) e

  -- ---- bytes

  pub tiles_bytes : (zeros : ℕ) (bytes : List ℕ) → AreBytes bytes → AreBytes (tiles_left rates change zeros bytes)
  tiles_bytes zeros bytes are = chosen AreBytes (are_zeros zeros (end_of bytes)) (left_bytes rates change bytes ++ end_of bytes) bytes
      (λ e. bytes_joined (left_bytes rates change bytes) (end_of bytes) (all_bytes (boxes_of bytes) (boxes_bytes (length bytes) bytes are)) (end_bytes (length bytes) bytes are)) are
    where
      kept_are : (k : Kept) → AreBytes k.kind × AreBytes k.payload → AreBytes (kept_bytes (change k))
      kept_are k h = bytes_joined (big_bytes 4 (8 + length (change k).payload)) ((change k).kind ++ (change k).payload) (number_bytes 4 (8 + length (change k).payload))
          (bytes_joined (change k).kind (change k).payload (subst AreBytes (sym (lasting.kind k)) h.0) (lasting.bytes k h.1))

      changed_bytes : (ks : List Kept) → AllByRecursion (λ k. AreBytes k.kind × AreBytes k.payload) ks → AreBytes (flat_map kept_bytes (map change ks))
      changed_bytes [] h = no_bytes
      changed_bytes (k ∷ ks) h = bytes_joined (kept_bytes (change k)) (flat_map kept_bytes (map change ks)) (kept_are k h.0) (changed_bytes ks h.1)

      all_bytes : (ks : List Kept) → AllByRecursion (λ k. AreBytes k.kind × AreBytes k.payload) ks → AreBytes (flat_map kept_bytes (left_of_boxes rates change ks))
      all_bytes ks h = changed_bytes (filter (is_left rates) ks) (each_weaker (λ k. (AreBytes k.kind × AreBytes k.payload) × (is_left rates k ≡ true)) (λ k. AreBytes k.kind × AreBytes k.payload) (λ k both. both.0) (filter (is_left rates) ks)
          (each_kept (λ k. AreBytes k.kind × AreBytes k.payload) (is_left rates) ks h))

      boxes_bytes : (n : ℕ) (bytes : List ℕ) → AreBytes bytes → AllByRecursion (λ k. AreBytes k.kind × AreBytes k.payload) (leading_boxes n bytes)
      boxes_bytes zero bytes are = tt
      boxes_bytes (suc n) bytes are = chosen (AllByRecursion (λ k. AreBytes k.kind × AreBytes k.payload)) (begins_box bytes) (first_box bytes ∷ leading_boxes n (drop (field bytes 0 4) bytes)) []
          (λ e. ((bytes_taken 4 (drop 4 bytes) (bytes_dropped 4 bytes are), bytes_taken (field bytes 0 4 - 8) (drop 8 bytes) (bytes_dropped 8 bytes are)), boxes_bytes n (drop (field bytes 0 4) bytes) (bytes_dropped (field bytes 0 4) bytes are))) tt

      end_bytes : (n : ℕ) (bytes : List ℕ) → AreBytes bytes → AreBytes (behind_boxes n bytes)
      end_bytes zero bytes are = are
      end_bytes (suc n) bytes are = chosen AreBytes (begins_box bytes) (behind_boxes n (drop (field bytes 0 4) bytes)) bytes (λ e. end_bytes n (drop (field bytes 0 4) bytes) (bytes_dropped (field bytes 0 4) bytes are)) are

-- ---- two changes, one after the other

stay_or : (a b w : Bool) → (not (b && w) ≡ true → not (a && w) ≡ not ((a || b) && w)) × (not (b && w) ≡ false → not ((a || b) && w) ≡ false)
stay_or true true true = (λ e. refl, λ e. refl)
stay_or true true false = (λ e. refl, λ e. e)
stay_or true false true = (λ e. refl, λ e. refl)
stay_or true false false = (λ e. refl, λ e. e)
stay_or false true true = (λ e. sym e, λ e. refl)
stay_or false true false = (λ e. refl, λ e. e)
stay_or false false true = (λ e. refl, λ e. e)
stay_or false false false = (λ e. refl, λ e. e)

abbrev left_first : Bool → Kept → List Kept → List Kept
left_first v k ks = if v then k ∷ ks else ks

module _ (a b : Bool) (f g h : Kept → Kept) (kind : (k : Kept) → (g k).kind ≡ k.kind) (joined : (k : Kept) → f (g k) ≡ h k) where
  -- where the first one stays
  one_joined : (v : Bool) (k : Kept) (xs ys : List Kept) → is_left a (g k) ≡ v → map f xs ≡ map h ys → map f (left_first (is_left a (g k)) (g k) xs) ≡ map h (left_first v k ys)
  one_joined true k xs ys e more = ap (λ (v : Bool). map f (left_first v (g k) xs)) e ∙ (λ i. joined k i ∷ more i)
  one_joined false k xs ys e more = ap (λ (v : Bool). map f (left_first v (g k) xs)) e ∙ more

  joined_at : (v : Bool) (k : Kept) (ks : List Kept) → is_left b k ≡ v → left_of_boxes a f (left_of_boxes b g ks) ≡ left_of_boxes (a || b) h ks
      → left_of_boxes a f (map g (left_first v k (filter (is_left b) ks))) ≡ map h (left_first (is_left (a || b) k) k (filter (is_left (a || b)) ks))
  joined_at true k ks e more =
      let same : is_left a (g k) ≡ is_left (a || b) k = ap (λ (bs : List ℕ). not (a && bytes_eq bs (codes "btrt"))) (kind k) ∙ (stay_or a b (bytes_eq k.kind (codes "btrt"))).0 e in
      one_joined (is_left (a || b) k) k (filter (is_left a) (left_of_boxes b g ks)) (filter (is_left (a || b)) ks) same more
  joined_at false k ks e more =
      more ∙ sym (ap (λ (v : Bool). map h (left_first v k (filter (is_left (a || b)) ks))) ((stay_or a b (bytes_eq k.kind (codes "btrt"))).1 e))

  pub boxes_joined : (ks : List Kept) → left_of_boxes a f (left_of_boxes b g ks) ≡ left_of_boxes (a || b) h ks
  boxes_joined [] = refl
  boxes_joined (k ∷ ks) = joined_at (is_left b k) k ks refl (boxes_joined ks)

pub tiles_joined : (a b : Bool) (f g h : Kept → Kept) → IsLasting g → ((k : Kept) → f (g k) ≡ h k) → (zeros : ℕ) (bytes : List ℕ) → tiles_left a f zeros (tiles_left b g zeros bytes) ≡ tiles_left (a || b) h zeros bytes
tiles_joined a b f g h lasting joined zeros bytes = tiles_next b g lasting a f h (a || b) (boxes_joined a b f g h lasting.kind joined) zeros bytes
