-- What is left of sample descriptions without bit rates and IDs: twice is once by the words of both,
-- no longer, well formed, and the same with the names of compressors left out before or behind.
use Rattle.std.proofs.Common.{◌≡◌, ℕ, zero, suc, ◌-◌, ◌≤◌, Bool, true, false, if◌then◌else◌, List, [], ◌∷◌, ◌++◌, length, take, drop, refl, sym, ap, ◌∙◌, arith, length-append, length-drop}
use Rattle.std.specs.Prelude.{◌==◌, ◌||◌, nat_le, codes, bytes_eq}
use Rattle.std.proofs.lemmas.Bool.{le-leb, leb-true}
use Rattle.std.proofs.lemmas.List.{drop_at, length-take, length-take-le, take-append-le, take-take}
use Rattle.mp4_boxes.specs.format.Bytes.{AreBytes, field}
use Rattle.mp4_boxes.proofs.OfBytes.{bytes_dropped, bytes_taken}
use Rattle.mp4_head.specs.format.Head.{Kept, IsDescription, handler_type}
use Rattle.mp4_content.specs.format.BitRates.{esds_left, inner_box_left, wave_left, box_left, tiles_left, behind_left, picture_left, sound_left, ends_in_rates, shorter_by, other_left, payload_left, entry_left}
use Rattle.mp4_content.specs.format.Reduced.{plain_picture, is_picture}
use Rattle.mp4_content.specs.format.Zeros.{zeroed}
use Rattle.mp4_content.proofs.FirstBoxes.{tiles_short}
use Rattle.mp4_content.proofs.RatesAtEnd.{ends_so, ends_short, shorter_stop, taken_long}
use Rattle.mp4_content.proofs.RatesPlaces.{esds_length}
use Rattle.mp4_content.proofs.RatesShort.{boxes_no_longer, wave_short}
use Rattle.mp4_content.proofs.Zeroed.{zeroed_length}
use Rattle.mp4_content.proofs.BoxesAgain.{IsLasting, bytes_joined, tiles_joined, tiles_bytes}
use Rattle.mp4_content.proofs.RatesKept.{esds_joined, esds_bytes}
use Rattle.mp4_content.proofs.ZeroedAgain.{zeroed_before, zeroed_dropped, zeroed_taken}

-- ---- boxes

by_type : (P : Bool → Type 0) → P true → P false → (v : Bool) → P v
by_type P p q true = p
by_type P p q false = q

-- what is left by two words
module _ (rates ids : Bool) where
  inner_lasting : IsLasting (inner_box_left rates ids)
  inner_lasting = record {
    kind = λ k. refl;
    shorter = λ k. by_type (λ v. length (if v then esds_left rates ids k.payload else k.payload) ≤ length k.payload) (let same = esds_length rates ids k.payload in omega (arith, same)) (omega arith) (bytes_eq k.kind (codes "esds"));
    bytes = λ k are. by_type (λ v. AreBytes (if v then esds_left rates ids k.payload else k.payload)) (esds_bytes rates ids k.payload are) are (bytes_eq k.kind (codes "esds"));
  }

  box_lasting : IsLasting (box_left rates ids)
  box_lasting = record {
    kind = λ k. refl;
    shorter = λ k. by_type (λ v. length (if v then wave_left rates ids k.payload else (inner_box_left rates ids k).payload) ≤ length k.payload) (wave_short rates ids k.payload) (inner_lasting.shorter k) (bytes_eq k.kind (codes "wave"));
    bytes = λ k are. by_type (λ v. AreBytes (if v then wave_left rates ids k.payload else (inner_box_left rates ids k).payload)) (tiles_bytes rates (inner_box_left rates ids) inner_lasting 0 k.payload are) (inner_lasting.bytes k are) (bytes_eq k.kind (codes "wave"));
  }

-- by the first two, and before by the others
module _ (a b c d : Bool) where
  inner_joined : (k : Kept) → inner_box_left a b (inner_box_left c d k) ≡ inner_box_left (a || c) (b || d) k
  inner_joined k = λ i. record k {
    payload = by_type (λ v. (if v then esds_left a b (if v then esds_left c d k.payload else k.payload) else (if v then esds_left c d k.payload else k.payload)) ≡ (if v then esds_left (a || c) (b || d) k.payload else k.payload))
        (esds_joined a b c d k.payload) refl (bytes_eq k.kind (codes "esds")) i;
  }

  wave_joined : (payload : List ℕ) → wave_left a b (wave_left c d payload) ≡ wave_left (a || c) (b || d) payload
  wave_joined payload = tiles_joined a c (inner_box_left a b) (inner_box_left c d) (inner_box_left (a || c) (b || d)) (inner_lasting c d) inner_joined 0 payload

  box_joined : (k : Kept) → box_left a b (box_left c d k) ≡ box_left (a || c) (b || d) k
  box_joined k = λ i. record k {
    payload = by_type (λ v. (if v then wave_left a b (if v then wave_left c d k.payload else (inner_box_left c d k).payload) else (inner_box_left a b (record k { payload = if v then wave_left c d k.payload else (inner_box_left c d k).payload })).payload)
        ≡ (if v then wave_left (a || c) (b || d) k.payload else (inner_box_left (a || c) (b || d) k).payload))
        (wave_joined k.payload) (ap (λ (x : Kept). x.payload) (inner_joined k)) (bytes_eq k.kind (codes "wave")) i;
  }

  box_tiles_joined : (zeros : ℕ) (bytes : List ℕ) → tiles_left a (box_left a b) zeros (tiles_left c (box_left c d) zeros bytes) ≡ tiles_left (a || c) (box_left (a || c) (b || d)) zeros bytes
  box_tiles_joined zeros bytes = tiles_joined a c (box_left a b) (box_left c d) (box_left (a || c) (b || d)) (box_lasting c d) box_joined zeros bytes

-- ---- boxes from a place on

module _ (at : ℕ) where
  module _ (payload : List ℕ) (long : at ≤ length payload) where
    front_long : length (take at payload) ≡ at
    front_long = length-take-le at payload long

    front_again : (rest : List ℕ) → take at (take at payload ++ rest) ≡ take at payload
    front_again rest = take-append-le at (take at payload) rest (let n = front_long in omega (arith, n)) ∙ take-take at at payload (omega arith)

    back_again : (rest : List ℕ) → drop at (take at payload ++ rest) ≡ rest
    back_again rest = drop_at (take at payload) rest at front_long

module _ (rates ids : Bool) (at zeros : ℕ) where
  abbrev behind : Bool → List ℕ → List ℕ
  behind v payload = if v then take at payload ++ tiles_left rates (box_left rates ids) zeros (drop at payload) else payload

  behind_short : (payload : List ℕ) → length (behind_left rates ids at zeros payload) ≤ length payload
  behind_short payload = by (nat_le at (length payload)) refl
    where
      by : (v : Bool) → nat_le at (length payload) ≡ v → length (behind v payload) ≤ length payload
      by true e =
          let long = leb-true at (length payload) e in
          let less = tiles_short rates (box_left rates ids) (boxes_no_longer rates ids) zeros (drop at payload) in
          omega (arith, long, less, front_long at payload long, length-append (take at payload) (tiles_left rates (box_left rates ids) zeros (drop at payload)), length-drop at payload)
      by false e = omega arith

  behind_bytes : (payload : List ℕ) → AreBytes payload → AreBytes (behind_left rates ids at zeros payload)
  behind_bytes payload are = by_type (λ v. AreBytes (behind v payload))
      (bytes_joined (take at payload) (tiles_left rates (box_left rates ids) zeros (drop at payload)) (bytes_taken at payload are) (tiles_bytes rates (box_left rates ids) (box_lasting rates ids) zeros (drop at payload) (bytes_dropped at payload are))) are (nat_le at (length payload))

  behind_front : (n : ℕ) → n ≤ at → (payload : List ℕ) → take n (behind_left rates ids at zeros payload) ≡ take n payload
  behind_front n few payload = by (nat_le at (length payload)) refl
    where
      by : (v : Bool) → nat_le at (length payload) ≡ v → take n (behind v payload) ≡ take n payload
      by true e =
          let long = leb-true at (length payload) e in
          let m = front_long at payload long in
          take-append-le n (take at payload) (tiles_left rates (box_left rates ids) zeros (drop at payload)) (omega (arith, few, m)) ∙ take-take n at payload few
      by false e = refl

module _ (a b c d : Bool) (at zeros : ℕ) where
  behind_joined : (payload : List ℕ) → behind_left a b at zeros (behind_left c d at zeros payload) ≡ behind_left (a || c) (b || d) at zeros payload
  behind_joined payload = by (nat_le at (length payload)) refl
    where
      by : (v : Bool) → nat_le at (length payload) ≡ v → behind_left a b at zeros (behind c d at zeros v payload) ≡ behind (a || c) (b || d) at zeros v payload
      by true e =
          let long = leb-true at (length payload) e in
          let tiles = tiles_left c (box_left c d) zeros (drop at payload) in
          let once = take at payload ++ tiles in
          let n = front_long at payload long in
          let still : nat_le at (length once) ≡ true = le-leb at (length once) (omega (arith, n, length-append (take at payload) tiles)) in
          ap (λ v. behind a b at zeros v once) still
          ∙ (λ i. front_again at payload long tiles i ++ tiles_left a (box_left a b) zeros (back_again at payload long tiles i))
          ∙ ap (λ bs. take at payload ++ bs) (box_tiles_joined a b c d zeros (drop at payload))
      by false e = ap (λ v. behind a b at zeros v payload) e

-- ---- sound, by its version

abbrev sound_by : Bool → Bool → ℕ → List ℕ → List ℕ
sound_by rates ids version payload = if version == 0 then behind_left rates ids 28 0 payload
    else if version == 1 then behind_left rates ids 44 0 payload
    else if version == 2 then behind_left rates ids 64 0 payload
    else payload

one_of_four : (P : List ℕ → Type 0) (a b c d : List ℕ) → P a → P b → P c → P d → (u v w : Bool) → P (if u then a else if v then b else if w then c else d)
one_of_four P a b c d p q r s true v w = p
one_of_four P a b c d p q r s false true w = q
one_of_four P a b c d p q r s false false true = r
one_of_four P a b c d p q r s false false false = s

sound_so : (P : List ℕ → Type 0) (rates ids : Bool) (version : ℕ) (payload : List ℕ) → P (behind_left rates ids 28 0 payload) → P (behind_left rates ids 44 0 payload) → P (behind_left rates ids 64 0 payload) → P payload → P (sound_by rates ids version payload)
sound_so P rates ids version payload p q r s = one_of_four P (behind_left rates ids 28 0 payload) (behind_left rates ids 44 0 payload) (behind_left rates ids 64 0 payload) payload p q r s (version == 0) (version == 1) (version == 2)

-- the version is read in the first ten bytes
field_taken : (payload : List ℕ) → field (take 10 payload) 8 2 ≡ field payload 8 2
field_taken [] = refl
field_taken (a ∷ []) = refl
field_taken (a ∷ b ∷ []) = refl
field_taken (a ∷ b ∷ c ∷ []) = refl
field_taken (a ∷ b ∷ c ∷ d ∷ []) = refl
field_taken (a ∷ b ∷ c ∷ d ∷ e ∷ []) = refl
field_taken (a ∷ b ∷ c ∷ d ∷ e ∷ f ∷ []) = refl
field_taken (a ∷ b ∷ c ∷ d ∷ e ∷ f ∷ g ∷ []) = refl
field_taken (a ∷ b ∷ c ∷ d ∷ e ∷ f ∷ g ∷ h ∷ []) = refl
field_taken (a ∷ b ∷ c ∷ d ∷ e ∷ f ∷ g ∷ h ∷ i ∷ []) = refl
field_taken (a ∷ b ∷ c ∷ d ∷ e ∷ f ∷ g ∷ h ∷ i ∷ j ∷ rest) = refl

sound_front : (rates ids : Bool) (n version : ℕ) → n ≤ 28 → (payload : List ℕ) → take n (sound_by rates ids version payload) ≡ take n payload
sound_front rates ids n version few payload = sound_so (λ bs. take n bs ≡ take n payload) rates ids version payload (behind_front rates ids 28 0 n few payload) (behind_front rates ids 44 0 n (omega (arith, few)) payload) (behind_front rates ids 64 0 n (omega (arith, few)) payload) refl

version_same : (rates ids : Bool) (version : ℕ) (payload : List ℕ) → field (sound_by rates ids version payload) 8 2 ≡ field payload 8 2
version_same rates ids version payload = sym (field_taken (sound_by rates ids version payload)) ∙ ap (λ bs. field bs 8 2) (sound_front rates ids 10 version (omega arith) payload) ∙ field_taken payload

module _ (a b c d : Bool) where
  -- by the version's number once
  abbrev chosen_by : Bool → Bool → Bool → Bool → Bool → List ℕ → List ℕ
  chosen_by rates ids u v w payload = if u then behind_left rates ids 28 0 payload
      else if v then behind_left rates ids 44 0 payload
      else if w then behind_left rates ids 64 0 payload
      else payload

  joined_by : (u v w : Bool) (payload : List ℕ) → chosen_by a b u v w (chosen_by c d u v w payload) ≡ chosen_by (a || c) (b || d) u v w payload
  joined_by true v w payload = behind_joined a b c d 28 0 payload
  joined_by false true w payload = behind_joined a b c d 44 0 payload
  joined_by false false true payload = behind_joined a b c d 64 0 payload
  joined_by false false false payload = refl

  sound_joined : (payload : List ℕ) → sound_left a b (sound_left c d payload) ≡ sound_left (a || c) (b || d) payload
  sound_joined payload =
      let version = field payload 8 2 in
      ap (λ n. sound_by a b n (sound_left c d payload)) (version_same c d version payload) ∙ joined_by (version == 0) (version == 1) (version == 2) payload

-- ---- any other

no_end_by : (v : Bool) (payload front : List ℕ) → ends_in_rates payload ≡ v → (v ≡ true → ends_in_rates front ≡ false) → ends_in_rates (if v then front else payload) ≡ false
no_end_by true payload front e f = f refl
no_end_by false payload front e f = e

no_end : (n : ℕ) (payload : List ℕ) → length payload ≤ n → ends_in_rates (shorter_by n payload) ≡ false
no_end zero payload le = ends_short payload (omega (arith, le))
no_end (suc n) payload le =
    let front = take (length payload - 20) payload in
    no_end_by (ends_in_rates payload) payload (shorter_by n front) refl (λ e. let less = taken_long payload e in no_end n front (omega (arith, less, le)))

other_twice : (payload : List ℕ) → other_left (other_left payload) ≡ other_left payload
other_twice payload = shorter_stop (length (other_left payload)) (other_left payload) (no_end (length payload) payload (omega arith))

so_by : (P : List ℕ → Type 0) (v : Bool) (x y : List ℕ) → (v ≡ true → P x) → P y → P (if v then x else y)
so_by P true x y f p = f refl
so_by P false x y f p = p

shorter_so : (P : List ℕ → Type 0) → ((payload : List ℕ) → ends_in_rates payload ≡ true → P payload → P (take (length payload - 20) payload)) → (n : ℕ) (payload : List ℕ) → P payload → P (shorter_by n payload)
shorter_so P f zero payload p = p
shorter_so P f (suc n) payload p = so_by P (ends_in_rates payload) (shorter_by n (take (length payload - 20) payload)) payload (λ e. shorter_so P f n (take (length payload - 20) payload) (f payload e p)) p

other_short : (payload : List ℕ) → length (other_left payload) ≤ length payload
other_short payload = shorter_so (λ bs. length bs ≤ length payload) (λ bs e le. let long = (ends_so bs e).0 in omega (arith, le, long, length-take-le (length bs - 20) bs (omega (arith, long)))) (length payload) payload (omega arith)

other_bytes : (payload : List ℕ) → AreBytes payload → AreBytes (other_left payload)
other_bytes payload are = shorter_so AreBytes (λ bs e h. bytes_taken (length bs - 20) bs h) (length payload) payload are

other_front : (payload : List ℕ) → take 8 (other_left payload) ≡ take 8 payload
other_front payload = shorter_so (λ bs. take 8 bs ≡ take 8 payload) (λ bs e h. let long = (ends_so bs e).0 in take-take 8 (length bs - 20) bs (omega (arith, long)) ∙ h) (length payload) payload refl

-- ---- payloads of descriptions

abbrev other_if : Bool → List ℕ → List ℕ
other_if rates payload = if rates then other_left payload else payload

other_or : (a c : Bool) (payload : List ℕ) → other_if a (other_if c payload) ≡ other_if (a || c) payload
other_or true true payload = other_twice payload
other_or true false payload = refl
other_or false c payload = refl

abbrev left_by : Bool → Bool → Bool → Bool → List ℕ → List ℕ
left_by rates ids u v payload = if u then picture_left rates ids payload else if v then sound_left rates ids payload else other_if rates payload

one_of_three : (P : List ℕ → Type 0) (rates ids u v : Bool) (payload : List ℕ) → P (picture_left rates ids payload) → P (sound_left rates ids payload) → P (other_if rates payload) → P (left_by rates ids u v payload)
one_of_three P rates ids true v payload p q r = p
one_of_three P rates ids false true payload p q r = q
one_of_three P rates ids false false payload p q r = r

other_so : (P : List ℕ → Type 0) (rates : Bool) (payload : List ℕ) → P (other_left payload) → P payload → P (other_if rates payload)
other_so P true payload p q = p
other_so P false payload p q = q

payload_so : (P : List ℕ → Type 0) (rates ids : Bool) (handler payload : List ℕ) → P (picture_left rates ids payload) → P (sound_left rates ids payload) → P (other_left payload) → P payload → P (payload_left rates ids handler payload)
payload_so P rates ids handler payload p q r s = one_of_three P rates ids (bytes_eq handler (codes "vide")) (bytes_eq handler (codes "soun")) payload p q (other_so P rates payload r s)

payload_joined_by : (a b c d u v : Bool) (payload : List ℕ) → left_by a b u v (left_by c d u v payload) ≡ left_by (a || c) (b || d) u v payload
payload_joined_by a b c d true v payload = behind_joined a b c d 78 4 payload
payload_joined_by a b c d false true payload = sound_joined a b c d payload
payload_joined_by a b c d false false payload = other_or a c payload

pub entry_joined : (a b c d : Bool) (h : List ℕ) (k : Kept) → entry_left a b h (entry_left c d h k) ≡ entry_left (a || c) (b || d) h k
entry_joined a b c d h k = λ i. record k { payload = payload_joined_by a b c d (bytes_eq (handler_type h) (codes "vide")) (bytes_eq (handler_type h) (codes "soun")) k.payload i }

pub payload_short : (rates ids : Bool) (handler payload : List ℕ) → length (payload_left rates ids handler payload) ≤ length payload
payload_short rates ids handler payload = payload_so (λ bs. length bs ≤ length payload) rates ids handler payload (behind_short rates ids 78 4 payload)
    (sound_so (λ bs. length bs ≤ length payload) rates ids (field payload 8 2) payload (behind_short rates ids 28 0 payload) (behind_short rates ids 44 0 payload) (behind_short rates ids 64 0 payload) (omega arith)) (other_short payload) (omega arith)

payload_bytes : (rates ids : Bool) (handler payload : List ℕ) → AreBytes payload → AreBytes (payload_left rates ids handler payload)
payload_bytes rates ids handler payload are = payload_so AreBytes rates ids handler payload (behind_bytes rates ids 78 4 payload are)
    (sound_so AreBytes rates ids (field payload 8 2) payload (behind_bytes rates ids 28 0 payload are) (behind_bytes rates ids 44 0 payload are) (behind_bytes rates ids 64 0 payload are) are) (other_bytes payload are) are

payload_front : (rates ids : Bool) (handler payload : List ℕ) → take 8 (payload_left rates ids handler payload) ≡ take 8 payload
payload_front rates ids handler payload = payload_so (λ bs. take 8 bs ≡ take 8 payload) rates ids handler payload (behind_front rates ids 78 4 8 (omega arith) payload) (sound_front rates ids 8 (field payload 8 2) (omega arith) payload) (other_front payload) refl

-- the first eight bytes say which data is referred to
reference_taken : (payload : List ℕ) → field (take 8 payload) 6 2 ≡ field payload 6 2
reference_taken [] = refl
reference_taken (a ∷ []) = refl
reference_taken (a ∷ b ∷ []) = refl
reference_taken (a ∷ b ∷ c ∷ []) = refl
reference_taken (a ∷ b ∷ c ∷ d ∷ []) = refl
reference_taken (a ∷ b ∷ c ∷ d ∷ e ∷ []) = refl
reference_taken (a ∷ b ∷ c ∷ d ∷ e ∷ f ∷ []) = refl
reference_taken (a ∷ b ∷ c ∷ d ∷ e ∷ f ∷ g ∷ []) = refl
reference_taken (a ∷ b ∷ c ∷ d ∷ e ∷ f ∷ g ∷ h ∷ rest) = refl

room_taken : (payload : List ℕ) → 8 ≤ length (take 8 payload) → 8 ≤ length payload
room_taken payload le = let few = length-take 8 payload in omega (arith, le, few)

pub entry_good : (rates ids : Bool) (h : List ℕ) (k : Kept) → IsDescription k → IsDescription (entry_left rates ids h k)
entry_good rates ids h k g =
    let now = payload_left rates ids (handler_type h) k.payload in
    let front = payload_front rates ids (handler_type h) k.payload in
    let long : length (take 8 now) ≡ 8 = ap (λ bs. length bs) front ∙ length-take-le 8 k.payload g.room in
    record {
      kind_length = g.kind_length;
      kind = g.kind;
      bytes = payload_bytes rates ids (handler_type h) k.payload g.bytes;
      room = room_taken now (omega (arith, long));
      data_reference = sym (reference_taken now) ∙ ap (λ bs. field bs 6 2) front ∙ reference_taken k.payload ∙ g.data_reference;
    }

-- ---- with the names of compressors

abbrev named : Bool → List ℕ → List ℕ
named v payload = if v then zeroed 42 32 payload else payload

module _ (rates ids : Bool) where
  named_first : (payload : List ℕ) → named (nat_le 78 (length (picture_left rates ids payload))) (picture_left rates ids payload) ≡ picture_left rates ids (named (nat_le 78 (length payload)) payload)
  named_first payload = by (nat_le 78 (length payload)) refl
    where
      by : (v : Bool) → nat_le 78 (length payload) ≡ v → named (nat_le 78 (length (behind rates ids 78 4 v payload))) (behind rates ids 78 4 v payload) ≡ picture_left rates ids (named v payload)
      by true e =
          let long = leb-true 78 (length payload) e in
          let tiles = tiles_left rates (box_left rates ids) 4 (drop 78 payload) in
          let once = take 78 payload ++ tiles in
          let less = zeroed 42 32 payload in
          let n = front_long 78 payload long in
          let still : nat_le 78 (length once) ≡ true = le-leb 78 (length once) (omega (arith, n, length-append (take 78 payload) tiles)) in
          let room : nat_le 78 (length less) ≡ true = ap (λ k. nat_le 78 k) (zeroed_length 42 32 payload) ∙ e in
          ap (λ v. named v once) still
          ∙ zeroed_before 42 32 (take 78 payload) tiles (omega (arith, n))
          ∙ (λ i. sym (zeroed_taken 78 42 32 payload) i ++ tiles_left rates (box_left rates ids) 4 (sym (zeroed_dropped 78 42 32 payload (omega arith)) i))
          ∙ sym (ap (λ v. behind rates ids 78 4 v less) room)
      by false e = ap (λ v. named v payload) e ∙ sym (ap (λ v. behind rates ids 78 4 v payload) e)

  pub names_and_rates : (h : List ℕ) (k : Kept) → is_picture h ≡ true → plain_picture (entry_left rates ids h k) ≡ entry_left rates ids h (plain_picture k)
  names_and_rates h k e = λ i. record k { payload = (ap (λ bs. named (nat_le 78 (length bs)) bs) (so k.payload) ∙ named_first k.payload ∙ sym (so (named (nat_le 78 (length k.payload)) k.payload))) i }
    where
      so : (payload : List ℕ) → payload_left rates ids (handler_type h) payload ≡ picture_left rates ids payload
      so payload = ap (λ (v : Bool). if v then picture_left rates ids payload else if bytes_eq (handler_type h) (codes "soun") then sound_left rates ids payload else if rates then other_left payload else payload) e
