-- What is left of payloads without labels, bit rates and IDs: twice is once by all words, no longer, and well formed.
use Rattle.std.proofs.Common.{◌≡◌, ℕ, zero, suc, ◌≤◌, Bool, true, false, if◌then◌else◌, List, [], ◌∷◌, length, take, refl, sym, ap, ◌∙◌, arith, length-append}
use Rattle.std.specs.Prelude.{◌||◌, nat_le, map, codes, bytes_eq}
use Rattle.std.specs.List.{AllByRecursion, flat_map}
use Rattle.std.proofs.lemmas.List.{length-take-le}
use Rattle.mp4_boxes.specs.format.Bytes.{AreBytes, field}
use Rattle.mp4_boxes.proofs.Each.{each_value}
use Rattle.mp4_boxes.proofs.OfBytes.{bytes_taken}
use Rattle.mp4_boxes.proofs.Plain.{length_mapped}
use Rattle.mp4_head.specs.format.Head.{Kept, IsDescription, handler_type}
use Rattle.mp4_head.specs.format.Writing.{kept_bytes}
use Rattle.mp4_content.specs.declared.without.Without.{Without}
use Rattle.mp4_content.specs.format.BitRates.{entries_left, entry_left, payload_left}
use Rattle.mp4_content.specs.format.Reduced.{reduce_descriptions, plain_handler, plain_picture, plain_descriptions, is_picture}
use Rattle.mp4_content.specs.format.Zeros.{zeroed}
use Rattle.mp4_content.proofs.Zeroed.{zeroed_length}
use Rattle.mp4_content.specs.format.ReducedLaws.{both}
use Rattle.mp4_content.proofs.Unrated.{entry_good, entry_joined, names_and_rates, payload_short}
use Rattle.mp4_content.proofs.ZeroedAgain.{zeroed_taken, zeroed_twice, zeroed_turned, zeroed_byte}
use Rattle.mp4_content.proofs.RatesShort.{box_short}

-- ---- `hdlr`

take_again : (n : ℕ) (bytes : List ℕ) → take n (take n bytes) ≡ take n bytes
take_again zero bytes = refl
take_again (suc n) [] = refl
take_again (suc n) (b ∷ bytes) = ap (λ bs. b ∷ bs) (take_again n bytes)

pub handler_twice : (h : List ℕ) → plain_handler (plain_handler h) ≡ plain_handler h
handler_twice h =
    let first = take 24 h in
    let once = zeroed 12 12 first in
    let same : take 24 (zeroed 4 4 once) ≡ zeroed 4 4 once =
    zeroed_taken 24 4 4 once ∙ ap (zeroed 4 4) (zeroed_taken 24 12 12 first ∙ ap (zeroed 12 12) (take_again 24 h)) in
    ap (λ bs. zeroed 4 4 (zeroed 12 12 bs)) same
    ∙ ap (zeroed 4 4) (zeroed_turned 12 12 4 4 once ∙ ap (zeroed 4 4) (zeroed_twice 12 12 first))
    ∙ zeroed_twice 4 4 once

-- it names the same type
pub type_same : (h : List ℕ) → handler_type (plain_handler h) ≡ handler_type h
type_same [] = refl
type_same (a ∷ []) = refl
type_same (a ∷ b ∷ []) = refl
type_same (a ∷ b ∷ c ∷ []) = refl
type_same (a ∷ b ∷ c ∷ d ∷ []) = refl
type_same (a ∷ b ∷ c ∷ d ∷ e ∷ []) = refl
type_same (a ∷ b ∷ c ∷ d ∷ e ∷ f ∷ []) = refl
type_same (a ∷ b ∷ c ∷ d ∷ e ∷ f ∷ g ∷ []) = refl
type_same (a ∷ b ∷ c ∷ d ∷ e ∷ f ∷ g ∷ h ∷ []) = refl
type_same (a ∷ b ∷ c ∷ d ∷ e ∷ f ∷ g ∷ h ∷ i ∷ []) = refl
type_same (a ∷ b ∷ c ∷ d ∷ e ∷ f ∷ g ∷ h ∷ i ∷ j ∷ []) = refl
type_same (a ∷ b ∷ c ∷ d ∷ e ∷ f ∷ g ∷ h ∷ i ∷ j ∷ k ∷ []) = refl
type_same (a ∷ b ∷ c ∷ d ∷ e ∷ f ∷ g ∷ h ∷ i ∷ j ∷ k ∷ l ∷ rest) = refl

handler_length : (h : List ℕ) → length (plain_handler h) ≡ length (take 24 h)
handler_length h = zeroed_length 4 4 (zeroed 12 12 (take 24 h)) ∙ zeroed_length 12 12 (take 24 h)

taken_shorter : (n : ℕ) (bytes : List ℕ) → length (take n bytes) ≤ length bytes
taken_shorter zero bytes = omega arith
taken_shorter (suc n) [] = omega arith
taken_shorter (suc n) (b ∷ bytes) = let more = taken_shorter n bytes in omega (arith, more)

pub handler_shorter : (h : List ℕ) → length (plain_handler h) ≤ length h
handler_shorter h = let same = handler_length h in let few = taken_shorter 24 h in omega (arith, same, few)

pub handler_room : (h : List ℕ) → 24 ≤ length h → 24 ≤ length (plain_handler h)
handler_room h room = let same = handler_length h in let all = length-take-le 24 h room in omega (arith, same, all)

pub handler_bytes : (h : List ℕ) → AreBytes h → AreBytes (plain_handler h)
handler_bytes h are = zeroed_byte 4 4 (zeroed 12 12 (take 24 h)) (zeroed_byte 12 12 (take 24 h) (bytes_taken 24 h are))

-- ---- sample descriptions

-- what is left by three words
abbrev pub rates_and_ids_by : Bool → Bool → List ℕ → List Kept → List Kept
rates_and_ids_by rates ids h ds = if rates || ids then entries_left rates ids h ds else ds

abbrev pub reduce_by : Bool → Bool → Bool → List ℕ → List Kept → List Kept
reduce_by labels rates ids h ds = if labels then plain_descriptions h (rates_and_ids_by rates ids h ds) else rates_and_ids_by rates ids h ds

abbrev plain : Bool → List ℕ → List ℕ
plain whole payload = if whole then zeroed 42 32 payload else payload

plain_length : (v : Bool) (payload : List ℕ) → length (plain v payload) ≡ length payload
plain_length true payload = zeroed_length 42 32 payload
plain_length false payload = refl

plain_twice : (v : Bool) (payload : List ℕ) → plain v (plain v payload) ≡ plain v payload
plain_twice true payload = zeroed_twice 42 32 payload
plain_twice false payload = refl

pub picture_twice : (k : Kept) → plain_picture (plain_picture k) ≡ plain_picture k
picture_twice k =
    let v = nat_le 78 (length k.payload) in
    let same : nat_le 78 (length (plain v k.payload)) ≡ v = ap (λ n. nat_le 78 n) (plain_length v k.payload) in
    λ i. record k { payload = (ap (λ w. plain w (plain v k.payload)) same ∙ plain_twice v k.payload) i }

map_twice : {A : Type 0} (f : A → A) → ((x : A) → f (f x) ≡ f x) → (xs : List A) → map f (map f xs) ≡ map f xs
map_twice f one [] = refl
map_twice f one (x ∷ xs) = λ i. one x i ∷ map_twice f one xs i

by_kind_twice : (v : Bool) (ds : List Kept) → (if v then map plain_picture (if v then map plain_picture ds else ds) else (if v then map plain_picture ds else ds)) ≡ (if v then map plain_picture ds else ds)
by_kind_twice true ds = map_twice plain_picture picture_twice ds
by_kind_twice false ds = refl

-- it goes by the type that a handler names
pub same_by : (a b c : Bool) (h k : List ℕ) → handler_type h ≡ handler_type k → (ds : List Kept) → reduce_by a b c h ds ≡ reduce_by a b c k ds
same_by a b c h k kind ds =
    let rest : rates_and_ids_by b c h ds ≡ rates_and_ids_by b c k ds = ap (λ (kind : List ℕ). if b || c then map (λ (x : Kept). record x { payload = payload_left b c kind x.payload }) ds else ds) kind in
    λ i. if a then (if bytes_eq (kind i) (codes "vide") then map plain_picture (rest i) else rest i) else rest i

-- descriptions of a track with this handler
module _ (h : List ℕ) where
  plain_again : (ds : List Kept) → plain_descriptions h (plain_descriptions h ds) ≡ plain_descriptions h ds
  plain_again ds = by_kind_twice (is_picture h) ds

  entries_joined : (a b c d : Bool) (ds : List Kept) → entries_left a b h (entries_left c d h ds) ≡ entries_left (a || c) (b || d) h ds
  entries_joined a b c d [] = refl
  entries_joined a b c d (x ∷ ds) = λ i. entry_joined a b c d h x i ∷ entries_joined a b c d ds i

  turned_each : (rates ids : Bool) → is_picture h ≡ true → (ds : List Kept) → map plain_picture (entries_left rates ids h ds) ≡ entries_left rates ids h (map plain_picture ds)
  turned_each rates ids e [] = refl
  turned_each rates ids e (d ∷ ds) = λ i. names_and_rates rates ids h d e i ∷ turned_each rates ids e ds i

  -- in any order
  plain_turned : (rates ids : Bool) (ds : List Kept) → plain_descriptions h (entries_left rates ids h ds) ≡ entries_left rates ids h (plain_descriptions h ds)
  plain_turned rates ids ds = by (is_picture h) refl
    where
      by : (v : Bool) → is_picture h ≡ v → (if v then map plain_picture (entries_left rates ids h ds) else entries_left rates ids h ds) ≡ entries_left rates ids h (if v then map plain_picture ds else ds)
      by true e = turned_each rates ids e ds
      by false e = refl

  abbrev left_by : Bool → Bool → Bool → List Kept → List Kept
  left_by labels rates ids ds = reduce_by labels rates ids h ds

  abbrev plain_if : Bool → List Kept → List Kept
  plain_if v ds = if v then plain_descriptions h ds else ds

  abbrev without : Bool → Bool → List Kept → List Kept
  without rates ids ds = rates_and_ids_by rates ids h ds

  turned_if : (a b c : Bool) (ds : List Kept) → without a b (plain_if c ds) ≡ plain_if c (without a b ds)
  turned_if true b true ds = sym (plain_turned true b ds)
  turned_if false true true ds = sym (plain_turned false true ds)
  turned_if false false true ds = refl
  turned_if a b false ds = refl

  plain_or : (a c : Bool) (ds : List Kept) → plain_if a (plain_if c ds) ≡ plain_if (a || c) ds
  plain_or true true ds = plain_again ds
  plain_or true false ds = refl
  plain_or false c ds = refl

  without_or : (a b c d : Bool) (ds : List Kept) → without a b (without c d ds) ≡ without (a || c) (b || d) ds
  without_or true b true d ds = entries_joined true b true d ds
  without_or true b false true ds = entries_joined true b false true ds
  without_or true true false false ds = refl
  without_or true false false false ds = refl
  without_or false true true d ds = entries_joined false true true d ds
  without_or false true false true ds = entries_joined false true false true ds
  without_or false true false false ds = refl
  without_or false false c d ds = refl

  left_twice : (a b c x y z : Bool) (ds : List Kept) → left_by a b c (left_by x y z ds) ≡ left_by (a || x) (b || y) (c || z) ds
  left_twice a b c x y z ds = ap (plain_if a) (turned_if b c x (without y z ds)) ∙ plain_or a x (without b c (without y z ds)) ∙ ap (plain_if (a || x)) (without_or b c y z ds)

  -- a plain handler names the same type
  left_same : (a b c : Bool) (ds : List Kept) → reduce_by a b c (plain_handler h) ds ≡ left_by a b c ds
  left_same a b c ds = same_by a b c (plain_handler h) h (type_same h) ds

-- left out by one of two words, or by both
pub descriptions_twice : (l m : Without) (h : List ℕ) (ds : List Kept) → reduce_descriptions l (if m.labels then plain_handler h else h) (reduce_descriptions m h ds) ≡ reduce_descriptions (both l m) h ds
descriptions_twice l m h ds = by m.labels ∙ left_twice h l.labels l.bitrates l.ids m.labels m.bitrates m.ids ds
  where
    by : (v : Bool) → reduce_by l.labels l.bitrates l.ids (if v then plain_handler h else h) (reduce_descriptions m h ds) ≡ left_by h l.labels l.bitrates l.ids (reduce_descriptions m h ds)
    by true = left_same h l.labels l.bitrates l.ids (reduce_descriptions m h ds)
    by false = refl

plain_many : (h : List ℕ) (ds : List Kept) → length (plain_descriptions h ds) ≡ length ds
plain_many h ds = by (is_picture h)
  where
    by : (v : Bool) → length (if v then map plain_picture ds else ds) ≡ length ds
    by true = length_mapped plain_picture ds
    by false = refl

-- without rates and IDs, which leave the names of compressors
module _ (P : List Kept → Type 0) (h : List ℕ) (ds : List Kept) where
  rates_and_ids_so : (rates ids : Bool) → P (entries_left rates ids h ds) → P ds → P (rates_and_ids_by rates ids h ds)
  rates_and_ids_so true ids p q = p
  rates_and_ids_so false true p q = p
  rates_and_ids_so false false p q = q

left_so : (P : List Kept → Type 0) (h : List ℕ) (ds : List Kept) → ((es : List Kept) → P es → P (plain_descriptions h es)) → (labels : Bool) → P ds → P (if labels then plain_descriptions h ds else ds)
left_so P h ds f true p = f ds p
left_so P h ds f false p = p

pub descriptions_many : (l : Without) (h : List ℕ) (ds : List Kept) → length (reduce_descriptions l h ds) ≡ length ds
descriptions_many l h ds = left_so (λ es. length es ≡ length ds) h (rates_and_ids_by l.bitrates l.ids h ds) (λ es e. plain_many h es ∙ e) l.labels
    (rates_and_ids_so (λ es. length es ≡ length ds) h ds l.bitrates l.ids (length_mapped (entry_left l.bitrates l.ids h) ds) refl)

picture_less : (k : Kept) → length (kept_bytes (plain_picture k)) ≤ length (kept_bytes k)
picture_less k = let same = plain_length (nat_le 78 (length k.payload)) k.payload in box_short k (plain_picture k).payload (omega (arith, same))

entry_less : (rates ids : Bool) (h : List ℕ) (k : Kept) → length (kept_bytes (entry_left rates ids h k)) ≤ length (kept_bytes k)
entry_less rates ids h k = box_short k (entry_left rates ids h k).payload (payload_short rates ids (handler_type h) k.payload)

map_less : (f : Kept → Kept) → ((k : Kept) → length (kept_bytes (f k)) ≤ length (kept_bytes k)) → (ds : List Kept) → length (flat_map kept_bytes (map f ds)) ≤ length (flat_map kept_bytes ds)
map_less f less [] = omega arith
map_less f less (d ∷ ds) =
    let one = less d in
    let more = map_less f less ds in
    let now = length-append (kept_bytes (f d)) (flat_map kept_bytes (map f ds)) in
    let was = length-append (kept_bytes d) (flat_map kept_bytes ds) in
    omega (arith, one, more, now, was)

plain_less : (h : List ℕ) (ds : List Kept) → length (flat_map kept_bytes (plain_descriptions h ds)) ≤ length (flat_map kept_bytes ds)
plain_less h ds = by (is_picture h)
  where
    by : (v : Bool) → length (flat_map kept_bytes (if v then map plain_picture ds else ds)) ≤ length (flat_map kept_bytes ds)
    by true = map_less plain_picture picture_less ds
    by false = omega arith

pub descriptions_less : (l : Without) (h : List ℕ) (ds : List Kept) → length (flat_map kept_bytes (reduce_descriptions l h ds)) ≤ length (flat_map kept_bytes ds)
descriptions_less l h ds =
    let most = length (flat_map kept_bytes ds) in
    left_so (λ es. length (flat_map kept_bytes es) ≤ most) h (rates_and_ids_by l.bitrates l.ids h ds) (λ es e. let less = plain_less h es in omega (arith, less, e)) l.labels
    (rates_and_ids_so (λ es. length (flat_map kept_bytes es) ≤ most) h ds l.bitrates l.ids (map_less (entry_left l.bitrates l.ids h) (entry_less l.bitrates l.ids h) ds) (omega arith))

-- well formed
reference_same : (v : Bool) (payload : List ℕ) → 8 ≤ length payload → field (plain v payload) 6 2 ≡ field payload 6 2
reference_same false payload room = refl
reference_same true [] room = refl
reference_same true (a ∷ []) room = refl
reference_same true (a ∷ b ∷ []) room = refl
reference_same true (a ∷ b ∷ c ∷ []) room = refl
reference_same true (a ∷ b ∷ c ∷ d ∷ []) room = refl
reference_same true (a ∷ b ∷ c ∷ d ∷ e ∷ []) room = refl
reference_same true (a ∷ b ∷ c ∷ d ∷ e ∷ f ∷ []) room = refl
reference_same true (a ∷ b ∷ c ∷ d ∷ e ∷ f ∷ g ∷ []) room = refl
reference_same true (a ∷ b ∷ c ∷ d ∷ e ∷ f ∷ g ∷ h ∷ rest) room = refl

plain_bytes : (v : Bool) (payload : List ℕ) → AreBytes payload → AreBytes (plain v payload)
plain_bytes true payload are = zeroed_byte 42 32 payload are
plain_bytes false payload are = are

picture_good : (k : Kept) → IsDescription k → IsDescription (plain_picture k)
picture_good k h =
    let v = nat_le 78 (length k.payload) in
    let same = plain_length v k.payload in
    let room = h.room in
    record {
      kind_length = h.kind_length;
      kind = h.kind;
      bytes = plain_bytes v k.payload h.bytes;
      room = omega (arith, same, room);
      data_reference = reference_same v k.payload h.room ∙ h.data_reference;
    }

mapped_good : (v : Bool) (ds : List Kept) → AllByRecursion IsDescription ds → AllByRecursion IsDescription (if v then map plain_picture ds else ds)
mapped_good true ds h = each_value IsDescription IsDescription plain_picture picture_good ds h
mapped_good false ds h = h

pub descriptions_good : (l : Without) (h : List ℕ) (ds : List Kept) → AllByRecursion IsDescription ds → AllByRecursion IsDescription (reduce_descriptions l h ds)
descriptions_good l h ds all = left_so (AllByRecursion IsDescription) h (rates_and_ids_by l.bitrates l.ids h ds) (λ es e. mapped_good (is_picture h) es e) l.labels
    (rates_and_ids_so (AllByRecursion IsDescription) h ds l.bitrates l.ids (each_value IsDescription IsDescription (entry_left l.bitrates l.ids h) (entry_good l.bitrates l.ids h) ds all) all)
