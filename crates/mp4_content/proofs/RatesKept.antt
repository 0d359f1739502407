-- What is left of the payload of an `esds`, once more: rates and the ID are where they were.
use Rattle.std.proofs.Common.{◌≡◌, ℕ, zero, suc, ◌+◌, ◌*◌, ◌/◌, ◌%◌, ◌<◌, ◌≤◌, Bool, true, false, if◌then◌else◌, List, [], ◌∷◌, length, refl, sym, ap, ◌∙◌, arith}
use Rattle.std.specs.Prelude.{◌==◌, ◌&&◌, ◌||◌, nat_le, nat_lt, slice_index}
use Rattle.mp4_content.specs.format.BitRates.{length_width, length_number, content_at, content_end, has_descriptor, stream_flags, url_at, clock_at, config_at, rates_at, has_id, has_rates, id_zeroed, rates_zeroed, esds_left}
use Rattle.mp4_content.specs.format.Zeros.{zeroed}
use Rattle.mp4_content.proofs.Zeroed.{zeroed_length}
use Rattle.mp4_boxes.specs.format.Bytes.{AreBytes}
use Rattle.mp4_content.proofs.ZeroedAgain.{zeroed_byte, zeroed_turned, zeroed_twice}

zeroed_below : (from count : ℕ) (bytes : List ℕ) (i : ℕ) → i < from → slice_index (zeroed from count bytes) i ≡ slice_index bytes i
zeroed_below from count [] i lt = refl
zeroed_below zero count (b ∷ bytes) i lt = absurd (omega (arith, lt))
zeroed_below (suc from) count (b ∷ bytes) zero lt = refl
zeroed_below (suc from) count (b ∷ bytes) (suc i) lt = zeroed_below from count bytes i (omega (arith, lt))

zeroed_behind : (from count : ℕ) (bytes : List ℕ) (i : ℕ) → from + count ≤ i → slice_index (zeroed from count bytes) i ≡ slice_index bytes i
zeroed_behind from count [] i le = refl
zeroed_behind zero zero (b ∷ bytes) i le = refl
zeroed_behind zero (suc count) (b ∷ bytes) zero le = absurd (omega (arith, le))
zeroed_behind zero (suc count) (b ∷ bytes) (suc i) le = zeroed_behind zero count bytes i (omega (arith, le))
zeroed_behind (suc from) count (b ∷ bytes) zero le = absurd (omega (arith, le))
zeroed_behind (suc from) count (b ∷ bytes) (suc i) le = zeroed_behind from count bytes i (omega (arith, le))

some_width : (c : Bool) (k : ℕ) → 0 < (if c then 1 else suc k)
some_width true k = omega arith
some_width false k = omega arith

both_widths : (c : Bool) (x y at n : ℕ) → at + (if c then 1 else suc y) ≤ n → (suc at + y ≤ n → x ≡ y) → (if c then 1 else suc x) ≡ (if c then 1 else suc y)
both_widths true x y at n le f = refl
both_widths false x y at n le f = ap suc (f (omega (arith, le)))

three_or_five : (c : Bool) → 3 ≤ (if c then 5 else 3)
three_or_five true = omega arith
three_or_five false = omega arith

-- two payloads that are the same from one place on up to another
module _ (p q : List ℕ) (from n : ℕ) (same : (i : ℕ) → from ≤ i → i < n → slice_index q i ≡ slice_index p i) where
  width_same : (m at : ℕ) → from ≤ at → at + length_width m p at ≤ n → length_width m q at ≡ length_width m p at
  unfolding length_width
  width_same zero at ge le = refl
  width_same (suc m) at ge le =
      let small = nat_lt (slice_index p at) 128 in
      let some = some_width small (length_width m p (suc at)) in
      let first : slice_index q at ≡ slice_index p at = same at ge (omega (arith, le, some)) in
      ap (λ (b : ℕ). if nat_lt b 128 then 1 else suc (length_width m q (suc at))) first
      ∙ both_widths small (length_width m q (suc at)) (length_width m p (suc at)) at n le (λ more. width_same m (suc at) (omega (arith, ge)) more)

  number_same : (w at : ℕ) → from ≤ at → at + w ≤ n → length_number w q at ≡ length_number w p at
  unfolding length_number
  number_same zero at ge le = refl
  number_same (suc w) at ge le =
      let before = number_same w at ge (omega (arith, le)) in
      let last = same (at + w) (omega (arith, ge)) (omega (arith, le)) in
      λ i. before i * 128 + last i % 128

  content_same : (at : ℕ) → from ≤ at → content_at p at ≤ n → content_at q at ≡ content_at p at
  unfolding content_at
  content_same at ge le = ap (λ w. at + 1 + w) (width_same 4 (at + 1) (omega (arith, ge)) le)

  end_same : (at : ℕ) → from ≤ at → content_at p at ≤ n → content_end q at ≡ content_end p at
  unfolding content_at content_end
  end_same at ge le =
      let width = width_same 4 (at + 1) (omega (arith, ge)) le in
      let number = number_same (length_width 4 p (at + 1)) (at + 1) (omega (arith, ge)) le in
      λ i. at + 1 + width i + (ap (λ w. length_number w q (at + 1)) width ∙ number) i

  descriptor_same : (tag end at : ℕ) → from ≤ at → content_at p at ≤ n → has_descriptor tag end q at ≡ has_descriptor tag end p at
  unfolding has_descriptor content_at
  descriptor_same tag end at ge le =
      let first = same at ge (omega (arith, le)) in
      let width = width_same 4 (at + 1) (omega (arith, ge)) le in
      let ends = end_same at ge le in
      λ i. (first i == tag) && nat_le (width i) 4 && nat_le (ends i) end

content_more : (p : List ℕ) (at : ℕ) → at < content_at p at
unfolding content_at
content_more p at = omega arith

config_first : (p : List ℕ) → content_at p (config_at p) < rates_at p
unfolding rates_at
config_first p = omega arith

clock_first : (p : List ℕ) → clock_at p ≤ config_at p
unfolding config_at
clock_first p = omega arith

url_first : (p : List ℕ) → url_at p ≤ clock_at p
unfolding clock_at
url_first p = omega arith

flags_first : (p : List ℕ) → content_at p 4 + 3 ≤ url_at p
unfolding url_at
flags_first p = let few = three_or_five (stream_flags p / 128 % 2 == 1) in omega (arith, few)

id_first : (p : List ℕ) → content_at p 4 + 3 ≤ config_at p
id_first p = omega (arith, clock_first p, url_first p, flags_first p)

-- two payloads that are the same up to the ID
module _ (p q : List ℕ) (long : length q ≡ length p) (early : (i : ℕ) → i < content_at p 4 → slice_index q i ≡ slice_index p i) where
  before_id : (i : ℕ) → 0 ≤ i → i < content_at p 4 → slice_index q i ≡ slice_index p i
  before_id i ge lt = early i lt

  first_same : content_at q 4 ≡ content_at p 4
  first_same = content_same p q 0 (content_at p 4) before_id 4 (omega arith) (omega arith)

  first_end : content_end q 4 ≡ content_end p 4
  first_end = end_same p q 0 (content_at p 4) before_id 4 (omega arith) (omega arith)

  outer_same : has_descriptor 3 (length q) q 4 ≡ has_descriptor 3 (length p) p 4
  outer_same = ap (λ k. has_descriptor 3 k q 4) long ∙ descriptor_same p q 0 (content_at p 4) before_id 3 (length p) 4 (omega arith) (omega arith)

  id_same : has_id q ≡ has_id p
  unfolding has_id
  id_same = λ i. outer_same i && nat_le (first_same i + 2) (first_end i)

  -- and behind it up to the rates
  module _ (late : (i : ℕ) → content_at p 4 + 2 ≤ i → i < rates_at p → slice_index q i ≡ slice_index p i) where
    flags_same : stream_flags q ≡ stream_flags p
    unfolding stream_flags
    flags_same = ap (λ k. slice_index q (k + 2)) first_same ∙ late (content_at p 4 + 2) (omega arith) (omega (arith, config_first p, content_more p (config_at p), id_first p))

    url_same : url_at q ≡ url_at p
    unfolding url_at
    url_same = λ i. first_same i + (if flags_same i / 128 % 2 == 1 then 5 else 3)

    url_long : slice_index q (url_at q) ≡ slice_index p (url_at p)
    url_long = ap (λ k. slice_index q k) url_same ∙ late (url_at p) (omega (arith, flags_first p)) (omega (arith, config_first p, content_more p (config_at p), clock_first p, url_first p))

    clock_same : clock_at q ≡ clock_at p
    unfolding clock_at
    clock_same = λ i. url_same i + (if flags_same i / 64 % 2 == 1 then 1 + url_long i else 0)

    config_same : config_at q ≡ config_at p
    unfolding config_at
    config_same = λ i. clock_same i + (if flags_same i / 32 % 2 == 1 then 2 else 0)

    abbrev from : ℕ
    from = content_at p 4 + 2

    config_content : content_at q (config_at p) ≡ content_at p (config_at p)
    config_content = content_same p q from (rates_at p) late (config_at p) (omega (arith, id_first p)) (omega (arith, config_first p))

    config_end : content_end q (config_at p) ≡ content_end p (config_at p)
    config_end = end_same p q from (rates_at p) late (config_at p) (omega (arith, id_first p)) (omega (arith, config_first p))

    rates_same : rates_at q ≡ rates_at p
    unfolding rates_at
    rates_same = ap (λ k. content_at q k + 2) config_same ∙ ap (λ k. k + 2) config_content

    inner_same : has_descriptor 4 (content_end q 4) q (config_at q) ≡ has_descriptor 4 (content_end p 4) p (config_at p)
    inner_same = (λ i. has_descriptor 4 (first_end i) q (config_same i)) ∙ descriptor_same p q from (rates_at p) late 4 (content_end p 4) (config_at p) (omega (arith, id_first p)) (omega (arith, config_first p))

    has_same : has_rates q ≡ has_rates p
    unfolding has_rates
    has_same =
        let room = (λ i. nat_le (rates_same i + 11) (content_end q (config_same i))) ∙ ap (λ k. nat_le (rates_at p + 11) k) config_end in
        λ i. outer_same i && inner_same i && room i

-- ---- zeros in the place of the one, and then of the other

module _ (p : List ℕ) where
  abbrev no_rates : List ℕ
  no_rates = zeroed (rates_at p) 11 p

  abbrev no_id : List ℕ
  no_id = zeroed (content_at p 4) 2 p

  early_rates : (i : ℕ) → i < content_at p 4 → slice_index no_rates i ≡ slice_index p i
  early_rates i lt = zeroed_below (rates_at p) 11 p i (omega (arith, lt, config_first p, content_more p (config_at p), id_first p))

  late_rates : (i : ℕ) → content_at p 4 + 2 ≤ i → i < rates_at p → slice_index no_rates i ≡ slice_index p i
  late_rates i ge lt = zeroed_below (rates_at p) 11 p i lt

  early_id : (i : ℕ) → i < content_at p 4 → slice_index no_id i ≡ slice_index p i
  early_id i lt = zeroed_below (content_at p 4) 2 p i lt

  late_id : (i : ℕ) → content_at p 4 + 2 ≤ i → i < rates_at p → slice_index no_id i ≡ slice_index p i
  late_id i ge lt = zeroed_behind (content_at p 4) 2 p i ge

  rates_of_rates : rates_zeroed no_rates ≡ (if has_rates p then zeroed (rates_at p) 11 no_rates else no_rates)
  rates_of_rates =
      let long = zeroed_length (rates_at p) 11 p in
      λ i. if has_same p no_rates long early_rates late_rates i then zeroed (rates_same p no_rates long early_rates late_rates i) 11 no_rates else no_rates

  rates_of_id : rates_zeroed no_id ≡ (if has_rates p then zeroed (rates_at p) 11 no_id else no_id)
  rates_of_id =
      let long = zeroed_length (content_at p 4) 2 p in
      λ i. if has_same p no_id long early_id late_id i then zeroed (rates_same p no_id long early_id late_id i) 11 no_id else no_id

  id_of_rates : id_zeroed no_rates ≡ (if has_id p then zeroed (content_at p 4) 2 no_rates else no_rates)
  id_of_rates =
      let long = zeroed_length (rates_at p) 11 p in
      λ i. if id_same p no_rates long early_rates i then zeroed (first_same p no_rates long early_rates i) 2 no_rates else no_rates

  id_of_id : id_zeroed no_id ≡ (if has_id p then zeroed (content_at p 4) 2 no_id else no_id)
  id_of_id =
      let long = zeroed_length (content_at p 4) 2 p in
      λ i. if id_same p no_id long early_id i then zeroed (first_same p no_id long early_id i) 2 no_id else no_id

  rates_twice : rates_zeroed (rates_zeroed p) ≡ rates_zeroed p
  rates_twice = by (has_rates p) refl
    where
      by : (v : Bool) → has_rates p ≡ v → rates_zeroed (if v then no_rates else p) ≡ (if v then no_rates else p)
      by true e = rates_of_rates ∙ ap (λ (b : Bool). if b then zeroed (rates_at p) 11 no_rates else no_rates) e ∙ zeroed_twice (rates_at p) 11 p
      by false e = ap (λ (b : Bool). if b then no_rates else p) e

  id_twice : id_zeroed (id_zeroed p) ≡ id_zeroed p
  id_twice = by (has_id p) refl
    where
      by : (v : Bool) → has_id p ≡ v → id_zeroed (if v then no_id else p) ≡ (if v then no_id else p)
      by true e = id_of_id ∙ ap (λ (b : Bool). if b then zeroed (content_at p 4) 2 no_id else no_id) e ∙ zeroed_twice (content_at p 4) 2 p
      by false e = ap (λ (b : Bool). if b then no_id else p) e

  turned : id_zeroed (rates_zeroed p) ≡ rates_zeroed (id_zeroed p)
  turned = by (has_rates p) (has_id p) refl refl
    where
      by : (v w : Bool) → has_rates p ≡ v → has_id p ≡ w → id_zeroed (if v then no_rates else p) ≡ rates_zeroed (if w then no_id else p)
      by true true e f =
          id_of_rates ∙ ap (λ (b : Bool). if b then zeroed (content_at p 4) 2 no_rates else no_rates) f
          ∙ zeroed_turned (content_at p 4) 2 (rates_at p) 11 p
          ∙ sym (rates_of_id ∙ ap (λ (b : Bool). if b then zeroed (rates_at p) 11 no_id else no_id) e)
      by true false e f = id_of_rates ∙ ap (λ (b : Bool). if b then zeroed (content_at p 4) 2 no_rates else no_rates) f ∙ sym (ap (λ (b : Bool). if b then no_rates else p) e)
      by false true e f = ap (λ (b : Bool). if b then no_id else p) f ∙ sym (rates_of_id ∙ ap (λ (b : Bool). if b then zeroed (rates_at p) 11 no_id else no_id) e)
      by false false e f = ap (λ (b : Bool). if b then no_id else p) f ∙ sym (ap (λ (b : Bool). if b then no_rates else p) e)

-- ---- by words

abbrev rates_if : Bool → List ℕ → List ℕ
rates_if v p = if v then rates_zeroed p else p

abbrev id_if : Bool → List ℕ → List ℕ
id_if v p = if v then id_zeroed p else p

rates_or : (a c : Bool) (p : List ℕ) → rates_if a (rates_if c p) ≡ rates_if (a || c) p
rates_or true true p = rates_twice p
rates_or true false p = refl
rates_or false c p = refl

id_or : (b d : Bool) (p : List ℕ) → id_if b (id_if d p) ≡ id_if (b || d) p
id_or true true p = id_twice p
id_or true false p = refl
id_or false d p = refl

turned_if : (b c : Bool) (p : List ℕ) → id_if b (rates_if c p) ≡ rates_if c (id_if b p)
turned_if true true p = turned p
turned_if true false p = refl
turned_if false c p = refl

pub esds_joined : (a b c d : Bool) (payload : List ℕ) → esds_left a b (esds_left c d payload) ≡ esds_left (a || c) (b || d) payload
esds_joined a b c d payload = ap (rates_if a) (turned_if b c (id_if d payload)) ∙ rates_or a c (id_if b (id_if d payload)) ∙ ap (rates_if (a || c)) (id_or b d payload)

rates_bytes : (payload : List ℕ) → AreBytes payload → AreBytes (rates_zeroed payload)
rates_bytes payload are = by (has_rates payload)
  where
    by : (v : Bool) → AreBytes (if v then zeroed (rates_at payload) 11 payload else payload)
    by true = zeroed_byte (rates_at payload) 11 payload are
    by false = are

id_bytes : (payload : List ℕ) → AreBytes payload → AreBytes (id_zeroed payload)
id_bytes payload are = by (has_id payload)
  where
    by : (v : Bool) → AreBytes (if v then zeroed (content_at payload 4) 2 payload else payload)
    by true = zeroed_byte (content_at payload 4) 2 payload are
    by false = are

pub esds_bytes : (rates ids : Bool) (payload : List ℕ) → AreBytes payload → AreBytes (esds_left rates ids payload)
esds_bytes true true payload are = rates_bytes (id_zeroed payload) (id_bytes payload are)
esds_bytes true false payload are = rates_bytes payload are
esds_bytes false true payload are = id_bytes payload are
esds_bytes false false payload are = are
