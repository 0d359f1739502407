-- How many microseconds a track begins later is found by whole seconds, and parts of one apart from them.
use Rattle.std.proofs.Common.{◌≡◌, ◌⊎◌, ⊎_elim, Bool, true, false, refl, ℕ, ◌+◌, ◌-◌, ◌*◌, ◌/◌, ◌%◌, ◌<◌, ◌≤◌, ◌^◌, min, sym, ap, ◌∙◌, arith, mul-pos, mul_comm, mod-lt, pos, ◌+ℤ◌, ◌-ℤ◌, ◌*ℤ◌}
use Rattle.std.specs.Prelude.{int_lt, nat_lt}
use Rattle.std.proofs.lemmas.Int.{ints}
use Rattle.std.proofs.Math.Nat.{div-add-mod', div-le_of_le-mul, add-mul-div_right, mul-le-mul_right, mul-sub, zero-div, sub-eq-zero_of_le}
use borrow.Author.Differences.{up, down}
use Rattle.mp4_boxes.proofs.Plain.{nat_lt_is, nat_lt_yes, not_true_is}
use Rattle.mp4_present.specs.format.Waiting.{microseconds}
use Rattle.mp4_content.specs.format.LeadIns.{Moment, max_duration, later}
use Rattle.mp4_content.specs.words.Delays.{is_before, moment_of}
use Rattle.mp4_content.specs.declared.delays.Beginning.{Beginning}
use Rattle.mp4_content.proofs.LeadInsMoments.{parts, ahead, later_is, same_quotient, minus_many, divided_less, either}

-- ---- three numbers of ticks

one_part : (q p a s m : ℕ) → q * s + p ≡ a → q * (s * m) + p * m ≡ a * m
one_part q p a s m h = let e : (q * s + p) * m ≡ a * m = ap (λ n. n * m) h in omega (arith, e)

three_ways : (x y z r s t u v w a b c : ℕ) → x * (r * (s * t)) + u * (s * t) ≡ a * (s * t) → y * (s * (r * t)) + v * (r * t) ≡ b * (r * t) → z * (t * (r * s)) + w * (r * s) ≡ c * (r * s)
    → (x + y + z) * (r * (s * t)) + (u * (s * t) + v * (r * t) + w * (r * s)) ≡ a * (s * t) + b * (r * t) + c * (r * s)
three_ways x y z r s t u v w a b c h k l = omega (arith, h, k, l)

pub three_parts : (a r b s c t : ℕ) → (a / r + b / s + c / t) * (r * (s * t)) + (a % r * (s * t) + b % s * (r * t) + c % t * (r * s)) ≡ a * (s * t) + b * (r * t) + c * (r * s)
three_parts a r b s c t =
    three_ways (a / r) (b / s) (c / t) r s t (a % r) (b % s) (c % t) a b c
    (one_part (a / r) (a % r) a r (s * t) (div-add-mod' a r)) (one_part (b / s) (b % s) b s (r * t) (div-add-mod' b s)) (one_part (c / t) (c % t) c t (r * s) (div-add-mod' c t))

-- what is left over a second is less than it
left_less : (a r m : ℕ) → 0 < r → a % r * m ≤ r * m
left_less a r m some = let less = mod-lt a some in mul-le-mul_right m (omega (arith, less))

all_less : (u v w r s t : ℕ) → u ≤ r * (s * t) → v ≤ s * (r * t) → w ≤ t * (r * s) → u + v + w ≤ 3 * (r * (s * t))
all_less u v w r s t h k l = omega (arith, h, k, l)

pub parts_less : (a r b s c t : ℕ) → 0 < r → 0 < s → 0 < t → a % r * (s * t) + b % s * (r * t) + c % t * (r * s) ≤ 3 * (r * (s * t))
parts_less a r b s c t some more third = all_less (a % r * (s * t)) (b % s * (r * t)) (c % t * (r * s)) r s t (left_less a r (s * t) some) (left_less b s (r * t) more) (left_less c t (r * s) third)

-- the second side is said with both turned
pub turned : (s r q w l e d g : ℕ) → d * (s * (q * r)) + g ≡ w * (q * r) + l * (s * r) + e * (s * q) → d * (s * (r * q)) + g ≡ w * (r * q) + e * (s * q) + l * (s * r)
turned s r q w l e d g h = omega (arith, h)

pub turned_less : (s r q g : ℕ) → g ≤ 3 * (s * (q * r)) → g ≤ 3 * (s * (r * q))
turned_less s r q g h = omega (arith, h)

-- ---- rounded down

minus_whole : (z m k : ℕ) → 0 < k → z / k - m ≡ (z - m * k) / k
minus_whole z m k some =
    ⊎_elim
    (λ less.
    let whole = add-mul-div_right (z - m * k) m some in
    let same : z - m * k + m * k ≡ z = omega (arith, less) in
    let is : z / k ≡ (z - m * k) / k + m = ap (λ n. n / k) (sym same) ∙ whole in
    omega (arith, is))
    (λ more.
    let least = divided_less z (m * k) k some more in
    let whole : (0 + m * k) / k ≡ 0 / k + m = add-mul-div_right 0 m some in
    let none = zero-div k in
    let start : m * k ≡ 0 + m * k = omega arith in
    let whole_is = ap (λ n. n / k) start ∙ whole in
    let same : m * k / k ≡ m = omega (arith, whole_is, none) in
    let nothing : z - m * k ≡ 0 = sub-eq-zero_of_le more in
    let left : z / k - m ≡ 0 = omega (arith, least, same) in
    left ∙ sym (ap (λ n. n / k) nothing ∙ none))
    (either (m * k) z)

crossed : (a b p q : ℕ) → a + q ≡ p + b → a - b ≡ p - q
crossed a b p q h = omega (arith, h)

same_less : (e f d g k n t : ℕ) → t + g ≡ f + 3 * k → t * n + e * n * k - (d + 3) * n * k ≡ (e * k + f - (d * k + g)) * n
same_less e f d g k n t h =
    let many : (t + g) * n ≡ (f + 3 * k) * n = ap (λ z. z * n) h in
    let a = t * n + e * n * k in
    let b = (d + 3) * n * k in
    crossed a b (n * (e * k + f)) (n * (d * k + g)) (omega (arith, many)) ∙ sym (mul-sub n (e * k + f) (d * k + g)) ∙ mul_comm n (e * k + f - (d * k + g))

whole_and_part : (e f d g k n t : ℕ) → 0 < k → t + g ≡ f + 3 * k → e * n + t * n / k - (d + 3) * n ≡ (e * k + f - (d * k + g)) * n / k
whole_and_part e f d g k n t some h =
    let whole : (t * n + e * n * k) / k ≡ t * n / k + e * n = add-mul-div_right (t * n) (e * n) some in
    let is : e * n + t * n / k - (d + 3) * n ≡ (t * n + e * n * k) / k - (d + 3) * n = omega (arith, whole) in
    is ∙ minus_whole (t * n + e * n * k) ((d + 3) * n) k some ∙ ap (λ z. z / k) (same_less e f d g k n t h)

part_short : (t k n : ℕ) → t ≤ 6 * k → t * n / k ≤ 6 * n
part_short t k n h = let many = mul-le-mul_right n h in div-le_of_le-mul k (omega (arith, many))

-- as it is found, with numbers that are no larger than they have to be
capped : (e d part : ℕ) → part ≤ 6 * microseconds
    → min (min (e - (d + 3)) (2 ^ 64) * microseconds + part - min (d + 3 - e) 6 * microseconds) (2 ^ 64 - 1) ≡ min max_duration (e * microseconds + part - (d + 3) * microseconds)
capped e d part h = omega (arith, h)

-- ---- of two tracks

ticks_are : (waits r later earlier s : ℕ) → let u = pos (waits * r) +ℤ (pos later -ℤ pos earlier) *ℤ pos s in up u + earlier * s ≡ down u + waits * r + later * s
ticks_are waits r later earlier s =
    let b = pos later -ℤ pos earlier in
    let u = pos (waits * r) +ℤ b *ℤ pos s in
    let b_is : up b + earlier ≡ down b + later = omega (arith, ints) in
    let many : (up b + earlier) * s ≡ (down b + later) * s = ap (λ n. n * s) b_is in
    let u_is : up u + down b * s ≡ down u + waits * r + up b * s = omega (arith, ints) in
    omega (arith, many, u_is)

both_ahead : (a b c d s r q w l e v m f : ℕ) → a + e * s ≡ b + w * r + l * s → c + f * s ≡ d + v * q + m * s
    → (a * (s * q) + d * (s * r)) * (s * (r * q)) + (v * (r * q) + e * (s * q) + m * (s * r)) * (s * r * (s * q))
    ≡ (w * (r * q) + l * (s * q) + f * (s * r)) * (s * r * (s * q)) + (c * (s * r) + b * (s * q)) * (s * (r * q))
both_ahead a b c d s r q w l e v m f h k =
    let one : (a + e * s) * (s * q * (s * (r * q))) ≡ (b + w * r + l * s) * (s * q * (s * (r * q))) = ap (λ n. n * (s * q * (s * (r * q)))) h in
    let two : (c + f * s) * (s * r * (s * (r * q))) ≡ (d + v * q + m * s) * (s * r * (s * (r * q))) = ap (λ n. n * (s * r * (s * (r * q)))) k in
    omega (arith, one, two)

-- how much later the first is, over the product of all timescales
pub later_over : (s : ℕ) (x y : Beginning) → 0 < s → 0 < x.timescale → 0 < y.timescale
    → later (moment_of s x) (moment_of s y)
    ≡ min max_duration ((x.waits * (x.timescale * y.timescale) + x.later * (s * y.timescale) + y.earlier * (s * x.timescale) - (y.waits * (x.timescale * y.timescale) + x.earlier * (s * y.timescale) + y.later * (s * x.timescale))) * microseconds / (s * (x.timescale * y.timescale)))
later_over s x y some more third =
    let r = x.timescale in
    let q = y.timescale in
    let u = moment_of s x in
    let v = moment_of s y in
    let a = x.waits * (r * q) + x.later * (s * q) + y.earlier * (s * r) in
    let b = y.waits * (r * q) + x.earlier * (s * q) + y.later * (s * r) in
    later_is u v
    ∙ ap (min max_duration)
    (same_quotient microseconds (ahead u v - ahead v u) (a - b) (u.scale * v.scale) (s * (r * q)) (mul-pos (mul-pos some more) (mul-pos some third)) (mul-pos some (mul-pos more third))
    (minus_many (ahead u v) (ahead v u) a b (u.scale * v.scale) (s * (r * q))
    (both_ahead (up u.ticks) (down u.ticks) (up v.ticks) (down v.ticks) s r q x.waits x.later x.earlier y.waits y.later y.earlier (ticks_are x.waits r x.later x.earlier s) (ticks_are y.waits q y.later y.earlier s))))

pub later_found : (s : ℕ) (x y : Beginning) → 0 < s → 0 < x.timescale → 0 < y.timescale → (k e f d g : ℕ) → k ≡ s * (x.timescale * y.timescale)
    → e * (s * (x.timescale * y.timescale)) + f ≡ x.waits * (x.timescale * y.timescale) + x.later * (s * y.timescale) + y.earlier * (s * x.timescale)
    → d * (s * (x.timescale * y.timescale)) + g ≡ y.waits * (x.timescale * y.timescale) + x.earlier * (s * y.timescale) + y.later * (s * x.timescale)
    → f ≤ 3 * (s * (x.timescale * y.timescale)) → g ≤ 3 * (s * (x.timescale * y.timescale))
    → min (min (e - (d + 3)) (2 ^ 64) * microseconds + (f + 3 * k - g) * microseconds / k - min (d + 3 - e) 6 * microseconds) (2 ^ 64 - 1) ≡ later (moment_of s x) (moment_of s y)
later_found s x y some more third k e f d g all after before f_less g_less =
    let c = s * (x.timescale * y.timescale) in
    let above : 0 < c = mul-pos some (mul-pos more third) in
    let t = f + 3 * c - g in
    let adds : t + g ≡ f + 3 * c = omega (arith, g_less) in
    let few : t ≤ 6 * c = omega (arith, f_less) in
    (λ i. min (min (e - (d + 3)) (2 ^ 64) * microseconds + (f + 3 * all i - g) * microseconds / all i - min (d + 3 - e) 6 * microseconds) (2 ^ 64 - 1))
    ∙ capped e d (t * microseconds / c) (part_short t c microseconds few)
    ∙ ap (min max_duration) (whole_and_part e f d g c microseconds t above adds)
    ∙ (λ i. min max_duration ((after i - before i) * microseconds / c))
    ∙ sym (later_over s x y some more third)

-- ---- which is first

lt_no : (a b : ℕ) → b ≤ a → nat_lt a b ≡ false
lt_no a b h = not_true_is (nat_lt a b) (λ e. let lt = nat_lt_is a b e in omega (arith, lt, h))

-- by so many whole ones, and less than one
whole_less : (x y k p q : ℕ) → p < k → q < k → x < y → x * k + p < y * k + q
whole_less x y k p q h l less = let more : (x + 1) * k ≤ y * k = mul-le-mul_right k (omega (arith, less)) in omega (arith, more, h, l)

by_whole : (x y k p q : ℕ) → p < k → q < k → (x ≡ y → ⊥) → nat_lt x y ≡ nat_lt (x * k + p) (y * k + q)
by_whole x y k p q h l other =
    ⊎_elim
    (λ less. let small : x < y = ⊎_elim (λ (lt : x < y). lt) (λ same. absurd (other same)) (strictly x y less) in nat_lt_yes x y small ∙ sym (nat_lt_yes _ _ (whole_less x y k p q h l small)))
    (λ more. let large : y < x = ⊎_elim (λ (lt : y < x). lt) (λ same. absurd (other (sym same))) (strictly y x more) in let least = whole_less y x k q p l h large in lt_no x y more ∙ sym (lt_no _ _ (omega (arith, least))))
    (either x y)
  where
    strictly : (m n : ℕ) → m ≤ n → (m < n) ⊎ (m ≡ n)
    strictly m n le = grind arith

by_part : (x k p q : ℕ) → nat_lt p q ≡ nat_lt (x * k + p) (x * k + q)
by_part x k p q =
    ⊎_elim
    (λ (less : p + 1 ≤ q). nat_lt_yes p q (omega (arith, less)) ∙ sym (nat_lt_yes _ _ (omega (arith, less))))
    (λ (more : q ≤ p). lt_no p q more ∙ sym (lt_no _ _ (omega (arith, more))))
    (less_or p q)
  where
    less_or : (m n : ℕ) → (m + 1 ≤ n) ⊎ (n ≤ m)
    less_or m n = grind arith

split : (e f k : ℕ) → (e + f / k) * k + f % k ≡ e * k + f
split e f k = let parted = div-add-mod' f k in omega (arith, parted)

pub wholes_differ : (e f d g k : ℕ) → 0 < k → (e + f / k ≡ d + g / k → ⊥) → nat_lt (e + f / k) (d + g / k) ≡ nat_lt (e * k + f) (d * k + g)
wholes_differ e f d g k some other = by_whole (e + f / k) (d + g / k) k (f % k) (g % k) (mod-lt f some) (mod-lt g some) other ∙ (λ i. nat_lt (split e f k i) (split d g k i))

pub wholes_are_same : (e f d g k : ℕ) → e + f / k ≡ d + g / k → nat_lt (f % k) (g % k) ≡ nat_lt (e * k + f) (d * k + g)
wholes_are_same e f d g k same =
    by_part (e + f / k) k (f % k) (g % k)
    ∙ (λ i. nat_lt (split e f k i) (same i * k + g % k))
    ∙ ap (λ n. nat_lt (e * k + f) n) (split d g k)

crossed_less : (p q a b e f : ℕ) → 0 < e → 0 < f → p * e + b * f ≡ a * f + q * e → nat_lt b a ≡ nat_lt q p
crossed_less p q a b e f some more h =
    ⊎_elim
    (λ (less : q + 1 ≤ p).
    let one : (q + 1) * e ≤ p * e = mul-le-mul_right e less in
    let fewer : b < a = ⊎_elim (λ (le : a ≤ b). let two : a * f ≤ b * f = mul-le-mul_right f le in absurd (omega (arith, one, two, h, some))) (λ (lt : b + 1 ≤ a). omega (arith, lt)) (le_or a b) in
    nat_lt_yes b a fewer ∙ sym (nat_lt_yes q p (omega (arith, less))))
    (λ (most : p ≤ q).
    let one : p * e ≤ q * e = mul-le-mul_right e most in
    let least : a ≤ b = ⊎_elim (λ (le : a ≤ b). le) (λ (lt : b + 1 ≤ a). let two : (b + 1) * f ≤ a * f = mul-le-mul_right f lt in absurd (omega (arith, one, two, h, more))) (le_or a b) in
    lt_no b a least ∙ sym (lt_no q p most))
    (lt_or q p)
  where
    le_or : (m n : ℕ) → (m ≤ n) ⊎ (n + 1 ≤ m)
    le_or m n = grind arith

    lt_or : (m n : ℕ) → (m + 1 ≤ n) ⊎ (n ≤ m)
    lt_or m n = grind arith

is_before_ahead : (x y : Moment) → is_before x y ≡ nat_lt (ahead x y) (ahead y x)
is_before_ahead x y = by (is_before x y) refl
  where
    by : (t : Bool) → is_before x y ≡ t → is_before x y ≡ nat_lt (ahead x y) (ahead y x)
    by true h =
        let a = parts x.ticks y.scale in
        let b = parts y.ticks x.scale in
        let e : int_lt (x.ticks *ℤ pos y.scale) (y.ticks *ℤ pos x.scale) ≡ true = h in
        h ∙ sym (nat_lt_yes (ahead x y) (ahead y x) (omega (arith, ints, a, b, e)))
    by false h =
        let a = parts x.ticks y.scale in
        let b = parts y.ticks x.scale in
        let e : int_lt (x.ticks *ℤ pos y.scale) (y.ticks *ℤ pos x.scale) ≡ false = h in
        h ∙ sym (lt_no (ahead x y) (ahead y x) (omega (arith, ints, a, b, e)))

-- whether the second begins before the first, over the product of all timescales
before_over : (s : ℕ) (x y : Beginning) → 0 < s → 0 < x.timescale → 0 < y.timescale
    → nat_lt (y.waits * (x.timescale * y.timescale) + x.earlier * (s * y.timescale) + y.later * (s * x.timescale)) (x.waits * (x.timescale * y.timescale) + x.later * (s * y.timescale) + y.earlier * (s * x.timescale)) ≡ is_before (moment_of s y) (moment_of s x)
before_over s x y some more third =
    let r = x.timescale in
    let q = y.timescale in
    let u = moment_of s x in
    let v = moment_of s y in
    let a = x.waits * (r * q) + x.later * (s * q) + y.earlier * (s * r) in
    let b = y.waits * (r * q) + x.earlier * (s * q) + y.later * (s * r) in
    crossed_less (ahead u v) (ahead v u) a b (s * (r * q)) (u.scale * v.scale) (mul-pos some (mul-pos more third)) (mul-pos (mul-pos some more) (mul-pos some third))
    (both_ahead (up u.ticks) (down u.ticks) (up v.ticks) (down v.ticks) s r q x.waits x.later x.earlier y.waits y.later y.earlier (ticks_are x.waits r x.later x.earlier s) (ticks_are y.waits q y.later y.earlier s))
    ∙ sym (is_before_ahead v u)

pub before_found : (s : ℕ) (x y : Beginning) → 0 < s → 0 < x.timescale → 0 < y.timescale → (k e f d g : ℕ) → k ≡ s * (x.timescale * y.timescale)
    → e * (s * (x.timescale * y.timescale)) + f ≡ x.waits * (x.timescale * y.timescale) + x.later * (s * y.timescale) + y.earlier * (s * x.timescale)
    → d * (s * (x.timescale * y.timescale)) + g ≡ y.waits * (x.timescale * y.timescale) + x.earlier * (s * y.timescale) + y.later * (s * x.timescale)
    → nat_lt (d * k + g) (e * k + f) ≡ is_before (moment_of s y) (moment_of s x)
before_found s x y some more third k e f d g all after before =
    (λ i. nat_lt (d * all i + g) (e * all i + f)) ∙ (λ i. nat_lt (before i) (after i)) ∙ before_over s x y some more third
