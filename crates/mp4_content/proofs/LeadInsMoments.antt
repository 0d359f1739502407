-- How much later one moment is than another, and that one of them is the first.
use Rattle.std.proofs.Common.{◌≡◌, ◌⊎◌, inl, inr, ⊎_elim, ℕ, suc, ◌+◌, ◌-◌, ◌*◌, ◌/◌, ◌<◌, ◌≤◌, min, max, List, [], ◌∷◌, refl, sym, ap, subst, ◌∙◌, arith, mul-pos, mul_comm, ℤ, pos, negsuc, ◌+ℤ◌, ◌-ℤ◌, ◌*ℤ◌}
use Rattle.std.specs.List.{AllByRecursion}
use Rattle.std.proofs.lemmas.Int.{ints}
use Rattle.std.proofs.Math.Nat.{zero-div, mul-sub, mul-div-mul_left, mul-div_right, mul-le-mul_left, mul-le-mul_right, div-mul-le_self, le-div_iff_mul-le, le_of_mul-le-mul_left, sub-eq-zero_of_le}
use borrow.Author.Differences.{up, down, neg_is, same_out}
use Rattle.mp4_present.specs.format.Waiting.{microseconds}
use Rattle.mp4_content.specs.format.LeadIns.{Moment, from_0, max_duration, later, delay}
use Rattle.mp4_content.specs.format.LeadInsLaws.{Among, DelayIsFromFirst, BeginsLater}

-- ---- in numbers from 0 on

pub parts : (z : ℤ) (k : ℕ) → (up (z *ℤ pos k) ≡ up z * k) × (down (z *ℤ pos k) ≡ down z * k)
parts (pos n) k = (refl, omega arith)
parts (negsuc n) k = let is = neg_is (pos (suc n * k)) in (omega (arith, is), omega (arith, is))

from_0_is : (z : ℤ) → from_0 z ≡ up z - down z
from_0_is (pos n) = omega arith
from_0_is (negsuc n) = omega arith

abbrev pub ahead : Moment → Moment → ℕ
ahead x y = up x.ticks * y.scale + down y.ticks * x.scale

pub later_is : (x y : Moment) → later x y ≡ min max_duration ((ahead x y - ahead y x) * microseconds / (x.scale * y.scale))
later_is x y =
    let a = parts x.ticks y.scale in
    let b = parts y.ticks x.scale in
    let is = from_0_is (x.ticks *ℤ pos y.scale -ℤ y.ticks *ℤ pos x.scale) in
    ap (λ n. min max_duration (n * microseconds / (x.scale * y.scale))) (omega (arith, ints, a, b, is))

-- ---- the same fractions

pub same_quotient : (n a b e f : ℕ) → 0 < e → 0 < f → a * f ≡ b * e → a * n / e ≡ b * n / f
same_quotient n a b e f some other h =
    let more : a * f * n ≡ b * e * n = ap (λ z. z * n) h in
    let same : f * (a * n) ≡ e * (b * n) = omega (arith, more) in
    sym (mul-div-mul_left (a * n) e other) ∙ (λ i. same i / mul_comm f e i) ∙ mul-div-mul_left (b * n) f some

pub minus_many : (p q r s e f : ℕ) → p * f + s * e ≡ r * e + q * f → (p - q) * f ≡ (r - s) * e
minus_many p q r s e f h = mul_comm (p - q) f ∙ mul-sub f p q ∙ omega (arith, h) ∙ sym (mul-sub e r s) ∙ mul_comm e (r - s)

same_later : (x y u v : Moment) → 0 < x.scale → 0 < y.scale → 0 < u.scale → 0 < v.scale
    → ahead x y * (u.scale * v.scale) + ahead v u * (x.scale * y.scale) ≡ ahead u v * (x.scale * y.scale) + ahead y x * (u.scale * v.scale) → later x y ≡ later u v
same_later x y u v some more third fourth h =
    later_is x y
    ∙ ap (min max_duration)
    (same_quotient microseconds (ahead x y - ahead y x) (ahead u v - ahead v u) (x.scale * y.scale) (u.scale * v.scale) (mul-pos some more) (mul-pos third fourth)
    (minus_many (ahead x y) (ahead y x) (ahead u v) (ahead v u) (x.scale * y.scale) (u.scale * v.scale) h))
    ∙ sym (later_is u v)

cancel : (k m n : ℕ) → 0 < k → k * m ≡ k * n → m ≡ n
cancel k m n some e =
    let left : m ≤ n = le_of_mul-le-mul_left (omega (arith, e)) some in
    let right : n ≤ m = le_of_mul-le-mul_left (omega (arith, e)) some in
    omega (arith, left, right)

-- that one begins later, in numbers from 0 on
stepped : (a : ℤ) (b : ℕ) (x u : Moment) → BeginsLater a b x u
    → up u.ticks * (x.scale * b) + (down x.ticks * b + down a * x.scale) * u.scale ≡ down u.ticks * (x.scale * b) + (up x.ticks * b + up a * x.scale) * u.scale
stepped a b x u h =
    let s = x.ticks *ℤ pos b +ℤ a *ℤ pos x.scale in
    let out = same_out _ _ h in
    let left = parts u.ticks (x.scale * b) in
    let right = parts s u.scale in
    let one = parts x.ticks b in
    let two = parts a x.scale in
    let sum : up s + (down x.ticks * b + down a * x.scale) ≡ down s + (up x.ticks * b + up a * x.scale) = omega (arith, ints, one, two) in
    let whole : (up s + (down x.ticks * b + down a * x.scale)) * u.scale ≡ (down s + (up x.ticks * b + up a * x.scale)) * u.scale = ap (λ n. n * u.scale) sum in
    omega (arith, out, left, right, whole)

-- What begins by the same step later is as much later than what does so too.
pub same_step : (a : ℤ) (b : ℕ) → 0 < b → (x y u v : Moment) → 0 < x.scale → 0 < y.scale → 0 < u.scale → 0 < v.scale → BeginsLater a b x u → BeginsLater a b y v → later x y ≡ later u v
same_step a b above x y u v some more third fourth h k =
    let one : _ ≡ _ = ap (λ n. n * (y.scale * v.scale)) (stepped a b x u h) in
    let two : _ ≡ _ = ap (λ n. n * (x.scale * u.scale)) (stepped a b y v k) in
    same_later x y u v some more third fourth (cancel b _ _ above (omega (arith, one, two)))

-- ---- the first

abbrev pub AtMost : Moment → Moment → Type 0
AtMost x y = ahead x y ≤ ahead y x

not_later : (x y : Moment) → AtMost x y → later x y ≡ 0
not_later x y h = later_is x y ∙ (λ i. min max_duration (sub-eq-zero_of_le h i * microseconds / (x.scale * y.scale))) ∙ ap (min max_duration) (zero-div (x.scale * y.scale))

pub divided_less : (m n k : ℕ) → 0 < k → m ≤ n → m / k ≤ n / k
divided_less m n k some h = let down = div-mul-le_self m k in (le-div_iff_mul-le {x = m / k} some).1 (omega (arith, down, h))

less_quotient : (n a b e f : ℕ) → 0 < e → 0 < f → a * f ≤ b * e → a * n / e ≤ b * n / f
less_quotient n a b e f some other h =
    let more = mul-le-mul_right n h in
    let less : f * (a * n) ≤ e * (b * n) = omega (arith, more) in
    let left = mul-div-mul_left (a * n) e other in
    let right = mul-div-mul_left (b * n) f some in
    let same : f * e ≡ e * f = mul_comm f e in
    let whole : f * (a * n) / (f * e) ≤ e * (b * n) / (e * f) = subst (λ k. f * (a * n) / (f * e) ≤ e * (b * n) / k) same (divided_less (f * (a * n)) (e * (b * n)) (f * e) (mul-pos other some) less) in
    omega (arith, left, right, whole)

minus_less : (p q r s e f : ℕ) → p * f + s * e ≤ r * e + q * f → (p - q) * f ≤ (r - s) * e
minus_less p q r s e f h =
    let left = mul_comm (p - q) f ∙ mul-sub f p q in
    let right = mul_comm (r - s) e ∙ mul-sub e r s in
    omega (arith, left, right, h)

-- the earlier of two is passed by more
later_more : (w y z : Moment) → 0 < w.scale → 0 < y.scale → 0 < z.scale → AtMost y z → later w z ≤ later w y
later_more w y z some more third h =
    let many = mul-le-mul_left (w.scale * w.scale) h in
    let less = less_quotient microseconds (ahead w z - ahead z w) (ahead w y - ahead y w) (w.scale * z.scale) (w.scale * y.scale) (mul-pos some third) (mul-pos some more)
    (minus_less (ahead w z) (ahead z w) (ahead w y) (ahead y w) (w.scale * z.scale) (w.scale * y.scale) (omega (arith, many))) in
    let left = later_is w z in
    let right = later_is w y in
    omega (arith, less, left, right)

then_most : (x y z : Moment) → 0 < y.scale → AtMost x y → AtMost y z → AtMost x z
then_most x y z some h k =
    let one = mul-le-mul_left z.scale h in
    let two = mul-le-mul_left x.scale k in
    le_of_mul-le-mul_left {k = y.scale} (omega (arith, one, two)) some

abbrev pub AnyOf : {A : Type 0} (P : A → Type 0) → List A → Type 0
AnyOf P [] = ⊥
AnyOf P (x ∷ xs) = P x ⊎ AnyOf P xs

abbrev pub HasScale : Moment → Type 0
HasScale x = 0 < x.scale

record Least (xs : List Moment) : Type 0 where
  x : Moment
  scale : 0 < x.scale
  among : Among x xs
  least : AllByRecursion (AtMost x) xs

pub all_after : (x y : Moment) → 0 < y.scale → AtMost x y → (xs : List Moment) → AllByRecursion (AtMost y) xs → AllByRecursion (AtMost x) xs
all_after x y some h [] all = tt
all_after x y some h (z ∷ xs) all = (then_most x y z some h all.0, all_after x y some h xs all.1)

pub either : (m n : ℕ) → (m ≤ n) ⊎ (n ≤ m)
either m n = grind arith

least_of : (x : Moment) (xs : List Moment) → AllByRecursion HasScale (x ∷ xs) → Least (x ∷ xs)
least_of x [] h = record { x = x; scale = h.0; among = inl refl; least = (omega arith, tt) }
least_of x (y ∷ xs) h =
    let rest = least_of y xs h.1 in
    ⊎_elim
    (λ less. record { x = x; scale = h.0; among = inl refl; least = (omega arith, all_after x rest.x rest.scale less (y ∷ xs) rest.least) })
    (λ more. record { x = rest.x; scale = rest.scale; among = inr rest.among; least = (more, rest.least) })
    (either (ahead x rest.x) (ahead rest.x x))

no_delay : (x : Moment) (xs : List Moment) → AllByRecursion (AtMost x) xs → AllByRecursion (λ y. later x y ≡ 0) xs
no_delay x [] h = tt
no_delay x (y ∷ xs) h = (not_later x y h.0, no_delay x xs h.1)

-- what is 0 by each is 0
none_later : (x : Moment) (xs : List Moment) → AllByRecursion (λ y. later x y ≡ 0) xs → delay xs x ≡ 0
none_later x [] h = refl
none_later x (y ∷ xs) h = let a = h.0 in let b = none_later x xs h.1 in omega (arith, a, b)

-- no delay is more than from the first
pub delay_less : (w x : Moment) (xs : List Moment) → 0 < w.scale → 0 < x.scale → AllByRecursion HasScale xs → AllByRecursion (AtMost x) xs → delay xs w ≤ later w x
delay_less w x [] some more has h = omega arith
delay_less w x (y ∷ xs) some more has h = let a = later_more w x y some more has.0 h.0 in let b = delay_less w x xs some more has.1 h.1 in omega (arith, a, b)

pub delay_more : (w x : Moment) (xs : List Moment) → Among x xs → later w x ≤ delay xs w
delay_more w x [] h = absurd h
delay_more w x (y ∷ xs) (inl e) = let same = ap (later w) e in omega (arith, same)
delay_more w x (y ∷ xs) (inr h) = let rest = delay_more w x xs h in omega (arith, rest)

pub delay_is_from_first : DelayIsFromFirst
delay_is_from_first y xs h =
    let first = least_of y xs h in
    record {
      x = first.x;
      among = first.among;
      not_later = no_delay first.x (y ∷ xs) first.least;
      from = λ w some.
          let less = delay_less w first.x (y ∷ xs) some first.scale h first.least in
          let more = delay_more w first.x (y ∷ xs) first.among in
          omega (arith, less, more);
    }

any_from : (P : Moment → Type 0) (x : Moment) → P x → (xs : List Moment) → Among x xs → AnyOf P xs
any_from P x h [] k = k
any_from P x h (y ∷ xs) (inl e) = inl (subst P e h)
any_from P x h (y ∷ xs) (inr k) = inr (any_from P x h xs k)

-- One of them has no delay.
pub some_at_once : (x : Moment) (xs : List Moment) → AllByRecursion HasScale (x ∷ xs) → AnyOf (λ y. delay (x ∷ xs) y ≡ 0) (x ∷ xs)
some_at_once x xs h =
    let first = delay_is_from_first x xs h in
    any_from (λ y. delay (x ∷ xs) y ≡ 0) first.x (none_later first.x (x ∷ xs) first.not_later) (x ∷ xs) first.among

-- ---- delays that were said in microseconds

-- no delay lasts longer than an edit can
pub delay_fits : (xs : List Moment) (x : Moment) → delay xs x ≤ max_duration
delay_fits [] x = omega arith
delay_fits (y ∷ xs) x = let rest = delay_fits xs x in omega (arith, rest)

-- the most by which this is more than any of these
abbrev pub most_more : ℕ → List ℕ → ℕ
most_more w [] = 0
most_more w (v ∷ vs) = max (w - v) (most_more w vs)

no_more : (w : ℕ) (vs : List ℕ) → most_more w vs ≤ w
no_more w [] = omega arith
no_more w (v ∷ vs) = let rest = no_more w vs in omega (arith, rest)

pub all_more : (w : ℕ) (vs : List ℕ) → AnyOf (λ v. v ≡ 0) vs → most_more w vs ≡ w
all_more w [] h = absurd h
all_more w (v ∷ vs) (inl e) = let rest = no_more w vs in omega (arith, rest, e)
all_more w (v ∷ vs) (inr h) = let rest = all_more w vs h in omega (arith, rest)

-- so many microseconds, in a track of this timescale
abbrev pub settled : ℕ → ℕ → Moment
settled wait scale = record { ticks = pos (wait * scale); scale = microseconds * scale }

mul_five : (n s r d : ℕ) → n * s * r * d * n ≡ n * s * (n * r) * d
mul_five n s r d = omega arith

settled_by : (n w v s r : ℕ) → 0 < n → 0 < s → 0 < r → (w * s * (n * r) + 0 * (n * s) - (v * r * (n * s) + 0 * (n * r))) * n / (n * s * (n * r)) ≡ w - v
settled_by n w v s r above some more =
    let k = n * s * (n * r) in
    let many : w * s * (n * r) + 0 * (n * s) - (v * r * (n * s) + 0 * (n * r)) ≡ n * s * r * w - n * s * r * v = omega arith in
    let same : n * s * r * (w - v) * n ≡ k * (w - v) = mul_five n s r (w - v) in
    ap (λ m. m * n / k) (many ∙ sym (mul-sub (n * s * r) w v))
    ∙ (λ i. same i / k)
    ∙ mul-div_right (w - v) (mul-pos (mul-pos above some) (mul-pos above more))

pub later_settled : (w v s r : ℕ) → w ≤ max_duration → 0 < s → 0 < r → later (settled w s) (settled v r) ≡ w - v
later_settled w v s r fits some more =
    let less : min max_duration (w - v) ≡ w - v = omega (arith, fits) in
    later_is (settled w s) (settled v r) ∙ ap (min max_duration) (settled_by microseconds w v s r (omega arith) some more) ∙ less
