-- The greatest common divisor of times, and times that are divided by it.
use Rattle.std.proofs.Common.{◌≡◌, ℕ, zero, suc, ◌+◌, ◌*◌, ◌/◌, ◌%◌, ◌<◌, ◌≤◌, Bool, true, false, if◌then◌else◌, ◌==◌, List, [], ◌∷◌, map, refl, sym, ap, subst, ◌∙◌, arith, mod-lt, mul-add, zero-mul, eq-zero-or-pos, ⊎_elim, ℤ, pos, negsuc, neg_ℤ, unsigned_abs, ◌-ℤ◌}
use Rattle.std.specs.List.{AllByRecursion}
use Rattle.std.specs.Int.{IsGcd, ◌∣◌}
use Rattle.std.proofs.lemmas.Bool.Decides.{nat_tests}
use Rattle.std.proofs.lemmas.Int.{ints}
use Rattle.std.proofs.lemmas.Nat.Gcd.{IsGcd-from_zero, IsGcd-from_mod, dvd_trans, dvd-zero, dvd_antisymm}
use Rattle.std.proofs.Math.Nat.{div-zero, mul-div_right, mul-div_cancel', mul-dvd-mul_left, dvd-mul_right, dvd_of_mul-dvd-mul_left, eq-zero_of_zero-dvd}
use borrow.Author.Differences.{up, down, neg_is, same_in}
use Rattle.mp4_content.specs.format.Timescales.{euclid, common_divisor, divisor_of, sized, divided}

-- ---- of two numbers

is_by : (steps a b : ℕ) → b ≤ steps → IsGcd a b (euclid steps a b)
is_by zero a b few = IsGcd-from_zero a b (omega (arith, few))
is_by (suc steps) a b few = step (b == 0) refl (λ less. is_by steps b (a % b) less)
  where
    step : (v : Bool) → (b == 0) ≡ v → (a % b ≤ steps → IsGcd b (a % b) (euclid steps b (a % b))) → IsGcd a b (if v then a else euclid steps b (a % b))
    step true e rest = IsGcd-from_zero a b (grind (arith, nat_tests))
    step false e rest =
        let some : 0 < b = grind (arith, nat_tests) in
        let less = mod-lt a some in
        IsGcd-from_mod a b (euclid steps b (a % b)) (rest (omega (arith, less, few)))

pub is_divisor : (a b : ℕ) → IsGcd a b (common_divisor a b)
is_divisor a b = is_by b a b (omega arith)

-- ---- of many

-- a number divides each of these
abbrev pub Divides : ℕ → List ℤ → Type 0
Divides g times = AllByRecursion (λ (time : ℤ). g ∣ unsigned_abs time) times

pub divides_more : (d g : ℕ) (times : List ℤ) → d ∣ g → Divides g times → Divides d times
divides_more d g [] h all = tt
divides_more d g (x ∷ times) h all = (dvd_trans d h all.0, divides_more d g times h all.1)

pub divisor_divides : (times : List ℤ) → Divides (divisor_of times) times
divisor_divides [] = tt
divisor_divides (x ∷ times) =
    let is = is_divisor (unsigned_abs x) (divisor_of times) in
    (is.0, divides_more (divisor_of (x ∷ times)) (divisor_of times) times is.1 (divisor_divides times))

pub divisor_greatest : (d : ℕ) (times : List ℤ) → Divides d times → d ∣ divisor_of times
divisor_greatest d [] all = dvd-zero d
divisor_greatest d (x ∷ times) all = (is_divisor (unsigned_abs x) (divisor_of times)).2 d all.0 (divisor_greatest d times all.1)

-- ---- sizes

pub size_of_neg : (n : ℕ) → unsigned_abs (neg_ℤ (pos n)) ≡ n
size_of_neg zero = refl
size_of_neg (suc n) = refl

pub size_changed : (f : ℕ → ℕ) (z : ℤ) → unsigned_abs (sized f z) ≡ f (unsigned_abs z)
size_changed f (pos n) = refl
size_changed f (negsuc n) = size_of_neg (f (suc n))

sized_neg : (f : ℕ → ℕ) (n : ℕ) → f 0 ≡ 0 → sized f (neg_ℤ (pos n)) ≡ neg_ℤ (pos (f n))
sized_neg f zero e = ap pos e ∙ ap (λ m. neg_ℤ (pos m)) (sym e)
sized_neg f (suc n) e = refl

-- one change after another
pub sized_twice : (f g : ℕ → ℕ) (z : ℤ) → f 0 ≡ 0 → sized f (sized g z) ≡ sized (λ n. f (g n)) z
sized_twice f g (pos n) e = refl
sized_twice f g (negsuc n) e = sized_neg f (g (suc n)) e

pub sized_same : (z : ℤ) → sized (λ n. n) z ≡ z
sized_same (pos n) = refl
sized_same (negsuc n) = refl

none_sized : (z : ℤ) → sized (λ n. 0) z ≡ pos 0
none_sized (pos n) = refl
none_sized (negsuc n) = refl

-- ---- what is divided

-- so many times z, and z again
pub multiplied : (g : ℕ) → 0 < g → (z : ℤ) → sized (divided g) (sized (λ n. g * n) z) ≡ z
multiplied g some z = sized_twice (divided g) (λ n. g * n) z (omega arith) ∙ (λ i. sized (λ n. mul-div_right n some i) z) ∙ sized_same z

pub by_nothing : (z : ℤ) → sized (divided 0) z ≡ pos 0
by_nothing z = (λ i. sized (λ n. div-zero n i) z) ∙ none_sized z

back_neg : (g n : ℕ) → sized (λ k. g * k) (neg_ℤ (pos n)) ≡ neg_ℤ (pos (g * n))
back_neg g n = sized_neg (λ k. g * k) n (omega arith)

-- a number that is divided, so many times
pub back_again : (g : ℕ) (z : ℤ) → g ∣ unsigned_abs z → sized (λ n. g * n) (sized (divided g) z) ≡ z
back_again g (pos n) h = ap pos (mul-div_cancel' g h)
back_again g (negsuc n) h = back_neg g (divided g (suc n)) ∙ ap (λ k. neg_ℤ (pos k)) (mul-div_cancel' g h)

-- the two parts of a number so many times
parts : (g : ℕ) (z : ℤ) → (up (sized (λ n. g * n) z) ≡ g * up z) × (down (sized (λ n. g * n) z) ≡ g * down z)
parts g (pos n) = (refl, omega arith)
parts g (negsuc n) = let is = neg_is (pos (g * suc n)) in (omega (arith, is), omega (arith, is))

times_minus : (g : ℕ) (a b : ℤ) → sized (λ n. g * n) a -ℤ sized (λ n. g * n) b ≡ sized (λ n. g * n) (a -ℤ b)
times_minus g a b =
    let same : up (a -ℤ b) + (down a + up b) ≡ down (a -ℤ b) + (up a + down b) = omega (arith, ints) in
    let many = sym (mul-add g (up (a -ℤ b)) (down a + up b)) ∙ ap (λ n. g * n) same ∙ mul-add g (down (a -ℤ b)) (up a + down b) in
    let left = mul-add g (down a) (up b) in
    let right = mul-add g (up a) (down b) in
    let pa = parts g a in
    let pb = parts g b in
    let pc = parts g (a -ℤ b) in
    same_in _ _ (omega (arith, ints, many, left, right, pa, pb, pc))

module _ (g : ℕ) (a b : ℤ) (h : g ∣ unsigned_abs a) (k : g ∣ unsigned_abs b) where
  together : a -ℤ b ≡ sized (λ n. g * n) (sized (divided g) a -ℤ sized (divided g) b)
  together = (λ i. sym (back_again g a h) i -ℤ sym (back_again g b k) i) ∙ times_minus g (sized (divided g) a) (sized (divided g) b)

  -- what divides two numbers divides their difference
  pub divides_minus : g ∣ unsigned_abs (a -ℤ b)
  divides_minus =
      let z = sized (divided g) a -ℤ sized (divided g) b in
      subst (λ n. g ∣ n) (sym (ap unsigned_abs together ∙ size_changed (λ n. g * n) z)) (dvd-mul_right g (unsigned_abs z))

  -- divided, it is the difference of both, divided
  pub minus_divided : sized (divided g) a -ℤ sized (divided g) b ≡ sized (divided g) (a -ℤ b)
  minus_divided = ⊎_elim none (λ some. sym (multiplied g some (sized (divided g) a -ℤ sized (divided g) b)) ∙ ap (sized (divided g)) (sym together)) (eq-zero-or-pos g)
    where
      none : g ≡ 0 → sized (divided g) a -ℤ sized (divided g) b ≡ sized (divided g) (a -ℤ b)
      none e = subst (λ n. sized (divided n) a -ℤ sized (divided n) b ≡ sized (divided n) (a -ℤ b)) (sym e) ((λ i. by_nothing a i -ℤ by_nothing b i) ∙ sym (by_nothing (a -ℤ b)))

-- ---- the divisor of what is divided

divides_divided : (g d : ℕ) (times : List ℤ) → 0 < g → Divides g times → Divides (g * d) times → Divides d (map (sized (divided g)) times)
divides_divided g d [] some all many = tt
divides_divided g d (x ∷ times) some all many =
    let is : g * unsigned_abs (sized (divided g) x) ≡ unsigned_abs x = sym (size_changed (λ n. g * n) (sized (divided g) x)) ∙ ap unsigned_abs (back_again g x all.0) in
    (dvd_of_mul-dvd-mul_left d some (subst (λ n. g * d ∣ n) (sym is) many.0), divides_divided g d times some all.1 many.1)

divides_back : (g d : ℕ) (times : List ℤ) → Divides g times → Divides d (map (sized (divided g)) times) → Divides (g * d) times
divides_back g d [] all h = tt
divides_back g d (x ∷ times) all h =
    let is : g * unsigned_abs (sized (divided g) x) ≡ unsigned_abs x = sym (size_changed (λ n. g * n) (sized (divided g) x)) ∙ ap unsigned_abs (back_again g x all.0) in
    (subst (λ n. g * d ∣ n) is (mul-dvd-mul_left d g h.0), divides_back g d times all.1 h.1)

pub divisor_of_divided : (g : ℕ) (times : List ℤ) → Divides g times → g * divisor_of (map (sized (divided g)) times) ≡ divisor_of times
divisor_of_divided g times all = ⊎_elim none many (eq-zero-or-pos g)
  where
    D : ℕ
    D = divisor_of (map (sized (divided g)) times)

    less : g * D ∣ divisor_of times
    less = divisor_greatest (g * D) times (divides_back g D times all (divisor_divides (map (sized (divided g)) times)))

    none : g ≡ 0 → g * D ≡ divisor_of times
    none e =
        let zero_divides : 0 ∣ divisor_of times = subst (λ n. n ∣ divisor_of times) e (divisor_greatest g times all) in
        ap (λ n. n * D) e ∙ zero-mul D ∙ sym (eq-zero_of_zero-dvd zero_divides)

    many : 0 < g → g * D ≡ divisor_of times
    many some =
        let k = divisor_of times / g in
        let is : g * k ≡ divisor_of times = mul-div_cancel' g (divisor_greatest g times all) in
        let each : Divides (g * k) times = subst (λ n. Divides n times) (sym is) (divisor_divides times) in
        let h : k ∣ D = divisor_greatest k (map (sized (divided g)) times) (divides_divided g k times some all each) in
        dvd_antisymm less (subst (λ n. n ∣ g * D) is (mul-dvd-mul_left k g h))
