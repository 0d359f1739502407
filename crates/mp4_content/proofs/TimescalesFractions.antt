-- Times over two timescales that are the same as fractions are the same in lowest terms.
use Rattle.std.proofs.Common.{◌≡◌, ◌⊎◌, inl, inr, ⊎_elim, ℕ, zero, suc, ◌*◌, ◌/◌, ◌<◌, List, [], ◌∷◌, map, refl, sym, ap, subst, ◌∙◌, arith, mul-pos, mul_comm, mul_assoc, mul-one, zero-mul, eq-zero-or-pos, ℤ, pos, negsuc, neg_ℤ, unsigned_abs, ◌*ℤ◌}
use Rattle.std.specs.List.{AllZip}
use Rattle.std.specs.Int.{◌∣◌}
use Rattle.std.proofs.lemmas.Nat.Gcd.{dvd_antisymm}
use Rattle.std.proofs.Math.Nat.{mul-div_cancel', mul-dvd-mul_left, mul-mul-mul_comm, dvd-mul_right}
use Rattle.mp4_boxes.proofs.Plain.{head_is, tail_is}
use Rattle.mp4_content.specs.format.Timescales.{divisor_of, sized, divided}
use Rattle.mp4_content.specs.format.TimescalesLaws.{SameTime, SameTimes, TimescalesAreTheirs}
use Rattle.mp4_content.proofs.TimescalesDivisors.{Divides, divisor_divides, divisor_greatest, size_changed, size_of_neg, back_again, by_nothing, multiplied, divisor_of_divided}

neg_times : (m k : ℕ) → neg_ℤ (pos m) *ℤ pos k ≡ neg_ℤ (pos (m * k))
neg_times zero k = ap pos (zero-mul k) ∙ ap (λ n. neg_ℤ (pos n)) (sym (zero-mul k))
neg_times (suc m) k = refl

times_of : (f : ℕ → ℕ) (r : ℕ) (z : ℤ) → sized f z *ℤ pos r ≡ sized (λ n. f n * r) z
times_of f r (pos n) = refl
times_of f r (negsuc n) = neg_times (f (suc n)) r

size_of_times : (x : ℤ) (r : ℕ) → unsigned_abs (x *ℤ pos r) ≡ unsigned_abs x * r
size_of_times (pos n) r = refl
size_of_times (negsuc n) r = size_of_neg (suc n * r)

-- ---- their divisors

abbrev SameSize : ℕ → ℕ → ℤ → ℤ → Type 0
SameSize s r x y = unsigned_abs x * r ≡ unsigned_abs y * s

sizes : (s r : ℕ) (xs ys : List ℤ) → AllZip (SameTime s r) xs ys → AllZip (SameSize s r) xs ys
sizes s r [] [] h = tt
sizes s r [] (y ∷ ys) h = absurd h
sizes s r (x ∷ xs) [] h = absurd h
sizes s r (x ∷ xs) (y ∷ ys) h = (sym (size_of_times x r) ∙ ap unsigned_abs h.0 ∙ size_of_times y s, sizes s r xs ys h.1)

turned : (s r : ℕ) (xs ys : List ℤ) → AllZip (SameSize s r) xs ys → AllZip (SameSize r s) ys xs
turned s r [] [] h = tt
turned s r [] (y ∷ ys) h = absurd h
turned s r (x ∷ xs) [] h = absurd h
turned s r (x ∷ xs) (y ∷ ys) h = (sym h.0, turned s r xs ys h.1)

-- so many times each
abbrev many : ℕ → List ℤ → List ℤ
many s ys = map (sized (λ n. s * n)) ys

divided_again : (s : ℕ) → 0 < s → (ys : List ℤ) → map (sized (divided s)) (many s ys) ≡ ys
divided_again s some [] = refl
divided_again s some (y ∷ ys) = λ i. multiplied s some y i ∷ divided_again s some ys i

divides_many : (s : ℕ) (ys : List ℤ) → Divides s (many s ys)
divides_many s [] = tt
divides_many s (y ∷ ys) = (subst (λ n. s ∣ n) (sym (size_changed (λ n. s * n) y)) (dvd-mul_right s (unsigned_abs y)), divides_many s ys)

divisor_of_many : (s : ℕ) → 0 < s → (ys : List ℤ) → s * divisor_of ys ≡ divisor_of (many s ys)
divisor_of_many s some ys = ap (λ zs. s * divisor_of zs) (sym (divided_again s some ys)) ∙ divisor_of_divided s (many s ys) (divides_many s ys)

crossed : (s r g : ℕ) (xs ys : List ℤ) → AllZip (SameSize s r) xs ys → Divides g xs → Divides (r * g) (many s ys)
crossed s r g [] [] h all = tt
crossed s r g [] (y ∷ ys) h all = absurd h
crossed s r g (x ∷ xs) [] h all = absurd h
crossed s r g (x ∷ xs) (y ∷ ys) h all =
    let is : r * unsigned_abs x ≡ unsigned_abs (sized (λ n. s * n) y) = mul_comm r (unsigned_abs x) ∙ h.0 ∙ mul_comm (unsigned_abs y) s ∙ sym (size_changed (λ n. s * n) y) in
    (subst (λ n. r * g ∣ n) is (mul-dvd-mul_left g r all.0), crossed s r g xs ys h.1 all.1)

half : (s r : ℕ) → 0 < s → (xs ys : List ℤ) → AllZip (SameSize s r) xs ys → r * divisor_of xs ∣ s * divisor_of ys
half s r some xs ys h =
    subst (λ n. r * divisor_of xs ∣ n) (sym (divisor_of_many s some ys)) (divisor_greatest (r * divisor_of xs) (many s ys) (crossed s r (divisor_of xs) xs ys h (divisor_divides xs)))

-- so many times each divisor is the same
pub same_divisors : (s r : ℕ) → 0 < s → 0 < r → (xs ys : List ℤ) → AllZip (SameTime s r) xs ys → r * divisor_of xs ≡ s * divisor_of ys
same_divisors s r some other xs ys h =
    let both = sizes s r xs ys h in
    dvd_antisymm (half s r some xs ys both) (half r s other ys xs (turned s r xs ys both))

-- ---- each of them

-- where lowest terms are the same, so are the fractions
fraction_to : (g h k : ℕ) (x y : ℤ) → g ∣ unsigned_abs x → h ∣ unsigned_abs y → sized (divided g) x ≡ sized (divided h) y → SameTime (g * k) (h * k) x y
fraction_to g h k x y p q e =
    let u = sized (divided g) x in
    let left : x ≡ sized (λ n. g * n) u = sym (back_again g x p) in
    let right : y ≡ sized (λ n. h * n) u = sym (back_again h y q) ∙ ap (sized (λ n. h * n)) (sym e) in
    ap (λ z. z *ℤ pos (h * k)) left ∙ times_of (λ n. g * n) (h * k) u
    ∙ (λ i. sized (λ n. (mul-mul-mul_comm g n h k ∙ ap (λ m. m * (n * k)) (mul_comm g h) ∙ sym (mul-mul-mul_comm h n g k)) i) u)
    ∙ sym (times_of (λ n. h * n) (g * k) u) ∙ ap (λ z. z *ℤ pos (g * k)) (sym right)

turn : (g n r : ℕ) → g * n * r ≡ r * g * n
turn g n r = mul_comm (g * n) r ∙ sym (mul_assoc r g n)

-- and where fractions are the same, so are lowest terms
fraction_from : (s r g h : ℕ) (x y : ℤ) → 0 < r * g → r * g ≡ s * h → g ∣ unsigned_abs x → h ∣ unsigned_abs y → SameTime s r x y → sized (divided g) x ≡ sized (divided h) y
fraction_from s r g h x y some same p q e =
    let u = sized (divided g) x in
    let v = sized (divided h) y in
    let left : x *ℤ pos r ≡ sized (λ n. r * g * n) u = ap (λ z. z *ℤ pos r) (sym (back_again g x p)) ∙ times_of (λ n. g * n) r u ∙ (λ i. sized (λ n. turn g n r i) u) in
    let right : y *ℤ pos s ≡ sized (λ n. s * h * n) v = ap (λ z. z *ℤ pos s) (sym (back_again h y q)) ∙ times_of (λ n. h * n) s v ∙ (λ i. sized (λ n. turn h n s i) v) in
    let both : sized (λ n. r * g * n) u ≡ sized (λ n. r * g * n) v = sym left ∙ e ∙ right ∙ (λ i. sized (λ n. sym same i * n) v) in
    sym (multiplied (r * g) some u) ∙ ap (sized (divided (r * g))) both ∙ multiplied (r * g) some v

-- ---- all of them

lowest_from : (s r g h : ℕ) (xs ys : List ℤ) → 0 < r * g → r * g ≡ s * h → Divides g xs → Divides h ys → AllZip (SameTime s r) xs ys → map (sized (divided g)) xs ≡ map (sized (divided h)) ys
lowest_from s r g h [] [] some same p q e = refl
lowest_from s r g h [] (y ∷ ys) some same p q e = absurd e
lowest_from s r g h (x ∷ xs) [] some same p q e = absurd e
lowest_from s r g h (x ∷ xs) (y ∷ ys) some same p q e = λ i. fraction_from s r g h x y some same p.0 q.0 e.0 i ∷ lowest_from s r g h xs ys some same p.1 q.1 e.1 i

lowest_to : (g h k : ℕ) (xs ys : List ℤ) → Divides g xs → Divides h ys → map (sized (divided g)) xs ≡ map (sized (divided h)) ys → AllZip (SameTime (g * k) (h * k)) xs ys
lowest_to g h k [] [] p q e = tt
lowest_to g h k [] (y ∷ ys) p q e = absurd cc
lowest_to g h k (x ∷ xs) [] p q e = absurd cc
lowest_to g h k (x ∷ xs) (y ∷ ys) p q e =
    let a = map (sized (divided g)) xs in
    let b = map (sized (divided h)) ys in
    (fraction_to g h k x y p.0 q.0 (head_is (sized (divided g) x) (sized (divided h) y) a b e), lowest_to g h k xs ys p.1 q.1 (tail_is (sized (divided g) x) (sized (divided h) y) a b e))

-- of zeros alone
none_divided : (s r : ℕ) (xs ys : List ℤ) → AllZip (SameTime s r) xs ys → map (sized (divided 0)) xs ≡ map (sized (divided 0)) ys
none_divided s r [] [] h = refl
none_divided s r [] (y ∷ ys) h = absurd h
none_divided s r (x ∷ xs) [] h = absurd h
none_divided s r (x ∷ xs) (y ∷ ys) h = λ i. (by_nothing x ∙ sym (by_nothing y)) i ∷ none_divided s r xs ys h.1 i

zero_is : (g : ℕ) (x u : ℤ) → g ∣ unsigned_abs x → sized (divided g) x ≡ u → u ≡ pos 0 → x ≡ pos 0
zero_is g x u p e none = sym (back_again g x p) ∙ ap (sized (λ n. g * n)) (e ∙ none) ∙ ap pos (omega arith)

zeros_from : (g h : ℕ) (xs ys : List ℤ) → (g ≡ 0) ⊎ (h ≡ 0) → Divides g xs → Divides h ys → map (sized (divided g)) xs ≡ map (sized (divided h)) ys → AllZip (SameTime 1 1) xs ys
zeros_from g h [] [] none p q e = tt
zeros_from g h [] (y ∷ ys) none p q e = absurd cc
zeros_from g h (x ∷ xs) [] none p q e = absurd cc
zeros_from g h (x ∷ xs) (y ∷ ys) none p q e =
    let a = map (sized (divided g)) xs in
    let b = map (sized (divided h)) ys in
    let first = head_is (sized (divided g) x) (sized (divided h) y) a b e in
    let is : sized (divided h) y ≡ pos 0 = ⊎_elim (λ k. sym first ∙ (λ i. sized (divided (k i)) x) ∙ by_nothing x) (λ k. (λ i. sized (divided (k i)) y) ∙ by_nothing y) none in
    (ap (λ z. z *ℤ pos 1) (zero_is g x (sized (divided h) y) p.0 first is ∙ sym (zero_is h y (sized (divided h) y) q.0 refl is)), zeros_from g h xs ys none p.1 q.1 (tail_is (sized (divided g) x) (sized (divided h) y) a b e))

-- Times that are the same over two timescales are the same in lowest terms, and the other way round.
module _ (xs ys : List ℤ) where
  abbrev g : ℕ
  g = divisor_of xs

  abbrev h : ℕ
  h = divisor_of ys

  pub times_to_lowest : SameTimes xs ys → map (sized (divided g)) xs ≡ map (sized (divided h)) ys
  times_to_lowest t = ⊎_elim none some (eq-zero-or-pos (t.r * g))
    where
      both : t.r * g ≡ t.s * h
      both = same_divisors t.s t.r t.above t.other_above xs ys t.each

      factor : (m n : ℕ) → 0 < m → m * n ≡ 0 → n ≡ 0
      factor m n some e = ⊎_elim (λ k. k) (λ more. absurd (let p = mul-pos some more in omega (arith, p, e))) (eq-zero-or-pos n)

      none : t.r * g ≡ 0 → map (sized (divided g)) xs ≡ map (sized (divided h)) ys
      none e =
          let left = factor t.r g t.other_above e in
          let right = factor t.s h t.above (sym both ∙ e) in
          (λ i. map (sized (divided (left i))) xs) ∙ none_divided t.s t.r xs ys t.each ∙ (λ i. map (sized (divided (sym right i))) ys)

      some : 0 < t.r * g → map (sized (divided g)) xs ≡ map (sized (divided h)) ys
      some more = lowest_from t.s t.r g h xs ys more both (divisor_divides xs) (divisor_divides ys) t.each

  pub lowest_to_times : map (sized (divided g)) xs ≡ map (sized (divided h)) ys → SameTimes xs ys
  lowest_to_times e = ⊎_elim (λ k. zeros (inl k)) (λ some. ⊎_elim (λ k. zeros (inr k)) (λ other. times some other) (eq-zero-or-pos h)) (eq-zero-or-pos g)
    where
      zeros : (g ≡ 0) ⊎ (h ≡ 0) → SameTimes xs ys
      zeros none = record { s = 1; r = 1; above = omega arith; other_above = omega arith; each = zeros_from g h xs ys none (divisor_divides xs) (divisor_divides ys) e }

      times : 0 < g → 0 < h → SameTimes xs ys
      times some other =
          record { s = g; r = h; above = some; other_above = other; each = subst (λ n. AllZip (SameTime n h) xs ys) (mul-one g) (subst (λ n. AllZip (SameTime (g * 1) n) xs ys) (mul-one h) (lowest_to g h 1 xs ys (divisor_divides xs) (divisor_divides ys) e)) }

-- ---- lists of times that begin with their timescales

pub timescales_are_theirs : TimescalesAreTheirs
timescales_are_theirs s r xs ys some other = (λ t. theirs (times_to_lowest (pos s ∷ xs) (pos r ∷ ys) t), λ each. record { s = s; r = r; above = some; other_above = other; each = each })
  where
    theirs : map (sized (divided (divisor_of (pos s ∷ xs)))) (pos s ∷ xs) ≡ map (sized (divided (divisor_of (pos r ∷ ys)))) (pos r ∷ ys) → AllZip (SameTime s r) (pos s ∷ xs) (pos r ∷ ys)
    theirs e =
        let p = divisor_divides (pos s ∷ xs) in
        let q = divisor_divides (pos r ∷ ys) in
        let a = divisor_of (pos s ∷ xs) in
        let b = divisor_of (pos r ∷ ys) in
        let k = s / a in
        let first : k ≡ r / b = ap unsigned_abs (head_is (sized (divided a) (pos s)) (sized (divided b) (pos r)) (map (sized (divided a)) xs) (map (sized (divided b)) ys) e) in
        let left : a * k ≡ s = mul-div_cancel' a p.0 in
        let right : b * k ≡ r = ap (λ n. b * n) first ∙ mul-div_cancel' b q.0 in
        let all = lowest_to a b k (pos s ∷ xs) (pos r ∷ ys) p q e in
        subst (λ n. AllZip (SameTime n r) (pos s ∷ xs) (pos r ∷ ys)) left (subst (λ n. AllZip (SameTime (a * k) n) (pos s ∷ xs) (pos r ∷ ys)) right all)
