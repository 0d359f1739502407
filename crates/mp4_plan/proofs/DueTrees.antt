-- Trees of least values: a node is no later than the leaves below it, and stays the lesser of two where a leaf is set.
use Rattle.std.proofs.Common.{◌≡◌, ℕ, zero, suc, ◌+◌, ◌-◌, ◌*◌, ◌/◌, ◌%◌, ◌^◌, ◌<◌, ◌≤◌, nat_lt, Bool, true, false, List, length, refl, sym, ap, subst, ◌∙◌, arith, rules, slice_index, le-mul_of_pos_right, pow_pos, pow-suc, mul_comm, mul_assoc, add-mul, get_or}
use Rattle.std.proofs.lemmas.Grind.{get_or_default_zero}
use Rattle.mp4_plan.specs.words.DueTracks.{IsLesser}

-- ---- numbers

double : (node h : ℕ) → node * 2 ^ suc h ≡ 2 * node * 2 ^ h
double node h = let p : 2 ^ suc h ≡ 2 ^ h * 2 = pow-suc 2 h in ap (λ q. node * q) p ∙ turned node (2 ^ h)
  where
    turned : (a b : ℕ) → a * (b * 2) ≡ 2 * a * b
    turned a b = sym (mul_assoc a b 2) ∙ mul_comm (a * b) 2 ∙ sym (mul_assoc 2 a b)

pub at_least : (a b : ℕ) → 0 < b → a ≤ a * b
at_least a b some = le-mul_of_pos_right a some

-- ---- below a node

module _ (least : List ℕ) (n : ℕ) (each : (i : ℕ) → 0 < i → i < n → IsLesser least i) where
  left_of : (i : ℕ) → 0 < i → i < n → slice_index least i ≤ slice_index least (2 * i)
  left_of i some lt = let e = each i some lt in omega (arith, e)

  right_of : (i : ℕ) → 0 < i → i < n → slice_index least i ≤ slice_index least (2 * i + 1)
  right_of i some lt = let e = each i some lt in omega (arith, e)

  -- a node is no later than those so many levels below it
  below : (h node r : ℕ) → 0 < node → r < 2 ^ h → node * 2 ^ h + r < 2 * n → slice_index least node ≤ slice_index least (node * 2 ^ h + r)
  below zero node r some lt within =
      let e : node ≡ node * 2 ^ 0 + r = omega (arith, lt) in
      subst (λ k. slice_index least node ≤ slice_index least k) e (omega arith)
  below (suc h) node r some lt within = by (nat_lt r (2 ^ h)) refl (λ child s a b c. below h child s a b c)
    where
      two : node * 2 ^ suc h ≡ 2 * node * 2 ^ h
      two = double node h

      inner : node < n
      inner = let a = at_least (2 * node) (2 ^ h) (pow_pos h) in let b = two in omega (arith, a, b, within)

      by : (v : Bool) → nat_lt r (2 ^ h) ≡ v → ((child s : ℕ) → 0 < child → s < 2 ^ h → child * 2 ^ h + s < 2 * n → slice_index least child ≤ slice_index least (child * 2 ^ h + s))
          → slice_index least node ≤ slice_index least (node * 2 ^ suc h + r)
      by true e lower =
          let few : r < 2 ^ h = search rules in
          let b = two in
          let a = lower (2 * node) r (omega (arith, some)) few (omega (arith, within, b)) in
          let l = left_of node some inner in
          let same : 2 * node * 2 ^ h + r ≡ node * 2 ^ suc h + r = omega (arith, b) in
          subst (λ k. slice_index least node ≤ slice_index least k) same (omega (arith, a, l))
      by false e lower =
          let many : 2 ^ h ≤ r = search rules in
          let b = two in
          let p : 2 ^ suc h ≡ 2 ^ h * 2 = pow-suc 2 h in
          let d : (2 * node + 1) * 2 ^ h ≡ 2 * node * 2 ^ h + 1 * 2 ^ h = add-mul (2 * node) 1 (2 ^ h) in
          let a = lower (2 * node + 1) (r - 2 ^ h) (omega arith) (omega (arith, lt, many, p)) (omega (arith, within, b, d, many)) in
          let l = right_of node some inner in
          let same : (2 * node + 1) * 2 ^ h + (r - 2 ^ h) ≡ node * 2 ^ suc h + r = omega (arith, b, d, many) in
          subst (λ k. slice_index least node ≤ slice_index least k) same (omega (arith, a, l))

  -- none of the leaves below a node is before a cut, where that isn't
  pub passes : (h node at cut k : ℕ) → 0 < node → node * 2 ^ h ≡ n + at → cut ≤ slice_index least node → at ≤ k → k < at + 2 ^ h → k < n → cut ≤ slice_index least (n + k)
  passes h node at cut k some place late from few lt =
      let a = below h node (k - at) some (omega (arith, from, few)) (omega (arith, place, from, lt)) in
      let same : node * 2 ^ h + (k - at) ≡ n + k = omega (arith, place, from) in
      let b = subst (λ j. slice_index least node ≤ slice_index least j) same a in
      omega (arith, late, b)

  -- no more leaves behind those that were passed
  pub passed_on : (h node width at cut from : ℕ) → width ≡ 2 ^ h → 0 < node → node * width ≡ n + at → cut ≤ slice_index least node → ((k : ℕ) → from ≤ k → k < at → k < n → cut ≤ slice_index least (n + k))
      → (k : ℕ) → from ≤ k → k < at + width → k < n → cut ≤ slice_index least (n + k)
  passed_on h node width at cut from is some place late passed k begun few lt = by (nat_lt k at) refl
    where
      by : (v : Bool) → nat_lt k at ≡ v → cut ≤ slice_index least (n + k)
      by true e = passed k begun (search rules) lt
      by false e =
          let behind : at ≤ k = search rules in
          passes h node at cut k some (subst (λ w. node * w ≡ n + at) is place) late behind (omega (arith, few, is)) lt

  -- the root is no later than any
  root : (fuel i : ℕ) → i ≤ fuel → 0 < i → i < 2 * n → slice_index least 1 ≤ slice_index least i
  root zero i le some lt = absurd (omega (arith, le, some))
  root (suc fuel) i le some lt = by (nat_lt i 2) refl (λ many. root fuel (i / 2) (omega (arith, le, many)) (omega (arith, many)) (omega (arith, lt)))
    where
      by_side : (v : Bool) → nat_lt (i % 2) 1 ≡ v → 2 ≤ i → slice_index least 1 ≤ slice_index least (i / 2) → slice_index least 1 ≤ slice_index least i
      by_side true f many a =
          let even : i % 2 < 1 = search rules in
          let same : 2 * (i / 2) ≡ i = omega (arith, even) in
          let l = subst (λ k. slice_index least (i / 2) ≤ slice_index least k) same (left_of (i / 2) (omega (arith, many)) (omega (arith, lt))) in
          omega (arith, a, l)
      by_side false f many a =
          let odd : 1 ≤ i % 2 = search rules in
          let same : 2 * (i / 2) + 1 ≡ i = omega (arith, odd) in
          let l = subst (λ k. slice_index least (i / 2) ≤ slice_index least k) same (right_of (i / 2) (omega (arith, many)) (omega (arith, lt))) in
          omega (arith, a, l)

      by : (v : Bool) → nat_lt i 2 ≡ v → (2 ≤ i → slice_index least 1 ≤ slice_index least (i / 2)) → slice_index least 1 ≤ slice_index least i
      by true e upper =
          let few : i < 2 = search rules in
          let same : 1 ≡ i = omega (arith, few, some) in
          subst (λ k. slice_index least 1 ≤ slice_index least k) same (omega arith)
      by false e upper =
          let many : 2 ≤ i = search rules in
          by_side (nat_lt (i % 2) 1) refl many (upper many)

  -- no leaf is before a cut, where the root isn't
  pub none_before : (cut k : ℕ) → cut ≤ slice_index least 1 → k < n → cut ≤ slice_index least (n + k)
  none_before cut k late lt = let a = root (n + k) (n + k) (omega arith) (omega (arith, lt)) (omega (arith, lt)) in omega (arith, late, a)

-- ---- places in a tree

-- so many leaves lie below a node
pub width_few : (node width n at : ℕ) → 0 < node → node * width ≡ n + at → width ≤ n + at
width_few node width n at some place = let a = at_least width node some in let b = mul_comm node width in omega (arith, a, b, place)

pub node_few : (node width n at : ℕ) → 0 < width → node * width ≡ n + at → node ≤ n + at
node_few node width n at some place = let a = at_least node width some in omega (arith, a, place)

-- the node beside it
pub beside : (node width n at : ℕ) → node * width ≡ n + at → (node + 1) * width ≡ n + (at + width)
beside node width n at place = let a = add-mul node 1 width in omega (arith, a, place)

-- above a left one
pub above : (node width n at : ℕ) → node * width ≡ n + at → node % 2 ≡ 0 → node / 2 * (width * 2) ≡ n + at
above node width n at place even =
    let same : node / 2 * 2 ≡ node = omega (arith, even) in
    let a = mul_comm width 2 in
    ap (λ w. node / 2 * w) a ∙ sym (mul_assoc (node / 2) 2 width) ∙ ap (λ k. k * width) same ∙ place

pub wider : (width h : ℕ) → width ≡ 2 ^ h → width * 2 ≡ 2 ^ (h + 1)
wider width h e = let p : 2 ^ suc h ≡ 2 ^ h * 2 = pow-suc 2 h in let one : h + 1 ≡ suc h = omega arith in ap (λ k. k * 2) e ∙ sym p ∙ ap (λ k. 2 ^ k) (sym one)

-- the left one below it
pub narrower : (width h : ℕ) → width ≡ 2 ^ h → (width ≡ 1 → ⊥) → (g : ℕ) × (width / 2 ≡ 2 ^ g) × (width ≡ width / 2 * 2)
narrower width zero e more = absurd (more e)
narrower width (suc h) e more = let p : 2 ^ suc h ≡ 2 ^ h * 2 = pow-suc 2 h in (h, omega (arith, e, p), omega (arith, e, p))

pub under : (node width n at : ℕ) → node * width ≡ n + at → width ≡ width / 2 * 2 → node * 2 * (width / 2) ≡ n + at
under node width n at place two =
    let a = mul_comm 2 (width / 2) in
    mul_assoc node 2 (width / 2) ∙ ap (λ k. node * k) (a ∙ sym two) ∙ place

-- what was read of a node
pub read_late : (xs : List ℕ) (i x cut : ℕ) → x ≡ get_or xs i x → i < length xs → cut ≤ x → cut ≤ slice_index xs i
read_late xs i x cut e lt late = subst (λ k. cut ≤ k) (e ∙ get_or_default_zero xs i x lt) late
