-- The keys of two maps are the same in either order.
use Rattle.std.proofs.Common.{◌≡◌, ℕ, ◌<◌, ◌≤◌, Bool, true, false, if◌then◌else◌, List, [], ◌∷◌, ◌++◌, refl, sym, arith, inl, inr}
use Rattle.std.specs.Prelude.{nat_lt, fold}
use Rattle.std.specs.List.{AllByRecursion, list_any}
use Rattle.std.proofs.lemmas.Bool.{eqb-true, eq-eqb, or_cases, ltb-true, ltb-false}
use Rattle.mp4_boxes.proofs.Among.{all_append}
use Rattle.mp4_boxes.proofs.Each.{each_value}
use Rattle.mp4_boxes.proofs.Plain.{true_false}
use Rattle.mp4_tables.specs.format.Groups.{GroupKey, Groups, key_rank, same_key}
use Rattle.mp4_tables.proofs.NamedKeys.{IsAmong}
use Rattle.mp4_present.specs.format.Presentation.{IsGroup}
use Rattle.mp4_content.specs.format.Comparison.{with_key, keys_of_both}
use Rattle.mp4_content.proofs.ComparisonGroups.{IsGroupKey, IsMap, group_key, key_same, keys_in, each_there}

-- ---- keys that rise

abbrev AreAbove : GroupKey → List GroupKey → Type 0
AreAbove key keys = AllByRecursion (λ (other : GroupKey). key_rank key < key_rank other) keys

-- each is above those before it
abbrev AreRising : List GroupKey → Type 0
AreRising [] = Unit {0}
AreRising (key ∷ keys) = AreAbove key keys × AreRising keys

put_by : (P : GroupKey → Type 0) (key first : GroupKey) (keys : List GroupKey) (less same : Bool) → P key → AllByRecursion P (first ∷ keys) → AllByRecursion P (with_key keys key)
    → AllByRecursion P (if less then key ∷ first ∷ keys else if same then first ∷ keys else first ∷ with_key keys key)
put_by P key first keys true same p h more = (p, h)
put_by P key first keys false true p h more = h
put_by P key first keys false false p h more = (h.0, more)

-- what holds of keys and of one more holds of them with it
put_each : (P : GroupKey → Type 0) (keys : List GroupKey) (key : GroupKey) → P key → AllByRecursion P keys → AllByRecursion P (with_key keys key)
put_each P [] key p h = (p, tt)
put_each P (first ∷ keys) key p h = put_by P key first keys (nat_lt (key_rank key) (key_rank first)) (same_key key first) p h (put_each P keys key p h.1)

pub all_put : (P : GroupKey → Type 0) (keys more : List GroupKey) → AllByRecursion P keys → AllByRecursion P more → AllByRecursion P (fold with_key keys more)
all_put P keys [] h k = h
all_put P keys (key ∷ more) h k = all_put P (with_key keys key) more (put_each P keys key k.0 h) k.1

above_lower : (low key : GroupKey) (keys : List GroupKey) → key_rank low < key_rank key → AreAbove key keys → AreAbove low keys
above_lower low key [] lt h = tt
above_lower low key (other ∷ keys) lt h = (omega (arith, lt, h.0), above_lower low key keys lt h.1)

rising_by : (key first : GroupKey) (keys : List GroupKey) (less same : Bool) → nat_lt (key_rank key) (key_rank first) ≡ less → same_key key first ≡ same → AreRising (first ∷ keys) → AreRising (with_key keys key)
    → AreRising (if less then key ∷ first ∷ keys else if same then first ∷ keys else first ∷ with_key keys key)
rising_by key first keys true same e f h more =
    let lt : key_rank key < key_rank first = ltb-true (key_rank key) (key_rank first) e in
    ((lt, above_lower key first keys lt h.0), h)
rising_by key first keys false true e f h more = h
rising_by key first keys false false e f h more =
    let le : key_rank first ≤ key_rank key = ltb-false (key_rank key) (key_rank first) e in
    let ne : key_rank key ≡ key_rank first → ⊥ = λ s. true_false (same_key key first) (eq-eqb (key_rank key) (key_rank first) s) f in
    let lt : key_rank first < key_rank key = omega (arith, le, ne) in
    (put_each (λ (other : GroupKey). key_rank first < key_rank other) keys key lt h.0, more)

-- keys that rise still do with one more
still_rising : (keys : List GroupKey) (key : GroupKey) → AreRising keys → AreRising (with_key keys key)
still_rising [] key h = (tt, tt)
still_rising (first ∷ keys) key h = rising_by key first keys (nat_lt (key_rank key) (key_rank first)) (same_key key first) refl refl h (still_rising keys key h.1)

pub all_rising : (keys more : List GroupKey) → AreRising keys → AreRising (fold with_key keys more)
all_rising keys [] h = h
all_rising keys (key ∷ more) h = all_rising (with_key keys key) more (still_rising keys key h)

-- ---- rising keys that are each among the others

-- a key among some is above what they are above
among_above : (key x : GroupKey) (keys : List GroupKey) → AreAbove key keys → IsAmong keys x → key_rank key < key_rank x
among_above key x [] h a = absurd (cc)
among_above key x (other ∷ keys) h a = elim (or_cases (same_key x other) (list_any (same_key x) keys) a) [
  | inl s ↦ omega (arith, h.0, eqb-true (key_rank x) (key_rank other) s)
  | inr r ↦ among_above key x keys h.1 r
]

-- a key of another rank than the first is among the rest
among_rest : (key x : GroupKey) (keys : List GroupKey) → key_rank key < key_rank x → IsAmong (key ∷ keys) x → IsAmong keys x
among_rest key x keys lt a = elim (or_cases (same_key x key) (list_any (same_key x) keys) a) [
  | inl s ↦ absurd (let e = eqb-true (key_rank x) (key_rank key) s in omega (arith, lt, e))
  | inr r ↦ r
]

rest_among : (key first : GroupKey) (keys others : List GroupKey) → key_rank key ≡ key_rank first → AreAbove key keys → AllByRecursion (IsAmong (first ∷ others)) keys → AllByRecursion (IsAmong others) keys
rest_among key first [] others e h a = tt
rest_among key first (x ∷ keys) others e h a = (among_rest first x others (omega (arith, e, h.0)) a.0, rest_among key first keys others e h.1 a.1)

-- the first of them is not below the first of the others
not_below : (key first : GroupKey) (others : List GroupKey) → AreAbove first others → IsAmong (first ∷ others) key → key_rank first ≤ key_rank key
not_below key first others h a = elim (or_cases (same_key key first) (list_any (same_key key) others) a) [
  | inl s ↦ let e = eqb-true (key_rank key) (key_rank first) s in omega (arith, e)
  | inr r ↦ let lt = among_above first key others h r in omega (arith, lt)
]

-- Keys that rise, and are among one another, are the same.
rising_same : (xs ys : List GroupKey) → AreRising xs → AreRising ys → AllByRecursion IsGroupKey xs → AllByRecursion IsGroupKey ys → AllByRecursion (IsAmong ys) xs → AllByRecursion (IsAmong xs) ys → xs ≡ ys
rising_same [] [] r s g h a b = refl
rising_same [] (y ∷ ys) r s g h a b = absurd (let e = b.0 in cc)
rising_same (x ∷ xs) [] r s g h a b = absurd (let e = a.0 in cc)
rising_same (x ∷ xs) (y ∷ ys) r s g h a b =
    let up = not_below x y ys s.0 a.0 in
    let down = not_below y x xs r.0 b.0 in
    let ranks : key_rank x ≡ key_rank y = omega (arith, up, down) in
    let firsts = key_same x y g.0 h.0 ranks in
    let rests = rising_same xs ys r.1 s.1 g.1 h.1 (rest_among x y xs ys ranks r.0 a.1) (rest_among y x ys xs (sym ranks) s.0 b.1) in
    λ i. firsts i ∷ rests i

-- ---- the keys of two maps

keys_good : (groups : Groups) → AllByRecursion IsGroup groups → AllByRecursion IsGroupKey (keys_in groups)
keys_good groups h = each_value IsGroup IsGroupKey (λ (group : GroupKey × ℕ). group.0) group_key groups h

front_all : (P : GroupKey → Type 0) (xs ys : List GroupKey) → AllByRecursion P (xs ++ ys) → AllByRecursion P xs
front_all P [] ys h = tt
front_all P (x ∷ xs) ys h = (h.0, front_all P xs ys h.1)

rest_all : (P : GroupKey → Type 0) (xs ys : List GroupKey) → AllByRecursion P (xs ++ ys) → AllByRecursion P ys
rest_all P [] ys h = h
rest_all P (x ∷ xs) ys h = rest_all P xs ys h.1

module _ (a b : Groups) where
  -- each key of both is among them in the other order
  turned_among : AllByRecursion (IsAmong (keys_of_both b a)) (keys_of_both a b)
  turned_among =
      let there = each_there [] (keys_in b ++ keys_in a) in
      let P = IsAmong (keys_of_both b a) in
      all_put P [] (keys_in a ++ keys_in b) tt (all_append P (keys_in a) (keys_in b) (rest_all P (keys_in b) (keys_in a) there) (front_all P (keys_in b) (keys_in a) there))

  both_good : IsMap a → IsMap b → AllByRecursion IsGroupKey (keys_of_both a b)
  both_good g h = all_put IsGroupKey [] (keys_in a ++ keys_in b) tt (all_append IsGroupKey (keys_in a) (keys_in b) (keys_good a g.each) (keys_good b h.each))

-- The keys of two maps are the same, whichever is first.
pub keys_turned : (a b : Groups) → IsMap a → IsMap b → keys_of_both a b ≡ keys_of_both b a
keys_turned a b g h = rising_same (keys_of_both a b) (keys_of_both b a) (all_rising [] (keys_in a ++ keys_in b) tt) (all_rising [] (keys_in b ++ keys_in a) tt) (both_good a b g h) (both_good b a h g) (turned_among a b) (turned_among b a)
