-- What the differences between two maps of sample groups tell: where there is none, maps in their order are equal.
use Rattle.std.proofs.Common.{◌≡◌, ℕ, ◌+◌, ◌^◌, ◌<◌, ◌≤◌, Bool, true, false, if◌then◌else◌, List, [], ◌∷◌, ◌++◌, length, Option, Some, None, refl, sym, ap, subst, ◌∙◌, arith, inl, inr}
use Rattle.std.specs.Prelude.{◌==◌, nat_lt, slice_index, fold, map, flat_map}
use Rattle.std.specs.List.{AllByRecursion, list_any, list_all}
use Rattle.std.proofs.lemmas.Bool.{eqb-true, eq-eqb, ne_eqb, or_cases, or_left, or_parts, or_from, and_parts, ltb-true, cases_order}
use Rattle.mp4_boxes.specs.format.Bytes.{field, AreBytes}
use Rattle.mp4_boxes.proofs.Plain.{four_digits, four_items, not_true_is, true_false}
use Rattle.mp4_tables.specs.format.Groups.{GroupKey, Groups, key_rank, parameter_rank, same_key, is_in_order, index_at}
use Rattle.mp4_tables.proofs.NamedKeys.{IsAmong, IsNone, same_itself, among_more, among_first, among_through}
use Rattle.mp4_present.specs.format.Presentation.{IsParameter, IsGroup}
use Rattle.mp4_content.specs.format.Differences.{numbers_differ}
use Rattle.mp4_content.specs.format.Comparison.{with_key, keys_of_both, index_differences}
use Rattle.mp4_content.specs.declared.comparing.differences.Subject.{Subject}
use Rattle.mp4_content.specs.declared.comparing.differences.Field.{Field}
use Rattle.mp4_content.specs.declared.comparing.differences.Field.TheVariants as fields
use Rattle.mp4_content.specs.declared.comparing.differences.Value.TheVariants.{Number}
use Rattle.mp4_content.specs.declared.comparing.differences.Difference.{Difference}
use Rattle.mp4_content.proofs.ComparisonValues.{Tells, both, weaker, number_tells, differ_self}

-- ---- a key is known by its rank

-- types of one number are one type
pub kind_same : (xs ys : List ℕ) → length xs ≡ 4 → length ys ≡ 4 → AreBytes xs → AreBytes ys → field xs 0 4 ≡ field ys 0 4 → xs ≡ ys
kind_same xs ys e f h k same =
    let d = four_digits (slice_index xs 0) (slice_index xs 1) (slice_index xs 2) (slice_index xs 3) (slice_index ys 0) (slice_index ys 1) (slice_index ys 2) (slice_index ys 3) (h 1) (h 2) (h 3) (k 1) (k 2) (k 3) same in
    four_items xs e ∙ (λ i. d.0 i ∷ d.1 i ∷ d.2 i ∷ d.3 i ∷ []) ∙ sym (four_items ys f)

-- the rank of a parameter is below its bound
pub parameter_small : (o : Option ℕ) → IsParameter o → parameter_rank o < 2 ^ 32 + 1
parameter_small None h = omega arith
parameter_small (Some n) h = omega arith

-- parameters of one rank are one
pub parameter_same : (o p : Option ℕ) → parameter_rank o ≡ parameter_rank p → o ≡ p
parameter_same None None e = refl
parameter_same None (Some n) e = absurd (omega (arith, e))
parameter_same (Some m) None e = absurd (omega (arith, e))
parameter_same (Some m) (Some n) e = let same : m ≡ n = omega (arith, e) in ap (λ (k : ℕ). Some k) same

-- a type of four bytes, and a parameter of 32 bits, where there is one
pub record IsGroupKey (key : GroupKey) : Type 0 where
  pub kind_length : length key.kind ≡ 4
  pub kind : AreBytes key.kind
  pub parameter : IsParameter key.parameter

-- the key of an index is one
pub group_key : (group : GroupKey × ℕ) → IsGroup group → IsGroupKey group.0
group_key group h = record { kind_length = h.kind_length; kind = h.kind; parameter = h.parameter }

-- Keys of one rank are one key.
pub key_same : (a b : GroupKey) → IsGroupKey a → IsGroupKey b → key_rank a ≡ key_rank b → a ≡ b
key_same a b is other e =
    let pa = parameter_small a.parameter is.parameter in
    let pb = parameter_small b.parameter other.parameter in
    let kinds : field a.kind 0 4 ≡ field b.kind 0 4 = omega (arith, e, pa, pb) in
    let parameters : parameter_rank a.parameter ≡ parameter_rank b.parameter = omega (arith, e, pa, pb, kinds) in
    let p = kind_same a.kind b.kind is.kind_length other.kind_length is.kind other.kind kinds in
    let q = parameter_same a.parameter b.parameter parameters in
    λ i. record { kind = p i; parameter = q i }

-- ---- maps with the same index at each key

-- keys of one rank have one index
pub index_rank : (groups : Groups) (x y : GroupKey) → key_rank x ≡ key_rank y → index_at x groups ≡ index_at y groups
index_rank [] x y e = refl
index_rank (group ∷ groups) x y e = λ i. if (e i == key_rank group.0) then group.1 else index_rank groups x y e i

-- each key of the map is above this rank
abbrev AreAbove : ℕ → Groups → Type 0
AreAbove n groups = AllByRecursion (λ (group : GroupKey × ℕ). n < key_rank group.0) groups

all_above : (key : GroupKey) (groups : Groups) → list_all (λ (other : GroupKey × ℕ). nat_lt (key_rank key) (key_rank other.0)) groups ≡ true → AreAbove (key_rank key) groups
all_above key [] e = tt
all_above key (group ∷ groups) e =
    let p = and_parts (nat_lt (key_rank key) (key_rank group.0)) (list_all (λ (other : GroupKey × ℕ). nat_lt (key_rank key) (key_rank other.0)) groups) e in
    (ltb-true (key_rank key) (key_rank group.0) p.0, all_above key groups p.1)

above_lower : (m n : ℕ) (groups : Groups) → m ≤ n → AreAbove n groups → AreAbove m groups
above_lower m n [] le h = tt
above_lower m n (group ∷ groups) le h = (omega (arith, le, h.0), above_lower m n groups le h.1)

-- no index below all keys
index_none : (key : GroupKey) (groups : Groups) → AreAbove (key_rank key) groups → index_at key groups ≡ 0
index_none key [] h = refl
index_none key (group ∷ groups) h = rw (ne_eqb (key_rank key) (key_rank group.0) (λ e. omega (arith, h.0, e))) (index_none key groups h.1)

index_first : (group : GroupKey × ℕ) (groups : Groups) → index_at group.0 (group ∷ groups) ≡ group.1
index_first group groups = rw (same_itself group.0) refl

index_later : (key : GroupKey) (group : GroupKey × ℕ) (groups : Groups) → (key_rank key ≡ key_rank group.0 → ⊥) → index_at key (group ∷ groups) ≡ index_at key groups
index_later key group groups ne = rw (ne_eqb (key_rank key) (key_rank group.0) ne) refl

-- in their order, each once, and none of them 0
pub record IsMap (groups : Groups) : Type 0 where
  pub each : AllByRecursion IsGroup groups
  pub order : is_in_order groups ≡ true

abbrev SameIndexes : Groups → Groups → Type 0
SameIndexes a b = (key : GroupKey) → index_at key a ≡ index_at key b

module _ (g : GroupKey × ℕ) (a : Groups) (is : IsMap (g ∷ a)) where
  order_parts : (list_all (λ (other : GroupKey × ℕ). nat_lt (key_rank g.0) (key_rank other.0)) a ≡ true) × (is_in_order a ≡ true)
  order_parts = and_parts (list_all (λ (other : GroupKey × ℕ). nat_lt (key_rank g.0) (key_rank other.0)) a) (is_in_order a) is.order

  rest_above : AreAbove (key_rank g.0) a
  rest_above = all_above g.0 a order_parts.0

  rest_map : IsMap a
  rest_map = record { each = is.each.1; order = order_parts.1 }

  -- a map without the first key of another has other indexes
  not_missing : (b : Groups) → AreAbove (key_rank g.0) b → SameIndexes (g ∷ a) b → ⊥
  not_missing b h same =
      let e : g.1 ≡ 0 = sym (index_first g a) ∙ same g.0 ∙ index_none g.0 b h in
      let some = is.each.0.index_from_1 in
      omega (arith, e, some)

module _ (g h : GroupKey × ℕ) (a b : Groups) (is : IsMap (g ∷ a)) (other : IsMap (h ∷ b)) (same : SameIndexes (g ∷ a) (h ∷ b)) where
  keys_meet : key_rank g.0 ≡ key_rank h.0
  keys_meet = elim (cases_order (key_rank g.0) (key_rank h.0)) [
    | inl e ↦ e
    | inr (inl lt) ↦ absurd (not_missing g a is (h ∷ b) (lt, above_lower (key_rank g.0) (key_rank h.0) b (omega (arith, lt)) (rest_above h b other)) same)
    | inr (inr lt) ↦ absurd (not_missing h b other (g ∷ a) (lt, above_lower (key_rank h.0) (key_rank g.0) a (omega (arith, lt)) (rest_above g a is)) (λ key. sym (same key)))
  ]

  firsts_meet : g.1 ≡ h.1
  firsts_meet = sym (index_first g a) ∙ same g.0 ∙ index_rank (h ∷ b) g.0 h.0 keys_meet ∙ index_first h b

  rest_by : (key : GroupKey) (v : Bool) → same_key key g.0 ≡ v → index_at key a ≡ index_at key b
  rest_by key true e =
      let at_g : key_rank key ≡ key_rank g.0 = eqb-true (key_rank key) (key_rank g.0) e in
      let none : index_at key a ≡ 0 = index_none key a (subst (λ (n : ℕ). AreAbove n a) (sym at_g) (rest_above g a is)) in
      let at_h : key_rank key ≡ key_rank h.0 = at_g ∙ keys_meet in
      let none_there : index_at key b ≡ 0 = index_none key b (subst (λ (n : ℕ). AreAbove n b) (sym at_h) (rest_above h b other)) in
      none ∙ sym none_there
  rest_by key false e =
      let not_g : key_rank key ≡ key_rank g.0 → ⊥ = λ s. true_false (same_key key g.0) (eq-eqb (key_rank key) (key_rank g.0) s) e in
      let not_h : key_rank key ≡ key_rank h.0 → ⊥ = λ s. not_g (s ∙ sym keys_meet) in
      sym (index_later key g a not_g) ∙ same key ∙ index_later key h b not_h

  rests_meet : SameIndexes a b
  rests_meet key = rest_by key (same_key key g.0) refl

-- Maps with the same index at each key are equal.
pub maps_same : (a b : Groups) → IsMap a → IsMap b → SameIndexes a b → a ≡ b
maps_same [] [] is other same = refl
maps_same [] (h ∷ b) is other same = absurd (not_missing h b other [] tt (λ key. sym (same key)))
maps_same (g ∷ a) [] is other same = absurd (not_missing g a is [] tt same)
maps_same (g ∷ a) (h ∷ b) is other same =
    let key = key_same g.0 h.0 (group_key g is.each.0) (group_key h other.each.0) (keys_meet g h a b is other same) in
    let index = firsts_meet g h a b is other same in
    let rest = maps_same a b (rest_map g a is) (rest_map h b other) (rests_meet g h a b is other same) in
    λ i. (key i, index i) ∷ rest i

-- ---- the keys of both

has_by : (key first : GroupKey) (keys : List GroupKey) (less same : Bool) → same_key key first ≡ same → IsAmong (with_key keys key) key
    → IsAmong (if less then key ∷ first ∷ keys else if same then first ∷ keys else first ∷ with_key keys key) key
has_by key first keys true same e h = among_first (first ∷ keys) key
has_by key first keys false true e h = or_left (same_key key first) (list_any (same_key key) keys) e
has_by key first keys false false e h = among_more (with_key keys key) key first h

-- a key that is put among keys is one of them
has_key : (keys : List GroupKey) (key : GroupKey) → IsAmong (with_key keys key) key
has_key [] key = among_first [] key
has_key (first ∷ keys) key = has_by key first keys (nat_lt (key_rank key) (key_rank first)) (same_key key first) refl (has_key keys key)

stays_by : (key first x : GroupKey) (keys : List GroupKey) (less same : Bool) → IsAmong (first ∷ keys) x → (IsAmong keys x → IsAmong (with_key keys key) x)
    → IsAmong (if less then key ∷ first ∷ keys else if same then first ∷ keys else first ∷ with_key keys key) x
stays_by key first x keys true same h more = among_more (first ∷ keys) x key h
stays_by key first x keys false true h more = h
stays_by key first x keys false false h more = elim (or_cases (same_key x first) (list_any (same_key x) keys) h) [
  | inl s ↦ or_left (same_key x first) (list_any (same_key x) (with_key keys key)) s
  | inr r ↦ among_more (with_key keys key) x first (more r)
]

-- the others stay
key_stays : (keys : List GroupKey) (key x : GroupKey) → IsAmong keys x → IsAmong (with_key keys key) x
key_stays [] key x h = absurd (cc)
key_stays (first ∷ keys) key x h = stays_by key first x keys (nat_lt (key_rank key) (key_rank first)) (same_key key first) h (key_stays keys key x)

pub stays_through : (keys more : List GroupKey) (x : GroupKey) → IsAmong keys x → IsAmong (fold with_key keys more) x
stays_through keys [] x h = h
stays_through keys (key ∷ more) x h = stays_through (with_key keys key) more x (key_stays keys key x h)

-- Each key of some is among them in their order.
pub each_there : (keys more : List GroupKey) → AllByRecursion (IsAmong (fold with_key keys more)) more
each_there keys [] = tt
each_there keys (key ∷ more) = (stays_through (with_key keys key) more key (has_key keys key), each_there (with_key keys key) more)

abbrev pub keys_in : Groups → List GroupKey
keys_in groups = map (λ (group : GroupKey × ℕ). group.0) groups

-- a key of neither is none of both
none_parts : (xs ys : List GroupKey) (key : GroupKey) → IsNone (xs ++ ys) key → IsNone xs key × IsNone ys key
none_parts [] ys key n = (refl, n)
none_parts (x ∷ xs) ys key n =
    let p = or_parts (same_key key x) (list_any (same_key key) (xs ++ ys)) n in
    let q = none_parts xs ys key p.1 in
    (or_from (same_key key x) (list_any (same_key key) xs) p.0 q.0, q.1)

-- there is no index at a key that is none of the map's
no_index : (groups : Groups) (key : GroupKey) → IsNone (keys_in groups) key → index_at key groups ≡ 0
no_index [] key n = refl
no_index (group ∷ groups) key n =
    let p = or_parts (same_key key group.0) (list_any (same_key key) (keys_in groups)) n in
    rw p.0 (no_index groups key p.1)

-- the index at a key
abbrev pub key_field : GroupKey → Field
key_field key = fields.Group (record { kind = record { 0 = key.kind }; parameter = key.parameter })

module _ (of : Subject) (a b : Groups) where
  -- what differs at some keys
  abbrev pub at_keys : List GroupKey → List Difference
  at_keys keys = flat_map (λ (key : GroupKey). numbers_differ of (key_field key) (index_at key a) (index_at key b)) keys

  keys_tell : (keys : List GroupKey) → Tells (at_keys keys) ((key : GroupKey) → IsAmong keys key → index_at key a ≡ index_at key b)
  keys_tell [] = record { none = λ e key h. absurd (cc); each = tt }
  keys_tell (k ∷ keys) = weaker (both (number_tells of (key_field k) (index_at k a) (index_at k b)) (keys_tell keys)) (λ t key h. elim (or_cases (same_key key k) (list_any (same_key key) keys) h) [
    | inl s ↦ let e = eqb-true (key_rank key) (key_rank k) s in index_rank a key k e ∙ t.0 ∙ sym (index_rank b key k e)
    | inr r ↦ t.1 key r
  ])

  abbrev all_keys : List GroupKey
  all_keys = keys_in a ++ keys_in b

  -- the index at a key that is none of both is 0 in both
  pub none_same : (key : GroupKey) → list_any (same_key key) (keys_of_both a b) ≡ false → index_at key a ≡ index_at key b
  none_same key e =
      let none : IsNone all_keys key = not_true_is (list_any (same_key key) all_keys) (λ t. true_false (list_any (same_key key) (keys_of_both a b)) (among_through all_keys (keys_of_both a b) key (each_there [] all_keys) t) e) in
      let p = none_parts (keys_in a) (keys_in b) key none in
      no_index a key p.0 ∙ sym (no_index b key p.1)

  each_by : ((key : GroupKey) → IsAmong (keys_of_both a b) key → index_at key a ≡ index_at key b) → (key : GroupKey) (v : Bool) → list_any (same_key key) (keys_of_both a b) ≡ v → index_at key a ≡ index_at key b
  each_by h key true e = h key e
  each_by h key false e = none_same key e

  -- Maps are equal where nothing differs at any key of both.
  pub index_tells : Tells (index_differences of a b) (IsMap a → IsMap b → a ≡ b)
  index_tells = weaker (keys_tell (keys_of_both a b)) (λ h is other. maps_same a b is other (λ key. each_by h key (list_any (same_key key) (keys_of_both a b)) refl))

keys_self : (of : Subject) (a : Groups) (keys : List GroupKey) → at_keys of a a keys ≡ []
keys_self of a [] = refl
keys_self of a (key ∷ keys) = rw (differ_self of (key_field key) (Number (index_at key a))) (keys_self of a keys)

-- Nothing differs between a map and itself.
pub index_self : (of : Subject) (a : Groups) → index_differences of a a ≡ []
index_self of a = keys_self of a (keys_of_both a a)
