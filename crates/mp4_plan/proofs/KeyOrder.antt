-- Keys in their order: each once, and none but those that were put there; they cover the map of each sample whose keys they are.
use Rattle.std.proofs.Common.{◌≡◌, ℕ, ◌^◌, ◌<◌, Option, None, Some, ◌≤◌, Bool, true, false, cond, ltb, List, [], ◌∷◌, refl, sym, ap, subst, arith, inl, inr}
use Rattle.std.specs.Prelude.{nat_lt, IfSome}
use Rattle.std.specs.List.{AllByRecursion, list_any, list_all}
use Rattle.std.proofs.lemmas.Bool.{eqb-true, eq-eqb, or_cases, or_left, and_parts, ltb-true, ltb-false, cases_lt}
use Rattle.mp4_boxes.proofs.Plain.{true_false}
use Rattle.mp4_tables.specs.format.Groups.{GroupKey, Groups, key_rank, same_key, is_in_order}
use Rattle.mp4_tables.proofs.NamedKeys.{IsAmong, AreOnce, among_more, among_first}
use Rattle.mp4_present.specs.format.Presentation.{IsGroup, IsParameter}
use Rattle.mp4_plan.specs.format.TableLaws.{IsKey, KeysAreRanked}
use Rattle.mp4_plan.specs.format.Normal.{put_key, in_key_order}
use Rattle.mp4_plan.proofs.Maps.{AreAbove, KeysAbove, Covers, none, without, with_index}
use Rattle.mp4_content.proofs.KeysOfBoth.{above_above, key_same as one_key, above_none, among_above, among_rest}

-- ---- a key is known by its rank

-- the key of a group is one
pub key_of_group : (group : GroupKey × ℕ) → IsGroup group → IsKey group.0
key_of_group group h = record { kind_length = h.kind_length; kind = h.kind; parameter = h.parameter }

parameter_is : (o : Option ℕ) → IsParameter o → IfSome o (λ n. n < 2 ^ 32)
parameter_is None h = tt
parameter_is (Some n) h = h

-- Keys of one rank are one key.
pub key_same : (a b : GroupKey) → IsKey a → IsKey b → key_rank a ≡ key_rank b → a ≡ b
key_same a b h k e =
    one_key a b (record { kind_length = h.kind_length; kind = h.kind; parameter = parameter_is a.parameter h.parameter })
    (record { kind_length = k.kind_length; kind = k.kind; parameter = parameter_is b.parameter k.parameter }) e

pub keys_are_ranked : KeysAreRanked
keys_are_ranked a b h k = (key_same a b h k, λ e. ap key_rank e)

-- ---- keys in their order

-- each is above those before it
abbrev pub AreRising : List GroupKey → Type 0
AreRising [] = Unit {0}
AreRising (key ∷ keys) = KeysAbove key keys × AreRising keys

put_above_by : (low key other : GroupKey) (keys : List GroupKey) (same less : Bool) → key_rank low < key_rank key → KeysAbove low (other ∷ keys) → KeysAbove low (put_key key keys)
    → KeysAbove low (cond same (other ∷ keys) (cond less (key ∷ other ∷ keys) (other ∷ put_key key keys)))
put_above_by low key other keys true less l h k = h
put_above_by low key other keys false true l h k = (l, h)
put_above_by low key other keys false false l h k = (h.0, k)

-- a key above another is put above it
put_above : (low key : GroupKey) (keys : List GroupKey) → key_rank low < key_rank key → KeysAbove low keys → KeysAbove low (put_key key keys)
put_above low key [] l h = (l, tt)
put_above low key (other ∷ keys) l h = put_above_by low key other keys (same_key key other) (ltb (key_rank key) (key_rank other)) l h (put_above low key keys l h.1)

put_rising_by : (key other : GroupKey) (keys : List GroupKey) (same less : Bool) → same_key key other ≡ same → ltb (key_rank key) (key_rank other) ≡ less → AreRising (other ∷ keys) → AreRising (put_key key keys)
    → AreRising (cond same (other ∷ keys) (cond less (key ∷ other ∷ keys) (other ∷ put_key key keys)))
put_rising_by key other keys true less e f h k = h
put_rising_by key other keys false true e f h k = let l : key_rank key < key_rank other = ltb-true (key_rank key) (key_rank other) f in ((l, above_above key other keys l h.0), h)
put_rising_by key other keys false false e f h k =
    let le : key_rank other ≤ key_rank key = ltb-false (key_rank key) (key_rank other) f in
    let ne : key_rank key ≡ key_rank other → ⊥ = λ s. true_false (same_key key other) (eq-eqb (key_rank key) (key_rank other) s) e in
    let l : key_rank other < key_rank key = omega arith in
    (put_above other key keys l h.0, k)

-- keys that rise still do with one more
put_rising : (key : GroupKey) (keys : List GroupKey) → AreRising keys → AreRising (put_key key keys)
put_rising key [] h = (tt, tt)
put_rising key (other ∷ keys) h = put_rising_by key other keys (same_key key other) (ltb (key_rank key) (key_rank other)) refl refl h (put_rising key keys h.1)

-- Keys that were put in their order rise.
pub order_rises : (keys : List GroupKey) → AreRising (in_key_order keys)
order_rises [] = tt
order_rises (key ∷ keys) = put_rising key (in_key_order keys) (order_rises keys)

put_each_by : (P : GroupKey → Type 0) (key other : GroupKey) (keys : List GroupKey) (same less : Bool) → P key → AllByRecursion P (other ∷ keys) → AllByRecursion P (put_key key keys)
    → AllByRecursion P (cond same (other ∷ keys) (cond less (key ∷ other ∷ keys) (other ∷ put_key key keys)))
put_each_by P key other keys true less p h k = h
put_each_by P key other keys false true p h k = (p, h)
put_each_by P key other keys false false p h k = (h.0, k)

-- what holds of each key still does with one more
put_each : (P : GroupKey → Type 0) (key : GroupKey) (keys : List GroupKey) → P key → AllByRecursion P keys → AllByRecursion P (put_key key keys)
put_each P key [] p h = (p, tt)
put_each P key (other ∷ keys) p h = put_each_by P key other keys (same_key key other) (ltb (key_rank key) (key_rank other)) p h (put_each P key keys p h.1)

-- What holds of each key holds of each in their order.
pub order_each : (P : GroupKey → Type 0) (keys : List GroupKey) → AllByRecursion P keys → AllByRecursion P (in_key_order keys)
order_each P [] h = tt
order_each P (key ∷ keys) h = put_each P key (in_key_order keys) h.0 (order_each P keys h.1)

put_there_by : (key other : GroupKey) (keys : List GroupKey) (same less : Bool) → same_key key other ≡ same → IsAmong (put_key key keys) key
    → IsAmong (cond same (other ∷ keys) (cond less (key ∷ other ∷ keys) (other ∷ put_key key keys))) key
put_there_by key other keys true less e k = or_left (same_key key other) (list_any (same_key key) keys) e
put_there_by key other keys false true e k = among_first (other ∷ keys) key
put_there_by key other keys false false e k = among_more (put_key key keys) key other k

-- the key that was put is there
put_there : (key : GroupKey) (keys : List GroupKey) → IsAmong (put_key key keys) key
put_there key [] = among_first [] key
put_there key (other ∷ keys) = put_there_by key other keys (same_key key other) (ltb (key_rank key) (key_rank other)) refl (put_there key keys)

put_stays_by : (key other x : GroupKey) (keys : List GroupKey) (same less : Bool) → IsAmong (other ∷ keys) x → (IsAmong keys x → IsAmong (put_key key keys) x)
    → IsAmong (cond same (other ∷ keys) (cond less (key ∷ other ∷ keys) (other ∷ put_key key keys))) x
put_stays_by key other x keys true less h k = h
put_stays_by key other x keys false true h k = among_more (other ∷ keys) x key h
put_stays_by key other x keys false false h k = elim (or_cases (same_key x other) (list_any (same_key x) keys) h) [
  | inl s ↦ or_left (same_key x other) (list_any (same_key x) (put_key key keys)) s
  | inr r ↦ among_more (put_key key keys) x other (k r)
]

-- the others stay
put_stays : (key x : GroupKey) (keys : List GroupKey) → IsAmong keys x → IsAmong (put_key key keys) x
put_stays key x [] h = absurd (cc)
put_stays key x (other ∷ keys) h = put_stays_by key other x keys (same_key key other) (ltb (key_rank key) (key_rank other)) h (put_stays key x keys)

-- so does each of a list
all_stay : (key : GroupKey) (keys list : List GroupKey) → AllByRecursion (IsAmong keys) list → AllByRecursion (IsAmong (put_key key keys)) list
all_stay key keys [] h = tt
all_stay key keys (x ∷ list) h = (put_stays key x keys h.0, all_stay key keys list h.1)

-- Each key is among them in their order.
pub order_has : (keys : List GroupKey) → AllByRecursion (IsAmong (in_key_order keys)) keys
order_has [] = tt
order_has (key ∷ keys) = (put_there key (in_key_order keys), all_stay key (in_key_order keys) keys (order_has keys))

-- Keys that rise are each there once.
pub rising_once : (keys : List GroupKey) → AreRising keys → AreOnce keys
rising_once [] h = tt
rising_once (key ∷ keys) h = (above_none key keys h.0, rising_once keys h.1)

-- ---- maps that are covered

-- so is each key of a map
rest_among : (key : GroupKey) (keys : List GroupKey) (groups : Groups) → AreAbove key groups → AllByRecursion (λ (group : GroupKey × ℕ). IsAmong (key ∷ keys) group.0) groups → AllByRecursion (λ (group : GroupKey × ℕ). IsAmong keys group.0) groups
rest_among key keys [] h a = tt
rest_among key keys (group ∷ groups) h a = (among_rest key group.0 keys (λ e. omega (arith, h.0, e)) a.0, rest_among key keys groups h.1 a.1)

-- the test of an order passes what is above
all_above : (key : GroupKey) (groups : Groups) → list_all (λ (other : GroupKey × ℕ). nat_lt (key_rank key) (key_rank other.0)) groups ≡ true → AreAbove key groups
all_above key [] e = tt
all_above key (group ∷ groups) e =
    let p = and_parts (ltb (key_rank key) (key_rank group.0)) (list_all (λ (other : GroupKey × ℕ). nat_lt (key_rank key) (key_rank other.0)) groups) e in
    (ltb-true (key_rank key) (key_rank group.0) p.0, all_above key groups p.1)

-- what is above a key is above those below it, in a map
more_above : (low : GroupKey) (key : GroupKey) (groups : Groups) → key_rank low < key_rank key → AreAbove key groups → AreAbove low groups
more_above low key [] l h = tt
more_above low key (group ∷ groups) l h = (omega (arith, l, h.0), more_above low key groups l h.1)

-- a key and the index at it
cover_first : (key : GroupKey) (keys : List GroupKey) (group : GroupKey × ℕ) (groups : Groups) → key ≡ group.0 → 0 < group.1 → KeysAbove key keys → AreAbove group.0 groups → Covers keys groups → Covers (key ∷ keys) (group ∷ groups)
cover_first key keys group groups e some k a c =
    subst (λ (x : GroupKey). Covers (key ∷ keys) ((x, group.1) ∷ groups)) e (with_index some k (subst (λ (x : GroupKey). AreAbove x groups) (sym e) a) c)

-- Keys that rise cover a map in its order whose keys are among them.
pub covers : (keys : List GroupKey) (groups : Groups) → AreRising keys → AllByRecursion IsKey keys → is_in_order groups ≡ true → AllByRecursion IsGroup groups
    → AllByRecursion (λ (group : GroupKey × ℕ). IsAmong keys group.0) groups → Covers keys groups
covers [] [] r k o g a = none
covers [] (group ∷ groups) r k o g a = absurd (let e = a.0 in cc)
covers (key ∷ keys) [] r k o g a = without tt (covers keys [] r.1 k.1 refl tt tt)
covers (key ∷ keys) (group ∷ groups) r k o g a =
    let p = and_parts (list_all (λ (other : GroupKey × ℕ). nat_lt (key_rank group.0) (key_rank other.0)) groups) (is_in_order groups) o in
    let above = all_above group.0 groups p.0 in
    elim (cases_lt (key_rank key) (key_rank group.0)) [
      | inl lt ↦
          let all : AreAbove key (group ∷ groups) = (lt, more_above key group.0 groups lt above) in
          without all (covers keys (group ∷ groups) r.1 k.1 o g (rest_among key keys (group ∷ groups) all a))
      | inr le ↦
          elim (or_cases (same_key group.0 key) (list_any (same_key group.0) keys) a.0) [
            | inl s ↦
                let e : key ≡ group.0 = key_same key group.0 k.0 (key_of_group group g.0) (sym (eqb-true (key_rank group.0) (key_rank key) s)) in
                let behind = rest_among key keys groups (subst (λ (x : GroupKey). AreAbove x groups) (sym e) above) a.1 in
                let from_1 = g.0.index_from_1 in
                cover_first key keys group groups e (omega arith) r.0 above (covers keys groups r.1 k.1 p.1 g.1 behind)
            | inr t ↦ absurd (let l = among_above key group.0 keys r.0 t in omega arith)
          ]
    ]
