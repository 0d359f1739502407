-- Keys that are named: what is among them stays, each is there once, and no more are found than are named.
use Rattle.std.proofs.Common.{◌≡◌, ℕ, suc, ◌≤◌, Bool, true, false, cond, eqb, List, [], ◌∷◌, ◌++◌, length, refl, sym, ap, ◌∙◌, arith, inl, inr}
use Rattle.std.specs.List.{AllByRecursion, list_any}
use Rattle.std.proofs.lemmas.Bool.{eqb-true, eq-eqb, ne_eqb, or_cases, or_left, or_right, or_parts, or_from}
use Rattle.mp4_boxes.proofs.Among.{all_append}
use Rattle.mp4_boxes.proofs.Plain.{true_false}
use Rattle.mp4_tables.specs.format.Groups.{GroupKey, key_rank, same_key, keys_with}

-- the key is one of these, and is none of them
abbrev pub IsAmong : List GroupKey → GroupKey → Type 0
IsAmong keys key = list_any (same_key key) keys ≡ true

abbrev pub IsNone : List GroupKey → GroupKey → Type 0
IsNone keys key = list_any (same_key key) keys ≡ false

-- keys of one rank are among the same keys
pub by_rank : (keys : List GroupKey) (a b : GroupKey) → key_rank a ≡ key_rank b → list_any (same_key a) keys ≡ list_any (same_key b) keys
by_rank keys a b e = ap (λ (n : ℕ). list_any (λ (k : GroupKey). eqb n (key_rank k)) keys) e

-- what is one of some keys has another rank than what is none of them
pub other_rank : (keys : List GroupKey) (a b : GroupKey) → IsAmong keys a → IsNone keys b → key_rank a ≡ key_rank b → ⊥
other_rank keys a b h n e = true_false (list_any (same_key b) keys) (sym (by_rank keys a b e) ∙ h) n

-- a key is the same as itself
pub same_itself : (key : GroupKey) → same_key key key ≡ true
same_itself key = eq-eqb (key_rank key) (key_rank key) refl

-- a test of two keys says the same of them turned round
same_turned : (a b : GroupKey) (v : Bool) → same_key a b ≡ v → same_key b a ≡ v
same_turned a b true e = eq-eqb (key_rank b) (key_rank a) (sym (eqb-true (key_rank a) (key_rank b) e))
same_turned a b false e = ne_eqb (key_rank b) (key_rank a) (λ s. true_false (same_key a b) (eq-eqb (key_rank a) (key_rank b) (sym s)) e)

-- the same the other way round
pub same_other : (a b : GroupKey) → same_key a b ≡ false → same_key b a ≡ false
same_other a b e = same_turned a b false e

-- one more key in front, or behind
pub among_more : (keys : List GroupKey) (key other : GroupKey) → IsAmong keys key → IsAmong (other ∷ keys) key
among_more keys key other h = or_right (same_key key other) (list_any (same_key key) keys) h

-- a key is among keys that it is put in front of
pub among_first : (keys : List GroupKey) (key : GroupKey) → IsAmong (key ∷ keys) key
among_first keys key = or_left (same_key key key) (list_any (same_key key) keys) (same_itself key)

-- what is among keys is among them and more
pub among_front : (keys more : List GroupKey) (key : GroupKey) → IsAmong keys key → IsAmong (keys ++ more) key
among_front [] more key h = absurd (cc)
among_front (k ∷ keys) more key h = elim (or_cases (same_key key k) (list_any (same_key key) keys) h) [
  | inl s ↦ or_left (same_key key k) (list_any (same_key key) (keys ++ more)) s
  | inr r ↦ or_right (same_key key k) (list_any (same_key key) (keys ++ more)) (among_front keys more key r)
]

-- a key is among keys that it is put behind
among_last : (keys : List GroupKey) (key : GroupKey) → IsAmong (keys ++ key ∷ []) key
among_last [] key = among_first [] key
among_last (k ∷ keys) key = among_more (keys ++ key ∷ []) key k (among_last keys key)

-- what is one of keys that are all among others is among those
pub among_through : (keys others : List GroupKey) (key : GroupKey) → AllByRecursion (IsAmong others) keys → IsAmong keys key → IsAmong others key
among_through [] others key h a = absurd (cc)
among_through (k ∷ keys) others key h a = elim (or_cases (same_key key k) (list_any (same_key key) keys) a) [
  | inl s ↦ by_rank others key k (eqb-true (key_rank key) (key_rank k) s) ∙ h.0
  | inr r ↦ among_through keys others key h.1 r
]

-- ---- keys that are named one after the other

-- the keys behind one more
abbrev next_keys : List GroupKey → GroupKey → List GroupKey
next_keys keys key = cond (list_any (same_key key) keys) keys (keys ++ key ∷ [])

-- what is among keys is among them and one more, whatever the choice
stays_next : (keys : List GroupKey) (key other : GroupKey) (v : Bool) → IsAmong keys key → IsAmong (cond v keys (keys ++ other ∷ [])) key
stays_next keys key other true h = h
stays_next keys key other false h = among_front keys (other ∷ []) key h

-- a key is among keys to which it was added if it was none of them
named_next : (keys : List GroupKey) (key : GroupKey) (v : Bool) → list_any (same_key key) keys ≡ v → IsAmong (cond v keys (keys ++ key ∷ [])) key
named_next keys key true e = e
named_next keys key false e = among_last keys key

-- what is among keys is still among them behind more
pub among_with : (keys more : List GroupKey) (key : GroupKey) → IsAmong keys key → IsAmong (keys_with keys more) key
among_with keys [] key h = h
among_with keys (other ∷ more) key h = among_with (next_keys keys other) more key (stays_next keys key other (list_any (same_key other) keys) h)

-- each of them is among them
pub each_named : (keys more : List GroupKey) → AllByRecursion (IsAmong (keys_with keys more)) more
each_named keys [] = tt
each_named keys (key ∷ more) = (among_with (next_keys keys key) more key (named_next keys key (list_any (same_key key) keys) refl), each_named (next_keys keys key) more)

-- ---- how many keys are found

-- each key once
abbrev pub AreOnce : List GroupKey → Type 0
AreOnce [] = Unit {0}
AreOnce (key ∷ keys) = IsNone keys key × AreOnce keys

-- none of some keys, and not the one behind them
none_behind : (keys : List GroupKey) (key other : GroupKey) → IsNone keys other → same_key other key ≡ false → IsNone (keys ++ key ∷ []) other
none_behind [] key other n e = or_from (same_key other key) false e refl
none_behind (k ∷ keys) key other n e =
    let p = or_parts (same_key other k) (list_any (same_key other) keys) n in
    or_from (same_key other k) (list_any (same_key other) (keys ++ key ∷ [])) p.0 (none_behind keys key other p.1 e)

-- keys that are each there once, and a new one behind them
once_behind : (keys : List GroupKey) (key : GroupKey) → AreOnce keys → IsNone keys key → AreOnce (keys ++ key ∷ [])
once_behind [] key h n = (refl, tt)
once_behind (k ∷ keys) key h n =
    let p = or_parts (same_key key k) (list_any (same_key key) keys) n in
    (none_behind keys key k h.0 (same_other key k p.0), once_behind keys key h.1 p.1)

-- the keys but for one, which is among them
record Without (key : GroupKey) (keys : List GroupKey) : Type 0 where
  others : List GroupKey
  fewer : length keys ≡ suc (length others)
  left : (x : GroupKey) → same_key key x ≡ false → IsAmong keys x → IsAmong others x

-- the step of `without`, by the first key
without_choice : (key k : GroupKey) (keys : List GroupKey) (v : Bool) → same_key key k ≡ v → (IsAmong keys key → Without key keys) → IsAmong (k ∷ keys) key → Without key (k ∷ keys)
without_choice key k keys true e more h = record {
  others = keys;
  fewer = refl;
  left = λ x n a. elim (or_cases (same_key x k) (list_any (same_key x) keys) a) [
    | inl s ↦ absurd (true_false (same_key key x) (eq-eqb (key_rank key) (key_rank x) (eqb-true (key_rank key) (key_rank k) e ∙ sym (eqb-true (key_rank x) (key_rank k) s))) n)
    | inr r ↦ r
  ];
}
without_choice key k keys false e more h =
    let rest : IsAmong keys key = (elim (or_cases (same_key key k) (list_any (same_key key) keys) h) [ inl s ↦ absurd (true_false (same_key key k) s e) | inr r ↦ r ]) in
    let w = more rest in
    record {
      others = k ∷ w.others;
      fewer = ap suc w.fewer;
      left = λ x n a. elim (or_cases (same_key x k) (list_any (same_key x) keys) a) [
        | inl s ↦ or_left (same_key x k) (list_any (same_key x) w.others) s
        | inr r ↦ or_right (same_key x k) (list_any (same_key x) w.others) (w.left x n r)
      ];
    }

-- keys without one that is among them
without : (key : GroupKey) (keys : List GroupKey) → IsAmong keys key → Without key keys
without key [] h = absurd (cc)
without key (k ∷ keys) h = without_choice key k keys (same_key key k) refl (without key keys) h

-- keys that are not that one are among the others
all_left : (key : GroupKey) (named : List GroupKey) (w : Without key named) (keys : List GroupKey) → IsNone keys key → AllByRecursion (IsAmong named) keys → AllByRecursion (IsAmong w.others) keys
all_left key named w [] n h = tt
all_left key named w (k ∷ keys) n h =
    let p = or_parts (same_key key k) (list_any (same_key key) keys) n in
    (w.left k p.0 h.0, all_left key named w keys p.1 h.1)

-- keys that are each there once and among others are no more than those
pub no_more : (keys named : List GroupKey) → AreOnce keys → AllByRecursion (IsAmong named) keys → length keys ≤ length named
no_more [] named o h = omega arith
no_more (key ∷ keys) named o h =
    let w = without key named h.0 in
    let rest = no_more keys w.others o.1 (all_left key named w keys o.0 h.1) in
    omega (arith, rest, w.fewer)

-- each is still there once behind one more
next_once : (keys : List GroupKey) (key : GroupKey) (v : Bool) → list_any (same_key key) keys ≡ v → AreOnce keys → AreOnce (cond v keys (keys ++ key ∷ []))
next_once keys key true e h = h
next_once keys key false e h = once_behind keys key h e

-- all are still among those named behind one more
next_among : (named keys : List GroupKey) (key : GroupKey) (v : Bool) → IsAmong named key → AllByRecursion (IsAmong named) keys → AllByRecursion (IsAmong named) (cond v keys (keys ++ key ∷ []))
next_among named keys key true a h = h
next_among named keys key false a h = all_append (IsAmong named) keys (key ∷ []) h (a, tt)

-- the keys of a list, each once, are no more than the keys among which they all are
pub few_with : (keys more named : List GroupKey) → AreOnce keys → AllByRecursion (IsAmong named) keys → AllByRecursion (IsAmong named) more → length (keys_with keys more) ≤ length named
few_with keys [] named o h k = no_more keys named o h
few_with keys (key ∷ more) named o h k =
    few_with (next_keys keys key) more named (next_once keys key (list_any (same_key key) keys) refl o) (next_among named keys key (list_any (same_key key) keys) k.0 h) k.1
