-- Keys that are put in their order.
use Rattle.std.proofs.Common.{◌≡◌, ℕ, zero, suc, ◌+◌, ◌^◌, ◌<◌, ◌≤◌, Bool, true, false, ltb, Option, Some, None, List, [], ◌∷◌, ◌++◌, length, take, drop, refl, sym, ap, subst, ◌∙◌, arith, inl, inr, append_assoc}
use Rattle.std.specs.Prelude.{map, flat_map, IfSome}
use Rattle.std.specs.List.{AllByRecursion, list_any}
use Rattle.std.proofs.lemmas.List.{map-append, take-append-drop}
use Rattle.std.proofs.lemmas.Bool.{lt-ltb, ltb-true, eqb-true, eq-eqb, ne_eqb, or_cases, or_from, cases_lt}
use Rattle.mp4_boxes.specs.format.Bytes.{field}
use Rattle.mp4_boxes.proofs.Plain.{drop_all, take_everything}
use Rattle.mp4_tables.specs.format.Groups.{GroupKey, key_rank, parameter_rank, same_key}
use Rattle.mp4_tables.proofs.NamedKeys.{IsAmong, IsNone}
use Rattle.mp4_tables.proofs.Placed.{IsKey}
use Rattle.mp4_tables.specs.words.Keys.{key_seen}
use Rattle.mp4_tables.specs.declared.keys.GroupKey.{GroupKey as KeyNamed}
use Rattle.mp4_content.specs.format.Comparison.{with_key}
use Rattle.mp4_content.proofs.ComparisonGroups.{kind_same, parameter_same}

-- ---- a key that is put among others

below_first : (key first : GroupKey) (keys : List GroupKey) → key_rank key < key_rank first → with_key (first ∷ keys) key ≡ key ∷ first ∷ keys
below_first key first keys lt = rw (lt-ltb (key_rank key) (key_rank first) lt) refl

not_below : (m n : ℕ) → n ≤ m → ltb m n ≡ false
not_below m n le = by (ltb m n) refl
  where
    by : (v : Bool) → ltb m n ≡ v → v ≡ false
    by true e = let lt = ltb-true m n e in absurd (omega (arith, lt, le))
    by false e = refl

as_first : (key first : GroupKey) (keys : List GroupKey) → key_rank key ≡ key_rank first → with_key (first ∷ keys) key ≡ first ∷ keys
as_first key first keys e = rw (not_below (key_rank key) (key_rank first) (omega (arith, e)), eq-eqb (key_rank key) (key_rank first) e) refl

above_first : (key first : GroupKey) (keys : List GroupKey) → key_rank first < key_rank key → with_key (first ∷ keys) key ≡ first ∷ with_key keys key
above_first key first keys lt = rw (not_below (key_rank key) (key_rank first) (omega (arith, lt)), ne_eqb (key_rank key) (key_rank first) (λ e. omega (arith, lt, e))) refl

-- those in front of a place, and behind them the key among the others
abbrev PutsAt : List KeyNamed → ℕ → KeyNamed → List GroupKey → Type 0
PutsAt xs k key whole = map key_seen (take k xs) ++ with_key (map key_seen (drop k xs)) (key_seen key) ≡ whole

pub key_before : (xs : List KeyNamed) (k : ℕ) (x key : KeyNamed) (whole : List GroupKey) → drop k xs ≡ x ∷ drop (k + 1) xs → key_rank (key_seen key) < key_rank (key_seen x) → PutsAt xs k key whole → map key_seen (take k xs ++ key ∷ drop k xs) ≡ whole
key_before xs k x key whole e lt h =
    let behind : with_key (map key_seen (drop k xs)) (key_seen key) ≡ key_seen key ∷ map key_seen (drop k xs) =
    ap (λ (ks : List KeyNamed). with_key (map key_seen ks) (key_seen key)) e ∙ below_first (key_seen key) (key_seen x) (map key_seen (drop (k + 1) xs)) lt ∙ ap (λ (ks : List KeyNamed). key_seen key ∷ map key_seen ks) (sym e) in
    map-append key_seen (take k xs) (key ∷ drop k xs) ∙ ap (λ (ks : List GroupKey). map key_seen (take k xs) ++ ks) (sym behind) ∙ h

pub key_there : (xs : List KeyNamed) (k : ℕ) (x key : KeyNamed) (whole : List GroupKey) → drop k xs ≡ x ∷ drop (k + 1) xs → key_rank (key_seen key) ≡ key_rank (key_seen x) → PutsAt xs k key whole → map key_seen xs ≡ whole
key_there xs k x key whole e same h =
    let behind : with_key (map key_seen (drop k xs)) (key_seen key) ≡ map key_seen (drop k xs) =
    ap (λ (ks : List KeyNamed). with_key (map key_seen ks) (key_seen key)) e ∙ as_first (key_seen key) (key_seen x) (map key_seen (drop (k + 1) xs)) same ∙ ap (map key_seen) (sym e) in
    ap (map key_seen) (sym (take-append-drop k xs)) ∙ map-append key_seen (take k xs) (drop k xs) ∙ ap (λ (ks : List GroupKey). map key_seen (take k xs) ++ ks) (sym behind) ∙ h

take_one_more : (xs : List KeyNamed) (k : ℕ) (x : KeyNamed) (more : List KeyNamed) → drop k xs ≡ x ∷ more → take (k + 1) xs ≡ take k xs ++ x ∷ []
take_one_more xs k x more e = let one : suc k ≡ k + 1 = omega arith in subst (λ n. take n xs ≡ take k xs ++ x ∷ []) one (by xs k e)
  where
    by : (ys : List KeyNamed) (n : ℕ) → drop n ys ≡ x ∷ more → take (suc n) ys ≡ take n ys ++ x ∷ []
    by [] zero f = absurd cc
    by [] (suc n) f = absurd cc
    by (y ∷ ys) zero f = let same : y ≡ x = cc in ap (λ (z : KeyNamed). z ∷ []) same
    by (y ∷ ys) (suc n) f = ap (λ (zs : List KeyNamed). y ∷ zs) (by ys n f)

pub key_behind : (xs : List KeyNamed) (k : ℕ) (x key : KeyNamed) (whole : List GroupKey) → drop k xs ≡ x ∷ drop (k + 1) xs → key_rank (key_seen x) < key_rank (key_seen key) → PutsAt xs k key whole → PutsAt xs (k + 1) key whole
key_behind xs k x key whole e lt h =
    let rest = with_key (map key_seen (drop (k + 1) xs)) (key_seen key) in
    let behind : with_key (map key_seen (drop k xs)) (key_seen key) ≡ key_seen x ∷ rest =
    ap (λ (ks : List KeyNamed). with_key (map key_seen ks) (key_seen key)) e ∙ above_first (key_seen key) (key_seen x) (map key_seen (drop (k + 1) xs)) lt in
    ap (λ (ks : List KeyNamed). map key_seen ks ++ rest) (take_one_more xs k x (drop (k + 1) xs) e) ∙ ap (λ (ks : List GroupKey). ks ++ rest) (map-append key_seen (take k xs) (x ∷ []))
    ∙ append_assoc (map key_seen (take k xs)) (key_seen x ∷ []) rest ∙ ap (λ (ks : List GroupKey). map key_seen (take k xs) ++ ks) (sym behind) ∙ h

pub key_last : (xs : List KeyNamed) (k : ℕ) (key : KeyNamed) (whole : List GroupKey) → length xs ≤ k → PutsAt xs k key whole → map key_seen (xs ++ key ∷ []) ≡ whole
key_last xs k key whole le h =
    map-append key_seen xs (key ∷ []) ∙ sym (λ i. map key_seen (take_everything xs k le i) ++ with_key (map key_seen (drop_all xs k le i)) (key_seen key)) ∙ h

-- ---- keys in their order

-- each of these keys is above this one
abbrev pub KeysAbove : GroupKey → List GroupKey → Type 0
KeysAbove key keys = AllByRecursion (λ (other : GroupKey). key_rank key < key_rank other) keys

-- each is above those before it
abbrev pub AreRising : List GroupKey → Type 0
AreRising [] = Unit {0}
AreRising (key ∷ keys) = KeysAbove key keys × AreRising keys

pub above_above : (low key : GroupKey) (keys : List GroupKey) → key_rank low < key_rank key → KeysAbove key keys → KeysAbove low keys
above_above low key [] l h = tt
above_above low key (other ∷ keys) l h = (omega (arith, l, h.0), above_above low key keys l h.1)

-- ---- a key is known by its rank

parameter_small : (o : Option ℕ) → IfSome o (λ n. n < 2 ^ 32) → parameter_rank o < 2 ^ 32 + 1
parameter_small None h = omega arith
parameter_small (Some n) h = omega arith

pub key_same : (a b : GroupKey) → IsKey a → IsKey b → key_rank a ≡ key_rank b → a ≡ b
key_same a b h k e =
    let pa = parameter_small a.parameter h.parameter in
    let pb = parameter_small b.parameter k.parameter in
    let kinds : field a.kind 0 4 ≡ field b.kind 0 4 = omega (arith, e, pa, pb) in
    let parameters : parameter_rank a.parameter ≡ parameter_rank b.parameter = omega (arith, e, pa, pb, kinds) in
    let p = kind_same a.kind b.kind h.kind_length k.kind_length h.kind k.kind kinds in
    let q = parameter_same a.parameter b.parameter parameters in
    λ i. record { kind = p i; parameter = q i }

-- ---- a list that is made of keys in their order

pub above_none : (key : GroupKey) (keys : List GroupKey) → KeysAbove key keys → IsNone keys key
above_none key [] h = refl
above_none key (other ∷ keys) h = or_from (same_key key other) (list_any (same_key key) keys) (ne_eqb (key_rank key) (key_rank other) (λ e. omega (arith, h.0, e))) (above_none key keys h.1)

pub among_above : (key x : GroupKey) (keys : List GroupKey) → KeysAbove key keys → IsAmong keys x → key_rank key < key_rank x
among_above key x [] h a = absurd cc
among_above key x (other ∷ keys) h a = elim (or_cases (same_key x other) (list_any (same_key x) keys) a) [
  | inl s ↦ let e = eqb-true (key_rank x) (key_rank other) s in omega (arith, h.0, e)
  | inr r ↦ among_above key x keys h.1 r
]

pub among_rest : (key x : GroupKey) (keys : List GroupKey) → (key_rank x ≡ key_rank key → ⊥) → IsAmong (key ∷ keys) x → IsAmong keys x
among_rest key x keys ne a = elim (or_cases (same_key x key) (list_any (same_key x) keys) a) [
  | inl s ↦ absurd (ne (eqb-true (key_rank x) (key_rank key) s))
  | inr r ↦ r
]

rest_among : (key : GroupKey) (keys xs : List GroupKey) → KeysAbove key xs → AllByRecursion (IsAmong (key ∷ keys)) xs → AllByRecursion (IsAmong keys) xs
rest_among key keys [] h a = tt
rest_among key keys (x ∷ xs) h a = (among_rest key x keys (λ e. omega (arith, h.0, e)) a.0, rest_among key keys xs h.1 a.1)

-- what is none of some keys is none of them with one below it
none_more : (key x : GroupKey) (keys : List GroupKey) → key_rank key < key_rank x → IsNone keys x → IsNone (key ∷ keys) x
none_more key x keys lt n = or_from (same_key x key) (list_any (same_key x) keys) (ne_eqb (key_rank x) (key_rank key) (λ e. omega (arith, lt, e))) n

module _ {B : Type 0} (f : GroupKey → List B) where
  -- at a key that is none of these there is nothing
  abbrev pub NothingElse : List GroupKey → List GroupKey → Type 0
  NothingElse xs keys = AllByRecursion (λ (x : GroupKey). IsNone xs x → f x ≡ []) keys

  nothing_behind : (key : GroupKey) (xs keys : List GroupKey) → KeysAbove key keys → NothingElse (key ∷ xs) keys → NothingElse xs keys
  nothing_behind key xs [] h n = tt
  nothing_behind key xs (x ∷ keys) h n = ((λ none. n.0 (none_more key x xs h.0 none)), nothing_behind key xs keys h.1 n.1)

  skip_key : (key : GroupKey) (rest whole : List B) → f key ≡ [] → rest ≡ whole → f key ++ rest ≡ whole
  skip_key key rest whole e h = ap (λ (bs : List B). bs ++ rest) e ∙ h

  -- keys in their order give what those of them give at which there is something
  pub joint : (keys xs : List GroupKey) → AreRising keys → AreRising xs → AllByRecursion IsKey keys → AllByRecursion IsKey xs → AllByRecursion (IsAmong keys) xs → NothingElse xs keys → flat_map f keys ≡ flat_map f xs
  joint [] [] r s p q a n = refl
  joint [] (x ∷ xs) r s p q a n = absurd (let e = a.0 in cc)
  joint (key ∷ keys) [] r s p q a n = skip_key key (flat_map f keys) [] (n.0 refl) (joint keys [] r.1 tt p.1 tt tt n.1)
  joint (key ∷ keys) (x ∷ xs) r s p q a n = elim (cases_lt (key_rank key) (key_rank x)) [
    | inl lt ↦
        let all : KeysAbove key (x ∷ xs) = (lt, above_above key x xs lt s.0) in
        skip_key key (flat_map f keys) (flat_map f (x ∷ xs)) (n.0 (above_none key (x ∷ xs) all)) (joint keys (x ∷ xs) r.1 s p.1 q (rest_among key keys (x ∷ xs) all a) n.1)
    | inr le ↦
        elim (or_cases (same_key x key) (list_any (same_key x) keys) a.0) [
          | inl t ↦
              let e : key ≡ x = key_same key x p.0 q.0 (sym (eqb-true (key_rank x) (key_rank key) t)) in
              let above : KeysAbove key xs = subst (λ (k : GroupKey). KeysAbove k xs) (sym e) s.0 in
              let others : NothingElse (key ∷ xs) keys = subst (λ (k : GroupKey). NothingElse (k ∷ xs) keys) (sym e) n.1 in
              let rest = joint keys xs r.1 s.1 p.1 q.1 (rest_among key keys xs above a.1) (nothing_behind key xs keys r.0 others) in
              λ i. f (e i) ++ rest i
          | inr t ↦ absurd (let l = among_above key x keys r.0 t in omega (arith, l, le))
        ]
  ]
