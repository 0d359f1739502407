-- The keys that a piece uses are those of its samples' groups.
use Rattle.std.proofs.Common.{◌≡◌, ℕ, zero, suc, ◌+◌, ◌<◌, ◌≤◌, Bool, true, false, cond, List, [], ◌∷◌, ◌++◌, length, drop, refl, sym, ap, ◌∙◌, arith, inl, inr}
use Rattle.std.specs.Prelude.{map, slice_index, nat_lt, ◌==◌}
use Rattle.std.specs.List.{AllByRecursion, list_any, list_all}
use Rattle.std.proofs.lemmas.Bool.{ltb-true, eqb-true, ne_eqb, or_cases, or_left, or_right, and_cases}
use Rattle.mp4_tables.specs.format.Groups.{GroupKey, Groups, key_rank, same_key, index_at}
use Rattle.mp4_tables.specs.words.Timed.{padded}
use Rattle.mp4_tables.specs.declared.sample.SampleAt.{SampleAt}
use Rattle.mp4_tables.proofs.NamedKeys.{IsAmong, among_through, among_front}
use Rattle.mp4_present.specs.format.Presentation.{IsGroup}
use Rattle.mp4_content.specs.format.TimedSamples.{TimedSample}
use Rattle.mp4_plan.specs.format.Normal.{in_key_order}
use Rattle.mp4_plan.specs.format.SpellingLaws.{sample_keys}
use Rattle.mp4_plan.specs.words.Gathering.{index_of}
use Rattle.mp4_plan.specs.words.PlannerLaws.{indexes as indexes_of}
use Rattle.mp4_content.specs.words.TakenSamples.{AreTaken}
use Rattle.mp4_plan.specs.words.UsedKeys.{IsKeyAt, used_from}
use Rattle.mp4_plan.proofs.Maps.{KeysAbove}
use Rattle.mp4_plan.specs.format.TableLaws.{IsKey}
use Rattle.mp4_plan.proofs.KeyOrder.{key_same, AreRising, order_rises, order_has, order_each}
use Rattle.mp4_plan.proofs.NextKeys.{has_at, key_behind}
use Rattle.mp4_boxes.proofs.Plain.{true_false}
use Rattle.mp4_content.proofs.KeysOfBoth.{among_above, among_rest}

-- ---- lists of keys that rise

first_least : (x y : GroupKey) (xs : List GroupKey) → KeysAbove x xs → IsAmong (x ∷ xs) y → key_rank x ≤ key_rank y
first_least x y xs h a = elim (or_cases (same_key y x) (list_any (same_key y) xs) a) [
  | inl s ↦ let e = eqb-true (key_rank y) (key_rank x) s in omega (arith, e)
  | inr r ↦ let lt = among_above x y xs h r in omega (arith, lt)
]

all_rest : (x y : GroupKey) (xs ys : List GroupKey) → key_rank x ≡ key_rank y → KeysAbove x xs → AllByRecursion (IsAmong (y ∷ ys)) xs → AllByRecursion (IsAmong ys) xs
all_rest x y [] ys e h a = tt
all_rest x y (z ∷ xs) ys e h a = (among_rest y z ys (λ s. let lt = h.0 in omega (arith, e, s, lt)) a.0, all_rest x y xs ys e h.1 a.1)

-- Keys that rise and are each among the other ones are those.
same_rising : (xs ys : List GroupKey) → AreRising xs → AreRising ys → AllByRecursion (IsAmong ys) xs → AllByRecursion (IsAmong xs) ys → AllByRecursion IsKey xs → AllByRecursion IsKey ys → xs ≡ ys
same_rising [] [] r s a b k l = refl
same_rising [] (y ∷ ys) r s a b k l = absurd (let e = b.0 in cc)
same_rising (x ∷ xs) [] r s a b k l = absurd (let e = a.0 in cc)
same_rising (x ∷ xs) (y ∷ ys) r s a b k l =
    let le = first_least y x ys s.0 a.0 in
    let ge = first_least x y xs r.0 b.0 in
    let e : key_rank x ≡ key_rank y = omega (arith, le, ge) in
    let same = key_same x y k.0 l.0 e in
    let rest = same_rising xs ys r.1 s.1 (all_rest x y xs ys e r.0 a.1) (all_rest y x ys xs (sym e) s.0 b.1) k.1 l.1 in
    λ i. same i ∷ rest i

through_order : (xs ys : List GroupKey) → AllByRecursion (IsAmong ys) xs → AllByRecursion (IsAmong (in_key_order ys)) (in_key_order xs)
through_order xs ys a = order_each (IsAmong (in_key_order ys)) xs (each xs ys a)
  where
    each : (xs ys : List GroupKey) → AllByRecursion (IsAmong ys) xs → AllByRecursion (IsAmong (in_key_order ys)) xs
    each [] ys a = tt
    each (x ∷ xs) ys a = (among_through ys (in_key_order ys) x (order_has ys) a.0, each xs ys a.1)

-- Keys of which each is among the other ones are the same in their order.
pub same_order : (xs ys : List GroupKey) → AllByRecursion (IsAmong ys) xs → AllByRecursion (IsAmong xs) ys → AllByRecursion IsKey xs → AllByRecursion IsKey ys → in_key_order xs ≡ in_key_order ys
same_order xs ys a b k l = same_rising (in_key_order xs) (in_key_order ys) (order_rises xs) (order_rises ys) (through_order xs ys a) (through_order ys xs b) (order_each IsKey xs k) (order_each IsKey ys l)

-- ---- places of keys

-- a place is one of the list
pub at_within : (keys : List GroupKey) (j : ℕ) (key : GroupKey) → IsKeyAt keys j key → j < length keys
at_within [] j key e = absurd (has_at [] j key e)
at_within (k ∷ keys) zero key e = omega arith
at_within (k ∷ keys) (suc j) key e = let lt = at_within keys j key (key_behind k keys j key e) in omega (arith, lt)

-- the keys behind the first of those from a place on
pub next_from : (all : List GroupKey) (j : ℕ) (key : GroupKey) (keys : List GroupKey) → drop j all ≡ key ∷ keys → drop (j + 1) all ≡ keys
next_from [] zero key keys e = absurd (cc)
next_from [] (suc j) key keys e = absurd (cc)
next_from (k ∷ all) zero key keys e = cc
next_from (k ∷ all) (suc j) key keys e = let n : suc j + 1 ≡ suc (j + 1) = omega arith in ap (λ m. drop m (k ∷ all)) n ∙ next_from all j key keys e

-- What holds of each key at its place that has rows holds of the used ones.
pub used_each : (P : GroupKey → Type 0) (all : List GroupKey) (rows : List ℕ) (j : ℕ) (keys : List GroupKey) → drop j all ≡ keys → ((i : ℕ) (k : GroupKey) → IsKeyAt all i k → 0 < slice_index rows i → P k) → AllByRecursion P (used_from rows j keys)
used_each P all rows j [] e f = tt
used_each P all rows j (key ∷ keys) e f = by (used_each P all rows (j + 1) keys (next_from all j key keys e) f) (nat_lt 0 (slice_index rows j)) refl
  where
    by : AllByRecursion P (used_from rows (j + 1) keys) → (v : Bool) → nat_lt 0 (slice_index rows j) ≡ v → AllByRecursion P (cond v (key ∷ used_from rows (j + 1) keys) (used_from rows (j + 1) keys))
    by rest true is = (f j key (e ∙ ap (λ l. key ∷ l) (sym (next_from all j key keys e))) (ltb-true 0 (slice_index rows j) is), rest)
    by rest false is = rest

-- the index at a key of the track
pub padded_at : (f : GroupKey → ℕ) (n : ℕ) (keys : List GroupKey) (j : ℕ) (key : GroupKey) → IsKeyAt keys j key → j < n → slice_index (padded n (map f keys)) j ≡ f key
padded_at f zero keys j key e lt = absurd (omega (arith, lt))
padded_at f (suc n) [] j key e lt = absurd (has_at [] j key e)
padded_at f (suc n) (k ∷ keys) zero key e lt = let same : k ≡ key = cc in ap f same
padded_at f (suc n) (k ∷ keys) (suc j) key e lt = padded_at f n keys j key (key_behind k keys j key e) (omega (arith, lt))

-- the indexes of samples at a key
pub indexes_are : (file : List ℕ) (keys : List GroupKey) (j : ℕ) (key : GroupKey) (taken : List SampleAt) (samples : List TimedSample) → AreTaken file keys taken samples → IsKeyAt keys j key → j < 4
    → indexes_of j taken ≡ map (λ (s : TimedSample). index_at key s.sample.groups) samples
indexes_are file keys j key [] [] z e lt = refl
indexes_are file keys j key [] (s ∷ samples) z e lt = absurd z
indexes_are file keys j key (a ∷ taken) [] z e lt = absurd z
indexes_are file keys j key (a ∷ taken) (s ∷ samples) z e lt =
    let groups = z.0.groups in
    let one : index_of a j ≡ index_at key s.sample.groups = ap (λ l. slice_index l j) groups ∙ padded_at (λ k. index_at k s.sample.groups) 4 keys j key e lt in
    let others = indexes_are file keys j key taken samples z.1 e lt in
    λ i. one i ∷ others i

-- ---- used keys are named by samples, and named ones are used

among_behind : (xs ys : List GroupKey) (key : GroupKey) → IsAmong ys key → IsAmong (xs ++ ys) key
among_behind [] ys key h = h
among_behind (x ∷ xs) ys key h = or_right (same_key key x) (list_any (same_key key) (xs ++ ys)) (among_behind xs ys key h)

abbrev names : Groups → List GroupKey
names groups = map (λ (group : GroupKey × ℕ). group.0) groups

-- an index that is not 0 is at a key of the map
index_named : (key : GroupKey) (groups : Groups) → (index_at key groups == 0) ≡ false → IsAmong (names groups) key
index_named key [] e = absurd (cc)
index_named key (group ∷ groups) e = by (λ d. index_named key groups d) (same_key key group.0) refl e
  where
    by : ((index_at key groups == 0) ≡ false → IsAmong (names groups) key) → (v : Bool) → same_key key group.0 ≡ v → (cond v group.1 (index_at key groups) == 0) ≡ false → IsAmong (names (group ∷ groups)) key
    by rest true is d = or_left (same_key key group.0) (list_any (same_key key) (names groups)) is
    by rest false is d = or_right (same_key key group.0) (list_any (same_key key) (names groups)) (rest d)

-- a key of the map has an index that is not 0
pub named_index : (key : GroupKey) (groups : Groups) → AllByRecursion IsGroup groups → IsAmong (names groups) key → (index_at key groups == 0) ≡ false
named_index key [] h a = absurd (cc)
named_index key (group ∷ groups) h a = by (λ r. named_index key groups h.1 r) (same_key key group.0) refl
  where
    by : (IsAmong (names groups) key → (index_at key groups == 0) ≡ false) → (v : Bool) → same_key key group.0 ≡ v → (cond v group.1 (index_at key groups) == 0) ≡ false
    by rest true is = let le = h.0.index_from_1 in ne_eqb group.1 0 (λ z. omega (arith, le, z))
    by rest false is = elim (or_cases (same_key key group.0) (list_any (same_key key) (names groups)) a) [
      | inl s ↦ absurd (true_false (same_key key group.0) s is)
      | inr r ↦ rest r
    ]

-- some index at a key is not 0
abbrev pub are_none : GroupKey → List TimedSample → Bool
are_none key samples = list_all (λ index. index == 0) (map (λ (s : TimedSample). index_at key s.sample.groups) samples)

pub some_named : (key : GroupKey) (samples : List TimedSample) → are_none key samples ≡ false → IsAmong (sample_keys samples) key
some_named key [] e = absurd (cc)
some_named key (s ∷ samples) e = elim (and_cases (index_at key s.sample.groups == 0) (are_none key samples) e) [
  | inl n ↦ among_front (names s.sample.groups) (sample_keys samples) key (index_named key s.sample.groups n)
  | inr r ↦ among_behind (names s.sample.groups) (sample_keys samples) key (some_named key samples r)
]
