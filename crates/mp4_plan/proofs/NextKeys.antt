-- The used keys of a track, found one after the other in their order.
use Rattle.std.proofs.Common.{◌≡◌, ℕ, zero, suc, ◌+◌, ◌<◌, ◌≤◌, Bool, true, false, cond, ltb, List, [], ◌∷◌, ◌++◌, length, drop, Option, Some, None, refl, sym, ap, subst, ◌∙◌, arith, inl, inr, append_assoc}
use Rattle.std.specs.Prelude.{◌⊎◌, ◌&&◌, slice_index, nat_lt, filter, flat_map}
use Rattle.std.specs.List.{AllByRecursion, list_any}
use Rattle.std.proofs.lemmas.Bool.{ltb-true, ltb-false, lt-ltb, le-ltb, or_parts, eqb-false, ne_eqb, eq-eqb}
use Rattle.std.proofs.lemmas.Grind.{flat_map-append}
use Rattle.mp4_tables.specs.format.Groups.{GroupKey, key_rank, same_key, index_at}
use Rattle.mp4_plan.specs.format.Normal.{put_key, in_key_order}
use Rattle.mp4_plan.specs.words.UsedKeys.{AreApart, IsKeyAt, placed, place_at, used_from, is_above, is_below, least_above}
use Rattle.mp4_plan.proofs.Maps.{KeysAbove}
use Rattle.mp4_plan.proofs.KeyOrder.{AreRising, order_rises, order_each}
use Rattle.mp4_boxes.proofs.Plain.{false_and_true, true_false}

-- ---- a key is one of some

-- it is one of them
abbrev pub Has : List GroupKey → GroupKey → Type 0
Has [] key = ⊥
Has (other ∷ keys) key = (key ≡ other) ⊎ Has keys key

-- what holds of each holds of one
pub one_of : (P : GroupKey → Type 0) (keys : List GroupKey) (key : GroupKey) → AllByRecursion P keys → Has keys key → P key
one_of P [] key h m = absurd m
one_of P (other ∷ keys) key h (inl e) = subst P (sym e) h.0
one_of P (other ∷ keys) key h (inr m) = one_of P keys key h.1 m

-- another rank than each of these
abbrev HasNone : List GroupKey → GroupKey → Type 0
HasNone keys key = list_any (same_key key) keys ≡ false

put_has_by : (key other x : GroupKey) (keys : List GroupKey) (same less : Bool) → same_key key other ≡ same → same ≡ false → (x ≡ key) ⊎ Has (other ∷ keys) x → ((x ≡ key) ⊎ Has keys x → Has (put_key key keys) x)
    → Has (cond same (other ∷ keys) (cond less (key ∷ other ∷ keys) (other ∷ put_key key keys))) x
put_has_by key other x keys true less e f m k = absurd (true_false true refl f)
put_has_by key other x keys false true e f m k = m
put_has_by key other x keys false false e f (inl m) k = inr (k (inl m))
put_has_by key other x keys false false e f (inr (inl m)) k = inl m
put_has_by key other x keys false false e f (inr (inr m)) k = inr (k (inr m))

-- a key of another rank is put among the others
put_has : (key x : GroupKey) (keys : List GroupKey) → AllByRecursion (λ other. same_key key other ≡ false) keys → (x ≡ key) ⊎ Has keys x → Has (put_key key keys) x
put_has key x [] h (inl m) = inl m
put_has key x [] h (inr m) = absurd m
put_has key x (other ∷ keys) h m = put_has_by key other x keys (same_key key other) (ltb (key_rank key) (key_rank other)) refl h.0 m (put_has key x keys h.1)

-- of another rank than each
pub each_other : (key : GroupKey) (keys : List GroupKey) → HasNone keys key → AllByRecursion (λ other. same_key key other ≡ false) keys
each_other key [] h = tt
each_other key (other ∷ keys) h = let p = or_parts (same_key key other) (list_any (same_key key) keys) h in (p.0, each_other key keys p.1)

-- Each of keys that are apart is there in their order.
pub order_keeps : (keys : List GroupKey) (x : GroupKey) → AreApart keys → Has keys x → Has (in_key_order keys) x
order_keeps [] x h m = absurd m
order_keeps (key ∷ keys) x h m =
    put_has key x (in_key_order keys) (order_each (λ other. same_key key other ≡ false) keys (each_other key keys h.0)) (behind (λ n. order_keeps keys x h.1 n) m)
  where
    behind : (Has keys x → Has (in_key_order keys) x) → Has (key ∷ keys) x → (x ≡ key) ⊎ Has (in_key_order keys) x
    behind f (inl e) = inl e
    behind f (inr n) = inr (f n)

-- ---- the least of some keys

-- of all keys above the last that was written this is the least, or there is none
abbrev pub IsLeast : Option ℕ → (GroupKey → Type 0) → List GroupKey → Option GroupKey → Type 0
IsLeast behind Own keys None = AllByRecursion (λ k. is_above behind k ≡ false) keys
IsLeast behind Own keys (Some key) = (is_above behind key ≡ true) × Own key × AllByRecursion (λ k. is_above behind k ≡ true → key_rank key ≤ key_rank k) keys

all_push : (P : GroupKey → Type 0) (xs : List GroupKey) (x : GroupKey) → AllByRecursion P xs → P x → AllByRecursion P (xs ++ x ∷ [])
all_push P [] x h p = (p, tt)
all_push P (y ∷ xs) x h p = (h.0, all_push P xs x h.1 p)

all_weaker : (P Q : GroupKey → Type 0) → ((x : GroupKey) → P x → Q x) → (xs : List GroupKey) → AllByRecursion P xs → AllByRecursion Q xs
all_weaker P Q f [] h = tt
all_weaker P Q f (x ∷ xs) h = (f x h.0, all_weaker P Q f xs h.1)

next_least_by : (behind : Option ℕ) (Own : GroupKey → Type 0) (seen : List GroupKey) (found : Option GroupKey) (key : GroupKey) (above below : Bool) → is_above behind key ≡ above → is_below found key ≡ below → Own key
    → IsLeast behind Own seen found → IsLeast behind Own (seen ++ key ∷ []) (cond (above && below) (Some key) found)
next_least_by behind Own seen None key true true e f own h =
    (e, own, all_push (λ k. is_above behind k ≡ true → key_rank key ≤ key_rank k) seen key (all_weaker (λ k. is_above behind k ≡ false) (λ k. is_above behind k ≡ true → key_rank key ≤ key_rank k) (λ k n a. absurd (false_and_true (is_above behind k) n a)) seen h) (λ a. omega arith))
next_least_by behind Own seen (Some best) key true true e f own h =
    let lt : key_rank key < key_rank best = ltb-true (key_rank key) (key_rank best) f in
    (e, own, all_push (λ k. is_above behind k ≡ true → key_rank key ≤ key_rank k) seen key (all_weaker (λ k. is_above behind k ≡ true → key_rank best ≤ key_rank k) (λ k. is_above behind k ≡ true → key_rank key ≤ key_rank k) (λ k le a. let m = le a in omega arith) seen h.2) (λ a. omega arith))
next_least_by behind Own seen None key true false e f own h = absurd (true_false true refl f)
next_least_by behind Own seen (Some best) key true false e f own h =
    let le : key_rank best ≤ key_rank key = ltb-false (key_rank key) (key_rank best) f in
    (h.0, h.1, all_push (λ k. is_above behind k ≡ true → key_rank best ≤ key_rank k) seen key h.2 (λ a. le))
next_least_by behind Own seen None key false below e f own h = all_push (λ k. is_above behind k ≡ false) seen key h e
next_least_by behind Own seen (Some best) key false below e f own h =
    (h.0, h.1, all_push (λ k. is_above behind k ≡ true → key_rank best ≤ key_rank k) seen key h.2 (λ a. absurd (false_and_true (is_above behind key) e a)))

-- The least that is found is the least of all.
least_found : (behind : Option ℕ) (Own : GroupKey → Type 0) (seen : List GroupKey) (found : Option GroupKey) (keys : List GroupKey) → AllByRecursion Own keys → IsLeast behind Own seen found → IsLeast behind Own (seen ++ keys) (least_above behind found keys)
least_found behind Own seen found [] own h = subst (λ (l : List GroupKey). IsLeast behind Own l found) (sym (append-nil-keys seen)) h
  where
    append-nil-keys : (xs : List GroupKey) → xs ++ [] ≡ xs
    append-nil-keys [] = refl
    append-nil-keys (x ∷ xs) = ap (λ l. x ∷ l) (append-nil-keys xs)
least_found behind Own seen found (key ∷ keys) own h =
    let next = cond (is_above behind key && is_below found key) (Some key) found in
    subst (λ (l : List GroupKey). IsLeast behind Own l (least_above behind next keys)) (append_assoc seen (key ∷ []) keys)
    (least_found behind Own (seen ++ key ∷ []) next keys own.1 (next_least_by behind Own seen found key (is_above behind key) (is_below found key) refl refl own.0 h))

each_has : (all keys : List GroupKey) → ((x : GroupKey) → Has keys x → Has all x) → AllByRecursion (Has all) keys
each_has all [] f = tt
each_has all (key ∷ keys) f = (f key (inl refl), each_has all keys (λ x m. f x (inr m)))

-- ---- in their order

-- all above a key that is above
above_all : (behind : Option ℕ) (key : GroupKey) (keys : List GroupKey) → is_above behind key ≡ true → KeysAbove key keys → AllByRecursion (λ k. is_above behind k ≡ true) keys
above_all behind key [] e h = tt
above_all None key (k ∷ keys) e h = (refl, above_all None key keys e h.1)
above_all (Some last) key (k ∷ keys) e h = let lt = ltb-true last (key_rank key) e in let m = h.0 in (lt-ltb last (key_rank k) (omega arith), above_all (Some last) key keys e h.1)

filter_all : (test : GroupKey → Bool) (keys : List GroupKey) → AllByRecursion (λ k. test k ≡ true) keys → filter test keys ≡ keys
filter_all test [] h = refl
filter_all test (k ∷ keys) h = let t : test k ≡ true = h.0 in rw t (ap (λ l. k ∷ l) (filter_all test keys h.1))

filter_none : (test : GroupKey → Bool) (keys : List GroupKey) → AllByRecursion (λ k. test k ≡ false) keys → filter test keys ≡ []
filter_none test [] h = refl
filter_none test (k ∷ keys) h = let t : test k ≡ false = h.0 in rw t (filter_none test keys h.1)

-- all above a key are above its rank
above_rank : (key k : GroupKey) (keys : List GroupKey) → key_rank key ≡ key_rank k → KeysAbove k keys → AllByRecursion (λ x. is_above (Some (key_rank key)) x ≡ true) keys
above_rank key k [] e h = tt
above_rank key k (x ∷ keys) e h = (lt-ltb (key_rank key) (key_rank x) (let lt = h.0 in omega arith), above_rank key k keys e h.1)

-- the least of rising keys above the last comes first of those
first_above : (behind : Option ℕ) (keys : List GroupKey) (key : GroupKey) → AreRising keys → Has keys key → is_above behind key ≡ true → AllByRecursion (λ k. is_above behind k ≡ true → key_rank key ≤ key_rank k) keys
    → filter (is_above behind) keys ≡ key ∷ filter (is_above (Some (key_rank key))) keys
first_above behind [] key r m a h = absurd m
first_above behind (k ∷ keys) key r (inl e) a h =
    let here : is_above behind k ≡ true = subst (λ x. is_above behind x ≡ true) e a in
    let not_itself : ltb (key_rank key) (key_rank k) ≡ false = le-ltb (key_rank key) (key_rank k) (let s = ap key_rank e in omega arith) in
    let later : filter (is_above (Some (key_rank key))) keys ≡ keys = filter_all (is_above (Some (key_rank key))) keys (above_rank key k keys (ap key_rank e) r.0) in
    rw (here, not_itself) (ap (λ l. k ∷ l) (filter_all (is_above behind) keys (above_all behind k keys here r.0)) ∙ (λ i. sym e i ∷ sym later i))
first_above behind (k ∷ keys) key r (inr m) a h = by (first_above behind keys key r.1 m a h.1) (is_above behind k) refl
  where
    lt : key_rank k < key_rank key
    lt = one_of (λ x. key_rank k < key_rank x) keys key r.0 m

    skipped : ltb (key_rank key) (key_rank k) ≡ false
    skipped = le-ltb (key_rank key) (key_rank k) (omega (arith, lt))

    by : filter (is_above behind) keys ≡ key ∷ filter (is_above (Some (key_rank key))) keys → (v : Bool) → is_above behind k ≡ v → filter (is_above behind) (k ∷ keys) ≡ key ∷ filter (is_above (Some (key_rank key))) (k ∷ keys)
    by rest true e = absurd (let le = h.0 e in omega (arith, le, lt))
    by rest false e = rw (e, skipped) rest

-- ---- used keys

used_none : (rows : List ℕ) (j : ℕ) (keys : List GroupKey) (key : GroupKey) → HasNone keys key → HasNone (used_from rows j keys) key
used_none rows j [] key h = refl
used_none rows j (k ∷ keys) key h =
    let p = or_parts (same_key key k) (list_any (same_key key) keys) h in
    by (nat_lt 0 (slice_index rows j)) p.0 (used_none rows (j + 1) keys key p.1)
  where
    by : (v : Bool) → same_key key k ≡ false → HasNone (used_from rows (j + 1) keys) key → HasNone (cond v (k ∷ used_from rows (j + 1) keys) (used_from rows (j + 1) keys)) key
    by true e n = rw e n
    by false e n = n

-- used keys are apart where all are
pub used_apart : (rows : List ℕ) (j : ℕ) (keys : List GroupKey) → AreApart keys → AreApart (used_from rows j keys)
used_apart rows j [] h = tt
used_apart rows j (key ∷ keys) h = by (used_apart rows (j + 1) keys h.1) (nat_lt 0 (slice_index rows j))
  where
    by : AreApart (used_from rows (j + 1) keys) → (v : Bool) → AreApart (cond v (key ∷ used_from rows (j + 1) keys) (used_from rows (j + 1) keys))
    by rest true = (used_none rows (j + 1) keys key h.0, rest)
    by rest false = rest

-- The key that is found comes first of those above the last.
pub found_first : (behind : Option ℕ) (keys : List GroupKey) (key : GroupKey) → AreApart keys → Some key ≡ least_above behind None keys
    → filter (is_above behind) (in_key_order keys) ≡ key ∷ filter (is_above (Some (key_rank key))) (in_key_order keys)
found_first behind keys key apart e =
    let least : IsLeast behind (Has keys) keys (least_above behind None keys) = least_found behind (Has keys) [] None keys (each_has keys keys (λ x m. m)) tt in
    let found : IsLeast behind (Has keys) keys (Some key) = subst (λ (o : Option GroupKey). IsLeast behind (Has keys) keys o) (sym e) least in
    first_above behind (in_key_order keys) key (order_rises keys) (order_keeps keys key apart found.1) found.0
    (order_each (λ k. is_above behind k ≡ true → key_rank key ≤ key_rank k) keys found.2)

-- Where none is found, none is above the last.
pub none_above : (behind : Option ℕ) (keys : List GroupKey) → None ≡ least_above behind None keys → filter (is_above behind) (in_key_order keys) ≡ []
none_above behind keys e =
    let least : IsLeast behind (Has keys) keys (least_above behind None keys) = least_found behind (Has keys) [] None keys (each_has keys keys (λ x m. m)) tt in
    let none : IsLeast behind (Has keys) keys None = subst (λ (o : Option GroupKey). IsLeast behind (Has keys) keys o) (sym e) least in
    filter_none (is_above behind) (in_key_order keys) (order_each (λ k. is_above behind k ≡ false) keys none)

-- before the first all are to come
pub all_to_come : (keys : List GroupKey) → filter (is_above None) keys ≡ keys
all_to_come [] = refl
all_to_come (key ∷ keys) = ap (λ l. key ∷ l) (all_to_come keys)

-- ---- how many there are

put_count : (key : GroupKey) (keys : List GroupKey) → length (put_key key keys) ≤ suc (length keys)
put_count key [] = omega arith
put_count key (other ∷ keys) = by (put_count key keys) (same_key key other) (ltb (key_rank key) (key_rank other))
  where
    by : length (put_key key keys) ≤ suc (length keys) → (same less : Bool) → length (cond same (other ∷ keys) (cond less (key ∷ other ∷ keys) (other ∷ put_key key keys))) ≤ suc (suc (length keys))
    by n true less = omega arith
    by n false true = omega arith
    by n false false = omega (arith, n)

order_count : (keys : List GroupKey) → length (in_key_order keys) ≤ length keys
order_count [] = omega arith
order_count (key ∷ keys) = let a = put_count key (in_key_order keys) in let b = order_count keys in omega (arith, a, b)

used_count : (rows : List ℕ) (j : ℕ) (keys : List GroupKey) → length (used_from rows j keys) ≤ length keys
used_count rows j [] = omega arith
used_count rows j (key ∷ keys) = by (used_count rows (j + 1) keys) (nat_lt 0 (slice_index rows j))
  where
    by : length (used_from rows (j + 1) keys) ≤ length keys → (v : Bool) → length (cond v (key ∷ used_from rows (j + 1) keys) (used_from rows (j + 1) keys)) ≤ suc (length keys)
    by n true = omega (arith, n)
    by n false = omega (arith, n)

-- no more keys are used than there are
pub few_used : (rows : List ℕ) (keys : List GroupKey) → length (in_key_order (used_from rows 0 keys)) ≤ length keys
few_used rows keys = let a = order_count (used_from rows 0 keys) in let b = used_count rows 0 keys in omega (arith, a, b)

-- ---- places

pub key_behind : (k : GroupKey) (keys : List GroupKey) (place : ℕ) (key : GroupKey) → IsKeyAt (k ∷ keys) (suc place) key → IsKeyAt keys place key
key_behind k keys place key e = let n : suc place + 1 ≡ suc (place + 1) = omega arith in e ∙ ap (λ m. key ∷ drop m (k ∷ keys)) n

pub has_at : (keys : List GroupKey) (place : ℕ) (key : GroupKey) → IsKeyAt keys place key → Has keys key
has_at [] zero key e = absurd (cc)
has_at [] (suc place) key e = absurd (cc)
has_at (k ∷ keys) zero key e = let same : k ≡ key = cc in inl (sym same)
has_at (k ∷ keys) (suc place) key e = inr (has_at keys place key (key_behind k keys place key e))

not_first : (keys : List GroupKey) (k key : GroupKey) → HasNone keys k → Has keys key → same_key key k ≡ false
not_first [] k key n h = absurd h
not_first (other ∷ keys) k key n (inl e) =
    let p = or_parts (same_key k other) (list_any (same_key k) keys) n in
    let ne : key_rank k ≡ key_rank other → ⊥ = eqb-false (key_rank k) (key_rank other) p.0 in
    ne_eqb (key_rank key) (key_rank k) (λ s. ne (sym s ∙ ap key_rank e))
not_first (other ∷ keys) k key n (inr h) = not_first keys k key (or_parts (same_key k other) (list_any (same_key k) keys) n).1 h

place_from : (j : ℕ) (keys : List GroupKey) (place : ℕ) (key : GroupKey) → AreApart keys → IsKeyAt keys place key → index_at key (placed j keys) ≡ j + place
place_from j [] place key a e = absurd (has_at [] place key e)
place_from j (k ∷ keys) zero key a e =
    let same : k ≡ key = cc in
    let t : same_key key k ≡ true = eq-eqb (key_rank key) (key_rank k) (ap key_rank (sym same)) in
    rw t (omega arith)
place_from j (k ∷ keys) (suc place) key a e =
    let later = key_behind k keys place key e in
    let t : same_key key k ≡ false = not_first keys k key a.0 (has_at keys place key later) in
    let n = place_from (j + 1) keys place key a.1 later in
    rw t (omega (arith, n))

-- The place of a key is where it stands.
pub place_is : (keys : List GroupKey) (place : ℕ) (key : GroupKey) → AreApart keys → IsKeyAt keys place key → place_at keys key ≡ place
place_is keys place key a e = let n = place_from 0 keys place key a e in omega (arith, n)

-- ---- written one after the other

-- one more key
pub key_written : (f : GroupKey → List ℕ) (order done : List GroupKey) (behind : Option ℕ) (key : GroupKey) → done ++ filter (is_above behind) order ≡ order
    → filter (is_above behind) order ≡ key ∷ filter (is_above (Some (key_rank key))) order
    → (flat_map f (done ++ key ∷ []) ≡ flat_map f done ++ f key) × ((done ++ key ∷ []) ++ filter (is_above (Some (key_rank key))) order ≡ order)
key_written f order done behind key all first = (
  flat_map-append f done (key ∷ []) ∙ ap (λ l. flat_map f done ++ l) (append-nil-bytes (f key)),
  append_assoc done (key ∷ []) (filter (is_above (Some (key_rank key))) order) ∙ ap (λ l. done ++ l) (sym first) ∙ all,
)
  where
    append-nil-bytes : (xs : List ℕ) → xs ++ [] ≡ xs
    append-nil-bytes [] = refl
    append-nil-bytes (x ∷ xs) = ap (λ l. x ∷ l) (append-nil-bytes xs)

-- no key is to come
pub keys_written : (f : GroupKey → List ℕ) (order done later : List GroupKey) → done ++ later ≡ order → later ≡ [] → flat_map f done ≡ flat_map f order
keys_written f order done later all none = ap (flat_map f) (sym (append-nil-keys done) ∙ ap (λ l. done ++ l) (sym none) ∙ all)
  where
    append-nil-keys : (xs : List GroupKey) → xs ++ [] ≡ xs
    append-nil-keys [] = refl
    append-nil-keys (x ∷ xs) = ap (λ l. x ∷ l) (append-nil-keys xs)

-- one less is to come
pub one_less : (order : List GroupKey) (behind : Option ℕ) (key : GroupKey) (k n : ℕ) → filter (is_above behind) order ≡ key ∷ filter (is_above (Some (key_rank key))) order
    → length (filter (is_above behind) order) + k ≤ n → length (filter (is_above (Some (key_rank key))) order) + (k + 1) ≤ n
one_less order behind key k n first le = let same : length (filter (is_above behind) order) ≡ suc (length (filter (is_above (Some (key_rank key))) order)) = ap length first in omega (arith, same, le)

no_length : (keys : List GroupKey) → length keys ≤ 0 → keys ≡ []
no_length [] le = refl
no_length (key ∷ keys) le = absurd (omega (arith, le))

-- behind the last none is
pub none_left : (order : List GroupKey) (behind : Option ℕ) (k n : ℕ) → n ≤ k → length (filter (is_above behind) order) + k ≤ n → filter (is_above behind) order ≡ []
none_left order behind k n lt le = no_length (filter (is_above behind) order) (omega (arith, lt, le))
