-- The keys that the groupings of a `traf` name, one by one.
use Rattle.std.proofs.Common.{◌≡◌, ℕ, zero, suc, ◌+◌, ◌<◌, ◌≤◌, ◌==◌, Bool, true, false, not, cond, List, [], ◌∷◌, ◌++◌, length, map, slice_set, Option, Some, None, nat_eq, refl, sym, ap, ◌∙◌, arith, length-append}
use Rattle.std.specs.List.{list_any, position_from}
use Rattle.std.proofs.lemmas.List.{map-append}
use Rattle.std.proofs.lemmas.List.Folds.{list_any-append}
use Rattle.std.proofs.lemmas.Bool.Decides.{nat_tests}
use Rattle.mp4_tables.specs.format.Groups.{GroupKey, Grouping, one_of_key, few_keys, keeps, same_key, keys_with, keys_after, max_keys}
use Rattle.mp4_tables.specs.words.Keys.{key_place}
use Rattle.mp4_tables.proofs.KeyLists.{not_named_yet, named_before}
use Rattle.mp4_tables.proofs.SampleLists.{same_both}
use Rattle.mp4_frag.specs.words.GroupsJudged.{is_named_at, AreNamed, NamesOneMore}
use Rattle.mp4_boxes.proofs.Plain.{or_false, or_true, true_false}
use Rattle.mp4_frag.proofs.GroupsTied.{same_test}

-- ---- places of keys

-- keys of one rank have one place
place_alike : (a b : GroupKey) (i : ℕ) (keys : List GroupKey) → same_key a b ≡ true → position_from (same_key a) i keys ≡ position_from (same_key b) i keys
place_alike a b i [] e = refl
place_alike a b i (k ∷ keys) e = let test = same_test a b k e in let more = place_alike a b (i + 1) keys e in λ j. cond (test j) (Some i) (more j)

place_low : (a : GroupKey) (i j : ℕ) (keys : List GroupKey) → position_from (same_key a) i keys ≡ Some j → (i ≤ j) × (j < i + length keys)
place_low a i j [] e = absurd cc
place_low a i j (k ∷ keys) e = by_first a i j k keys (same_key a k) e (λ f. place_low a (i + 1) j keys f)
  where
    by_first : (a : GroupKey) (i j : ℕ) (k : GroupKey) (keys : List GroupKey) (v : Bool) → cond v (Some i) (position_from (same_key a) (i + 1) keys) ≡ Some j → (position_from (same_key a) (i + 1) keys ≡ Some j → (i + 1 ≤ j) × (j < i + 1 + length keys)) → (i ≤ j) × (j < i + suc (length keys))
    by_first a i j k keys true e more = let same : i ≡ j = cc in (omega arith, omega arith)
    by_first a i j k keys false e more = let m = more e in let low = m.0 in let high = m.1 in (omega arith, omega arith)

-- the place of a key is one of theirs
pub place_inside : (key : GroupKey) (j : ℕ) (keys : List GroupKey) → key_place key keys ≡ Some j → j < length keys
place_inside key j keys e = let high = (place_low key 0 j keys e).1 in omega arith

-- keys of one place have one rank
place_same : (a b : GroupKey) (i j : ℕ) (keys : List GroupKey) → position_from (same_key a) i keys ≡ Some j → position_from (same_key b) i keys ≡ Some j → same_key a b ≡ true
place_same a b i j [] e f = absurd cc
place_same a b i j (k ∷ keys) e f = by_first a b i j k keys (same_key a k) (same_key b k) refl refl e f (λ g h. place_same a b (i + 1) j keys g h)
  where
    by_first : (a b : GroupKey) (i j : ℕ) (k : GroupKey) (keys : List GroupKey) (u v : Bool) → same_key a k ≡ u → same_key b k ≡ v → cond u (Some i) (position_from (same_key a) (i + 1) keys) ≡ Some j → cond v (Some i) (position_from (same_key b) (i + 1) keys) ≡ Some j
        → (position_from (same_key a) (i + 1) keys ≡ Some j → position_from (same_key b) (i + 1) keys ≡ Some j → same_key a b ≡ true) → same_key a b ≡ true
    by_first a b i j k keys true true p q e f more = grind (arith, nat_tests)
    by_first a b i j k keys true false p q e f more = let same : i ≡ j = cc in let low = (place_low b (i + 1) j keys f).0 in absurd (omega arith)
    by_first a b i j k keys false true p q e f more = let same : i ≡ j = cc in let low = (place_low a (i + 1) j keys e).0 in absurd (omega arith)
    by_first a b i j k keys false false p q e f more = more e f

-- a key at the end
place_at_end : (a k : GroupKey) (i : ℕ) (keys : List GroupKey) → position_from (same_key a) i keys ≡ None → position_from (same_key a) i (keys ++ k ∷ []) ≡ cond (same_key a k) (Some (i + length keys)) None
place_at_end a k i [] e = let z : i ≡ i + 0 = omega arith in ap (λ n. cond (same_key a k) (Some n) None) z
place_at_end a k i (key ∷ keys) e = by_first (same_key a key) e (λ f. place_at_end a k (i + 1) keys f)
  where
    by_first : (v : Bool) → cond v (Some i) (position_from (same_key a) (i + 1) keys) ≡ None → (position_from (same_key a) (i + 1) keys ≡ None → position_from (same_key a) (i + 1) (keys ++ k ∷ []) ≡ cond (same_key a k) (Some (i + 1 + length keys)) None)
        → cond v (Some i) (position_from (same_key a) (i + 1) (keys ++ k ∷ [])) ≡ cond (same_key a k) (Some (i + suc (length keys))) None
    by_first true e more = absurd cc
    by_first false e more = let n : i + 1 + length keys ≡ i + suc (length keys) = omega arith in more e ∙ ap (λ m. cond (same_key a k) (Some m) None) n

place_before : (a k : GroupKey) (i j : ℕ) (keys : List GroupKey) → position_from (same_key a) i keys ≡ Some j → position_from (same_key a) i (keys ++ k ∷ []) ≡ Some j
place_before a k i j [] e = absurd cc
place_before a k i j (key ∷ keys) e = by_first (same_key a key) e (λ f. place_before a k (i + 1) j keys f)
  where
    by_first : (v : Bool) → cond v (Some i) (position_from (same_key a) (i + 1) keys) ≡ Some j → (position_from (same_key a) (i + 1) keys ≡ Some j → position_from (same_key a) (i + 1) (keys ++ k ∷ []) ≡ Some j)
        → cond v (Some i) (position_from (same_key a) (i + 1) (keys ++ k ∷ [])) ≡ Some j
    by_first true e more = e
    by_first false e more = more e

-- ---- keys in order

pub keys_with-append : (keys xs ys : List GroupKey) → keys_with keys (xs ++ ys) ≡ keys_with (keys_with keys xs) ys
keys_with-append keys [] ys = refl
keys_with-append keys (x ∷ xs) ys = keys_with-append (cond (list_any (same_key x) keys) keys (keys ++ x ∷ [])) xs ys

pub keys_one_more : (keys : List GroupKey) (before : List Grouping) (g : Grouping) → keys_after keys (before ++ g ∷ []) ≡ cond (list_any (same_key g.key) (keys_after keys before)) (keys_after keys before) (keys_after keys before ++ g.key ∷ [])
keys_one_more keys before g = ap (keys_with keys) (map-append (λ (h : Grouping). h.key) before (g ∷ [])) ∙ keys_with-append keys (map (λ (h : Grouping). h.key) before) (g.key ∷ [])

-- ---- names

name_there : (named : List Bool) (j : ℕ) → j < length named → is_named_at (slice_set named j true) j ≡ true
name_there [] j h = absurd (omega arith)
name_there (b ∷ named) zero h = refl
name_there (b ∷ named) (suc j) h = name_there named j (omega arith)

name_beside : (named : List Bool) (i j : ℕ) → (i ≡ j → ⊥) → is_named_at (slice_set named i true) j ≡ is_named_at named j
name_beside [] i j d = refl
name_beside (b ∷ named) zero zero d = absurd (d refl)
name_beside (b ∷ named) zero (suc j) d = refl
name_beside (b ∷ named) (suc i) zero d = refl
name_beside (b ∷ named) (suc i) (suc j) d = name_beside named i j (λ e. d (ap suc e))

-- ---- one more grouping

yes_same : (before : List Grouping) (g : Grouping) (key : GroupKey) → same_key key g.key ≡ true → list_any (λ (h : Grouping). same_key key h.key) (before ++ g ∷ []) ≡ true
yes_same before g key e = list_any-append (λ (h : Grouping). same_key key h.key) before (g ∷ []) ∙ rw e (or_true (list_any (λ (h : Grouping). same_key key h.key) before))

no_same : (before : List Grouping) (g : Grouping) (key : GroupKey) → same_key key g.key ≡ false → list_any (λ (h : Grouping). same_key key h.key) (before ++ g ∷ []) ≡ list_any (λ (h : Grouping). same_key key h.key) before
no_same before g key e = list_any-append (λ (h : Grouping). same_key key h.key) before (g ∷ []) ∙ rw e (or_false (list_any (λ (h : Grouping). same_key key h.key) before))

pub some_is : (i j : ℕ) → ◌≡◌ {A = Option ℕ} (Some i) (Some j) → i ≡ j
some_is i j e = cc

none_some : (j : ℕ) → ◌≡◌ {A = Option ℕ} None (Some j) → ⊥
none_some j e = cc

-- its key was named in the `traf`
pub name_again : (n : ℕ) (first now : List GroupKey) (before : List Grouping) (named : List Bool) (g : Grouping) (j : ℕ) → AreNamed first before now named → key_place g.key now ≡ Some j → is_named_at named j ≡ true → keeps one_of_key n first before g ≡ false
name_again n first now before named g j a e h = ap not (sym (a.there g.key j e) ∙ h)

-- its key was named by the track, and not in the `traf`
pub name_found : (first now : List GroupKey) (before : List Grouping) (named : List Bool) (g : Grouping) (j : ℕ) → AreNamed first before now named → key_place g.key now ≡ Some j → is_named_at named j ≡ false → j < length named → NamesOneMore first before g now (slice_set named j true)
name_found first now before named g j a e h inside =
    let in_keys = named_before g.key now j e in
    let after : list_any (same_key g.key) (keys_after first before) ≡ true = ap (list_any (same_key g.key)) (sym a.keys_now) ∙ in_keys in
    record {
      once = ap not (sym (a.there g.key j e) ∙ h);
      room = rw after refl;
      names = record {
        keys_now = a.keys_now ∙ sym (keys_one_more first before g ∙ rw after refl);
        few = a.few;
        there = λ key i f. there_by key i f (same_key key g.key) refl (λ k. place_same key g.key 0 j now k e) (nat_eq j i) refl;
        missing = λ key f. missing_by key f (same_key key g.key) refl;
      };
    }
  where
    there_by : (key : GroupKey) (i : ℕ) → key_place key now ≡ Some i → (v : Bool) → same_key key g.key ≡ v → (key_place key now ≡ Some j → same_key key g.key ≡ true) → (u : Bool) → nat_eq j i ≡ u
        → is_named_at (slice_set named j true) i ≡ list_any (λ (h : Grouping). same_key key h.key) (before ++ g ∷ [])
    there_by key i f true k back u m =
        let same : j ≡ i = some_is j i (sym e ∙ place_alike g.key key 0 now (same_both g.key key ∙ k) ∙ f) in
        ap (is_named_at (slice_set named j true)) (sym same) ∙ name_there named j inside ∙ sym (yes_same before g key k)
    there_by key i f false k back true m = let same : j ≡ i = grind (arith, nat_tests) in absurd (true_false (same_key key g.key) (back (f ∙ ap Some (sym same))) k)
    there_by key i f false k back false m =
        let differ : j ≡ i → ⊥ = λ s. true_false (same_key key g.key) (back (f ∙ ap Some (sym s))) k in
        name_beside named j i differ ∙ a.there key i f ∙ sym (no_same before g key k)

    missing_by : (key : GroupKey) → key_place key now ≡ None → (v : Bool) → same_key key g.key ≡ v → list_any (λ (h : Grouping). same_key key h.key) (before ++ g ∷ []) ≡ false
    missing_by key f true k = absurd (none_some j (sym f ∙ place_alike key g.key 0 now k ∙ e))
    missing_by key f false k = no_same before g key k ∙ a.missing key f

-- its key is new to the track
pub name_new : (first now : List GroupKey) (before : List Grouping) (named : List Bool) (g : Grouping) → AreNamed first before now named → key_place g.key now ≡ None → length now < max_keys → length now < length named
    → NamesOneMore first before g (now ++ g.key ∷ []) (slice_set named (length now) true)
name_new first now before named g a e h inside =
    let not_there : list_any (same_key g.key) (keys_after first before) ≡ false = ap (list_any (same_key g.key)) (sym a.keys_now) ∙ not_named_yet g.key now e in
    let long = length-append now (g.key ∷ []) in
    let room : (length (keys_after first before) == max_keys) ≡ false = ap (λ (ks : List GroupKey). length ks == max_keys) (sym a.keys_now) ∙ (let lt : length now < 4 = h in grind (arith, nat_tests)) in
    record {
      once = ap not (a.missing g.key e);
      room = rw (not_there, room) refl;
      names = record {
        keys_now = ap (λ (ks : List GroupKey). ks ++ g.key ∷ []) a.keys_now ∙ sym (keys_one_more first before g ∙ rw not_there refl);
        few = omega arith;
        there = λ key i f. there_by key i f (key_place key now) refl (same_key key g.key) refl;
        missing = λ key f. missing_by key f (key_place key now) refl (same_key key g.key) refl;
      };
    }
  where
    there_by : (key : GroupKey) (i : ℕ) → key_place key (now ++ g.key ∷ []) ≡ Some i → (o : Option ℕ) → key_place key now ≡ o → (v : Bool) → same_key key g.key ≡ v
        → is_named_at (slice_set named (length now) true) i ≡ list_any (λ (h : Grouping). same_key key h.key) (before ++ g ∷ [])
    there_by key i f (Some m) p true k = absurd (none_some m (sym e ∙ place_alike g.key key 0 now (same_both g.key key ∙ k) ∙ p))
    there_by key i f (Some m) p false k =
        let same : m ≡ i = some_is m i (sym (place_before key g.key 0 m now p) ∙ f) in
        let low = (place_low key 0 m now p).1 in
        name_beside named (length now) i (λ s. omega (arith, s)) ∙ a.there key i (p ∙ ap Some same) ∙ sym (no_same before g key k)
    there_by key i f None p true k =
        let at : Some (0 + length now) ≡ Some i = sym (place_at_end key g.key 0 now p ∙ rw k refl) ∙ f in
        let there = some_is (0 + length now) i at in
        let same : length now ≡ i = omega (arith, there) in
        ap (is_named_at (slice_set named (length now) true)) (sym same) ∙ name_there named (length now) inside ∙ sym (yes_same before g key k)
    there_by key i f None p false k = absurd (none_some i (sym (place_at_end key g.key 0 now p ∙ rw k refl) ∙ f))

    missing_by : (key : GroupKey) → key_place key (now ++ g.key ∷ []) ≡ None → (o : Option ℕ) → key_place key now ≡ o → (v : Bool) → same_key key g.key ≡ v → list_any (λ (h : Grouping). same_key key h.key) (before ++ g ∷ []) ≡ false
    missing_by key f (Some m) p v k = absurd (none_some m (sym f ∙ place_before key g.key 0 m now p))
    missing_by key f None p true k = absurd (none_some (0 + length now) (sym f ∙ place_at_end key g.key 0 now p ∙ rw k refl))
    missing_by key f None p false k = no_same before g key k ∙ a.missing key p

-- its key is new to the track, which has four
pub name_full : (first now : List GroupKey) (before : List Grouping) (named : List Bool) (g : Grouping) → AreNamed first before now named → key_place g.key now ≡ None → max_keys ≤ length now → (keeps one_of_key 0 first before g ≡ true) × (keeps few_keys 0 first before g ≡ false)
name_full first now before named g a e many =
    let not_there : list_any (same_key g.key) (keys_after first before) ≡ false = ap (list_any (same_key g.key)) (sym a.keys_now) ∙ not_named_yet g.key now e in
    let few = a.few in
    let full : (length (keys_after first before) == max_keys) ≡ true = ap (λ (ks : List GroupKey). length ks == max_keys) (sym a.keys_now) ∙ (let all : length now ≡ 4 = omega (arith, many, few) in rw all refl) in
    (ap not (a.missing g.key e), rw (not_there, full) refl)
