-- The maps that `sbgp`s give samples: in order of keys, each key once, and of the keys that those `sbgp`s name.
use Rattle.std.proofs.Common.{◌≡◌, ℕ, ◌<◌, ◌≤◌, Bool, true, false, cond, eqb, ltb, leb, List, [], ◌∷◌, ◌++◌, length, take, replicate, Some, refl, sym, ap, subst, arith, append_assoc, append-nil, length-append}
use Rattle.std.specs.Prelude.{map, not, ◌||◌, IsTrue, slice_get}
use Rattle.std.specs.List.{AllByRecursion, list_any, list_all}
use Rattle.std.proofs.lemmas.Bool.{ltb-true, ltb-false, lt-ltb, leb-true, eqb-false, and_from, or_parts, or_from, not-true}
use Rattle.mp4_boxes.proofs.Among.{all_append}
use Rattle.mp4_boxes.proofs.Each.{each_from, each_again, each_weaker, each_tested}
use Rattle.mp4_tables.specs.format.Repeated.{repeated}
use Rattle.mp4_tables.specs.format.Groups.{GroupKey, Grouping, Groups, GroupRule, one_of_key, few_keys, index_range, key_rank, same_key, keys_after, is_in_order, put_group, put_indexes, maps_of, keeps, group_test, max_keys, max_index}
use Rattle.mp4_tables.proofs.NamedKeys.{IsAmong, IsNone, other_rank, same_other, among_more, among_first, among_through, each_named}

-- ---- one map

-- each key of the map is above this one
abbrev IsBelow : GroupKey → Groups → Type 0
IsBelow key groups = AllByRecursion (λ (group : GroupKey × ℕ). key_rank key < key_rank group.0) groups

-- each key is above those before it
abbrev InOrder : Groups → Type 0
InOrder [] = Unit {0}
InOrder (group ∷ groups) = IsBelow group.0 groups × InOrder groups

-- the test of the order against one key
above_test : (key : GroupKey) (groups : Groups) → IsBelow key groups → list_all (λ (other : GroupKey × ℕ). ltb (key_rank key) (key_rank other.0)) groups ≡ true
above_test key [] h = refl
above_test key (group ∷ groups) h = and_from (ltb (key_rank key) (key_rank group.0)) _ (lt-ltb (key_rank key) (key_rank group.0) h.0) (above_test key groups h.1)

-- the test of the order
pub order_test : (groups : Groups) → InOrder groups → is_in_order groups ≡ true
order_test [] h = refl
order_test (group ∷ groups) h = and_from _ (is_in_order groups) (above_test group.0 groups h.0) (order_test groups h.1)

-- a map in order, of which each index has a property, and each key is one of these
pub record IsMap (P : GroupKey × ℕ → Type 0) (keys : List GroupKey) (groups : Groups) : Type 0 where
  pub order : InOrder groups
  pub each : AllByRecursion P groups
  pub named : AllByRecursion (λ (group : GroupKey × ℕ). IsAmong keys group.0) groups

-- the step of `put_each`, by the choice made there
put_choice : (Q : GroupKey × ℕ → Type 0) (key : GroupKey) (index : ℕ) (group : GroupKey × ℕ) (groups : Groups) (v : Bool) → Q (key, index) → Q group → AllByRecursion Q groups → AllByRecursion Q (put_group key index groups)
    → AllByRecursion Q (cond v ((key, index) ∷ group ∷ groups) (group ∷ put_group key index groups))
put_choice Q key index group groups true q g h more = (q, (g, h))
put_choice Q key index group groups false q g h more = (g, more)

-- what holds of the index and of each of the map holds of each behind it
put_each : (Q : GroupKey × ℕ → Type 0) (key : GroupKey) (index : ℕ) (groups : Groups) → Q (key, index) → AllByRecursion Q groups → AllByRecursion Q (put_group key index groups)
put_each Q key index [] q h = (q, tt)
put_each Q key index (group ∷ groups) q h = put_choice Q key index group groups (ltb (key_rank key) (key_rank group.0)) q h.0 h.1 (put_each Q key index groups q h.1)

-- what is below the first key is below all
below_all : (key : GroupKey) (group : GroupKey × ℕ) (groups : Groups) → key_rank key < key_rank group.0 → IsBelow group.0 groups → IsBelow key groups
below_all key group [] lt h = tt
below_all key group (other ∷ groups) lt h = (omega (arith, h.0), below_all key group groups lt h.1)

-- the step of `put_order`, by the choice made there
order_choice : (key : GroupKey) (index : ℕ) (group : GroupKey × ℕ) (groups : Groups) (v : Bool) → ltb (key_rank key) (key_rank group.0) ≡ v → (key_rank group.0 ≡ key_rank key → ⊥) → InOrder (group ∷ groups) → InOrder (put_group key index groups)
    → InOrder (cond v ((key, index) ∷ group ∷ groups) (group ∷ put_group key index groups))
order_choice key index group groups true e ne h more =
    let lt : key_rank key < key_rank group.0 = ltb-true (key_rank key) (key_rank group.0) e in
    ((lt, below_all key group groups lt h.0), h)
order_choice key index group groups false e ne h more =
    let le : key_rank group.0 ≤ key_rank key = ltb-false (key_rank key) (key_rank group.0) e in
    let lt : key_rank group.0 < key_rank key = omega (arith, ne) in
    (put_each (λ (other : GroupKey × ℕ). key_rank group.0 < key_rank other.0) key index groups lt h.0, more)

-- a map with a new key is in order
put_order : (key : GroupKey) (index : ℕ) (groups : Groups) → AllByRecursion (λ (group : GroupKey × ℕ). key_rank group.0 ≡ key_rank key → ⊥) groups → InOrder groups → InOrder (put_group key index groups)
put_order key index [] d h = (tt, tt)
put_order key index (group ∷ groups) d h = order_choice key index group groups (ltb (key_rank key) (key_rank group.0)) refl d.0 h (put_order key index groups d.1 h.1)

-- a map of keys of which this is none
pub others_differ : (keys : List GroupKey) (key : GroupKey) (groups : Groups) → IsNone keys key → AllByRecursion (λ (group : GroupKey × ℕ). IsAmong keys group.0) groups
    → AllByRecursion (λ (group : GroupKey × ℕ). key_rank group.0 ≡ key_rank key → ⊥) groups
others_differ keys key [] n h = tt
others_differ keys key (group ∷ groups) n h = ((λ e. other_rank keys group.0 key h.0 n e), others_differ keys key groups n h.1)

-- keys among some are among those and one more
among_each : (keys : List GroupKey) (key : GroupKey) (groups : Groups) → AllByRecursion (λ (group : GroupKey × ℕ). IsAmong keys group.0) groups → AllByRecursion (λ (group : GroupKey × ℕ). IsAmong (key ∷ keys) group.0) groups
among_each keys key [] h = tt
among_each keys key (group ∷ groups) h = (among_more keys group.0 key h.0, among_each keys key groups h.1)

-- a map with no index at a new key
same_map : (P : GroupKey × ℕ → Type 0) (keys : List GroupKey) (key : GroupKey) (groups : Groups) → IsMap P keys groups → IsMap P (key ∷ keys) groups
same_map P keys key groups m = record { order = m.order; each = m.each; named = among_each keys key groups m.named }

-- a map with an index at a new key
put_map : (P : GroupKey × ℕ → Type 0) (keys : List GroupKey) (key : GroupKey) (index : ℕ) (groups : Groups) → IsNone keys key → P (key, index) → IsMap P keys groups → IsMap P (key ∷ keys) (put_group key index groups)
put_map P keys key index groups n p m = record {
  order = put_order key index groups (others_differ keys key groups n m.named) m.order;
  each = put_each P key index groups p m.each;
  named = put_each (λ (group : GroupKey × ℕ). IsAmong (key ∷ keys) group.0) key index groups (among_first keys key) (among_each keys key groups m.named);
}

-- ---- maps of samples in a row

-- what holds of each index but 0 of a row
abbrev pub IsIndexed : (GroupKey × ℕ → Type 0) → GroupKey → ℕ → Type 0
IsIndexed P key index = eqb index 0 ≡ false → P (key, index)

-- one sample, with its index at a new key
index_choice : (P : GroupKey × ℕ → Type 0) (keys : List GroupKey) (key : GroupKey) (index : ℕ) (groups : Groups) (v : Bool) → eqb index 0 ≡ v → IsNone keys key → IsIndexed P key index → IsMap P keys groups
    → IsMap P (key ∷ keys) (cond v groups (put_group key index groups))
index_choice P keys key index groups true e n p m = same_map P keys key groups m
index_choice P keys key index groups false e n p m = put_map P keys key index groups n (p e) m

-- maps to which no index is put
same_maps : (P : GroupKey × ℕ → Type 0) (keys : List GroupKey) (key : GroupKey) (maps : List Groups) → AllByRecursion (IsMap P keys) maps → AllByRecursion (IsMap P (key ∷ keys)) maps
same_maps P keys key [] h = tt
same_maps P keys key (groups ∷ maps) h = (same_map P keys key groups h.0, same_maps P keys key maps h.1)

-- maps in a row, with their indexes at a new key
put_maps : (P : GroupKey × ℕ → Type 0) (keys : List GroupKey) (key : GroupKey) (indexes : List ℕ) (maps : List Groups) → IsNone keys key → AllByRecursion (IsIndexed P key) indexes → AllByRecursion (IsMap P keys) maps
    → AllByRecursion (IsMap P (key ∷ keys)) (put_indexes key indexes maps)
put_maps P keys key [] maps n p m = same_maps P keys key maps m
put_maps P keys key (index ∷ indexes) [] n p m = tt
put_maps P keys key (index ∷ indexes) (groups ∷ maps) n p m =
    (index_choice P keys key index groups (eqb index 0) refl n p.0 m.0, put_maps P keys key indexes maps n p.1 m.1)

-- the keys that `sbgp`s name
abbrev pub keys_named : List Grouping → List GroupKey
keys_named groupings = map (λ (g : Grouping). g.key) groupings

-- each names another key than those behind it
abbrev pub AreApart : List Grouping → Type 0
AreApart [] = Unit {0}
AreApart (g ∷ groupings) = IsNone (keys_named groupings) g.key × AreApart groupings

-- each index but 0 of the rows has the property
abbrev pub AreIndexed : (GroupKey × ℕ → Type 0) → Grouping → Type 0
AreIndexed P g = AllByRecursion (λ (row : ℕ × ℕ). IsIndexed P g.key row.1) g.rows

-- what holds of the value of each row holds of each value that the rows stand for
pub repeated_each : {A : Type 0} (P : A → Type 0) (rows : List (ℕ × A)) → AllByRecursion (λ (row : ℕ × A). P row.1) rows → AllByRecursion P (repeated rows)
repeated_each P [] h = tt
repeated_each P (row ∷ rows) h = all_append P (replicate row.0 row.1) (repeated rows) (each_again P row.0 row.1 h.0) (repeated_each P rows h.1)

-- the maps of `sbgp`s with different keys
pub maps_made : (P : GroupKey × ℕ → Type 0) (n : ℕ) (groupings : List Grouping) → AreApart groupings → AllByRecursion (AreIndexed P) groupings → AllByRecursion (IsMap P (keys_named groupings)) (maps_of n groupings)
maps_made P n [] a h = each_again (IsMap P []) n [] (record { order = tt; each = tt; named = tt })
maps_made P n (g ∷ groupings) a h =
    put_maps P (keys_named groupings) g.key (repeated g.rows) (maps_of n groupings) a.0 (repeated_each (IsIndexed P g.key) g.rows h.0) (maps_made P n groupings a.1 h.1)

-- ---- what the rules on `sbgp`s say

-- the one behind some is found at their number
got_at : (before after : List Grouping) (g : Grouping) → slice_get (before ++ g ∷ after) (length before) ≡ Some g
got_at [] after g = refl
got_at (b ∷ before) after g = got_at before after g

-- what is taken before it are those
taken_at : (before after : List Grouping) (g : Grouping) → take (length before) (before ++ g ∷ after) ≡ before
taken_at [] after g = refl
taken_at (b ∷ before) after g = ap (λ (gs : List Grouping). b ∷ gs) (taken_at before after g)

-- the rule is kept behind others where the test passes at its place
kept_at : (rule : GroupRule) (n : ℕ) (keys : List GroupKey) (before after : List Grouping) (g : Grouping) → IsTrue (group_test rule n keys (before ++ g ∷ after) (length before)) → keeps rule n keys before g ≡ true
kept_at rule n keys before after g h =
    let t : IsTrue (keeps rule n keys (take (length before) (before ++ g ∷ after)) g) = rw (got_at before after g) at h in
    subst (λ (gs : List Grouping). keeps rule n keys gs g ≡ true) (taken_at before after g) t

-- each of the `sbgp`s keeps the rule behind those before it
abbrev KeepEach : GroupRule → ℕ → List GroupKey → List Grouping → List Grouping → Type 0
KeepEach rule n keys before [] = Unit {0}
KeepEach rule n keys before (g ∷ groupings) = (keeps rule n keys before g ≡ true) × KeepEach rule n keys (before ++ g ∷ []) groupings

-- each keeps the rule where the test passes at each place
keep_behind : (rule : GroupRule) (n : ℕ) (keys : List GroupKey) (before groupings : List Grouping) → ((k : ℕ) → IsTrue (group_test rule n keys (before ++ groupings) k)) → KeepEach rule n keys before groupings
keep_behind rule n keys before [] h = tt
keep_behind rule n keys before (g ∷ groupings) h = (
  kept_at rule n keys before groupings g (h (length before)),
  keep_behind rule n keys (before ++ g ∷ []) groupings (subst (λ (gs : List Grouping). (k : ℕ) → IsTrue (group_test rule n keys gs k)) (sym (append_assoc before (g ∷ []) groupings)) h),
)

-- ---- one key once

abbrev DifferFrom : List Grouping → Grouping → Type 0
DifferFrom before g = AllByRecursion (λ (h : Grouping). same_key g.key h.key ≡ false) before

-- where no key is the same, each differs
none_same : (before : List Grouping) (g : Grouping) → list_any (λ (h : Grouping). same_key g.key h.key) before ≡ false → DifferFrom before g
none_same [] g e = tt
none_same (h ∷ before) g e =
    let p = or_parts (same_key g.key h.key) (list_any (λ (b : Grouping). same_key g.key b.key) before) e in
    (p.0, none_same before g p.1)

-- what differs from each of some and one more differs from both
front_differs : (before : List Grouping) (g h : Grouping) → DifferFrom (before ++ g ∷ []) h → DifferFrom before h × (same_key h.key g.key ≡ false)
front_differs [] g h d = (tt, d.0)
front_differs (b ∷ before) g h d = let r = front_differs before g h d.1 in ((d.0, r.0), r.1)

-- the same for each of those behind them
fronts_differ : (before : List Grouping) (g : Grouping) (groupings : List Grouping) → AllByRecursion (DifferFrom (before ++ g ∷ [])) groupings → AllByRecursion (DifferFrom before) groupings × IsNone (keys_named groupings) g.key
fronts_differ before g [] d = (tt, refl)
fronts_differ before g (h ∷ groupings) d =
    let r = front_differs before g h d.0 in
    let more = fronts_differ before g groupings d.1 in
    ((r.0, more.0), or_from (same_key g.key h.key) (list_any (same_key g.key) (keys_named groupings)) (same_other h.key g.key r.1) more.1)

-- where no key is named twice, all are apart
apart_behind : (n : ℕ) (keys : List GroupKey) (before groupings : List Grouping) → KeepEach one_of_key n keys before groupings → AllByRecursion (DifferFrom before) groupings × AreApart groupings
apart_behind n keys before [] h = (tt, tt)
apart_behind n keys before (g ∷ groupings) h =
    let rest = apart_behind n keys (before ++ g ∷ []) groupings h.1 in
    let fronts = fronts_differ before g groupings rest.0 in
    let own = none_same before g (not-true (list_any (λ (b : Grouping). same_key g.key b.key) before) h.0) in
    ((own, fronts.0), (fronts.1, rest.1))

-- ---- at most four keys

-- one more key where there are not yet as many as may be
few_choice : (named : List GroupKey) (key : GroupKey) (v : Bool) → list_any (same_key key) named ≡ v → v || not (eqb (length named) max_keys) ≡ true → length named ≤ max_keys
    → length (cond v named (named ++ key ∷ [])) ≤ max_keys
few_choice named key true e k h = h
few_choice named key false e k h =
    let other : eqb (length named) max_keys ≡ false = not-true (eqb (length named) max_keys) k in
    let ne = eqb-false (length named) max_keys other in
    omega (arith, length-append named (key ∷ []), ne, h)

-- keys behind two lists of `sbgp`s
pub after-append : (keys : List GroupKey) (xs ys : List Grouping) → keys_after keys (xs ++ ys) ≡ keys_after (keys_after keys xs) ys
after-append keys [] ys = refl
after-append keys (g ∷ xs) ys = after-append (cond (list_any (same_key g.key) keys) keys (keys ++ g.key ∷ [])) xs ys

-- so there are never more
few_behind : (n : ℕ) (keys : List GroupKey) (before groupings : List Grouping) → KeepEach few_keys n keys before groupings → length (keys_after keys before) ≤ max_keys → length (keys_after keys (before ++ groupings)) ≤ max_keys
few_behind n keys before [] h few = subst (λ (gs : List Grouping). length (keys_after keys gs) ≤ max_keys) (sym (append-nil before)) few
few_behind n keys before (g ∷ groupings) h few =
    let next = few_choice (keys_after keys before) g.key (list_any (same_key g.key) (keys_after keys before)) refl h.0 few in
    let here : length (keys_after keys (before ++ g ∷ [])) ≤ max_keys = subst (λ (ks : List GroupKey). length ks ≤ max_keys) (sym (after-append keys before (g ∷ []))) next in
    subst (λ (gs : List Grouping). length (keys_after keys gs) ≤ max_keys) (append_assoc before (g ∷ []) groupings) (few_behind n keys (before ++ g ∷ []) groupings h.1 here)

-- ---- all of it

-- the `sbgp`s of one container keep all rules
abbrev pub KeepAll : ℕ → List GroupKey → List Grouping → Type 0
KeepAll n keys groupings = (rule : GroupRule) (k : ℕ) → IsTrue (group_test rule n keys groupings k)

-- each has another key than those behind it
pub are_apart : (n : ℕ) (keys : List GroupKey) (groupings : List Grouping) → KeepAll n keys groupings → AreApart groupings
are_apart n keys groupings h = (apart_behind n keys [] groupings (keep_behind one_of_key n keys [] groupings (h one_of_key))).1

-- a track has no more than four keys behind `sbgp`s that keep the rules
pub still_few : (n : ℕ) (keys : List GroupKey) (groupings : List Grouping) → KeepAll n keys groupings → length keys ≤ max_keys → length (keys_after keys groupings) ≤ max_keys
still_few n keys groupings h few = few_behind n keys [] groupings (keep_behind few_keys n keys [] groupings (h few_keys)) few

-- an index of a row is no greater than the largest
abbrev AreSmall : Grouping → Type 0
AreSmall g = AllByRecursion (λ (row : ℕ × ℕ). row.1 ≤ max_index) g.rows

-- rows of which the test passes
rows_small : (rows : List (ℕ × ℕ)) → list_all (λ (row : ℕ × ℕ). leb row.1 max_index) rows ≡ true → AllByRecursion (λ (row : ℕ × ℕ). row.1 ≤ max_index) rows
rows_small rows e =
    each_weaker (λ (row : ℕ × ℕ). leb row.1 max_index ≡ true) (λ (row : ℕ × ℕ). row.1 ≤ max_index) (λ row h. leb-true row.1 max_index h) rows (each_tested (λ (row : ℕ × ℕ). leb row.1 max_index) rows e)

-- each `sbgp` that keeps the rule has small indexes
small_behind : (n : ℕ) (keys : List GroupKey) (before groupings : List Grouping) → KeepEach index_range n keys before groupings → AllByRecursion AreSmall groupings
small_behind n keys before [] h = tt
small_behind n keys before (g ∷ groupings) h = (rows_small g.rows h.0, small_behind n keys (before ++ g ∷ []) groupings h.1)

-- Where `sbgp`s keep the rules, the maps that they give are in order, and what holds of each index of theirs from 1 up to the largest holds of each in the maps.
pub maps_valid : (P : GroupKey × ℕ → Type 0) (m n : ℕ) (keys : List GroupKey) (groupings : List Grouping) → KeepAll n keys groupings
    → AllByRecursion (λ (g : Grouping). (index : ℕ) → 1 ≤ index → index ≤ max_index → P (g.key, index)) groupings → AllByRecursion (IsMap P (keys_named groupings)) (maps_of m groupings)
maps_valid P m n keys groupings h p =
    maps_made P m groupings (are_apart n keys groupings h)
    (each_from (λ (g : Grouping). (index : ℕ) → 1 ≤ index → index ≤ max_index → P (g.key, index)) AreSmall (AreIndexed P) indexed groupings p (small_behind n keys [] groupings (keep_behind index_range n keys [] groupings (h index_range))))
  where
    indexed_rows : (g : Grouping) → ((index : ℕ) → 1 ≤ index → index ≤ max_index → P (g.key, index)) → (rows : List (ℕ × ℕ)) → AllByRecursion (λ (row : ℕ × ℕ). row.1 ≤ max_index) rows → AllByRecursion (λ (row : ℕ × ℕ). IsIndexed P g.key row.1) rows
    indexed_rows g one [] s = tt
    indexed_rows g one (row ∷ rows) s = ((λ e. let ne = eqb-false row.1 0 e in one row.1 (omega (arith, ne)) s.0), indexed_rows g one rows s.1)

    indexed : (g : Grouping) → ((index : ℕ) → 1 ≤ index → index ≤ max_index → P (g.key, index)) → AreSmall g → AreIndexed P g
    indexed g one s = indexed_rows g one g.rows s

-- keys of a map that are all among others
named_each : (keys others : List GroupKey) (groups : Groups) → AllByRecursion (IsAmong others) keys → AllByRecursion (λ (group : GroupKey × ℕ). IsAmong keys group.0) groups → AllByRecursion (λ (group : GroupKey × ℕ). IsAmong others group.0) groups
named_each keys others [] a h = tt
named_each keys others (group ∷ groups) a h = (among_through keys others group.0 a h.0, named_each keys others groups a h.1)

-- a map of keys that are all among others is one of those
pub map_through : (P : GroupKey × ℕ → Type 0) (keys others : List GroupKey) (groups : Groups) → AllByRecursion (IsAmong others) keys → IsMap P keys groups → IsMap P others groups
map_through P keys others groups a m = record { order = m.order; each = m.each; named = named_each keys others groups a m.named }

-- the keys that `sbgp`s name are among those of the track behind them
pub named_after : (keys : List GroupKey) (groupings : List Grouping) → AllByRecursion (IsAmong (keys_after keys groupings)) (keys_named groupings)
named_after keys groupings = each_named keys (keys_named groupings)
