-- Each sample has at each key the index that the `sbgp` of the key gives it.
use Rattle.std.proofs.Common.{◌≡◌, ℕ, zero, suc, ◌<◌, Bool, true, false, cond, eqb, ltb, List, [], ◌∷◌, length, get_or, refl, sym, ap, ◌∙◌, arith}
use Rattle.std.specs.Prelude.{slice_index}
use Rattle.std.specs.List.{AllByRecursion, list_any}
use Rattle.std.proofs.lemmas.Bool.{eqb-true, ne_eqb}
use Rattle.mp4_boxes.proofs.Each.{each_member}
use Rattle.mp4_tables.specs.format.Repeated.{repeated}
use Rattle.mp4_tables.specs.format.Groups.{GroupKey, Grouping, Groups, key_rank, same_key, index_at, put_group, put_indexes, maps_of}
use Rattle.mp4_tables.proofs.GroupMaps.{IsMap, keys_named, AreApart, are_apart, others_differ, maps_made}
use Rattle.mp4_plan.specs.format.TableLaws.{index_by, GroupsAreIndexes}
use Rattle.mp4_frag.proofs.GroupsTied.{nothing_at as nothing}
use Rattle.mp4_tables.proofs.SampleLists.{maps_length}

-- each key of the map has another rank than this one
abbrev Differ : GroupKey → Groups → Type 0
Differ key groups = AllByRecursion (λ (group : GroupKey × ℕ). key_rank group.0 ≡ key_rank key → ⊥) groups

-- at a key that the map does not have there is no index
nothing_at : (x key : GroupKey) (groups : Groups) → key_rank x ≡ key_rank key → Differ key groups → index_at x groups ≡ 0
nothing_at x key [] e h = refl
nothing_at x key (group ∷ groups) e h =
    let other : same_key x group.0 ≡ false = ne_eqb (key_rank x) (key_rank group.0) (λ f. h.0 (sym f ∙ e)) in
    rw other (nothing_at x key groups e h.1)

-- the index at a key behind a new one
put_case : (x key : GroupKey) (index : ℕ) (group : GroupKey × ℕ) (groups : Groups) (v : Bool) → index_at x (put_group key index groups) ≡ cond (same_key x key) index (index_at x groups) → (key_rank group.0 ≡ key_rank key → ⊥)
    → index_at x (cond v ((key, index) ∷ group ∷ groups) (group ∷ put_group key index groups)) ≡ cond (same_key x key) index (index_at x (group ∷ groups))
put_case x key index group groups true more ne = refl
put_case x key index group groups false more ne = by_first (same_key x group.0) (same_key x key) refl refl
  where
    by_first : (a b : Bool) → same_key x group.0 ≡ a → same_key x key ≡ b → index_at x (group ∷ put_group key index groups) ≡ cond (same_key x key) index (index_at x (group ∷ groups))
    by_first true true e f = absurd (ne (sym (eqb-true (key_rank x) (key_rank group.0) e) ∙ eqb-true (key_rank x) (key_rank key) f))
    by_first true false e f = rw (e, f) refl
    by_first false b e f = rw e more

-- at any key of the map
put_at : (x key : GroupKey) (index : ℕ) (groups : Groups) → Differ key groups → index_at x (put_group key index groups) ≡ cond (same_key x key) index (index_at x groups)
put_at x key index [] h = refl
put_at x key index (group ∷ groups) h = put_case x key index group groups (ltb (key_rank key) (key_rank group.0)) (put_at x key index groups h.1) h.0

-- the same where index 0 is not put
index_case : (x key : GroupKey) (index : ℕ) (groups : Groups) (v : Bool) → eqb index 0 ≡ v → Differ key groups → index_at x (cond v groups (put_group key index groups)) ≡ cond (same_key x key) index (index_at x groups)
index_case x key index groups false e h = put_at x key index groups h
index_case x key index groups true e h = by_key (same_key x key) refl
  where
    by_key : (b : Bool) → same_key x key ≡ b → index_at x groups ≡ cond b index (index_at x groups)
    by_key true f = nothing_at x key groups (eqb-true (key_rank x) (key_rank key) f) h ∙ sym (eqb-true index 0 e)
    by_key false f = refl

-- the maps of samples in a row have at a key what the rows give, or what they had
put_indexes_at : (x key : GroupKey) (indexes : List ℕ) (maps : List Groups) (i : ℕ) → i < length maps → AllByRecursion (Differ key) maps
    → index_at x (get_or (put_indexes key indexes maps) i []) ≡ cond (same_key x key) (slice_index indexes i) (index_at x (get_or maps i []))
put_indexes_at x key indexes [] i lt h = absurd (omega arith)
put_indexes_at x key [] (groups ∷ maps) zero lt h = index_case x key 0 groups true refl h.0
put_indexes_at x key [] (groups ∷ maps) (suc i) lt h = put_indexes_at x key [] maps i (omega (arith, lt)) h.1
put_indexes_at x key (index ∷ indexes) (groups ∷ maps) zero lt h = index_case x key index groups (eqb index 0) refl h.0
put_indexes_at x key (index ∷ indexes) (groups ∷ maps) (suc i) lt h = put_indexes_at x key indexes maps i (omega (arith, lt)) h.1

-- a new key is in no map
all_differ : (keys : List GroupKey) (key : GroupKey) (maps : List Groups) → list_any (same_key key) keys ≡ false → AllByRecursion (IsMap (λ group. Unit {0}) keys) maps → AllByRecursion (Differ key) maps
all_differ keys key [] n h = tt
all_differ keys key (groups ∷ maps) n h = (others_differ keys key groups n h.0.named, all_differ keys key maps n h.1)

-- of any rows nothing is asked
any_rows : (groupings : List Grouping) → AllByRecursion (λ (g : Grouping). AllByRecursion (λ (row : ℕ × ℕ). eqb row.1 0 ≡ false → Unit {0}) g.rows) groupings
any_rows groupings = each_member _ groupings (λ g i. each_member _ g.rows (λ row j e. tt))

-- by the `sbgp`s, one after the other
indexes_at : (n : ℕ) (groupings : List Grouping) → AreApart groupings → (i : ℕ) → i < n → (x : GroupKey) → index_at x (get_or (maps_of n groupings) i []) ≡ index_by x groupings i
indexes_at n [] a i lt x = nothing n i x
indexes_at n (g ∷ groupings) a i lt x =
    let count = maps_length n groupings in
    let others = maps_made (λ group. Unit {0}) n groupings a.1 (any_rows groupings) in
    put_indexes_at x g.key (repeated g.rows) (maps_of n groupings) i (omega (arith, count)) (all_differ (keys_named groupings) g.key (maps_of n groupings) a.0 others)
    ∙ ap (λ (m : ℕ). cond (same_key x g.key) (slice_index (repeated g.rows) i) m) (indexes_at n groupings a.1 i lt x)

-- Where `sbgp`s keep their rules, each sample has at each key the index that the `sbgp` of the key gives it.
pub groups_are_indexes : GroupsAreIndexes
groups_are_indexes n keys groupings h i lt key = indexes_at n groupings (are_apart n keys groupings h) i lt key
