-- The index of a sample at each key is the one that the rows of that key give it.
use Rattle.std.proofs.Common.{◌≡◌, ℕ, zero, suc, ◌<◌, List, [], ◌∷◌, ◌++◌, length, map, get_or, slice_index, replicate, subst, refl, ap, sym, ◌∙◌, arith, Bool, true, false, cond}
use Rattle.std.specs.Prelude.{◌==◌}
use Rattle.std.specs.List.{list_any, AllByRecursion}
use Rattle.std.proofs.lemmas.List.{append-nil, append_assoc}
use Rattle.std.proofs.lemmas.List.Folds.{list_any-append}
use Rattle.std.proofs.lemmas.Bool.Decides.{nat_tests}
use Rattle.mp4_tables.specs.format.Repeated.{repeated}
use Rattle.mp4_tables.specs.format.Groups.{GroupKey, Grouping, Groups, same_key, keys_with, keys_after, index_at, put_indexes, maps_of}
use Rattle.mp4_tables.specs.words.Timed.{padded, indexes}
use Rattle.mp4_tables.specs.words.Accepted.{grouped, AreDistinct, AreUsed}
use Rattle.mp4_tables.proofs.SampleLists.{NotIn, put_one, put_not_in, absent, put_there, put_beside, same_both, maps_length}

-- the map of the k-th sample
pub put_indexes_at : (key : GroupKey) (is : List ℕ) (maps : List Groups) (k : ℕ) → k < length maps → get_or (put_indexes key is maps) k [] ≡ put_one key (slice_index is k) (get_or maps k [])
put_indexes_at key [] maps zero h = refl
put_indexes_at key [] maps (suc k) h = refl
put_indexes_at key (i ∷ is) [] k h = absurd (omega arith)
put_indexes_at key (i ∷ is) (m ∷ maps) zero h = refl
put_indexes_at key (i ∷ is) (m ∷ maps) (suc k) h = put_indexes_at key is maps k (omega arith)

pub one_not_in : (other key : GroupKey) (index : ℕ) (groups : Groups) (v : Bool) → (index == 0) ≡ v → same_key other key ≡ false → NotIn other groups → NotIn other (put_one key index groups)
one_not_in other key index groups true e h n = rw e n
one_not_in other key index groups false e h n = rw e (put_not_in other key index groups h n)

pub one_there : (key : GroupKey) (index : ℕ) (groups : Groups) (v : Bool) → (index == 0) ≡ v → NotIn key groups → index_at key (put_one key index groups) ≡ index
one_there key index groups true e n = let z : index ≡ 0 = grind (arith, nat_tests) in rw e (absent key groups n ∙ sym z)
one_there key index groups false e n = rw e (put_there key index groups n)

pub one_beside : (other key : GroupKey) (index : ℕ) (groups : Groups) (v : Bool) → (index == 0) ≡ v → same_key other key ≡ false → index_at other (put_one key index groups) ≡ index_at other groups
one_beside other key index groups true e h = rw e refl
one_beside other key index groups false e h = rw e (put_beside other key index groups h)

-- a key that no grouping has is in no map
pub key_absent : (other : GroupKey) (n k : ℕ) (gs : List Grouping) → k < n → AllByRecursion (λ key. same_key other key ≡ false) (map (λ (g : Grouping). g.key) gs) → NotIn other (get_or (maps_of n gs) k [])
key_absent other n k [] h d = nothing_there n k
  where
    nothing_there : (n k : ℕ) → NotIn other (get_or (replicate n []) k [])
    nothing_there zero zero = tt
    nothing_there zero (suc k) = tt
    nothing_there (suc n) zero = tt
    nothing_there (suc n) (suc k) = nothing_there n k
key_absent other n k (g ∷ gs) h d =
    let i = slice_index (repeated g.rows) k in
    let long = maps_length n gs in
    let at = put_indexes_at g.key (repeated g.rows) (maps_of n gs) k (omega arith) in
    rw at (one_not_in other g.key i (get_or (maps_of n gs) k []) (i == 0) refl d.0 (key_absent other n k gs h d.1))

beside_all : (key : GroupKey) (index : ℕ) (groups : Groups) (gs : List Grouping) → AllByRecursion (λ other. same_key key other ≡ false) (map (λ (g : Grouping). g.key) gs)
    → map (λ (g : Grouping). index_at g.key (put_one key index groups)) gs ≡ map (λ (g : Grouping). index_at g.key groups) gs
beside_all key index groups [] d = refl
beside_all key index groups (g ∷ gs) d =
    let one = one_beside g.key key index groups (index == 0) refl (same_both g.key key ∙ d.0) in
    let more = beside_all key index groups gs d.1 in
    λ i. one i ∷ more i

-- the indexes of the k-th sample
pub indexes_at : (n k : ℕ) (gs : List Grouping) → k < n → AreDistinct (map (λ (g : Grouping). g.key) gs)
    → map (λ (g : Grouping). index_at g.key (get_or (maps_of n gs) k [])) gs ≡ map (λ (g : Grouping). slice_index (repeated g.rows) k) gs
indexes_at n k [] h d = refl
indexes_at n k (g ∷ gs) h d =
    let i = slice_index (repeated g.rows) k in
    let m = get_or (maps_of n gs) k [] in
    let long = maps_length n gs in
    let at : get_or (maps_of n (g ∷ gs)) k [] ≡ put_one g.key i m = put_indexes_at g.key (repeated g.rows) (maps_of n gs) k (omega arith) in
    let first : index_at g.key (put_one g.key i m) ≡ i = one_there g.key i m (i == 0) refl (key_absent g.key n k gs h d.0) in
    let more : map (λ (o : Grouping). index_at o.key (put_one g.key i m)) gs ≡ map (λ (o : Grouping). slice_index (repeated o.rows) k) gs = beside_all g.key i m gs d.0 ∙ indexes_at n k gs h d.1 in
    ap (λ (groups : Groups). map (λ (o : Grouping). index_at o.key groups) (g ∷ gs)) at ∙ (λ j. first j ∷ more j)

-- ---- keys that differ are all named, in order

pub none_before : (key : GroupKey) (keys others : List GroupKey) → list_any (same_key key) keys ≡ false → keys_with keys (key ∷ others) ≡ keys_with (keys ++ key ∷ []) others
none_before key keys others e = ap (λ b. keys_with (cond b keys (keys ++ key ∷ [])) others) e

any_snoc : (key : GroupKey) (keys : List GroupKey) (other : GroupKey) → list_any (same_key key) keys ≡ false → same_key key other ≡ false → list_any (same_key key) (keys ++ other ∷ []) ≡ false
any_snoc key keys other e f = list_any-append (same_key key) keys (other ∷ []) ∙ rw (e, f) refl

snoc_all : (keys : List GroupKey) (other : GroupKey) (more : List GroupKey) → AllByRecursion (λ key. list_any (same_key key) keys ≡ false) more → AllByRecursion (λ key. same_key other key ≡ false) more
    → AllByRecursion (λ key. list_any (same_key key) (keys ++ other ∷ []) ≡ false) more
snoc_all keys other [] h d = tt
snoc_all keys other (key ∷ more) h d = (any_snoc key keys other h.0 (same_both key other ∙ d.0), snoc_all keys other more h.1 d.1)

all_named : (keys more : List GroupKey) → AllByRecursion (λ key. list_any (same_key key) keys ≡ false) more → AreDistinct more → keys_with keys more ≡ keys ++ more
all_named keys [] h d = sym (append-nil keys)
all_named keys (key ∷ more) h d =
    none_before key keys more h.0 ∙ all_named (keys ++ key ∷ []) more (snoc_all keys key more h.1 d.0) d.1 ∙ append_assoc keys (key ∷ []) more

none_named : (more : List GroupKey) → AllByRecursion (λ key. list_any (same_key key) [] ≡ false) more
none_named [] = tt
none_named (key ∷ more) = (refl, none_named more)

pub keys_are : (gs : List Grouping) → AreDistinct (map (λ (g : Grouping). g.key) gs) → keys_after [] gs ≡ map (λ (g : Grouping). g.key) gs
keys_are gs d = all_named [] (map (λ (g : Grouping). g.key) gs) (none_named (map (λ (g : Grouping). g.key) gs)) d

pub grouped_keys : (keys : List GroupKey) (rows : List (List (ℕ × ℕ))) → AreUsed keys rows → map (λ (g : Grouping). g.key) (grouped keys rows) ≡ keys
grouped_keys [] rows u = refl
grouped_keys (key ∷ keys) [] u = absurd u
grouped_keys (key ∷ keys) (r ∷ rows) u = ap (λ (ks : List GroupKey). key ∷ ks) (grouped_keys keys rows u)

no_index : (runs : List (ℕ × ℕ)) (k : ℕ) → runs ≡ [] → slice_index (repeated runs) k ≡ 0
no_index runs zero e = ap (λ rs. slice_index (repeated rs) 0) e
no_index runs (suc k) e = ap (λ rs. slice_index (repeated rs) (suc k)) e

padded_rows : (keys : List GroupKey) (rows : List (List (ℕ × ℕ))) (k : ℕ) → AreUsed keys rows
    → padded (length rows) (map (λ (g : Grouping). slice_index (repeated g.rows) k) (grouped keys rows)) ≡ map (λ (runs : List (ℕ × ℕ)). slice_index (repeated runs) k) rows
padded_rows [] [] k u = refl
padded_rows [] (r ∷ rows) k u = let z = no_index r k u.0 in let more = padded_rows [] rows k u.1 in λ i. sym z i ∷ more i
padded_rows (key ∷ keys) [] k u = absurd u
padded_rows (key ∷ keys) (r ∷ rows) k u = ap (λ xs. slice_index (repeated r) k ∷ xs) (padded_rows keys rows k u)

-- the keys of groupings, and the indexes of the k-th sample at them
pub group_keys : (keys : List GroupKey) (rows : List (List (ℕ × ℕ))) → AreDistinct keys → AreUsed keys rows → keys_after [] (grouped keys rows) ≡ keys
group_keys keys rows d u =
    let e = grouped_keys keys rows u in
    keys_are (grouped keys rows) (subst AreDistinct (sym e) d) ∙ e

pub indexes_are : (n k : ℕ) (keys : List GroupKey) (rows : List (List (ℕ × ℕ))) → k < n → AreDistinct keys → AreUsed keys rows → length rows ≡ 4
    → indexes (keys_after [] (grouped keys rows)) (get_or (maps_of n (grouped keys rows)) k []) ≡ map (λ (runs : List (ℕ × ℕ)). slice_index (repeated runs) k) rows
indexes_are n k keys rows h d u four =
    let e = grouped_keys keys rows u in
    let gs = grouped keys rows in
    let m = get_or (maps_of n gs) k [] in
    let distinct : AreDistinct (map (λ (g : Grouping). g.key) gs) = subst AreDistinct (sym e) d in
    ap (λ (ks : List GroupKey). padded 4 (map (λ (key : GroupKey). index_at key m) ks)) (keys_are gs distinct)
    ∙ ap (padded 4) (twice (λ (key : GroupKey). index_at key m) gs ∙ indexes_at n k gs h distinct)
    ∙ ap (λ l. padded l (map (λ (g : Grouping). slice_index (repeated g.rows) k) gs)) (sym four)
    ∙ padded_rows keys rows k u
  where
    twice : (f : GroupKey → ℕ) (gs : List Grouping) → map f (map (λ (g : Grouping). g.key) gs) ≡ map (λ (g : Grouping). f g.key) gs
    twice f [] = refl
    twice f (g ∷ gs) = ap (λ xs. f g.key ∷ xs) (twice f gs)
