-- The keys of a track once more keys were named: they differ from one another, and samples of before have index 0 at those that are new.
use Rattle.std.proofs.Common.{◌≡◌, ℕ, zero, suc, ◌+◌, Bool, true, false, cond, List, [], ◌∷◌, ◌++◌, map, refl, ap, ◌∙◌, rules}
use Rattle.std.specs.Prelude.{◌==◌, replicate}
use Rattle.std.specs.List.{AllByRecursion, list_any}
use Rattle.std.proofs.lemmas.List.{map-append}
use Rattle.mp4_tables.specs.words.Accepted.{AreDistinct}
use Rattle.mp4_tables.specs.format.Repeated.{repeated}
use Rattle.mp4_tables.specs.format.Groups.{GroupKey, Grouping, Groups, key_rank, same_key, keys_with, keys_after, index_at, put_group, put_indexes, maps_of}
use Rattle.mp4_tables.specs.format.PlainSamples.{PlacedSample, with_groups}
use Rattle.mp4_tables.specs.words.Timed.{padded, indexes, sample_at, timed}
use Rattle.mp4_tables.proofs.GroupsKept.{snoc_distinct, differs_from}
use Rattle.mp4_tables.proofs.SampleLists.{put_not_in, absent}
use Rattle.mp4_tables.proofs.NamedKeys.{IsAmong, by_rank, each_named}
use Rattle.mp4_boxes.proofs.Plain.{true_false}

-- ---- keys differ

with_one : (keys more : List GroupKey) (key : GroupKey) (v : Bool) → list_any (same_key key) keys ≡ v → AreDistinct keys
    → ((ks : List GroupKey) → AreDistinct ks → AreDistinct (keys_with ks more)) → AreDistinct (keys_with (cond v keys (keys ++ key ∷ [])) more)
with_one keys more key true e d next = next keys d
with_one keys more key false e d next = next (keys ++ key ∷ []) (snoc_distinct keys key d (differs_from key keys e))

pub distinct_with : (keys more : List GroupKey) → AreDistinct keys → AreDistinct (keys_with keys more)
distinct_with keys [] d = d
distinct_with keys (key ∷ more) d = with_one keys more key (list_any (same_key key) keys) refl d (λ ks e. distinct_with ks more e)

pub distinct_keys : (xs ys : List Grouping) → AreDistinct (keys_after (keys_after [] xs) ys)
distinct_keys xs ys = distinct_with (keys_after [] xs) (map (λ (g : Grouping). g.key) ys) (distinct_with [] (map (λ (g : Grouping). g.key) xs) tt)

-- ---- samples that have no index at other keys

abbrev Lacks : GroupKey → Groups → Type 0
Lacks key groups = AllByRecursion (λ (e : GroupKey × ℕ). same_key key e.0 ≡ false) groups

-- at a key that is none of these no sample has an index
abbrev pub AreWithin : List GroupKey → List PlacedSample → Type 0
AreWithin keys samples = (key : GroupKey) → list_any (same_key key) keys ≡ false → AllByRecursion (λ (s : PlacedSample). index_at key s.groups ≡ 0) samples

put_lacks : (key other : GroupKey) (index : ℕ) (groups : Groups) (v : Bool) → (index == 0) ≡ v → same_key key other ≡ false → Lacks key groups → Lacks key (cond v groups (put_group other index groups))
put_lacks key other index groups true e d h = h
put_lacks key other index groups false e d h = put_not_in key other index groups d h

all_put : (key other : GroupKey) (is : List ℕ) (maps : List Groups) → same_key key other ≡ false → AllByRecursion (Lacks key) maps → AllByRecursion (Lacks key) (put_indexes other is maps)
all_put key other [] maps d h = h
all_put key other (i ∷ is) [] d h = tt
all_put key other (i ∷ is) (groups ∷ maps) d h = (put_lacks key other i groups (i == 0) refl d h.0, all_put key other is maps d h.1)

none_mapped : (key : GroupKey) (n : ℕ) → AllByRecursion (Lacks key) (replicate n [])
none_mapped key zero = tt
none_mapped key (suc n) = (tt, none_mapped key n)

all_lack : (key : GroupKey) (n : ℕ) (gs : List Grouping) → AllByRecursion (λ (g : Grouping). same_key key g.key ≡ false) gs → AllByRecursion (Lacks key) (maps_of n gs)
all_lack key n [] h = none_mapped key n
all_lack key n (g ∷ gs) h = all_put key g.key (repeated g.rows) (maps_of n gs) h.0 (all_lack key n gs h.1)

-- samples that have no groups of their own
abbrev pub HaveNone : List PlacedSample → Type 0
HaveNone samples = AllByRecursion (λ (s : PlacedSample). s.groups ≡ []) samples

none_at : (key : GroupKey) (groups : Groups) → groups ≡ [] → index_at key groups ≡ 0
none_at key groups e = ap (index_at key) e

each_none : (key : GroupKey) (samples : List PlacedSample) → HaveNone samples → AllByRecursion (λ (s : PlacedSample). index_at key s.groups ≡ 0) samples
each_none key [] h = tt
each_none key (s ∷ samples) h = (none_at key s.groups h.0, each_none key samples h.1)

grouped_lack : (key : GroupKey) (maps : List Groups) (samples : List PlacedSample) → AllByRecursion (Lacks key) maps → HaveNone samples → AllByRecursion (λ (s : PlacedSample). index_at key s.groups ≡ 0) (with_groups maps samples)
grouped_lack key maps [] h n = tt
grouped_lack key [] (s ∷ samples) h n = each_none key (s ∷ samples) n
grouped_lack key (groups ∷ maps) (s ∷ samples) h n = (absent key groups h.0, grouped_lack key maps samples h.1 n.1)

-- a key that is none of those named differs from each
differ_choice : (named : List GroupKey) (key k : GroupKey) (v : Bool) → same_key key k ≡ v → list_any (same_key key) named ≡ false → IsAmong named k → same_key key k ≡ false
differ_choice named key k false s e h = s
differ_choice named key k true s e h = absurd (true_false (list_any (same_key key) named) (by_rank named key k (let r : key_rank key ≡ key_rank k = same_rank s in r) ∙ h) e)
  where
    same_rank : same_key key k ≡ true → key_rank key ≡ key_rank k
    same_rank h = search rules

differ_each : (named : List GroupKey) (key : GroupKey) (gs : List Grouping) → list_any (same_key key) named ≡ false → AllByRecursion (IsAmong named) (map (λ (g : Grouping). g.key) gs) → AllByRecursion (λ (g : Grouping). same_key key g.key ≡ false) gs
differ_each named key [] e h = tt
differ_each named key (g ∷ gs) e h = (differ_choice named key g.key (same_key key g.key) refl e h.0, differ_each named key gs e h.1)

-- samples that were grouped by some `sbgp`s have no index at a key that these don't name
pub grouped_within : (n : ℕ) (gs : List Grouping) (samples : List PlacedSample) → HaveNone samples → AreWithin (keys_after [] gs) (with_groups (maps_of n gs) samples)
grouped_within n gs samples none key e =
    grouped_lack key (maps_of n gs) samples (all_lack key n gs (differ_each (keys_after [] gs) key gs e (each_named [] (map (λ (g : Grouping). g.key) gs)))) none

-- ---- more keys

padded_more : (n : ℕ) (xs : List ℕ) → padded n (xs ++ 0 ∷ []) ≡ padded n xs
padded_more zero xs = refl
padded_more (suc n) [] = ap (λ ys. 0 ∷ ys) (padded_none n)
  where
    padded_none : (k : ℕ) → padded k [] ≡ padded k []
    padded_none k = refl
padded_more (suc n) (x ∷ xs) = ap (λ ys. x ∷ ys) (padded_more n xs)

indexes_more : (keys : List GroupKey) (key : GroupKey) (groups : Groups) → index_at key groups ≡ 0 → indexes (keys ++ key ∷ []) groups ≡ indexes keys groups
indexes_more keys key groups e =
    ap (padded 4) (map-append (λ k. index_at k groups) keys (key ∷ []) ∙ ap (λ n. map (λ k. index_at k groups) keys ++ n ∷ []) e) ∙ padded_more 4 (map (λ k. index_at k groups) keys)

timed_one : (keys : List GroupKey) (key : GroupKey) (number dts : ℕ) (samples : List PlacedSample) → AllByRecursion (λ (s : PlacedSample). index_at key s.groups ≡ 0) samples
    → timed (keys ++ key ∷ []) number dts samples ≡ timed keys number dts samples
timed_one keys key number dts [] h = refl
timed_one keys key number dts (s ∷ samples) h =
    let first : sample_at (keys ++ key ∷ []) number dts s ≡ sample_at keys number dts s = λ i. record (sample_at keys number dts s) { groups = indexes_more keys key s.groups h.0 i } in
    let more = timed_one keys key (number + 1) (dts + s.duration) samples h.1 in
    λ i. first i ∷ more i

none_choice : (other key k : GroupKey) (ks : List GroupKey) (v : Bool) → same_key other k ≡ v → (list_any (same_key other) (ks ++ key ∷ []) ≡ false → list_any (same_key other) ks ≡ false)
    → list_any (same_key other) (k ∷ ks ++ key ∷ []) ≡ false → list_any (same_key other) (k ∷ ks) ≡ false
none_choice other key k ks true s next f = let g : true ≡ false = rw s at f in absurd cc
none_choice other key k ks false s next f = rw s (next (rw s at f))

none_among : (other key : GroupKey) (ks : List GroupKey) → list_any (same_key other) (ks ++ key ∷ []) ≡ false → list_any (same_key other) ks ≡ false
none_among other key [] f = refl
none_among other key (k ∷ ks) f = none_choice other key k ks (same_key other k) refl (none_among other key ks) f

within_more : (keys : List GroupKey) (key : GroupKey) (samples : List PlacedSample) → AreWithin keys samples → AreWithin (keys ++ key ∷ []) samples
within_more keys key samples h other e = h other (none_among other key keys e)

choose : (keys more : List GroupKey) (key : GroupKey) (number dts : ℕ) (samples : List PlacedSample) (v : Bool) → list_any (same_key key) keys ≡ v → AreWithin keys samples
    → ((ks : List GroupKey) → AreWithin ks samples → timed (keys_with ks more) number dts samples ≡ timed ks number dts samples)
    → timed (keys_with (cond v keys (keys ++ key ∷ [])) more) number dts samples ≡ timed keys number dts samples
choose keys more key number dts samples true e h next = next keys h
choose keys more key number dts samples false e h next = next (keys ++ key ∷ []) (within_more keys key samples h) ∙ timed_one keys key number dts samples (h key e)

-- samples that have no index at new keys are the same with these
pub timed_with : (keys more : List GroupKey) (number dts : ℕ) (samples : List PlacedSample) → AreWithin keys samples → timed (keys_with keys more) number dts samples ≡ timed keys number dts samples
timed_with keys [] number dts samples h = refl
timed_with keys (key ∷ more) number dts samples h = choose keys more key number dts samples (list_any (same_key key) keys) refl h (λ ks w. timed_with ks more number dts samples w)
