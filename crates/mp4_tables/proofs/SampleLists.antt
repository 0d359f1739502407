-- The list of samples, one by one, from the lists of their parts.
use Rattle.std.proofs.Common.{◌≡◌, ℕ, zero, suc, ◌+◌, ◌*◌, ◌^◌, ◌<◌, List, [], ◌∷◌, length, take, drop, replicate, get_or, refl, ap, sym, ◌∙◌, arith, Bool, true, false, cond, Option}
use Rattle.std.specs.Prelude.{ℤ, pos, unwrap_or, option_map, ◌==◌, nat_lt}
use Rattle.std.specs.List.{AllByRecursion}
use Rattle.std.proofs.lemmas.List.{drop_more, length-replicate}
use Rattle.std.proofs.lemmas.Bool.Decides.{nat_tests}
use Rattle.mp4_tables.specs.format.Repeated.{repeated}
use Rattle.mp4_tables.specs.format.Groups.{GroupKey, Grouping, Groups, key_rank, same_key, keys_after, index_at, put_group, put_indexes, maps_of}
use Rattle.mp4_tables.specs.format.Tables.{Tables}
use Rattle.mp4_tables.specs.format.PlainSamples.{PlacedSample, Spot, with_groups, non_sync, flags_from, joined, spots_of, plain_samples}
use Rattle.mp4_tables.specs.words.Timed.{sample_at, timed, samples_of}
use Rattle.mp4_tables.proofs.SpotLists.{drop_next}
use Rattle.mp4_tables.proofs.NamedKeys.{same_itself}

-- ---- parts side by side

abbrev pub placed : ℕ → ℤ → ℕ → Spot → Groups → PlacedSample
placed duration offset flags spot groups = record { duration = duration; offset = offset; flags = flags; description = spot.description; at = spot.at; size = spot.size; groups = groups }

joined_more : (k : ℕ) (xs xs' : List ℕ) (os os' : List ℤ) (fs fs' : List ℕ) (ss ss' : List Spot) (x : ℕ) (o : ℤ) (f : ℕ) (s : Spot)
    → drop k xs ≡ x ∷ xs' → drop k os ≡ o ∷ os' → drop k fs ≡ f ∷ fs' → drop k ss ≡ s ∷ ss'
    → drop k (joined xs os fs ss) ≡ placed x o f s [] ∷ joined xs' os' fs' ss'
joined_more zero xs xs' os os' fs fs' ss ss' x o f s e1 e2 e3 e4 = λ i. joined (e1 i) (e2 i) (e3 i) (e4 i)
joined_more (suc k) [] xs' os os' fs fs' ss ss' x o f s e1 e2 e3 e4 = cc
joined_more (suc k) (a ∷ xs) xs' [] os' fs fs' ss ss' x o f s e1 e2 e3 e4 = cc
joined_more (suc k) (a ∷ xs) xs' (b ∷ os) os' [] fs' ss ss' x o f s e1 e2 e3 e4 = cc
joined_more (suc k) (a ∷ xs) xs' (b ∷ os) os' (c ∷ fs) fs' [] ss' x o f s e1 e2 e3 e4 = cc
joined_more (suc k) (a ∷ xs) xs' (b ∷ os) os' (c ∷ fs) fs' (d ∷ ss) ss' x o f s e1 e2 e3 e4 = joined_more k xs xs' os os' fs fs' ss ss' x o f s e1 e2 e3 e4

grouped_more : (k : ℕ) (maps maps' : List Groups) (samples samples' : List PlacedSample) (m : Groups) (s : PlacedSample)
    → drop k maps ≡ m ∷ maps' → drop k samples ≡ s ∷ samples' → drop k (with_groups maps samples) ≡ record s { groups = m } ∷ with_groups maps' samples'
grouped_more zero maps maps' samples samples' m s e1 e2 = λ i. with_groups (e1 i) (e2 i)
grouped_more (suc k) [] maps' samples samples' m s e1 e2 = cc
grouped_more (suc k) (a ∷ maps) maps' [] samples' m s e1 e2 = cc
grouped_more (suc k) (a ∷ maps) maps' (b ∷ samples) samples' m s e1 e2 = grouped_more k maps maps' samples samples' m s e1 e2

pub flags_more : (sync : Option (List ℕ)) (i k : ℕ) (bytes bytes' : List ℕ) (b : ℕ) → drop k bytes ≡ b ∷ bytes'
    → drop k (flags_from sync i bytes) ≡ (b * 2 ^ 20 + non_sync sync (k + i) * 2 ^ 16) ∷ flags_from sync (k + i + 1) bytes'
flags_more sync i zero bytes bytes' b e = let z : 0 + i ≡ i = omega arith in ap (flags_from sync i) e ∙ rw z refl
flags_more sync i (suc k) [] bytes' b e = cc
flags_more sync i (suc k) (a ∷ bytes) bytes' b e =
    let z : k + (i + 1) ≡ suc k + i = omega arith in
    flags_more sync (i + 1) k bytes bytes' b e ∙ ap (λ j. (b * 2 ^ 20 + non_sync sync j * 2 ^ 16) ∷ flags_from sync (j + 1) bytes') z

pub put_length : (key : GroupKey) (is : List ℕ) (maps : List Groups) → length (put_indexes key is maps) ≡ length maps
put_length key [] maps = refl
put_length key (i ∷ is) [] = refl
put_length key (i ∷ is) (m ∷ maps) = ap suc (put_length key is maps)

pub maps_length : (n : ℕ) (groups : List Grouping) → length (maps_of n groups) ≡ n
maps_length n [] = length-replicate n []
maps_length n (g ∷ groups) = put_length g.key (repeated g.rows) (maps_of n groups) ∙ maps_length n groups

-- the samples from number k on, by their parts
pub plain_more : (t : Tables) (k duration : ℕ) (offset : ℤ) (flags : ℕ) (spot : Spot) (ds fs : List ℕ) (os : List ℤ) (ss : List Spot) → k < length t.sizes
    → drop k (repeated t.durations) ≡ duration ∷ ds
    → drop k (unwrap_or (option_map repeated t.offsets) (replicate (length t.sizes) (pos 0))) ≡ offset ∷ os
    → drop k (flags_from t.sync 1 (unwrap_or (option_map (take (length t.sizes)) t.dependencies) (replicate (length t.sizes) 0))) ≡ flags ∷ fs
    → drop k (spots_of t) ≡ spot ∷ ss
    → drop k (plain_samples t) ≡ placed duration offset flags spot (get_or (maps_of (length t.sizes) t.groups) k []) ∷ drop (k + 1) (plain_samples t)
plain_more t k duration offset flags spot ds fs os ss h e1 e2 e3 e4 =
    let n = length t.sizes in
    let maps = maps_of n t.groups in
    let long = maps_length n t.groups in
    let O = unwrap_or (option_map repeated t.offsets) (replicate n (pos 0)) in
    let F = flags_from t.sync 1 (unwrap_or (option_map (take n) t.dependencies) (replicate n 0)) in
    let m = get_or maps k [] in
    let e5 : drop k maps ≡ m ∷ drop (k + 1) maps = drop_more maps k [] (omega arith) in
    let here = grouped_more k maps (drop (k + 1) maps) (joined (repeated t.durations) O F (spots_of t)) (joined ds os fs ss) m (placed duration offset flags spot [])
    e5 (joined_more k (repeated t.durations) ds O os F fs (spots_of t) ss duration offset flags spot e1 e2 e3 e4) in
    here ∙ ap (λ (xs : List PlacedSample). placed duration offset flags spot m ∷ xs) (sym (drop_next (plain_samples t) (with_groups (drop (k + 1) maps) (joined ds os fs ss)) k (placed duration offset flags spot m) here))

-- ---- time

-- the samples to come, where the next one is known
pub timed_more : (t : Tables) (keys : List GroupKey) (k dts : ℕ) (s : PlacedSample) → drop k (samples_of t) ≡ timed keys k dts (drop k (plain_samples t)) → drop k (plain_samples t) ≡ s ∷ drop (k + 1) (plain_samples t)
    → drop k (samples_of t) ≡ sample_at keys k dts s ∷ timed keys (k + 1) (dts + s.duration) (drop (k + 1) (plain_samples t))
timed_more t keys k dts s e f = e ∙ ap (timed keys k dts) f

pub timed_next : (t : Tables) (keys : List GroupKey) (k dts : ℕ) (s : PlacedSample) → drop k (samples_of t) ≡ timed keys k dts (drop k (plain_samples t)) → drop k (plain_samples t) ≡ s ∷ drop (k + 1) (plain_samples t)
    → drop (k + 1) (samples_of t) ≡ timed keys (k + 1) (dts + s.duration) (drop (k + 1) (plain_samples t))
timed_next t keys k dts s e f = drop_next (samples_of t) (timed keys (k + 1) (dts + s.duration) (drop (k + 1) (plain_samples t))) k (sample_at keys k dts s) (timed_more t keys k dts s e f)

pub timed_first : (t : Tables) → drop 0 (samples_of t) ≡ timed (keys_after [] t.groups) 0 0 (drop 0 (plain_samples t))
unfolding samples_of
timed_first t = refl

-- there are as many with times as without
pub timed_length : (keys : List GroupKey) (number dts : ℕ) (samples : List PlacedSample) → length (timed keys number dts samples) ≡ length samples
timed_length keys number dts [] = refl
timed_length keys number dts (s ∷ samples) = ap suc (timed_length keys (number + 1) (dts + s.duration) samples)

-- as many samples are handed out as there are
pub samples_length : (t : Tables) → length (samples_of t) ≡ length (plain_samples t)
unfolding samples_of
samples_length t = timed_length (keys_after [] t.groups) 0 0 (plain_samples t)

-- ---- keys and indexes

pub same_both : (a b : GroupKey) → same_key a b ≡ same_key b a
same_both a b = grind (arith, nat_tests)

-- no entry has the key
abbrev pub NotIn : GroupKey → Groups → Type 0
NotIn key groups = AllByRecursion (λ (e : GroupKey × ℕ). same_key key e.0 ≡ false) groups

-- the map of a sample with its index at one more key
abbrev pub put_one : GroupKey → ℕ → Groups → Groups
put_one key index groups = cond (index == 0) groups (put_group key index groups)

put_in : (other key : GroupKey) (index : ℕ) (e : GroupKey × ℕ) (groups : Groups) (v : Bool) → nat_lt (key_rank key) (key_rank e.0) ≡ v → same_key other key ≡ false → NotIn other (e ∷ groups)
    → NotIn other (put_group key index groups) → NotIn other (put_group key index (e ∷ groups))
put_in other key index e groups true f h n m = rw f (h, n)
put_in other key index e groups false f h n m = rw f (n.0, m)

pub put_not_in : (other key : GroupKey) (index : ℕ) (groups : Groups) → same_key other key ≡ false → NotIn other groups → NotIn other (put_group key index groups)
put_not_in other key index [] h n = (h, tt)
put_not_in other key index (e ∷ groups) h n = put_in other key index e groups (nat_lt (key_rank key) (key_rank e.0)) refl h n (put_not_in other key index groups h n.1)

pub absent : (key : GroupKey) (groups : Groups) → NotIn key groups → index_at key groups ≡ 0
absent key [] n = refl
absent key (e ∷ groups) n = rw n.0 (absent key groups n.1)

put_at : (key : GroupKey) (index : ℕ) (e : GroupKey × ℕ) (groups : Groups) (v : Bool) → nat_lt (key_rank key) (key_rank e.0) ≡ v → same_key key e.0 ≡ false → index_at key (put_group key index groups) ≡ index → index_at key (put_group key index (e ∷ groups)) ≡ index
put_at key index e groups true f n h = rw (f, same_itself key) refl
put_at key index e groups false f n h = rw (f, n) h

-- the index that was put is there
pub put_there : (key : GroupKey) (index : ℕ) (groups : Groups) → NotIn key groups → index_at key (put_group key index groups) ≡ index
put_there key index [] n = rw (same_itself key) refl
put_there key index (e ∷ groups) n = put_at key index e groups (nat_lt (key_rank key) (key_rank e.0)) refl n.0 (put_there key index groups n.1)

put_by : (other key : GroupKey) (index : ℕ) (e : GroupKey × ℕ) (groups : Groups) (v : Bool) → nat_lt (key_rank key) (key_rank e.0) ≡ v → same_key other key ≡ false → index_at other (put_group key index groups) ≡ index_at other groups
    → index_at other (put_group key index (e ∷ groups)) ≡ index_at other (e ∷ groups)
put_by other key index e groups true f h k = rw (f, h) refl
put_by other key index e groups false f h k = rw f (ap (λ n. cond (same_key other e.0) e.1 n) k)

-- the others stay
pub put_beside : (other key : GroupKey) (index : ℕ) (groups : Groups) → same_key other key ≡ false → index_at other (put_group key index groups) ≡ index_at other groups
put_beside other key index [] h = rw h refl
put_beside other key index (e ∷ groups) h = put_by other key index e groups (nat_lt (key_rank key) (key_rank e.0)) refl h (put_beside other key index groups h)
