-- The indexes that a walk takes from the `sbgp`s of a `traf` are the groups of its samples.
use Rattle.std.proofs.Common.{◌≡◌, ℕ, zero, suc, ◌+◌, ◌-◌, ◌<◌, ◌≤◌, ◌==◌, Bool, true, false, not, cond, List, [], ◌∷◌, ◌++◌, length, take, map, replicate, get_or, slice_index, Option, Some, None, refl, sym, ap, subst, ◌∙◌, rules, arith}
use Rattle.std.specs.Prelude.{min, nat_le, slice_set, IsTrue}
use Rattle.std.specs.List.{AllByRecursion, list_any, list_all, slice_get, position_from}
use Rattle.std.proofs.lemmas.Bool.{or_parts}
use Rattle.std.proofs.lemmas.Bool.Decides.{nat_tests}
use Rattle.mp4_tables.specs.format.Groups.{GroupKey, Grouping, Groups, GroupRule, one_of_key, index_range, group_counts, max_index, group_test, keeps, same_key, index_at, maps_of}
use Rattle.mp4_tables.specs.words.Keys.{key_place}
use Rattle.mp4_tables.specs.format.Repeated.{repeated, total}
use Rattle.mp4_tables.specs.words.Timed.{padded, indexes}
use Rattle.mp4_tables.specs.words.Accepted.{AreDistinct}
use Rattle.mp4_tables.proofs.SampleLists.{put_one, same_both, maps_length}
use Rattle.mp4_tables.specs.words.Indexes.{low_half}
use Rattle.mp4_frag.specs.words.Walks.{with_key, no_indexes}
use Rattle.mp4_boxes.proofs.Plain.{and_is_true}
use Rattle.mp4_tables.proofs.IndexLists.{put_indexes_at, one_there, one_beside, key_absent}

-- ---- one index in the map of a sample

-- keys of one rank have one index
pub same_test : (a b c : GroupKey) → same_key a b ≡ true → same_key a c ≡ same_key b c
same_test a b c e = grind (arith, nat_tests)

index_alike : (a b : GroupKey) (groups : Groups) → same_key a b ≡ true → index_at a groups ≡ index_at b groups
index_alike a b [] e = refl
index_alike a b (g ∷ groups) e = let test = same_test a b g.0 e in let more = index_alike a b groups e in λ i. cond (test i) g.1 (more i)

-- ---- the rows for a key

-- the indexes of the first grouping with the key, else these
abbrev pub rows_for : List ℕ → GroupKey → List Grouping → List ℕ
rows_for none key [] = none
rows_for none key (g ∷ gs) = cond (same_key key g.key) (repeated g.rows) (rows_for none key gs)

abbrev Differ : List Grouping → Type 0
Differ gs = AreDistinct (map (λ (g : Grouping). g.key) gs)

pub nothing_at : (n k : ℕ) (key : GroupKey) → index_at key (get_or (replicate n []) k []) ≡ 0
nothing_at zero zero key = refl
nothing_at zero (suc k) key = refl
nothing_at (suc n) zero key = refl
nothing_at (suc n) (suc k) key = nothing_at n k key

none_at : (k : ℕ) → slice_index [] k ≡ 0
none_at zero = refl
none_at (suc k) = refl

index_step : (n k : ℕ) (key : GroupKey) (g : Grouping) (gs : List Grouping) (v : Bool) → same_key key g.key ≡ v → k < n → Differ (g ∷ gs) → index_at key (get_or (maps_of n gs) k []) ≡ slice_index (rows_for [] key gs) k
    → index_at key (get_or (maps_of n (g ∷ gs)) k []) ≡ slice_index (cond v (repeated g.rows) (rows_for [] key gs)) k
index_step n k key g gs true e h d more =
    let i = slice_index (repeated g.rows) k in
    let m = get_or (maps_of n gs) k [] in
    let long = maps_length n gs in
    ap (index_at key) (put_indexes_at g.key (repeated g.rows) (maps_of n gs) k (omega arith))
    ∙ index_alike key g.key (put_one g.key i m) e ∙ one_there g.key i m (i == 0) refl (key_absent g.key n k gs h d.0)
index_step n k key g gs false e h d more =
    let i = slice_index (repeated g.rows) k in
    let m = get_or (maps_of n gs) k [] in
    let long = maps_length n gs in
    ap (index_at key) (put_indexes_at g.key (repeated g.rows) (maps_of n gs) k (omega arith))
    ∙ one_beside key g.key i m (i == 0) refl e ∙ more

index_within : (n k : ℕ) (key : GroupKey) (gs : List Grouping) → k < n → Differ gs → index_at key (get_or (maps_of n gs) k []) ≡ slice_index (rows_for [] key gs) k
index_within n k key [] h d = nothing_at n k key ∙ sym (none_at k)
index_within n k key (g ∷ gs) h d = index_step n k key g gs (same_key key g.key) refl h d (index_within n k key gs h d.1)

-- behind all samples there is no index
abbrev AreFew : ℕ → List Grouping → Type 0
AreFew n gs = AllByRecursion (λ (g : Grouping). total g.rows ≤ n) gs

repeated_at : (rows : List (ℕ × ℕ)) (k : ℕ) → total rows ≤ k → slice_index (repeated rows) k ≡ 0
repeated_at [] k h = none_at k
repeated_at (row ∷ rows) k h = row_passed row.0 k row.1 (repeated rows) (omega arith) (repeated_at rows (k - row.0) (omega arith))
  where
    row_passed : (count k index : ℕ) (more : List ℕ) → count ≤ k → slice_index more (k - count) ≡ 0 → slice_index (replicate count index ++ more) k ≡ 0
    row_passed zero k index more le e = ap (slice_index more) (omega arith) ∙ e
    row_passed (suc count) zero index more le e = absurd (omega arith)
    row_passed (suc count) (suc k) index more le e = let less : suc k - suc count ≡ k - count = omega arith in row_passed count k index more (omega arith) (ap (slice_index more) (sym less) ∙ e)

rows_behind : (n k : ℕ) (key : GroupKey) (gs : List Grouping) → n ≤ k → AreFew n gs → slice_index (rows_for [] key gs) k ≡ 0
rows_behind n k key [] h f = none_at k
rows_behind n k key (g ∷ gs) h f = choice (same_key key g.key) (rows_behind n k key gs h f.1)
  where
    choice : (v : Bool) → slice_index (rows_for [] key gs) k ≡ 0 → slice_index (cond v (repeated g.rows) (rows_for [] key gs)) k ≡ 0
    choice true e = let few = f.0 in repeated_at g.rows k (omega arith)
    choice false e = e

map_behind : (k : ℕ) (maps : List Groups) → length maps ≤ k → get_or maps k [] ≡ []
map_behind zero [] h = refl
map_behind (suc k) [] h = refl
map_behind zero (m ∷ maps) h = absurd (omega arith)
map_behind (suc k) (m ∷ maps) h = map_behind k maps (omega arith)

index_any : (n k : ℕ) (key : GroupKey) (gs : List Grouping) → Differ gs → AreFew n gs → slice_index (rows_for [] key gs) k ≡ index_at key (get_or (maps_of n gs) k [])
index_any n k key gs d f = choice (nat_le n k) refl
  where
    choice : (v : Bool) → nat_le n k ≡ v → slice_index (rows_for [] key gs) k ≡ index_at key (get_or (maps_of n gs) k [])
    choice true e =
        let le : n ≤ k = search rules in
        let long = maps_length n gs in
        rows_behind n k key gs le f ∙ sym (ap (index_at key) (map_behind k (maps_of n gs) (omega arith)))
    choice false e = let lt : k < n = search rules in sym (index_within n k key gs lt d)

-- ---- the lists of a walk

-- n lists: these, and no indexes behind them
abbrev pub lists_of : ℕ → List (List ℕ) → List (List ℕ)
lists_of zero lists = []
lists_of (suc n) [] = [] ∷ lists_of n []
lists_of (suc n) (l ∷ lists) = l ∷ lists_of n lists

abbrev put_for : GroupKey → List ℕ → (GroupKey → List ℕ) → GroupKey → List ℕ
put_for key indexes lists other = cond (same_key other key) indexes (lists other)

-- what is so of the place of a key
abbrev Placed : ℕ → ℕ → GroupKey → List ℕ → (GroupKey → List ℕ) → List GroupKey → Option ℕ → Type 0
Placed n i key indexes lists keys None = map lists keys ≡ map (put_for key indexes lists) keys
Placed n i key indexes lists keys (Some m) = (j : ℕ) × (m ≡ i + j) × (j < length keys) × (slice_set (lists_of n (map lists keys)) j indexes ≡ lists_of n (map (put_for key indexes lists) keys))

others_kept : (key first : GroupKey) (indexes : List ℕ) (lists : GroupKey → List ℕ) (keys : List GroupKey) → same_key first key ≡ true → AllByRecursion (λ other. same_key first other ≡ false) keys → map lists keys ≡ map (put_for key indexes lists) keys
others_kept key first indexes lists [] e d = refl
others_kept key first indexes lists (k ∷ keys) e d =
    let differs : same_key k key ≡ false = same_both k key ∙ sym (same_test first key k e) ∙ d.0 in
    let one : lists k ≡ put_for key indexes lists k = rw differs refl in
    let more = others_kept key first indexes lists keys e d.1 in
    λ i. one i ∷ more i

key_placed : (n i : ℕ) (key : GroupKey) (indexes : List ℕ) (lists : GroupKey → List ℕ) (k : GroupKey) (keys : List GroupKey) (v : Bool) → same_key key k ≡ v → length keys < n → AreDistinct (k ∷ keys)
    → Placed (n - 1) (i + 1) key indexes lists keys (position_from (same_key key) (i + 1) keys) → Placed n i key indexes lists (k ∷ keys) (cond v (Some i) (position_from (same_key key) (i + 1) keys))
key_placed zero i key indexes lists k keys v e h d more = absurd (omega arith)
key_placed (suc n) i key indexes lists k keys true e h d more =
    let same : same_key k key ≡ true = same_both k key ∙ e in
    let one : indexes ≡ put_for key indexes lists k = rw same refl in
    let others = others_kept key k indexes lists keys same d.0 in
    (0, omega arith, omega arith, (λ i. one i ∷ lists_of n (others i)))
key_placed (suc n) i key indexes lists k keys false e h d more =
    let differs : same_key k key ≡ false = same_both k key ∙ e in
    let one : lists k ≡ put_for key indexes lists k = rw differs refl in
    let less : suc n - 1 ≡ n = omega arith in
    later (position_from (same_key key) (i + 1) keys) one (subst (λ m. Placed m (i + 1) key indexes lists keys (position_from (same_key key) (i + 1) keys)) less more)
  where
    later : (o : Option ℕ) → lists k ≡ put_for key indexes lists k → Placed n (i + 1) key indexes lists keys o → Placed (suc n) i key indexes lists (k ∷ keys) o
    later None one p = λ i. one i ∷ p i
    later (Some m) one p =
        let is = p.1 in
        let in_keys = p.2 in
        (suc p.0, omega arith, omega arith, (λ i. one i ∷ p.3 i))

placed_in : (n i : ℕ) (key : GroupKey) (indexes : List ℕ) (lists : GroupKey → List ℕ) (keys : List GroupKey) → length keys ≤ n → AreDistinct keys → Placed n i key indexes lists keys (position_from (same_key key) i keys)
placed_in n i key indexes lists [] h d = refl
placed_in n i key indexes lists (k ∷ keys) h d = key_placed n i key indexes lists k keys (same_key key k) refl (omega arith) d (placed_in (n - 1) (i + 1) key indexes lists keys (omega arith) d.1)

-- the indexes of one more `sbgp`
key_taken : (key : GroupKey) (indexes : List ℕ) (lists : GroupKey → List ℕ) (keys : List GroupKey) → length keys ≤ 4 → AreDistinct keys
    → with_key (lists_of 4 (map lists keys)) indexes (key_place key keys) ≡ lists_of 4 (map (put_for key indexes lists) keys)
key_taken key indexes lists keys h d = by_place (key_place key keys) (placed_in 4 0 key indexes lists keys h d)
  where
    by_place : (o : Option ℕ) → Placed 4 0 key indexes lists keys o → with_key (lists_of 4 (map lists keys)) indexes o ≡ lists_of 4 (map (put_for key indexes lists) keys)
    by_place None p = ap (lists_of 4) p
    by_place (Some m) p =
        let is = p.1 in
        let in_keys = p.2 in
        let same : min m 3 ≡ p.0 = search rules in
        ap (λ j. slice_set (lists_of 4 (map lists keys)) j indexes) same ∙ p.3

-- those of all
abbrev pub taken : List GroupKey → List (List ℕ) → List Grouping → List (List ℕ)
taken keys lists [] = lists
taken keys lists (g ∷ gs) = taken keys (with_key lists (repeated g.rows) (key_place g.key keys)) gs

abbrev given : (GroupKey → List ℕ) → List Grouping → GroupKey → List ℕ
given lists [] key = lists key
given lists (g ∷ gs) key = given (put_for g.key (repeated g.rows) lists) gs key

all_taken : (keys : List GroupKey) (lists : GroupKey → List ℕ) (gs : List Grouping) → length keys ≤ 4 → AreDistinct keys → taken keys (lists_of 4 (map lists keys)) gs ≡ lists_of 4 (map (given lists gs) keys)
all_taken keys lists [] h d = refl
all_taken keys lists (g ∷ gs) h d = ap (λ (ls : List (List ℕ)). taken keys ls gs) (key_taken g.key (repeated g.rows) lists keys h d) ∙ all_taken keys (put_for g.key (repeated g.rows) lists) gs h d

none_for : (none : List ℕ) (key other : GroupKey) (gs : List Grouping) → same_key key other ≡ true → AllByRecursion (λ k. same_key other k ≡ false) (map (λ (g : Grouping). g.key) gs) → rows_for none key gs ≡ none
none_for none key other [] e d = refl
none_for none key other (g ∷ gs) e d = let differs : same_key key g.key ≡ false = same_test key other g.key e ∙ d.0 in rw differs (none_for none key other gs e d.1)

given_is : (lists : GroupKey → List ℕ) (gs : List Grouping) (key : GroupKey) → Differ gs → given lists gs key ≡ rows_for (lists key) key gs
given_is lists [] key d = refl
given_is lists (g ∷ gs) key d = given_is (put_for g.key (repeated g.rows) lists) gs key d.1 ∙ choice (same_key key g.key) refl
  where
    choice : (v : Bool) → same_key key g.key ≡ v → rows_for (cond v (repeated g.rows) (lists key)) key gs ≡ cond v (repeated g.rows) (rows_for (lists key) key gs)
    choice true e = none_for (repeated g.rows) key g.key gs e d.0
    choice false e = refl

-- ---- the lists show the groups

shown_at : (n i m : ℕ) (lists : GroupKey → List ℕ) (gs : List Grouping) (keys : List GroupKey) → ((key : GroupKey) → slice_index (lists key) i ≡ index_at key (get_or (maps_of m gs) i []))
    → map (λ l. slice_index l i) (lists_of n (map lists keys)) ≡ padded n (map (λ key. index_at key (get_or (maps_of m gs) i [])) keys)
shown_at zero i m lists gs keys e = refl
shown_at (suc n) i m lists gs [] e = let one = none_at i in let more = shown_at n i m lists gs [] e in λ j. one j ∷ more j
shown_at (suc n) i m lists gs (k ∷ keys) e = let one = e k in let more = shown_at n i m lists gs keys e in λ j. one j ∷ more j

none_given : (keys : List GroupKey) (n : ℕ) → lists_of n (map (λ (key : GroupKey). []) keys) ≡ lists_of n []
none_given keys zero = refl
none_given [] (suc n) = refl
none_given (k ∷ keys) (suc n) = ap (λ (ls : List (List ℕ)). [] ∷ ls) (none_given keys n)

-- the indexes of the `sbgp`s of n samples, of which each has its own key and counts no more than n
pub groups_shown : (keys : List GroupKey) (n : ℕ) (gs : List Grouping) → length keys ≤ 4 → AreDistinct keys → Differ gs → AreFew n gs
    → (i : ℕ) → map (λ l. slice_index l i) (taken keys no_indexes gs) ≡ indexes keys (get_or (maps_of n gs) i [])
groups_shown keys n gs h d differ few i =
    ap (λ (ls : List (List ℕ)). map (λ l. slice_index l i) (taken keys ls gs)) (sym (none_given keys 4))
    ∙ ap (λ (ls : List (List ℕ)). map (λ l. slice_index l i) ls) (all_taken keys (λ (key : GroupKey). []) gs h d)
    ∙ shown_at 4 i n (given (λ (key : GroupKey). []) gs) gs keys (λ key. ap (λ (l : List ℕ). slice_index l i) (given_is (λ (k : GroupKey). []) gs key differ) ∙ index_any n i key gs differ few)

-- ---- what the rules say

each_at : (P : Grouping → Type 0) (gs : List Grouping) → ((k : ℕ) (g : Grouping) → slice_get gs k ≡ Some g → P g) → AllByRecursion P gs
each_at P [] h = tt
each_at P (g ∷ gs) h = (h 0 g refl, each_at P gs (λ k other e. h (suc k) other e))

not_any : (b : Bool) → IsTrue (not b) → b ≡ false
not_any true h = absurd cc
not_any false h = refl

differ_from : (gs : List Grouping) → ((k : ℕ) (g : Grouping) → slice_get gs k ≡ Some g → list_any (λ (other : Grouping). same_key g.key other.key) (take k gs) ≡ false) → Differ gs
differ_from [] h = tt
differ_from (g ∷ gs) h = (
  all_keys gs (each_at (λ (other : Grouping). same_key g.key other.key ≡ false) gs (λ k other e. same_both g.key other.key ∙ (or_parts (same_key other.key g.key) (list_any (λ (o : Grouping). same_key other.key o.key) (take k gs)) (h (suc k) other e)).0)),
  differ_from gs (λ k other e. (or_parts (same_key other.key g.key) (list_any (λ (o : Grouping). same_key other.key o.key) (take k gs)) (h (suc k) other e)).1),
)
  where
    all_keys : (others : List Grouping) → AllByRecursion (λ (other : Grouping). same_key g.key other.key ≡ false) others → AllByRecursion (λ key. same_key g.key key ≡ false) (map (λ (other : Grouping). other.key) others)
    all_keys [] a = tt
    all_keys (o ∷ others) a = (a.0, all_keys others a.1)

-- each `sbgp` of n samples keeps the rules, behind some keys
abbrev pub KeepRules : ℕ → List Grouping → Type 0
KeepRules n gs = (keys : List GroupKey) × ((rule : GroupRule) (k : ℕ) → IsTrue (group_test rule n keys gs k))

pub rules_differ : (n : ℕ) (gs : List Grouping) → KeepRules n gs → Differ gs
rules_differ n gs r = differ_from gs (λ k g e. let t : IsTrue (keeps one_of_key n r.0 (take k gs) g) = rw e at (r.1 one_of_key k) in not_any (list_any (λ (other : Grouping). same_key g.key other.key) (take k gs)) t)

pub rules_few : (n : ℕ) (gs : List Grouping) → KeepRules n gs → AreFew n gs
rules_few n gs r = each_at (λ (g : Grouping). total g.rows ≤ n) gs (λ k g e. let t : IsTrue (keeps group_counts n r.0 (take k gs) g) = rw e at (r.1 group_counts k) in search rules)

abbrev AreSmall : List (ℕ × ℕ) → Type 0
AreSmall rows = AllByRecursion (λ (row : ℕ × ℕ). row.1 ≤ max_index) rows

small_from : (rows : List (ℕ × ℕ)) → IsTrue (list_all (λ (row : ℕ × ℕ). nat_le row.1 max_index) rows) → AreSmall rows
small_from [] h = tt
small_from (row ∷ rows) h = let p = and_is_true (nat_le row.1 max_index) (list_all (λ (r : ℕ × ℕ). nat_le r.1 max_index) rows) h in (search (rules, p.0), small_from rows p.1)

pub rules_small : (n : ℕ) (gs : List Grouping) → KeepRules n gs → AllByRecursion (λ (g : Grouping). AreSmall g.rows) gs
rules_small n gs r = each_at (λ (g : Grouping). AreSmall g.rows) gs (λ k g e. let t : IsTrue (keeps index_range n r.0 (take k gs) g) = rw e at (r.1 index_range k) in small_from g.rows t)

-- indexes that have 16 bits
pub low_alike : (rows : List (ℕ × ℕ)) → AreSmall rows → map low_half (repeated rows) ≡ repeated rows
low_alike [] h = refl
low_alike (row ∷ rows) h = row_alike row.0 row.1 (repeated rows) h.0 ∙ ap (λ more. replicate row.0 row.1 ++ more) (low_alike rows h.1)
  where
    row_alike : (count index : ℕ) (more : List ℕ) → index ≤ max_index → map low_half (replicate count index ++ more) ≡ replicate count index ++ map low_half more
    row_alike zero index more le = refl
    row_alike (suc count) index more le = let same : low_half index ≡ index = search rules in let others = row_alike count index more le in λ i. same i ∷ others i
