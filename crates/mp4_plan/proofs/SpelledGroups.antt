-- The `sbgp`s of a written piece are those of its samples.
use Rattle.std.proofs.Common.{◌≡◌, ℕ, zero, suc, ◌+◌, ◌*◌, ◌^◌, ◌<◌, ◌≤◌, Bool, true, false, cond, ltb, List, [], ◌∷◌, ◌++◌, length, drop, Option, Some, None, refl, sym, ap, ◌∙◌, append_assoc, length-append, arith, inl, inr}
use Rattle.std.specs.Prelude.{map, flat_map, codes, slice_index, nat_lt, ◌==◌}
use Rattle.std.specs.List.{AllByRecursion, list_any, list_all}
use Rattle.std.proofs.lemmas.Bool.{lt-ltb, ltb-true, or_cases, or_left, and_left, and_right, eqb-true}
use Rattle.byteorder.specs.Endian.{big_bytes}
use Rattle.mp4_boxes.specs.format.Bytes.{spelled, sum_of}
use Rattle.mp4_boxes.specs.format.Layout.{sbgp, row}
use Rattle.mp4_tables.specs.format.Groups.{GroupKey, Groups, key_rank, same_key, index_at}
use Rattle.mp4_tables.specs.declared.sample.SampleAt.{SampleAt}
use Rattle.mp4_tables.proofs.NamedKeys.{IsAmong, among_more, same_itself}
use Rattle.mp4_present.specs.format.Presentation.{IsGroup}
use Rattle.mp4_content.specs.format.TimedSamples.{TimedSample}
use Rattle.mp4_plan.specs.format.Normal.{put_key, in_key_order, piece_keys, longest_runs, put_run, key_bytes, sbgp_bytes}
use Rattle.mp4_plan.specs.words.PlannerLaws.{indexes as indexes_of}
use Rattle.mp4_plan.specs.format.SpellingLaws.{sample_keys}
use Rattle.mp4_plan.specs.words.Sizes.{group_size, groups_size}
use Rattle.mp4_plan.specs.words.Spelling.{box_front, group_row, group_rows}
use Rattle.mp4_content.specs.words.TakenSamples.{AreTaken, IsNamed}
use Rattle.mp4_plan.specs.words.Taken.{row_seen}
use Rattle.mp4_plan.specs.words.UsedKeys.{AreApart, IsKeyAt, place_at, used_from, key_front, group_front, group_bytes, groups_bytes}
use Rattle.mp4_plan.specs.declared.planner.Planned.{Planned}
use Rattle.mp4_plan.specs.declared.noted_rows.Row.{Row}
use Rattle.mp4_plan.proofs.Filters.{flat_map_agree}
use Rattle.mp4_plan.specs.format.TableLaws.{IsKey}
use Rattle.mp4_plan.proofs.KeyOrder.{key_of_group, order_each}
use Rattle.mp4_plan.proofs.NextKeys.{one_of, each_other, used_apart, place_is, key_behind, has_at}
use Rattle.mp4_plan.proofs.UsedLists.{same_order, at_within, next_from, used_each, indexes_are, are_none, some_named, named_index}
use Rattle.mp4_plan.proofs.WrittenGroups.{length-runs}
use Rattle.mp4_plan.proofs.SpelledBoxes.{box_is, short_is}
use Rattle.mp4_boxes.proofs.Among.{all_append}
use Rattle.mp4_boxes.proofs.Each.{each_weaker as all_weaker}
use Rattle.mp4_content.proofs.SamplesDiffer.{by_same}

-- ---- one `sbgp`

rows_spelled : (runs : List (ℕ × ℕ)) → flat_map group_row runs ≡ flat_map (λ (r : ℕ × ℕ). spelled (row sbgp 0) (r.0 ∷ r.1 ∷ [])) runs
rows_spelled runs = flat_map_agree group_row (λ (r : ℕ × ℕ). spelled (row sbgp 0) (r.0 ∷ r.1 ∷ [])) (λ r. refl) runs

key_spelled : (kind : List ℕ) (parameter : Option ℕ) (n : ℕ) → key_front (record { kind = kind; parameter = parameter }) ++ big_bytes 4 n ≡ key_bytes (record { kind = kind; parameter = parameter }) n
key_spelled kind None n = refl
key_spelled kind (Some p) n = ap (λ l. 1 ∷ 0 ∷ 0 ∷ 0 ∷ l) (append_assoc kind (big_bytes 4 p) (big_bytes 4 n))

key_length : (kind : List ℕ) (parameter : Option ℕ) (n : ℕ) → length kind ≡ 4 → group_size parameter n ≡ 8 + (length (key_bytes (record { kind = kind; parameter = parameter }) n) + 8 * n)
key_length kind None n e = let a = length-append (0 ∷ 0 ∷ 0 ∷ 0 ∷ kind) (big_bytes 4 n) in omega (arith, a, e)
key_length kind (Some p) n e = let a = length-append (1 ∷ 0 ∷ 0 ∷ 0 ∷ kind) (big_bytes 4 p ++ big_bytes 4 n) in omega (arith, a, e)

-- An `sbgp` with these rows is that of the samples.
pub group_is : (p : Planned) (rows : List Row) (j : ℕ) (key : GroupKey) (samples : List TimedSample) → length key.kind ≡ 4
    → map (λ (r : Row). slice_index r.groups j) rows ≡ map (λ (s : TimedSample). index_at key s.sample.groups) samples
    → slice_index p.group_rows j ≡ length (longest_runs (map (λ (s : TimedSample). index_at key s.sample.groups) samples))
    → group_size key.parameter (slice_index p.group_rows j) ≤ 2 ^ 30
    → (group_bytes rows p j key ≡ sbgp_bytes samples key) × (length (sbgp_bytes samples key) ≡ group_size key.parameter (slice_index p.group_rows j))
unfolding group_bytes group_front
group_is p rows j key samples kind indexes count few =
    let runs = longest_runs (map (λ (s : TimedSample). index_at key s.sample.groups) samples) in
    let body = flat_map (λ (r : ℕ × ℕ). spelled (row sbgp 0) (r.0 ∷ r.1 ∷ [])) runs in
    let n = slice_index p.group_rows j in
    let written : group_rows j rows ≡ body = ap (λ l. flat_map group_row (longest_runs l)) indexes ∙ rows_spelled runs in
    let payload = key_bytes key (length runs) ++ body in
    let size : group_size key.parameter n ≡ 8 + length payload = ap (group_size key.parameter) count ∙ key_length key.kind key.parameter (length runs) kind ∙ (let a = length-append (key_bytes key (length runs)) body in let b = length-runs runs in omega (arith, a, b)) in
    let whole = box_is (codes "sbgp") payload (group_size key.parameter n) size in
    let kept = short_is (group_size key.parameter n) (group_size key.parameter n) (omega arith) few in (
      (λ i. box_front (codes "sbgp") (kept i) ++ key_front key ++ big_bytes 4 (count i) ++ written i)
          ∙ joined (box_front (codes "sbgp") (group_size key.parameter n)) (key_front key) (big_bytes 4 (length runs)) body
          ∙ ap (λ l. box_front (codes "sbgp") (group_size key.parameter n) ++ (l ++ body)) (key_spelled key.kind key.parameter (length runs)) ∙ whole,
      omega (arith, size),
    )
  where
    joined : (a b c d : List ℕ) → a ++ b ++ c ++ d ≡ a ++ (b ++ c ++ d)
    joined a b c d = simp append_assoc refl

-- ---- sums over keys

put_sum_by : (f : GroupKey → ℕ) (key other : GroupKey) (keys : List GroupKey) (same less : Bool) → same_key key other ≡ same → same ≡ false → sum_of f (put_key key keys) ≡ f key + sum_of f keys
    → sum_of f (cond same (other ∷ keys) (cond less (key ∷ other ∷ keys) (other ∷ put_key key keys))) ≡ f key + sum_of f (other ∷ keys)
put_sum_by f key other keys true less e n h = absurd (cc)
put_sum_by f key other keys false true e n h = refl
put_sum_by f key other keys false false e n h = omega (arith, h)

put_sum : (f : GroupKey → ℕ) (key : GroupKey) (keys : List GroupKey) → AllByRecursion (λ other. same_key key other ≡ false) keys → sum_of f (put_key key keys) ≡ f key + sum_of f keys
put_sum f key [] h = refl
put_sum f key (other ∷ keys) h = put_sum_by f key other keys (same_key key other) (ltb (key_rank key) (key_rank other)) refl h.0 (put_sum f key keys h.1)

-- the sum over keys that are apart is that over them in their order
sum_order : (f : GroupKey → ℕ) (keys : List GroupKey) → AreApart keys → sum_of f (in_key_order keys) ≡ sum_of f keys
sum_order f [] h = refl
sum_order f (key ∷ keys) h =
    let others = order_each (λ other. same_key key other ≡ false) keys (each_other key keys h.0) in
    put_sum f key (in_key_order keys) others ∙ ap (λ n. f key + n) (sum_order f keys h.1)

sum_lengths : (f : GroupKey → List ℕ) (keys : List GroupKey) → length (flat_map f keys) ≡ sum_of (λ key. length (f key)) keys
sum_lengths f [] = refl
sum_lengths f (key ∷ keys) = length-append (f key) (flat_map f keys) ∙ ap (λ n. length (f key) + n) (sum_lengths f keys)

flat_map_all : (f g : GroupKey → List ℕ) (keys : List GroupKey) → AllByRecursion (λ key. f key ≡ g key) keys → flat_map f keys ≡ flat_map g keys
flat_map_all f g [] h = refl
flat_map_all f g (key ∷ keys) h = let e = h.0 in let r = flat_map_all f g keys h.1 in λ i. e i ++ r i

-- one size is no more than all
size_within : (rows : List ℕ) (j : ℕ) (keys : List GroupKey) (i : ℕ) (key : GroupKey) → IsKeyAt keys i key → 0 < slice_index rows (j + i) → group_size key.parameter (slice_index rows (j + i)) ≤ groups_size rows j keys
size_within rows j [] i key at lt = absurd (has_at [] i key at)
size_within rows j (k ∷ keys) zero key at lt =
    let same : k ≡ key = cc in
    let here : j + 0 ≡ j = omega arith in
    let t : ltb 0 (slice_index rows j) ≡ true = lt-ltb 0 (slice_index rows j) (let e = ap (slice_index rows) here in omega (arith, lt, e)) in
    let size : group_size key.parameter (slice_index rows (j + 0)) ≡ group_size k.parameter (slice_index rows j) = λ i. group_size (sym same i).parameter (slice_index rows (here i)) in
    let bound : group_size k.parameter (slice_index rows j) ≤ cond (ltb 0 (slice_index rows j)) (group_size k.parameter (slice_index rows j)) 0 + groups_size rows (j + 1) keys = rw t (omega arith) in
    omega (arith, size, bound)
size_within rows j (k ∷ keys) (suc i) key at lt =
    let later : j + suc i ≡ (j + 1) + i = omega arith in
    let e = ap (λ m. group_size key.parameter (slice_index rows m)) later in
    let f = ap (slice_index rows) later in
    let rest = size_within rows (j + 1) keys i key (key_behind k keys i key at) (omega (arith, lt, f)) in
    omega (arith, e, rest)

-- ---- keys of one rank

none_by_rank : (a b : GroupKey) (samples : List TimedSample) → key_rank a ≡ key_rank b → are_none a samples ≡ are_none b samples
none_by_rank a b samples e = ap (list_all (λ index. index == 0)) (maps a b samples e)
  where
    maps : (a b : GroupKey) (samples : List TimedSample) → key_rank a ≡ key_rank b → map (λ (s : TimedSample). index_at a s.sample.groups) samples ≡ map (λ (s : TimedSample). index_at b s.sample.groups) samples
    maps a b [] e = refl
    maps a b (s ∷ samples) e = let x = by_same a b s.sample.groups e in let r = maps a b samples e in λ i. x i ∷ r i

some_runs : (ns : List ℕ) → list_all (λ index. index == 0) ns ≡ false → 0 < length (longest_runs ns)
some_runs [] e = absurd (cc)
some_runs (n ∷ ns) e = one_more n (longest_runs ns)
  where
    one_more : (n : ℕ) (rows : List (ℕ × ℕ)) → 0 < length (put_run n rows)
    one_more n [] = omega arith
    one_more n (r ∷ rows) = by (n == r.1)
      where
        by : (v : Bool) → 0 < length (cond v ((suc r.0, n) ∷ rows) ((1, n) ∷ r ∷ rows))
        by true = omega arith
        by false = omega arith

used_by : (v : Bool) (n m : ℕ) → m ≡ cond v 0 n → 0 < m → (v ≡ false) × (m ≡ n)
used_by true n m e lt = absurd (omega (arith, e, lt))
used_by false n m e lt = (refl, e)

used_subset : (P : GroupKey → Type 0) (rows : List ℕ) (j : ℕ) (keys : List GroupKey) → AllByRecursion P keys → AllByRecursion P (used_from rows j keys)
used_subset P rows j [] h = tt
used_subset P rows j (key ∷ keys) h = by (used_subset P rows (j + 1) keys h.1) (nat_lt 0 (slice_index rows j))
  where
    by : AllByRecursion P (used_from rows (j + 1) keys) → (v : Bool) → AllByRecursion P (cond v (key ∷ used_from rows (j + 1) keys) (used_from rows (j + 1) keys))
    by rest true = (h.0, rest)
    by rest false = rest

abbrev names : Groups → List GroupKey
names groups = map (λ (group : GroupKey × ℕ). group.0) groups

each_name : (P Q : GroupKey → Type 0) (groups : Groups) → AllByRecursion (λ (group : GroupKey × ℕ). Q group.0) groups → ((key : GroupKey) → IsAmong (names groups) key → Q key → P key) → AllByRecursion P (names groups)
each_name P Q [] q f = tt
each_name P Q (group ∷ groups) q f = (
  f group.0 (or_left (same_key group.0 group.0) (list_any (same_key group.0) (names groups)) (same_itself group.0)) q.0,
  each_name P Q groups q.1 (λ key a b. f key (among_more (names groups) key group.0 a) b),
)

rows_indexes : (j : ℕ) (taken : List SampleAt) → map (λ (r : Row). slice_index r.groups j) (map row_seen taken) ≡ indexes_of j taken
rows_indexes j [] = refl
rows_indexes j (a ∷ taken) = ap (λ l. slice_index a.groups j ∷ l) (rows_indexes j taken)

named_key : (key : GroupKey) → IsNamed key → IsKey key
named_key key h = record { kind_length = h.kind_length; kind = h.kind; parameter = h.parameter }

-- ---- the groups of a piece

-- the rows at each key: 0 where all indexes are 0, else the longest runs
abbrev pub RowsAre : Planned → List SampleAt → Type 0
RowsAre p taken = (j : ℕ) → j < 4 → slice_index p.group_rows j ≡ cond (list_all (λ index. index == 0) (indexes_of j taken)) 0 (length (longest_runs (indexes_of j taken)))

module _ (file : List ℕ) (keys : List GroupKey) (p : Planned) (taken : List SampleAt) (samples : List TimedSample) (apart : AreApart keys) (are_keys : AllByRecursion IsNamed keys) (few : length keys ≤ 4)
    (z : AreTaken file keys taken samples) (rows_are : RowsAre p taken) where
  -- a key with rows
  used_facts : (i : ℕ) (k : GroupKey) → IsKeyAt keys i k → 0 < slice_index p.group_rows i
      → (i < 4) × (are_none k samples ≡ false) × (slice_index p.group_rows i ≡ length (longest_runs (map (λ (s : TimedSample). index_at k s.sample.groups) samples)))
  used_facts i k at lt =
      let l : i < 4 = (let w = at_within keys i k at in omega (arith, w, few)) in
      let same = indexes_are file keys i k taken samples z at l in
      let u = used_by (list_all (λ index. index == 0) (indexes_of i taken)) (length (longest_runs (indexes_of i taken))) (slice_index p.group_rows i) (rows_are i l) lt in
      (l, sym (ap (list_all (λ index. index == 0)) same) ∙ u.0, u.1 ∙ ap (λ ns. length (longest_runs ns)) same)

  -- used keys are those of samples
  used_named : AllByRecursion (IsAmong (sample_keys samples)) (used_from p.group_rows 0 keys)
  used_named = used_each (IsAmong (sample_keys samples)) keys p.group_rows 0 keys refl (λ i k at lt. some_named k samples (used_facts i k at lt).1)

  -- a key at which some index is not 0 is used
  has_rows : (i : ℕ) (k : GroupKey) → IsKeyAt keys i k → are_none k samples ≡ false → 0 < slice_index p.group_rows i
  has_rows i k at e =
      let l : i < 4 = (let w = at_within keys i k at in omega (arith, w, few)) in
      let same = indexes_are file keys i k taken samples z at l in
      let f : list_all (λ index. index == 0) (indexes_of i taken) ≡ false = ap (list_all (λ index. index == 0)) same ∙ e in
      let runs = some_runs (indexes_of i taken) f in
      let is : slice_index p.group_rows i ≡ length (longest_runs (indexes_of i taken)) = rows_are i l ∙ ap (λ v. cond v 0 (length (longest_runs (indexes_of i taken)))) f in
      omega (arith, runs, is)

  key_used : (key : GroupKey) (j : ℕ) (rest : List GroupKey) → drop j keys ≡ rest → IsAmong rest key → are_none key samples ≡ false → IsAmong (used_from p.group_rows j rest) key
  key_used key j [] e a n = absurd (cc)
  key_used key j (k ∷ rest) e a n =
      let next = next_from keys j k rest e in
      let at : IsKeyAt keys j k = e ∙ ap (λ l. k ∷ l) (sym next) in
      elim (or_cases (same_key key k) (list_any (same_key key) rest) a) [
        | inl s ↦
            let lt = has_rows j k at (sym (none_by_rank key k samples (eqb-true (key_rank key) (key_rank k) s)) ∙ n) in
            let t : ltb 0 (slice_index p.group_rows j) ≡ true = lt-ltb 0 (slice_index p.group_rows j) lt in
            rw t (or_left (same_key key k) (list_any (same_key key) (used_from p.group_rows (j + 1) rest)) s)
        | inr r ↦ later k rest j (nat_lt 0 (slice_index p.group_rows j)) key (key_used key (j + 1) rest next r n)
      ]
    where
      later : (k : GroupKey) (rest : List GroupKey) (j : ℕ) (v : Bool) (key : GroupKey) → IsAmong (used_from p.group_rows (j + 1) rest) key → IsAmong (cond v (k ∷ used_from p.group_rows (j + 1) rest) (used_from p.group_rows (j + 1) rest)) key
      later k rest j true key a = among_more (used_from p.group_rows (j + 1) rest) key k a
      later k rest j false key a = a

  -- the keys of samples are used
  named_used : (some : List SampleAt) (rest : List TimedSample) → AreTaken file keys some rest → ((key : GroupKey) → are_none key rest ≡ false → are_none key samples ≡ false) → AllByRecursion (IsAmong (used_from p.group_rows 0 keys)) (sample_keys rest)
  named_used [] [] y f = tt
  named_used [] (s ∷ rest) y f = absurd y
  named_used (a ∷ some) [] y f = absurd y
  named_used (a ∷ some) (s ∷ rest) y f =
      all_append (IsAmong (used_from p.group_rows 0 keys)) (names s.sample.groups) (sample_keys rest)
      (each_name (IsAmong (used_from p.group_rows 0 keys)) (IsAmong keys) s.sample.groups y.0.named
      (λ key n b. key_used key 0 keys refl b (f key (and_left (index_at key s.sample.groups == 0) (are_none key rest) (named_index key s.sample.groups y.0.are_groups n)))))
      (named_used some rest y.1 (λ key e. f key (and_right (index_at key s.sample.groups == 0) (are_none key rest) e)))

  keys_of_samples : (some : List SampleAt) (rest : List TimedSample) → AreTaken file keys some rest → AllByRecursion IsKey (sample_keys rest)
  keys_of_samples [] [] y = tt
  keys_of_samples [] (s ∷ rest) y = absurd y
  keys_of_samples (a ∷ some) [] y = absurd y
  keys_of_samples (a ∷ some) (s ∷ rest) y =
      all_append IsKey (names s.sample.groups) (sample_keys rest)
      (each_name IsKey (λ key. IsKey key) s.sample.groups (all_weaker IsGroup (λ (group : GroupKey × ℕ). IsKey group.0) key_of_group s.sample.groups y.0.are_groups) (λ key n k. k))
      (keys_of_samples some rest y.1)

  -- The used keys in their order are those of the piece.
  pub keys_are : in_key_order (used_from p.group_rows 0 keys) ≡ piece_keys samples
  keys_are =
      same_order (used_from p.group_rows 0 keys) (sample_keys samples) used_named (named_used taken samples z (λ key e. e))
      (used_subset IsKey p.group_rows 0 keys (all_weaker IsNamed IsKey named_key keys are_keys)) (keys_of_samples taken samples z)

  -- each `sbgp`
  abbrev IsWritten : GroupKey → Type 0
  IsWritten key = group_bytes (map row_seen taken) p (place_at keys key) key ≡ sbgp_bytes samples key

  one_written : groups_size p.group_rows 0 keys ≤ 2 ^ 30 → (i : ℕ) (k : GroupKey) → IsKeyAt keys i k → 0 < slice_index p.group_rows i
      → (group_bytes (map row_seen taken) p i k ≡ sbgp_bytes samples k) × (length (sbgp_bytes samples k) ≡ group_size k.parameter (slice_index p.group_rows i))
  one_written small i k at lt =
      let u = used_facts i k at lt in
      let kind = (one_of IsNamed keys k are_keys (has_at keys i k at)).kind_length in
      let here : 0 + i ≡ i = omega arith in
      let rows_here = ap (slice_index p.group_rows) here in
      let size_here = ap (λ m. group_size k.parameter (slice_index p.group_rows m)) here in
      let within = size_within p.group_rows 0 keys i k at (omega (arith, lt, rows_here)) in
      group_is p (map row_seen taken) i k samples kind (rows_indexes i taken ∙ indexes_are file keys i k taken samples z at u.0) u.2 (omega (arith, within, small, size_here))

  -- The `sbgp`s that are written are those of the piece.
  pub groups_are : groups_size p.group_rows 0 keys ≤ 2 ^ 30 → groups_bytes (map row_seen taken) p keys ≡ flat_map (sbgp_bytes samples) (piece_keys samples)
  groups_are small =
      flat_map_all (λ key. group_bytes (map row_seen taken) p (place_at keys key) key) (sbgp_bytes samples) (in_key_order (used_from p.group_rows 0 keys))
      (order_each IsWritten (used_from p.group_rows 0 keys) (used_each IsWritten keys p.group_rows 0 keys refl
      (λ i k at lt. ap (λ j. group_bytes (map row_seen taken) p j k) (place_is keys i k apart at) ∙ (one_written small i k at lt).0)))
      ∙ ap (flat_map (sbgp_bytes samples)) keys_are

  sizes_from : groups_size p.group_rows 0 keys ≤ 2 ^ 30 → (j : ℕ) (rest : List GroupKey) → drop j keys ≡ rest → groups_size p.group_rows j rest ≡ sum_of (λ key. length (sbgp_bytes samples key)) (used_from p.group_rows j rest)
  sizes_from small j [] e = refl
  sizes_from small j (k ∷ rest) e =
      let next = next_from keys j k rest e in
      by (sizes_from small (j + 1) rest next) (nat_lt 0 (slice_index p.group_rows j)) refl (λ lt. (one_written small j k (e ∙ ap (λ l. k ∷ l) (sym next)) lt).1)
    where
      by : groups_size p.group_rows (j + 1) rest ≡ sum_of (λ key. length (sbgp_bytes samples key)) (used_from p.group_rows (j + 1) rest) → (v : Bool) → nat_lt 0 (slice_index p.group_rows j) ≡ v
          → (0 < slice_index p.group_rows j → length (sbgp_bytes samples k) ≡ group_size k.parameter (slice_index p.group_rows j))
          → cond v (group_size k.parameter (slice_index p.group_rows j)) 0 + groups_size p.group_rows (j + 1) rest ≡ sum_of (λ key. length (sbgp_bytes samples key)) (cond v (k ∷ used_from p.group_rows (j + 1) rest) (used_from p.group_rows (j + 1) rest))
      by r true is f = let l = f (ltb-true 0 (slice_index p.group_rows j) is) in omega (arith, l, r)
      by r false is f = omega (arith, r)

  -- So are their sizes.
  pub groups_long : groups_size p.group_rows 0 keys ≤ 2 ^ 30 → groups_size p.group_rows 0 keys ≡ length (flat_map (sbgp_bytes samples) (piece_keys samples))
  groups_long small =
      let f = λ (key : GroupKey). length (sbgp_bytes samples key) in
      sizes_from small 0 keys refl ∙ sym (sum_order f (used_from p.group_rows 0 keys) (used_apart p.group_rows 0 keys apart)) ∙ ap (sum_of f) keys_are ∙ sym (sum_lengths (sbgp_bytes samples) (piece_keys samples))
