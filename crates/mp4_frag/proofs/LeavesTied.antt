-- What a walk takes from the boxes of a `traf` is what the definition reads of them.
use Rattle.std.proofs.Common.{◌≡◌, ℕ, ◌+◌, ◌≤◌, ◌==◌, ◌||◌, Bool, true, false, cond, List, [], ◌∷◌, map, Some, refl, sym, ap, ◌∙◌, arith}
use Rattle.std.specs.Prelude.{ℤ, codes, bytes_eq, unwrap_or}
use Rattle.std.specs.List.{AllByRecursion}
use Rattle.mp4_boxes.specs.format.Bytes.{rows}
use Rattle.mp4_boxes.specs.format.Box.{Box}
use Rattle.mp4_boxes.specs.format.Children.{count_among, of_kind, payload_if, payload_of}
use Rattle.mp4_boxes.specs.format.Layout.{tfhd, sbgp, IsReadable}
use Rattle.mp4_boxes.proofs.Plain.{bytes_eq_is}
use Rattle.mp4_tables.specs.format.Groups.{GroupKey, Grouping, grouping_of, groupings_of, key_of, max_index}
use Rattle.mp4_tables.specs.words.Keys.{key_place}
use Rattle.mp4_tables.specs.format.Repeated.{repeated}
use Rattle.mp4_tables.specs.words.Rows.{runs_at}
use Rattle.mp4_tables.specs.words.Indexes.{low_half}
use Rattle.mp4_frag.specs.format.Fragments.{track_fragment_of}
use Rattle.mp4_frag.specs.words.Walks.{Reached, at_first, first_byte, no_indexes, indexes_of, with_key, with_group, with_head, with_leaves, head_of, names, are_named}
use Rattle.mp4_frag.specs.declared.trex.Trex.{Trex}
use Rattle.mp4_frag.proofs.LeavesRead.{read}
use Rattle.mp4_frag.proofs.RowsTied.{stand}
use Rattle.mp4_frag.proofs.GroupsTied.{taken, low_alike}

-- ---- `sbgp`s

-- the indexes of an `sbgp` are those of its rows
indexes_are : (payload : List ℕ) → indexes_of payload ≡ map low_half (repeated (grouping_of payload).rows)
unfolding indexes_of runs_at
indexes_are payload = refl

-- those of all
abbrev pub groups_taken : List GroupKey → List (List ℕ) → List Box → List (List ℕ)
groups_taken keys lists [] = lists
groups_taken keys lists (b ∷ boxes) = groups_taken keys (with_group keys lists b.payload) boxes

abbrev AreSmall : List (ℕ × ℕ) → Type 0
AreSmall rows = AllByRecursion (λ (row : ℕ × ℕ). row.1 ≤ max_index) rows

pub groups_are : (keys : List GroupKey) (lists : List (List ℕ)) (boxes : List Box) → AllByRecursion (λ (b : Box). IsReadable sbgp b.payload) boxes → AllByRecursion (λ (g : Grouping). AreSmall g.rows) (groupings_of boxes)
    → groups_taken keys lists boxes ≡ taken keys lists (groupings_of boxes)
groups_are keys lists [] r s = refl
groups_are keys lists (b ∷ boxes) r s =
    let there = read sbgp b.payload r.0 in
    let indexes = indexes_are b.payload ∙ low_alike (grouping_of b.payload).rows s.0 in
    let one : with_group keys lists b.payload ≡ with_key lists (repeated (grouping_of b.payload).rows) (key_place (key_of b.payload) keys) =
    rw there (ap (λ (is : List ℕ). with_key lists is (key_place (key_of b.payload) keys)) indexes) in
    ap (λ (ls : List (List ℕ)). groups_taken keys ls boxes) one ∙ groups_are keys (with_key lists (repeated (grouping_of b.payload).rows) (key_place (key_of b.payload) keys)) boxes r.1 s.1

-- ---- `tfhd`

-- with no `tfhd`, the boxes say indexes alone
groups_alone : (trex : Trex) (keys : List GroupKey) (s : Reached) (boxes : List Box) (lists : List (List ℕ)) → count_among (codes "tfhd" ∷ []) boxes ≡ 0
    → with_leaves trex keys (record s { indexes = lists }) boxes ≡ record s { indexes = groups_taken keys lists (of_kind (codes "sbgp") boxes) }
groups_alone trex keys s [] lists n = refl
groups_alone trex keys s (b ∷ boxes) lists n =
    choice (bytes_eq (codes "tfhd") b.kind) (bytes_eq (codes "sbgp") b.kind) refl n (λ ls m. groups_alone trex keys s boxes ls m)
  where
    choice : (u v : Bool) → bytes_eq (codes "tfhd") b.kind ≡ u → (cond (u || false) 1 0) + count_among (codes "tfhd" ∷ []) boxes ≡ 0
        → ((ls : List (List ℕ)) → count_among (codes "tfhd" ∷ []) boxes ≡ 0 → with_leaves trex keys (record s { indexes = ls }) boxes ≡ record s { indexes = groups_taken keys ls (of_kind (codes "sbgp") boxes) })
        → with_leaves trex keys (cond u (with_head trex (record s { indexes = lists }) b.payload) (cond v (record s { indexes = with_group keys lists b.payload }) (record s { indexes = lists }))) boxes
        ≡ record s { indexes = groups_taken keys lists (cond v (b ∷ of_kind (codes "sbgp") boxes) (of_kind (codes "sbgp") boxes)) }
    choice true v e m more = absurd (omega (arith, m))
    choice false true e m more = more (with_group keys lists b.payload) (omega (arith, m))
    choice false false e m more = more lists (omega (arith, m))

-- a `tfhd` is no `sbgp`
not_both : (kind : List ℕ) → bytes_eq (codes "tfhd") kind ≡ true → bytes_eq (codes "sbgp") kind ≡ true → ⊥
not_both kind e f =
    let same : codes "tfhd" ≡ codes "sbgp" = bytes_eq_is (codes "tfhd") kind e ∙ sym (bytes_eq_is (codes "sbgp") kind f) in
    let t : bytes_eq (codes "tfhd") (codes "sbgp") ≡ true = ap (bytes_eq (codes "tfhd")) (sym same) in
    absurd cc

-- what the one `tfhd` says stands beside the indexes
with_one_head : (trex : Trex) (keys : List GroupKey) (s t : Reached) (boxes : List Box) (lists : List (List ℕ)) → count_among (codes "tfhd" ∷ []) boxes ≡ 1
    → ((ls : List (List ℕ)) → with_head trex (record s { indexes = ls }) (payload_of (codes "tfhd") boxes) ≡ record t { indexes = ls })
    → with_leaves trex keys (record s { indexes = lists }) boxes ≡ record t { indexes = groups_taken keys lists (of_kind (codes "sbgp") boxes) }
with_one_head trex keys s t [] lists n h = absurd (omega (arith, n))
with_one_head trex keys s t (b ∷ boxes) lists n h =
    choice (bytes_eq (codes "tfhd") b.kind) (bytes_eq (codes "sbgp") b.kind) refl refl n h (λ ls m k. with_one_head trex keys s t boxes ls m k)
  where
    choice : (u v : Bool) → bytes_eq (codes "tfhd") b.kind ≡ u → bytes_eq (codes "sbgp") b.kind ≡ v → (cond (u || false) 1 0) + count_among (codes "tfhd" ∷ []) boxes ≡ 1
        → ((ls : List (List ℕ)) → with_head trex (record s { indexes = ls }) (unwrap_or (cond u (Some b.payload) (payload_if (codes "tfhd") boxes)) []) ≡ record t { indexes = ls })
        → ((ls : List (List ℕ)) → count_among (codes "tfhd" ∷ []) boxes ≡ 1 → ((more : List (List ℕ)) → with_head trex (record s { indexes = more }) (payload_of (codes "tfhd") boxes) ≡ record t { indexes = more })
        → with_leaves trex keys (record s { indexes = ls }) boxes ≡ record t { indexes = groups_taken keys ls (of_kind (codes "sbgp") boxes) })
        → with_leaves trex keys (cond u (with_head trex (record s { indexes = lists }) b.payload) (cond v (record s { indexes = with_group keys lists b.payload }) (record s { indexes = lists }))) boxes
        ≡ record t { indexes = groups_taken keys lists (cond v (b ∷ of_kind (codes "sbgp") boxes) (of_kind (codes "sbgp") boxes)) }
    choice true true e f m k later = absurd (not_both b.kind e f)
    choice true false e f m k later = ap (λ (u : Reached). with_leaves trex keys u boxes) (k lists) ∙ groups_alone trex keys t boxes lists (omega (arith, m))
    choice false true e f m k later = later (with_group keys lists b.payload) (omega (arith, m)) k
    choice false false e f m k later = later lists (omega (arith, m)) k

-- what the one `tfhd` says
head_says : (trex : Trex) (base : ℤ) (number dts : ℕ) (payload : List ℕ) (lists : List (List ℕ)) → IsReadable tfhd payload → with_head trex (record (at_first base number dts) { indexes = lists }) payload ≡ stand (head_of payload) trex number dts (first_byte base) base lists
head_says trex base number dts payload lists r = let there = read tfhd payload r in rw there refl

-- what goes for the samples of a `traf` with one `tfhd`
pub leaves_tied : (trex : Trex) (keys : List GroupKey) (base : ℤ) (number dts : ℕ) (boxes : List Box) → count_among (codes "tfhd" ∷ []) boxes ≡ 1 → IsReadable tfhd (payload_of (codes "tfhd") boxes)
    → with_leaves trex keys (at_first base number dts) boxes ≡ stand (track_fragment_of boxes) trex number dts (first_byte base) base (groups_taken keys no_indexes (of_kind (codes "sbgp") boxes))
leaves_tied trex keys base number dts boxes n r =
    with_one_head trex keys (at_first base number dts) (stand (track_fragment_of boxes) trex number dts (first_byte base) base []) boxes no_indexes n (λ ls. head_says trex base number dts (payload_of (codes "tfhd") boxes) ls r)

-- ---- whose the `traf` is

-- no other `tfhd` says it
named_before : (id : ℕ) (before : Bool) (boxes : List Box) → count_among (codes "tfhd" ∷ []) boxes ≡ 0 → are_named id before boxes ≡ before
named_before id before [] n = refl
named_before id before (b ∷ boxes) n = choice (bytes_eq (codes "tfhd") b.kind) n (named_before id before boxes)
  where
    choice : (u : Bool) → (cond (u || false) 1 0) + count_among (codes "tfhd" ∷ []) boxes ≡ 0 → (count_among (codes "tfhd" ∷ []) boxes ≡ 0 → are_named id before boxes ≡ before)
        → are_named id (cond u (names id b.payload) before) boxes ≡ before
    choice true m more = absurd (omega (arith, m))
    choice false m more = more (omega (arith, m))

-- the one `tfhd` does
named_one : (id : ℕ) (before : Bool) (boxes : List Box) → count_among (codes "tfhd" ∷ []) boxes ≡ 1 → are_named id before boxes ≡ names id (payload_of (codes "tfhd") boxes)
named_one id before [] n = absurd (omega (arith, n))
named_one id before (b ∷ boxes) n = choice (bytes_eq (codes "tfhd") b.kind) n (named_one id before boxes)
  where
    choice : (u : Bool) → (cond (u || false) 1 0) + count_among (codes "tfhd" ∷ []) boxes ≡ 1 → (count_among (codes "tfhd" ∷ []) boxes ≡ 1 → are_named id before boxes ≡ names id (payload_of (codes "tfhd") boxes))
        → are_named id (cond u (names id b.payload) before) boxes ≡ names id (unwrap_or (cond u (Some b.payload) (payload_if (codes "tfhd") boxes)) [])
    choice true m more = named_before id (names id b.payload) boxes (omega (arith, m))
    choice false m more = more (omega (arith, m))

names_it : (id : ℕ) (payload : List ℕ) → IsReadable tfhd payload → names id payload ≡ ((head_of payload).id == id)
unfolding names
names_it id payload r = let there = read tfhd payload r in rw there refl

pub named_tied : (id : ℕ) (boxes : List Box) → count_among (codes "tfhd" ∷ []) boxes ≡ 1 → IsReadable tfhd (payload_of (codes "tfhd") boxes) → are_named id false boxes ≡ ((track_fragment_of boxes).id == id)
named_tied id boxes n r = named_one id false boxes n ∙ names_it id (payload_of (codes "tfhd") boxes) r
