-- The first fault of the tables of a track, as tests in order.
use Rattle.std.specs.Prelude.{ℕ, suc, nat_le, cond, List, [], ◌∷◌, ◌++◌, length, map, Option, Some, None, codes, bytes_eq, find}
use Rattle.mp4_boxes.specs.format.Box.{Box}
use Rattle.mp4_boxes.specs.format.Children.{is_among, sample_sizes, chunk_offsets}
use Rattle.mp4_boxes.specs.format.Layout.{Leaf, sbgp, sgpd}
use Rattle.mp4_boxes.specs.format.Places.{leaf_of, ruled}
use Rattle.mp4_boxes.specs.format.FirstFault.{Test, naming, leaf_tests_with, leaf_tests}
use Rattle.mp4_boxes.specs.declared.rule.Rule.TheVariants.{SampleTable}
use Rattle.mp4_boxes.specs.declared.fault.Fault.{Fault}
use Rattle.mp4_boxes.specs.declared.fault.Kind.{Kind}
use Rattle.mp4_boxes.specs.declared.fault.Kind.TheVariants.{TooManySamples}
use Rattle.mp4_tables.specs.format.Groups.{GroupKey, Grouping, GroupRule, one_of_key, few_keys, index_range, group_counts, group_kind, group_test}
use Rattle.mp4_tables.specs.format.Tables.{Tables, sample_count, tables_of}
use Rattle.mp4_tables.specs.format.TableRules.{TableRule, dependency_room, duration_counts, offset_counts, chunk_counts, chunk_order, sync_order, description_indexes, places, Surroundings, test, kind_of}

-- the tests of the first box of these types, if one stands there
abbrev pub first_box_tests : List (List ℕ) → List Box → (Box → List (Test Fault))
    → List (Test Fault)
first_box_tests kinds boxes tests = of_found (find (λ (b : Box). is_among kinds b.kind) boxes)
  where
    of_found : Option Box → List (Test Fault)
    of_found None = []
    of_found (Some b) = tests b

-- the tests of a box of an `stbl` as the leaf that it is read as, with these rules
abbrev pub table_leaf_tests : List (Test Kind) → Box → List (Test Fault)
table_leaf_tests rules b = naming b (by (leaf_of (ruled SampleTable) b.kind))
  where
    by : Option Leaf → List (Test Kind)
    by None = rules
    by (Some leaf) = leaf_tests_with leaf rules b.payload

abbrev pub table_rule_tests : Surroundings → Tables → List TableRule → List (Test Kind)
table_rule_tests s t rules = map (λ rule. (test rule s t, kind_of rule)) rules

-- ---- sample groups

abbrev pub group_rules : List GroupRule
group_rules = one_of_key ∷ few_keys ∷ index_range ∷ group_counts ∷ []

-- what is tested of the k-th of these groupings, of n samples of a track that named these keys
abbrev pub group_tests : ℕ → List GroupKey → List Grouping → ℕ → List (Test Kind)
group_tests n keys groupings k = map (λ rule. (group_test rule n keys groupings k, group_kind rule))
    group_rules

-- the tests of each `sbgp` and `sgpd`, behind k `sbgp`s
abbrev pub groups_tests : ℕ → List GroupKey → List Grouping → ℕ → List Box → List (Test Fault)
groups_tests n keys groupings k [] = []
groups_tests n keys groupings k (b ∷ boxes) =
    cond (bytes_eq (codes "sbgp") b.kind)
    (naming b (leaf_tests_with sbgp (group_tests n keys groupings k) b.payload)
    ++ groups_tests n keys groupings (suc k) boxes)
    (cond (bytes_eq (codes "sgpd") b.kind) (naming b (leaf_tests sgpd b.payload)) []
    ++ groups_tests n keys groupings k boxes)

-- ---- all of them

-- The tests of the tables of a track, in the boxes of its `stbl`, where there is room for so many
-- samples.
abbrev pub table_tests : ℕ → Surroundings → List Box → List (Test Fault)
table_tests room s boxes =
    let t = tables_of boxes in
    let n = length t.sizes in
    let of_first = λ (kinds : List (List ℕ)) (rules : List TableRule).
    first_box_tests kinds boxes (table_leaf_tests (table_rule_tests s t rules)) in
    first_box_tests sample_sizes boxes
    (λ b. table_leaf_tests ((nat_le (sample_count b.payload) room, TooManySamples) ∷ []) b)
    ++ of_first (codes "stts" ∷ []) (duration_counts ∷ [])
    ++ of_first (codes "ctts" ∷ []) (offset_counts ∷ [])
    ++ of_first chunk_offsets []
    ++ of_first (codes "stsc" ∷ []) (chunk_order ∷ chunk_counts ∷ description_indexes ∷ [])
    ++ of_first chunk_offsets (places ∷ [])
    ++ of_first (codes "stss" ∷ []) (sync_order ∷ [])
    ++ of_first (codes "sdtp" ∷ []) (dependency_room ∷ [])
    ++ groups_tests n [] t.groups 0 boxes
