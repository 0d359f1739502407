-- What is tested of the tables, one table after the other, and of the rows of one where they are
-- read.
use Rattle.std.specs.Prelude.{ℕ, ◌+◌, ◌*◌, nat_le, cond, List, [], ◌∷◌, length, map, codes, bytes_eq, Result}
use Rattle.mp4_boxes.specs.format.Bytes.{field}
use Rattle.mp4_boxes.specs.format.Box.{Box}
use Rattle.mp4_boxes.specs.format.Children.{sample_sizes, chunk_offsets}
use Rattle.mp4_boxes.specs.format.Layout.{version, sbgp, sgpd}
use Rattle.mp4_boxes.specs.format.FirstFault.{Test, NamesFirst, naming, leaf_tests, leaf_tests_with}
use Rattle.mp4_boxes.specs.declared.fault.Fault.{Fault}
use Rattle.mp4_boxes.specs.declared.fault.Kind.{Kind}
use Rattle.mp4_boxes.specs.declared.fault.Kind.TheVariants.{ShortBox, BadVersion, TooManySamples}
use Rattle.mp4_tables.specs.format.Tables.{sample_count}
use Rattle.mp4_tables.specs.format.Groups.{Grouping, grouping_of, keeps, group_kind}
use Rattle.mp4_tables.specs.format.TableRules.{TableRule, duration_counts, offset_counts, chunk_order, chunk_counts, description_indexes, places, sync_order, dependency_room}
use Rattle.mp4_tables.specs.format.FirstFault.{first_box_tests, table_leaf_tests, table_rule_tests, group_rules, groups_tests}
use Rattle.mp4_tables.specs.words.Leaves.{boxes_of, tables_in, surroundings_of, GroupsSo}
use Rattle.mp4_tables.specs.declared.leaves.Limits.{Limits}
use Rattle.mp4_tables.specs.declared.places.GroupsAt.{GroupsAt}

abbrev pub version_tests : ℕ → List ℕ → List (Test Kind)
version_tests last payload = (nat_le 4 (length payload), ShortBox)
    ∷ (nat_le (version payload) last, BadVersion) ∷ []

abbrev pub row_tests : ℕ → ℕ → List ℕ → List (Test Kind)
row_tests last width payload = (nat_le 4 (length payload), ShortBox)
    ∷ (nat_le (version payload) last, BadVersion)
    ∷ (nat_le (8 + width * field payload 4 4) (length payload), ShortBox) ∷ []

-- the tests of the first table of one of these types, with these rules
abbrev pub tests_of : List (List ℕ) → List TableRule → Limits → Box → List (Test Fault)
tests_of kinds rules l stbl = first_box_tests kinds (boxes_of stbl)
    (table_leaf_tests (table_rule_tests (surroundings_of l) (tables_in stbl) rules))

-- the tests of the box of sizes, where there is room for so many samples
abbrev pub size_tests : Limits → Box → List (Test Fault)
size_tests l stbl = first_box_tests sample_sizes (boxes_of stbl)
    (λ b. table_leaf_tests ((nat_le (sample_count b.payload) l.room, TooManySamples) ∷ []) b)

abbrev pub duration_tests : Limits → Box → List (Test Fault)
duration_tests = tests_of (codes "stts" ∷ []) (duration_counts ∷ [])

abbrev pub offset_tests : Limits → Box → List (Test Fault)
offset_tests = tests_of (codes "ctts" ∷ []) (offset_counts ∷ [])

abbrev pub chunk_tests : Limits → Box → List (Test Fault)
chunk_tests = tests_of chunk_offsets []

abbrev pub chunk_row_tests : Limits → Box → List (Test Fault)
chunk_row_tests = tests_of (codes "stsc" ∷ [])
    (chunk_order ∷ chunk_counts ∷ description_indexes ∷ [])

abbrev pub place_tests : Limits → Box → List (Test Fault)
place_tests = tests_of chunk_offsets (places ∷ [])

abbrev pub sync_tests : Limits → Box → List (Test Fault)
sync_tests = tests_of (codes "stss" ∷ []) (sync_order ∷ [])

abbrev pub dependency_tests : Limits → Box → List (Test Fault)
dependency_tests = tests_of (codes "sdtp" ∷ []) (dependency_room ∷ [])

-- ---- sample groups

-- the tests of an `sbgp` of n samples, behind these in its container
abbrev pub kept_tests : ℕ → List Grouping → List ℕ → List (Test Kind)
kept_tests n before payload = leaf_tests_with sbgp
    (map (λ rule. (keeps rule n [] before (grouping_of payload), group_kind rule)) group_rules)
    payload

-- the tests of a child of an `stbl` as a part of its sample groups
abbrev pub child_tests : ℕ → List Grouping → Box → List (Test Fault)
child_tests n before b =
    cond (bytes_eq (codes "sbgp") b.kind) (naming b (kept_tests n before b.payload))
    (cond (bytes_eq (codes "sgpd") b.kind) (naming b (leaf_tests sgpd b.payload)) [])

-- behind the `sbgp`s that were read
abbrev pub NamesBehind : {T : Type 0} → List ℕ → ℕ → GroupsAt → (List Grouping → List (Test Fault))
    → Result T Fault → Type 0
NamesBehind payload n at tests result = (before : List Grouping) → GroupsSo payload n before at
    → NamesFirst (tests before) result

-- the tests of all of them
abbrev pub group_box_tests : Box → List (Test Fault)
group_box_tests stbl = groups_tests (length (tables_in stbl).sizes) [] (tables_in stbl).groups 0
    (boxes_of stbl)
