-- What the tables of a track have to keep together, rule by rule: the test, the kind of fault, the
-- box that it names, the leaves that it reads. They are checked in the order `stsz` or `stz2`,
-- `stts`, `ctts`, `stco` or `co64`, `stsc`, the places of the samples, `stss`, `sdtp`, then each
-- `sgpd` and `sbgp` in file order; in `stsc` order before counts.
use Rattle.std.specs.Prelude.{◌≡◌, ℕ, ◌+◌, nat_le, nat_lt, ◌&&◌, ◌||◌, ◌==◌, Bool, true, false, not, IsTrue, List, [], ◌∷◌, ◌++◌, length, map, Option, Some, None, unwrap_or, option_map, ℤ, pos, negsuc, codes}
use Rattle.std.specs.List.{list_all, slice_get, AllByRecursion}
use Rattle.mp4_boxes.specs.format.Box.{Box, Container}
use Rattle.mp4_boxes.specs.format.Children.{Holds, is_among, of_kind, sample_sizes}
use Rattle.mp4_boxes.specs.format.Layout.{Leaf, sbgp, IsReadable}
use Rattle.mp4_boxes.specs.format.Places.{leaf_of, ruled}
use Rattle.mp4_boxes.specs.format.BoxFaults.{fault_of}
use Rattle.mp4_boxes.specs.declared.rule.Rule.TheVariants.{SampleTable}
use Rattle.mp4_boxes.specs.declared.fault.Fault.{Fault}
use Rattle.mp4_boxes.specs.declared.fault.Kind.{Kind}
use Rattle.mp4_boxes.specs.declared.fault.Kind.TheVariants.{ShortBox, CountMismatch, BadOrder, BadDescriptionIndex, SampleOutsideFile}
use Rattle.mp4_tables.specs.format.Repeated.{total}
use Rattle.mp4_tables.specs.format.Groups.{GroupRule, group_counts, group_kind, group_test, group_reads}
use Rattle.mp4_tables.specs.format.Tables.{Tables, tables_of}
use Rattle.mp4_tables.specs.format.PlainSamples.{in_chunks_total, spots_of}

-- each number is above the one before
abbrev pub is_rising_after : ℕ → List ℕ → Bool
is_rising_after low [] = true
is_rising_after low (n ∷ ns) = nat_lt low n && is_rising_after n ns

-- the first row begins at chunk 1, and each later one behind the one before (8.7.4.3)
abbrev pub is_chunk_order : List ℕ → Bool → Bool
is_chunk_order [] has_chunks = not has_chunks
is_chunk_order (first ∷ more) has_chunks = (not has_chunks || first == 1)
    && is_rising_after first more

-- the numbers rise, from 1 to n
abbrev pub is_sync_order : ℕ → List ℕ → Bool
is_sync_order n ns = is_rising_after 0 ns && list_all (λ i. nat_le i n) ns

-- the bytes lie in a file of this length, also where there are none
abbrev pub lies_within : ℕ → ℤ → ℕ → Bool
lies_within file_length (pos at) size = nat_le (at + size) file_length
lies_within file_length (negsuc below) size = false

-- an index from 1 to the number of descriptions
abbrev pub is_index : ℕ → ℕ → Bool
is_index descriptions index = nat_le 1 index && nat_le index descriptions

pub data TableRule : Type 0 where
  -- a byte of `sdtp` for each sample
  dependency_room : TableRule
  -- the counts of `stts`, `ctts` and `stsc` are those of the samples
  duration_counts : TableRule
  offset_counts : TableRule
  chunk_counts : TableRule
  chunk_order : TableRule
  sync_order : TableRule
  description_indexes : TableRule
  places : TableRule
  -- what the k-th `sbgp` has to keep
  table_group : GroupRule → ℕ → TableRule

-- what else is asked: how long the file is, how many descriptions there are
pub record Surroundings : Type 0 where
  pub file_length : ℕ
  pub descriptions : ℕ

abbrev pub test : TableRule → Surroundings → Tables → Bool
test dependency_room s t =
    unwrap_or (option_map (λ bytes. nat_le (length t.sizes) (length bytes)) t.dependencies) true
test duration_counts s t = total t.durations == length t.sizes
test offset_counts s t = unwrap_or (option_map (λ rows. total rows == length t.sizes) t.offsets)
    true
test chunk_counts s t = in_chunks_total t.chunk_rows 1 t.chunk_offsets == length t.sizes
test chunk_order s t = is_chunk_order (map (λ row. row.first) t.chunk_rows)
    (nat_lt 0 (length t.chunk_offsets))
test sync_order s t = unwrap_or (option_map (is_sync_order (length t.sizes)) t.sync) true
test description_indexes s t = list_all (λ spot. is_index s.descriptions spot.description)
    (spots_of t)
test places s t = list_all (λ spot. lies_within s.file_length spot.at spot.size) (spots_of t)
test (table_group rule k) s t = group_test rule (length t.sizes) [] t.groups k

abbrev pub kind_of : TableRule → Kind
kind_of dependency_room = ShortBox
kind_of duration_counts = CountMismatch
kind_of offset_counts = CountMismatch
kind_of chunk_counts = CountMismatch
kind_of chunk_order = BadOrder
kind_of sync_order = BadOrder
kind_of description_indexes = BadDescriptionIndex
kind_of places = SampleOutsideFile
kind_of (table_group rule k) = group_kind rule

-- the box that is named: of these types
abbrev pub named : TableRule → List (List ℕ)
named dependency_room = codes "sdtp" ∷ []
named duration_counts = codes "stts" ∷ []
named offset_counts = codes "ctts" ∷ []
named chunk_counts = codes "stsc" ∷ []
named chunk_order = codes "stsc" ∷ []
named sync_order = codes "stss" ∷ []
named description_indexes = codes "stsc" ∷ []
named places = codes "stco" ∷ codes "co64" ∷ []
named (table_group rule k) = codes "sbgp" ∷ []

-- the box is the one that is named: of one of these types; of the `sbgp`s the k-th
abbrev pub IsNamed : TableRule → List Box → Box → Type 0
IsNamed (table_group rule k) children b = slice_get (of_kind (codes "sbgp") children) k ≡ Some b
IsNamed rule children b = IsTrue (is_among (named rule) b.kind)

-- the tables that the test reads
abbrev pub reads : TableRule → List (List ℕ)
reads dependency_room = codes "sdtp" ∷ sample_sizes
reads duration_counts = codes "stts" ∷ sample_sizes
reads offset_counts = codes "ctts" ∷ sample_sizes
reads chunk_counts = codes "stsc" ∷ codes "stco" ∷ codes "co64" ∷ sample_sizes
reads chunk_order = codes "stsc" ∷ codes "stco" ∷ codes "co64" ∷ []
reads sync_order = codes "stss" ∷ sample_sizes
reads description_indexes = codes "stsd" ∷ codes "stsc" ∷ codes "stco" ∷ codes "co64" ∷ sample_sizes
reads places = codes "stsc" ∷ codes "stco" ∷ codes "co64" ∷ sample_sizes
reads (table_group group_counts k) = sample_sizes
reads (table_group rule k) = []

-- the `sbgp`s that the test reads
abbrev pub reads_groups : TableRule → List Box → List Box
reads_groups (table_group rule k) boxes = group_reads rule k boxes
reads_groups rule boxes = []

-- the test goes by chunks, which `stsc` in its order gives
abbrev pub goes_by_chunks : TableRule → Bool
goes_by_chunks chunk_counts = true
goes_by_chunks description_indexes = true
goes_by_chunks places = true
goes_by_chunks _ = false

-- what is read as a leaf there is readable
abbrev pub IsReadableAs : Option Leaf → List ℕ → Type 0
IsReadableAs None payload = Unit {0}
IsReadableAs (Some leaf) payload = IsReadable leaf payload

-- the children of an `stbl` of these types are readable
abbrev pub AreReadable : List (List ℕ) → List Box → Type 0
AreReadable kinds children = AllByRecursion (λ (b : Box). IsTrue (is_among kinds b.kind)
    → IsReadableAs (leaf_of (ruled SampleTable) b.kind) b.payload) children

-- these `sbgp`s are readable
abbrev pub GroupsReadable : List Box → Type 0
GroupsReadable boxes = AllByRecursion (λ (b : Box). IsReadable sbgp b.payload) boxes

-- the tables keep the rules
abbrev pub Fit : Surroundings → Tables → Type 0
Fit s t = (rule : TableRule) → IsTrue (test rule s t)

-- A rule fails: the children are those of the profile, and what the test reads can be read; other
-- tables may be faulty too.
pub record IsTableFault (s : Surroundings) (c : Container) (f : Fault) : Type 0 where
  pub children : List Box
  pub holds : Holds SampleTable c children
  pub rule : TableRule
  pub readable : AreReadable (reads rule) children
  pub groups_readable : GroupsReadable (reads_groups rule (of_kind (codes "sbgp") children))
  pub ordered : goes_by_chunks rule ≡ true → IsTrue (test chunk_order s (tables_of children))
  pub fails : test rule s (tables_of children) ≡ false
  pub before : List Box
  pub b : Box
  pub after : List Box
  pub stands : children ≡ before ++ b ∷ after
  pub is_named : IsNamed rule children b
  pub same : f ≡ fault_of (kind_of rule) b
