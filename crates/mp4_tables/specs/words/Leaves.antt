-- The children of an `stbl`, which of them is which table, and what is so where a check names a
-- fault.
use Rattle.std.specs.Prelude.{◌≡◌, ℕ, ◌+◌, ◌-◌, ◌*◌, ◌<◌, ◌≤◌, ◌⊎◌, ◌==◌, List, [], ◌∷◌, ◌++◌, length, take, drop, true, false, IsTrue, Option, Some, bytes_eq, codes, option_map, unwrap_or, nat_le, ℤ, slice_set}
use Rattle.std.specs.List.{AllByRecursion}
use Rattle.mp4_boxes.specs.format.Bytes.{field}
use Rattle.mp4_boxes.specs.format.Box.{Box, box_container, first_boxes}
use Rattle.mp4_boxes.specs.format.Children.{Holds, count_among, is_among, sample_sizes}
use Rattle.mp4_boxes.specs.format.Layout.{Leaf, stts, ctts, stsc, stsz, stz2, stco, co64, stss, sdtp, sbgp, sgpd, IsSound, IsReadable, version}
use Rattle.mp4_boxes.specs.format.Places.{leaf_of, ruled}
use Rattle.mp4_boxes.specs.format.BoxFaults.{Fails, fault_of}
use Rattle.mp4_boxes.specs.declared.rule.Rule.TheVariants.{SampleTable}
use Rattle.mp4_boxes.specs.declared.fault.Fault.{Fault}
use Rattle.mp4_boxes.specs.declared.fault.Kind.{Kind}
use Rattle.mp4_boxes.specs.declared.fault.Kind.TheVariants.{TooManySamples}
use Rattle.mp4_tables.specs.format.Repeated.{total}
use Rattle.mp4_tables.specs.format.Groups.{Grouping, GroupKey, GroupRule, keys_after, key_of, grouping_of, group_test}
use Rattle.mp4_tables.specs.format.Tables.{Tables, sample_count, tables_of}
use Rattle.mp4_tables.specs.words.Rows.{HaveRoom, HaveSizes, runs_at, chunk_rows_at, numbers_at, offsets_at, offset_width, sizes_at}
use Rattle.mp4_tables.specs.format.TableRules.{Surroundings, Fit, AreReadable, IsTableFault, test, chunk_order, description_indexes, places, is_sync_order}
use Rattle.mp4_tables.specs.format.PlainSamples.{in_chunks_total}
use Rattle.mp4_tables.specs.words.Accepted.{HaveOffsets, HaveSync, HaveBytes, composition_offsets_at, bytes_at, groupings_at, HaveGroups, IsAccepted, tables_at, group_count}
use Rattle.mp4_tables.specs.words.Keys.{keys_seen}
use Rattle.mp4_tables.specs.declared.leaves.Limits.{Limits}
use Rattle.mp4_tables.specs.declared.places.RowsAt.{RowsAt}
use Rattle.mp4_tables.specs.declared.places.BytesAt.{BytesAt}
use Rattle.mp4_tables.specs.declared.places.SizesAt.{SizesAt}
use Rattle.mp4_tables.specs.declared.places.SizeForm.{SizeForm}
use Rattle.mp4_tables.specs.declared.places.SizeForm.TheVariants as forms
use Rattle.mp4_tables.specs.declared.places.OffsetsAt.{OffsetsAt}
use Rattle.mp4_tables.specs.declared.places.ChunksAt.{ChunksAt}
use Rattle.mp4_tables.specs.declared.places.GroupsAt.{GroupsAt}
use Rattle.mp4_tables.specs.declared.places.TablesAt.{TablesAt}

-- the boxes in front of the payload of a box: its children, where they are those of the profile
unfoldable pub boxes_of : Box → List Box
boxes_of b = first_boxes (length b.payload) (b.offset + b.header) b.payload

-- the children of an `stbl` are those of the profile
abbrev pub HasTables : Box → Type 0
HasTables stbl = Holds SampleTable (box_container stbl) (boxes_of stbl)

-- the payload of each box of a type has the property
abbrev pub AllOf : List ℕ → (List ℕ → Type 0) → List Box → Type 0
AllOf kind P boxes = AllByRecursion (λ (b : Box). bytes_eq kind b.kind ≡ true → P b.payload) boxes

-- the first box of a type
pub record IsFirstOf (kind : List ℕ) (boxes : List Box) (b : Box) : Type 0 where
  pub before : List Box
  pub after : List Box
  pub is : boxes ≡ before ++ b ∷ after
  pub same : bytes_eq kind b.kind ≡ true
  pub none : count_among (kind ∷ []) before ≡ 0

-- a child
pub record IsChild (stbl b : Box) : Type 0 where
  pub before : List Box
  pub after : List Box
  pub is : boxes_of stbl ≡ before ++ b ∷ after

-- where the payload of a box lies among bytes, which lie at a place of the file
pub record LiesIn (at : ℕ) (bytes : List ℕ) (b : Box) : Type 0 where
  pub place : ℕ
  pub is : b.offset + b.header ≡ at + place
  pub within : place + length b.payload ≤ length bytes
  pub same : b.payload ≡ take (length b.payload) (drop place bytes)

-- a kind of fault is true of a box that is read as this leaf
pub record FailsAs (leaf : Leaf) (b : Box) (f : Fault) : Type 0 where
  pub kind : Kind
  pub fails : Fails leaf b.payload kind
  pub named : f ≡ fault_of kind b

-- it is true of one of these boxes, which is not the `stsd`
pub record IsLeafFaultAmong (boxes : List Box) (f : Fault) : Type 0 where
  pub before : List Box
  pub b : Box
  pub after : List Box
  pub stands : boxes ≡ before ++ b ∷ after
  pub table : bytes_eq (codes "stsd") b.kind ≡ false
  pub leaf : Leaf
  pub read : leaf_of (ruled SampleTable) b.kind ≡ Some leaf
  pub fails : FailsAs leaf b f

-- the box of sizes counts more samples than there is room for
pub record IsTooMany (room : ℕ) (boxes : List Box) (f : Fault) : Type 0 where
  pub before : List Box
  pub b : Box
  pub after : List Box
  pub stands : boxes ≡ before ++ b ∷ after
  pub sizes : IsTrue (is_among sample_sizes b.kind)
  pub readable : AreReadable sample_sizes boxes
  pub many : room < sample_count b.payload
  pub named : f ≡ fault_of TooManySamples b

abbrev pub surroundings_of : Limits → Surroundings
surroundings_of l = record { file_length = l.file_len; descriptions = l.descriptions }

-- the `stsd`, which counts the descriptions, can be read
abbrev pub HasDescriptions : Box → Type 0
HasDescriptions stbl = AreReadable (codes "stsd" ∷ []) (boxes_of stbl)

-- A fault that a check of the tables names: of one leaf, of a rule that they keep together, or of
-- their number.
abbrev pub IsFault : Limits → Box → Fault → Type 0
IsFault l stbl f = IsLeafFaultAmong (boxes_of stbl) f
    ⊎ (IsTableFault (surroundings_of l) (box_container stbl) f ⊎ IsTooMany l.room (boxes_of stbl) f)

-- rows that were read in a child: where they lie in the payload of its `stbl`
pub record RowsRead (last fields width : ℕ) (stbl b : Box) (r : RowsAt) : Type 0 where
  pub version : version b.payload ≤ last
  pub count : r.count ≡ field b.payload (fields - 4) 4
  pub room : fields + width * r.count ≤ length b.payload
  pub place : stbl.offset + stbl.header + r.place ≡ b.offset + b.header + fields

-- ---- what was read of each table

abbrev pub tables_in : Box → Tables
tables_in stbl = tables_of (boxes_of stbl)

-- the sizes can be read, and are as many as this
pub record SizesKnown (stbl : Box) (n : ℕ) : Type 0 where
  pub count : length (tables_in stbl).sizes ≡ n
  pub readable : AreReadable sample_sizes (boxes_of stbl)

pub record DurationsRead (stbl : Box) (n : ℕ) (r : RowsAt) : Type 0 where
  pub have : HaveRoom 8 stbl.payload r
  pub same : runs_at stbl.payload r ≡ (tables_in stbl).durations
  pub sound : AllOf (codes "stts") (IsSound stts) (boxes_of stbl)
  pub count : (total (tables_in stbl).durations == n) ≡ true

pub record OffsetsRead (stbl : Box) (n : ℕ) (o : Option OffsetsAt) : Type 0 where
  pub have : HaveOffsets stbl.payload o
  pub same : option_map (composition_offsets_at stbl.payload) o ≡ (tables_in stbl).offsets
  pub sound : AllOf (codes "ctts") (IsSound ctts) (boxes_of stbl)
  pub count : unwrap_or
      (option_map (λ (rows : List (ℕ × ℤ)). total rows == n) (tables_in stbl).offsets) true ≡ true

pub record ChunksRead (stbl : Box) (at : ChunksAt) : Type 0 where
  pub have : HaveRoom (offset_width at.is_wide) stbl.payload at.rows
  pub same : offsets_at stbl.payload at ≡ (tables_in stbl).chunk_offsets
  pub narrow : AllOf (codes "stco") (IsSound stco) (boxes_of stbl)
  pub wide : AllOf (codes "co64") (IsSound co64) (boxes_of stbl)

pub record ChunkRowsRead (l : Limits) (stbl : Box) (n : ℕ) (r : RowsAt) : Type 0 where
  pub have : HaveRoom 12 stbl.payload r
  pub same : chunk_rows_at stbl.payload r ≡ (tables_in stbl).chunk_rows
  pub sound : AllOf (codes "stsc") (IsSound stsc) (boxes_of stbl)
  pub ordered : test chunk_order (surroundings_of l) (tables_in stbl) ≡ true
  pub count : (in_chunks_total (tables_in stbl).chunk_rows 1 (tables_in stbl).chunk_offsets == n)
      ≡ true
  pub described : test description_indexes (surroundings_of l) (tables_in stbl) ≡ true

-- the box of the offsets of chunks
abbrev pub IsOffsetsLeaf : Box → Box → Type 0
IsOffsetsLeaf stbl b = IsFirstOf (codes "stco") (boxes_of stbl) b
    ⊎ IsFirstOf (codes "co64") (boxes_of stbl) b

pub record SyncRead (stbl : Box) (n : ℕ) (o : Option RowsAt) : Type 0 where
  pub have : HaveSync stbl.payload o
  pub same : option_map (numbers_at 4 stbl.payload) o ≡ (tables_in stbl).sync
  pub sound : AllOf (codes "stss") (IsSound stss) (boxes_of stbl)
  pub ordered : unwrap_or (option_map (is_sync_order n) (tables_in stbl).sync) true ≡ true

pub record DependenciesRead (stbl : Box) (n : ℕ) (o : Option BytesAt) : Type 0 where
  pub have : HaveBytes stbl.payload o
  pub same : option_map (bytes_at stbl.payload) o ≡ (tables_in stbl).dependencies
  pub sound : AllOf (codes "sdtp") (IsSound sdtp) (boxes_of stbl)
  pub room : unwrap_or
      (option_map (λ (bytes : List ℕ). nat_le n (length bytes)) (tables_in stbl).dependencies) true
      ≡ true

pub record SizesRead (l : Limits) (stbl : Box) (at : SizesAt) : Type 0 where
  pub have : HaveSizes stbl.payload at.form at.rows
  pub same : sizes_at stbl.payload at ≡ (tables_in stbl).sizes
  pub words : AllOf (codes "stsz") (IsSound stsz) (boxes_of stbl)
  pub compact : AllOf (codes "stz2") (IsSound stz2) (boxes_of stbl)
  pub few : at.rows.count ≤ l.room

-- the form of compact sizes of so many bits
abbrev pub IsFormOf : SizeForm → ℕ → Type 0
IsFormOf (forms.One size) bits = ⊥
IsFormOf forms.Words bits = ⊥
IsFormOf forms.Shorts bits = bits ≡ 16
IsFormOf forms.Bytes bits = bits ≡ 8
IsFormOf forms.HalfBytes bits = bits ≡ 4

-- all samples lie in the file
abbrev pub PlacesRead : Limits → Box → Type 0
PlacesRead l stbl = test places (surroundings_of l) (tables_in stbl) ≡ true

-- ---- sample groups

-- these `sbgp`s were read so far, and all their rules are kept
pub record GroupsSo (payload : List ℕ) (n : ℕ) (gs : List Grouping) (at : GroupsAt) : Type 0 where
  pub same : groupings_at payload at ≡ gs
  pub have : HaveGroups payload at
  pub tests : (rule : GroupRule) (k : ℕ) → group_test rule n [] gs k ≡ true

-- one slot of rows is taken, the others stay
abbrev pub SlotTaken : ℕ → GroupsAt → RowsAt → GroupsAt → Type 0
SlotTaken m g r h = h.rows.by_key ≡ slice_set g.rows.by_key m r

-- an `sbgp` was read: its key and its rows
pub record GroupRead (stbl b : Box) (key : GroupKey) (r : RowsAt) : Type 0 where
  pub named : key ≡ key_of b.payload
  pub have : HaveRoom 8 stbl.payload r
  pub same : runs_at stbl.payload r ≡ (grouping_of b.payload).rows
  pub readable : IsReadable sbgp b.payload

-- an `sbgp` was read behind those: all are still in order with it
pub record GroupNext (payload : List ℕ) (n : ℕ) (at : GroupsAt) (b : Box) (after : GroupsAt)
    : Type 0 where
  pub readable : IsReadable sbgp b.payload
  pub so : (gs : List Grouping) → GroupsSo payload n gs at
      → GroupsSo payload n (gs ++ grouping_of b.payload ∷ []) after

-- behind those that were read, two steps were taken for each row of one more
abbrev pub GroupPassed : List ℕ → ℕ → GroupsAt → GroupsAt → ℕ → ℕ → Type 0
GroupPassed payload n at after old new = (gs : List Grouping) → GroupsSo payload n gs at
    → new + 2 * group_count at ≡ old + 2 * group_count after

-- a child that is no `sbgp`, and if it is an `sgpd`, a sound one
pub record OtherChild (at : GroupsAt) (b : Box) (after : GroupsAt) : Type 0 where
  pub other : bytes_eq (codes "sbgp") b.kind ≡ false
  pub same : after ≡ at
  pub described : bytes_eq (codes "sgpd") b.kind ≡ true → IsSound sgpd b.payload

abbrev pub ChildRead : List ℕ → ℕ → GroupsAt → Box → GroupsAt → Type 0
ChildRead payload n at b after = OtherChild at b after
    ⊎ ((bytes_eq (codes "sbgp") b.kind ≡ true) × GroupNext payload n at b after)

pub record GroupsRead (stbl : Box) (n : ℕ) (at : GroupsAt) : Type 0 where
  pub so : GroupsSo stbl.payload n (tables_in stbl).groups at
  pub groups : AllOf (codes "sbgp") (IsReadable sbgp) (boxes_of stbl)
  pub described : AllOf (codes "sgpd") (IsSound sgpd) (boxes_of stbl)

-- The tables of an `stbl` that a check accepts: each leaf but `stsd` is sound, they keep all rules,
-- and there is room for their samples.
pub record AreAccepted (l : Limits) (stbl : Box) (boxes : List Box) : Type 0 where
  pub sizes : AllOf (codes "stsz") (IsSound stsz) boxes
  pub compact : AllOf (codes "stz2") (IsSound stz2) boxes
  pub durations : AllOf (codes "stts") (IsSound stts) boxes
  pub offsets : AllOf (codes "ctts") (IsSound ctts) boxes
  pub narrow : AllOf (codes "stco") (IsSound stco) boxes
  pub wide : AllOf (codes "co64") (IsSound co64) boxes
  pub chunk_rows : AllOf (codes "stsc") (IsSound stsc) boxes
  pub sync : AllOf (codes "stss") (IsSound stss) boxes
  pub dependencies : AllOf (codes "sdtp") (IsSound sdtp) boxes
  pub groups : AllOf (codes "sbgp") (IsReadable sbgp) boxes
  pub described : AllOf (codes "sgpd") (IsSound sgpd) boxes
  pub fit : Fit (surroundings_of l) (tables_of boxes)
  pub few : length (tables_of boxes).sizes ≤ l.room

-- the tables that were read are those of the boxes, and accepted
pub record TablesRead (l : Limits) (stbl : Box) (at : TablesAt) : Type 0 where
  pub accepted : IsAccepted stbl.payload at
  pub same : tables_at stbl.payload at ≡ tables_in stbl
  pub all : AreAccepted l stbl (boxes_of stbl)
  pub keys : keys_seen at.groups.keys ≡ keys_after [] (tables_in stbl).groups
