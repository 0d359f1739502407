-- Sample groups: which index a sample has at each key (ISO/IEC 14496-12, 8.9.2).
use Rattle.std.specs.Prelude.{ℕ, suc, ◌+◌, ◌*◌, ◌^◌, nat_le, nat_lt, ◌==◌, ◌&&◌, ◌||◌, Bool, true, not, if◌then◌else◌, List, [], ◌∷◌, ◌++◌, length, take, drop, map, replicate, Option, Some, None, slice_index}
use Rattle.std.specs.List.{list_all, list_any, slice_get}
use Rattle.mp4_boxes.specs.format.Bytes.{field}
use Rattle.mp4_boxes.specs.format.Box.{Box}
use Rattle.mp4_boxes.specs.format.Layout.{sbgp, leaf_rows, version}
use Rattle.mp4_boxes.specs.declared.fault.Kind.{Kind}
use Rattle.mp4_boxes.specs.declared.fault.Kind.TheVariants.{DuplicateBox, BadValue, CountMismatch}
use Rattle.mp4_tables.specs.format.Repeated.{repeated, total}

-- what samples are grouped by: a type of four bytes, and in version 1 a parameter
pub record GroupKey : Type 0 where
  pub kind : List ℕ
  pub parameter : Option ℕ

-- an `sbgp`: so many samples of this index
pub record Grouping : Type 0 where
  pub key : GroupKey
  pub rows : List (ℕ × ℕ)

abbrev pub key_of : List ℕ → GroupKey
key_of payload = record {
  kind = take 4 (drop 4 payload);
  parameter = if version payload == 0
      then None else Some (field payload 8 4);
}

abbrev pub grouping_of : List ℕ → Grouping
grouping_of payload = record {
  key = key_of payload;
  rows = map (λ row. (slice_index row 0, slice_index row 1)) (leaf_rows sbgp payload);
}

abbrev pub groupings_of : List Box → List Grouping
groupings_of boxes = map (λ (b : Box). grouping_of b.payload) boxes

-- ---- keys

abbrev pub parameter_rank : Option ℕ → ℕ
parameter_rank None = 0
parameter_rank (Some n) = suc n

-- The order of keys: by the bytes of the type, then none before a parameter, then by the parameter.
-- A type has four bytes and a parameter 32 bits, so keys are the same exactly if their ranks are.
abbrev pub key_rank : GroupKey → ℕ
key_rank key = field key.kind 0 4 * (2 ^ 32 + 1) + parameter_rank key.parameter

abbrev pub same_key : GroupKey → GroupKey → Bool
same_key a b = key_rank a == key_rank b

-- keys in the order in which they are first named, each once: these, and then those
abbrev pub keys_with : List GroupKey → List GroupKey → List GroupKey
keys_with keys [] = keys
keys_with keys (key ∷ more) = keys_with (if list_any (same_key key) keys then keys
    else keys ++ key ∷ []) more

abbrev pub keys_after : List GroupKey → List Grouping → List GroupKey
keys_after keys groupings = keys_with keys (map (λ (g : Grouping). g.key) groupings)

-- ---- the groups of a sample

-- A map from keys to indexes: in order of keys, each once, without index 0, which is no group. So
-- equal maps are equal lists.
abbrev pub Groups : Type 0
Groups = List (GroupKey × ℕ)

-- the keys stand in their order, each once
abbrev pub is_in_order : Groups → Bool
is_in_order [] = true
is_in_order (group ∷ groups) =
    list_all (λ (other : GroupKey × ℕ). nat_lt (key_rank group.0) (key_rank other.0)) groups
    && is_in_order groups

-- the index at a key, 0 for none
abbrev pub index_at : GroupKey → Groups → ℕ
index_at key [] = 0
index_at key (group ∷ groups) = if same_key key group.0 then group.1 else index_at key groups

-- the map with an index at one more key
abbrev pub put_group : GroupKey → ℕ → Groups → Groups
put_group key index [] = (key, index) ∷ []
put_group key index (group ∷ groups) = if nat_lt (key_rank key) (key_rank group.0)
    then (key, index) ∷ group ∷ groups else group ∷ put_group key index groups

-- the maps of samples in a row with their indexes at one more key
abbrev pub put_indexes : GroupKey → List ℕ → List Groups → List Groups
put_indexes key [] maps = maps
put_indexes key (index ∷ indexes) [] = []
put_indexes key (index ∷ indexes) (groups ∷ maps) = (if index == 0 then groups
    else put_group key index groups) ∷ put_indexes key indexes maps

-- the maps of n samples; those past the rows have index 0
abbrev pub maps_of : ℕ → List Grouping → List Groups
maps_of n [] = replicate n []
maps_of n (g ∷ groupings) = put_indexes g.key (repeated g.rows) (maps_of n groupings)

-- ---- what an `sbgp` has to keep, in an `stbl` or in a `traf`

-- Of one leaf they are checked in this order, behind its version and room; the `sbgp`s in file
-- order.
pub data GroupRule : Type 0 where
  -- no `sbgp` before it in the same container has its key
  one_of_key : GroupRule
  -- it is not the fifth key of the track
  few_keys : GroupRule
  -- indexes go up to 65,535
  index_range : GroupRule
  -- no rows are left behind the last sample
  group_counts : GroupRule

abbrev pub group_kind : GroupRule → Kind
group_kind one_of_key = DuplicateBox
group_kind few_keys = BadValue
group_kind index_range = BadValue
group_kind group_counts = CountMismatch

abbrev pub max_keys : ℕ
max_keys = 4

abbrev pub max_index : ℕ
max_index = 65535

-- the rule is kept by a grouping of n samples, behind these in its container, where the track named
-- these keys before
abbrev pub keeps : GroupRule → ℕ → List GroupKey → List Grouping → Grouping → Bool
keeps one_of_key n keys before g = not (list_any (λ (h : Grouping). same_key g.key h.key) before)
keeps few_keys n keys before g = let named = keys_after keys before in
    list_any (same_key g.key) named || not (length named == max_keys)
keeps index_range n keys before g = list_all (λ row. nat_le row.1 max_index) g.rows
keeps group_counts n keys before g = nat_le (total g.rows) n

-- the rule is kept by the k-th `sbgp` of a container, if there is one
abbrev pub group_test : GroupRule → ℕ → List GroupKey → List Grouping → ℕ → Bool
group_test rule n keys groupings k = passes (slice_get groupings k)
  where
    passes : Option Grouping → Bool
    passes None = true
    passes (Some g) = keeps rule n keys (take k groupings) g

-- the `sbgp`s that the rule reads of the k-th: those up to it, where it compares keys; else itself
abbrev pub group_reads : GroupRule → ℕ → List Box → List Box
group_reads one_of_key k boxes = take (suc k) boxes
group_reads few_keys k boxes = take (suc k) boxes
group_reads index_range k boxes = drop k (take (suc k) boxes)
group_reads group_counts k boxes = drop k (take (suc k) boxes)
