-- The keys that a piece uses, and what is written of its groups (ISO/IEC 14496-12, 8.9.2).
use Rattle.std.specs.Prelude.{◌≡◌, ℕ, ◌+◌, nat_lt, ◌&&◌, Bool, true, false, if◌then◌else◌, List, [], ◌∷◌, ◌++◌, drop, flat_map, slice_index, Option, Some, None, option_map, codes}
use Rattle.std.specs.List.{list_any}
use Rattle.byteorder.specs.Endian.{big_bytes}
use Rattle.mp4_tables.specs.format.Groups.{GroupKey, Groups, key_rank, same_key, index_at}
use Rattle.mp4_tables.specs.words.Keys.{key_seen}
use Rattle.mp4_plan.specs.format.Normal.{in_key_order}
use Rattle.mp4_plan.specs.words.Sizes.{group_size}
use Rattle.mp4_plan.specs.words.Spelling.{box_front, short, group_rows}
use Rattle.mp4_plan.specs.declared.moof_rows.UsedKey.{UsedKey}
use Rattle.mp4_plan.specs.declared.planner.Planned.{Planned}
use Rattle.mp4_plan.specs.declared.noted_rows.Row.{Row}

-- ---- keys by their places

-- no key is there twice
abbrev pub AreApart : List GroupKey → Type 0
AreApart [] = Unit {0}
AreApart (key ∷ keys) = (list_any (same_key key) keys ≡ false) × AreApart keys

-- the key stands at this place
abbrev pub IsKeyAt : List GroupKey → ℕ → GroupKey → Type 0
IsKeyAt keys place key = drop place keys ≡ key ∷ drop (place + 1) keys

-- each key with its place, from a place on
abbrev pub placed : ℕ → List GroupKey → Groups
placed j [] = []
placed j (key ∷ keys) = (key, j) ∷ placed (j + 1) keys

-- the place of a key
abbrev pub place_at : List GroupKey → GroupKey → ℕ
place_at keys key = index_at key (placed 0 keys)

-- the keys that have rows, where the j-th number is that of the first
abbrev pub used_from : List ℕ → ℕ → List GroupKey → List GroupKey
used_from rows j [] = []
used_from rows j (key ∷ keys) = if nat_lt 0 (slice_index rows j)
    then key ∷ used_from rows (j + 1) keys else used_from rows (j + 1) keys

-- ---- one key after the other

-- a key is above the last that was written, where one was
abbrev pub is_above : Option ℕ → GroupKey → Bool
is_above None key = true
is_above (Some last) key = nat_lt last (key_rank key)

-- a key is below the one that was found, where one was
abbrev pub is_below : Option GroupKey → GroupKey → Bool
is_below None key = true
is_below (Some best) key = nat_lt (key_rank key) (key_rank best)

-- the least of these keys and the one that was found, of those above the last that was written
abbrev pub least_above : Option ℕ → Option GroupKey → List GroupKey → Option GroupKey
least_above behind found [] = found
least_above behind found (key ∷ keys) = least_above behind (if is_above behind key
    && is_below found key then Some key else found) keys

-- the key that was found
abbrev pub used_seen : Option UsedKey → Option GroupKey
used_seen found = option_map (λ (u : UsedKey). key_seen u.key) found

-- ---- bytes

-- version 0 with a type, version 1 with a type and a parameter
abbrev pub key_front : GroupKey → List ℕ
key_front key = with_parameter key.parameter
  where
    with_parameter : Option ℕ → List ℕ
    with_parameter None = big_bytes 4 0 ++ key.kind
    with_parameter (Some parameter) = big_bytes 4 0x1000000 ++ key.kind ++ big_bytes 4 parameter

-- an `sbgp` with so many rows as far as them
unfoldable pub group_front : GroupKey → ℕ → List ℕ
group_front key rows = box_front (codes "sbgp") (short (group_size key.parameter rows))
    ++ key_front key ++ big_bytes 4 rows

-- the `sbgp` of the key at this place
unfoldable pub group_bytes : List Row → Planned → ℕ → GroupKey → List ℕ
group_bytes rows p place key = group_front key (slice_index p.group_rows place)
    ++ group_rows place rows

-- one for each key that is used, in the order of keys
abbrev pub groups_bytes : List Row → Planned → List GroupKey → List ℕ
groups_bytes rows p keys = flat_map (λ key. group_bytes rows p (place_at keys key) key)
    (in_key_order (used_from p.group_rows 0 keys))

-- `sbgp`s, each of a key at its place
abbrev pub some_groups : List Row → Planned → List (ℕ × GroupKey) → List ℕ
some_groups rows p groups = flat_map (λ (g : ℕ × GroupKey). group_bytes rows p g.0 g.1) groups
