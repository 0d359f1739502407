use Rattle.std.specs.Prelude.{flat_map, filter}
use Rattle.std.proofs.Common.{◌≡◌, ℕ, ◌+◌, ◌≤◌, List, ◌++◌, length}
use Rattle.mp4_tables.specs.format.Groups.{GroupKey}
use Rattle.mp4_tables.specs.words.Keys.{keys_seen}
use Rattle.mp4_plan.specs.format.Normal.{in_key_order}
use Rattle.mp4_present.specs.words.Latches.{Goes}
use Rattle.mp4_plan.specs.words.UsedKeys.{AreApart, is_above, used_from, place_at, group_bytes, some_groups}
use Rattle.mp4_plan.proofs.moof_rows.carry_groups.Given as goal

-- the groups of the first keys are written, and those above the last are to come
abbrev pub invariant-loop-key : goal.invariant-loop-key
invariant-loop-key g l =
    let keys = keys_seen l.keys in
    let order = in_key_order (used_from l.planned.group_rows 0 keys) in
    (AreApart keys → (done : List GroupKey)
    × Goes g.K.Sink l.fn.latch l.latch (flat_map (λ key. group_bytes l.rows l.planned (place_at keys key) key) done)
    × (done ++ filter (is_above l.behind) order ≡ order)
    × (length (filter (is_above l.behind) order) + l._key ≤ length keys))
    × ((used : List (ℕ × GroupKey)) × (length used ≤ l._key) × (length used ≤ 4)
    × Goes g.K.Sink l.fn.latch l.latch (some_groups l.rows l.planned used))
