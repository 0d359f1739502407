use Rattle.std.proofs.Common.{◌≡◌, ◌+◌, ◌*◌, ◌^◌, ◌≤◌, drop}
use Rattle.mp4_tables.specs.words.Keys.{keys_seen}
use Rattle.mp4_plan.specs.words.Sizes.{groups_size}
use Rattle.mp4_plan.proofs.moof_sizes.groups_size.Given as goal

-- each takes less than 2^36 bytes, and with those to come they take what all take
abbrev pub invariant-loop-j : goal.invariant-loop-j
invariant-loop-j l =
    (l.total ≤ 2 ^ 36 * l.j)
    × (l.total + groups_size l.planned.group_rows l.j (drop l.j (keys_seen l.keys)) ≡ groups_size l.planned.group_rows 0 (keys_seen l.keys))
