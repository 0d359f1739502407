use Rattle.std.proofs.Common.{◌≡◌, ◌<◌, None, drop}
use Rattle.std.specs.Prelude.{IfSome}
use Rattle.mp4_tables.specs.words.Keys.{key_seen, keys_seen}
use Rattle.mp4_plan.specs.words.UsedKeys.{used_seen, least_above, used_from, IsKeyAt}
use Rattle.mp4_plan.proofs.moof_rows.next_key.Given as goal

-- the place is that of the key, and with the keys to come the least is found
abbrev pub invariant-loop-place : goal.invariant-loop-place
invariant-loop-place l =
    IfSome l.found (λ u. (u.place < 4) × IsKeyAt (keys_seen l.keys) u.place (key_seen u.key))
    × (least_above l.behind (used_seen l.found) (used_from l.planned.group_rows l.place (drop l.place (keys_seen l.keys))) ≡ least_above l.behind None (used_from l.planned.group_rows 0 (keys_seen l.keys)))
