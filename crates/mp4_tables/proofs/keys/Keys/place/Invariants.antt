use Rattle.std.proofs.Common.{◌≡◌, drop}
use Rattle.std.specs.List.{position_from}
use Rattle.mp4_tables.specs.format.Groups.{same_key}
use Rattle.mp4_tables.specs.words.Keys.{key_seen, keys_seen, key_place}
use Rattle.mp4_tables.proofs.keys.Keys.place.Given as goal

-- the place is that among the keys that are left
abbrev pub invariant-loop-j : goal.invariant-loop-j
invariant-loop-j l = key_place (key_seen l.fn.key) (keys_seen l.self) ≡ position_from (same_key (key_seen l.fn.key)) l.j (drop l.j (keys_seen l.self))
