-- What a clause sees of keys.
use Rattle.std.specs.Prelude.{ℕ, List, map, take, Option}
use Rattle.std.specs.List.{position_from}
use Rattle.mp4_tables.specs.format.Groups.{GroupKey, same_key}
use Rattle.mp4_tables.specs.declared.keys.GroupKey.{GroupKey as KeyNamed}
use Rattle.mp4_tables.specs.declared.keys.Keys.{Keys}

abbrev pub key_seen : KeyNamed → GroupKey
key_seen key = record { kind = key.kind.0; parameter = key.parameter }

-- the keys in the order in which they were named
abbrev pub keys_seen : Keys → List GroupKey
keys_seen keys = map key_seen (take keys.count keys.named)

-- where a key stands among them
abbrev pub key_place : GroupKey → List GroupKey → Option ℕ
key_place key keys = position_from (same_key key) 0 keys
