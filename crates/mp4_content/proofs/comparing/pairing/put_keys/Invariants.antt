use Rattle.std.proofs.Common.{◌≡◌, drop}
use Rattle.std.specs.Prelude.{map, fold}
use Rattle.mp4_tables.specs.words.Keys.{key_seen, keys_seen}
use Rattle.mp4_content.specs.format.Comparison.{with_key}
use Rattle.mp4_content.proofs.comparing.pairing.put_keys.Given as goal

-- those before this place are put
abbrev pub invariant-loop-j : goal.invariant-loop-j
invariant-loop-j l = fold with_key (map key_seen l.keys.items) (drop l.j (keys_seen l.more))
    ≡ fold with_key (map key_seen l.fn.keys.items) (keys_seen l.more)
