use Rattle.std.proofs.Common.{◌≡◌, ◌++◌, take, drop}
use Rattle.std.specs.Prelude.{map}
use Rattle.mp4_tables.specs.words.Keys.{key_seen}
use Rattle.mp4_content.specs.format.Comparison.{with_key}
use Rattle.mp4_content.proofs.comparing.pairing.put_key.Given as goal

-- the key stands behind those before this place
abbrev pub invariant-loop-k : goal.invariant-loop-k
invariant-loop-k l = record {
  same : l.keys ≡ l.fn.keys;
  behind : map key_seen (take l.k l.fn.keys.items) ++ with_key (map key_seen (drop l.k l.fn.keys.items)) (key_seen l.key)
      ≡ with_key (map key_seen l.fn.keys.items) (key_seen l.key);
}
