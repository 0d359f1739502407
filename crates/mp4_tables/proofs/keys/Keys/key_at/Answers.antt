use Rattle.std.proofs.Common.{arith, rules, length, ◌≡◌, ◌≤◌, map, take}
use Rattle.std.proofs.lemmas.List.{length-map, length-take}
use Rattle.mp4_tables.specs.words.Keys.{key_seen}
use Rattle.mp4_tables.proofs.KeyLists.{keys_more}
use Rattle.mp4_tables.proofs.keys.Keys.key_at.Goals as goal

pub returns : goal.returns
returns c =
    let keys = c.args.self.now in
    let few : keys.count ≤ length keys.named = search rules in
    let long : length (map key_seen (take keys.count keys.named)) ≡ keys.count = omega (arith, length-map (take keys.count keys.named) key_seen, length-take keys.count keys.named) in
    keys_more keys.named keys.count c.args.j _ (omega arith) few
