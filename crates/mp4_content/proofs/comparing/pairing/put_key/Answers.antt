use Rattle.std.proofs.Common.{rules, ◌≡◌, ◌<◌, ◌≤◌, ◌∷◌, ◌++◌, take, drop, length, slice_index_or, []}
use Rattle.mp4_tables.specs.format.Groups.{key_rank}
use Rattle.mp4_tables.specs.words.Keys.{key_seen}
use Rattle.mp4_content.proofs.Differing.{drop_at}
use Rattle.mp4_content.proofs.KeysOfBoth.{key_before, key_there, key_behind, key_last}
use Rattle.mp4_content.proofs.comparing.pairing.put_key.Goals as goal

pub returns-then-rank-other : goal.returns-then-rank-other
returns-then-rank-other c =
    let xs = c.args.keys.now.items in
    let k = c.loop-k.k in
    let x = c.index.result.now in
    let lt : k < length xs = search rules in
    let there : x ≡ slice_index_or xs k x = search rules in
    let below : key_rank (key_seen c.args.key) < key_rank (key_seen x) = search rules in
    let is : c.insert.new.self.items ≡ take k xs ++ c.args.key ∷ drop k xs = search rules in
    rw is (key_before xs k x c.args.key _ (drop_at xs k x lt there) below c.loop-k.invariant.behind)

pub returns-then-rank-other-2 : goal.returns-then-rank-other-2
returns-then-rank-other-2 c =
    let xs = c.args.keys.now.items in
    let k = c.loop-k.k in
    let x = c.index.result.now in
    let lt : k < length xs = search rules in
    let there : x ≡ slice_index_or xs k x = search rules in
    let same : key_rank (key_seen c.args.key) ≡ key_rank (key_seen x) = search rules in
    rw c.loop-k.invariant.same (key_there xs k x c.args.key _ (drop_at xs k x lt there) same c.loop-k.invariant.behind)

pub loop-k-preserved : goal.loop-k-preserved
loop-k-preserved c =
    let xs = c.args.keys.now.items in
    let k = c.loop-k.k in
    let x = c.index.result.now in
    let lt : k < length xs = search rules in
    let there : x ≡ slice_index_or xs k x = search rules in
    let above : key_rank (key_seen x) < key_rank (key_seen c.args.key) = search rules in
    record { same = c.loop-k.invariant.same; behind = key_behind xs k x c.args.key _ (drop_at xs k x lt there) above c.loop-k.invariant.behind }

pub returns : goal.returns
returns c =
    let xs = c.args.keys.now.items in
    let le : length xs ≤ c.loop-k.k = search rules in
    let is : c.push.new.self.items ≡ xs ++ c.args.key ∷ [] = search rules in
    rw is (key_last xs c.loop-k.k c.args.key _ le c.loop-k.invariant.behind)
