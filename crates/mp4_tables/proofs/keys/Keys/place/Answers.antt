use Rattle.std.proofs.Common.{sym, ◌∙◌}
use Rattle.mp4_tables.specs.words.Keys.{key_seen, keys_seen}
use Rattle.mp4_tables.proofs.KeyLists.{place_found, place_later, place_none, same_rank, other_rank}
use Rattle.mp4_tables.proofs.keys.Keys.place.Goals as goal

pub returns-then-rank : goal.returns-then-rank
returns-then-rank c =
    sym (c.loop-j.invariant ∙ place_found (key_seen c.args.key) (key_seen c.key_at.result) (keys_seen c.args.self.now) c.loop-j.j c.key_at.ensures
    (same_rank (key_seen c.args.key) (key_seen c.key_at.result) c.rank-rank.result c.rank.result c.rank-rank.ensures c.rank.ensures c.if-rank.true))

pub loop-j-preserved : goal.loop-j-preserved
loop-j-preserved c =
    c.loop-j.invariant ∙ place_later (key_seen c.args.key) (key_seen c.key_at.result) (keys_seen c.args.self.now) c.loop-j.j c.key_at.ensures
    (other_rank (key_seen c.args.key) (key_seen c.key_at.result) c.rank-rank.result c.rank.result c.rank-rank.ensures c.rank.ensures c.if-rank.false)

pub returns : goal.returns
returns c =
    let keys = c.args.self.now in
    sym (c.loop-j.invariant ∙ place_none (key_seen c.args.key) keys.named keys.count c.loop-j.j c.loop-j-test.false)
