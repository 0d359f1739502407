use Rattle.std.proofs.Common.{◌≡◌, ◌<◌, ◌^◌, length, ap, sym, rules, arith}
use Rattle.mp4_store.proofs.LaidWords.{length-laid}
use Rattle.mp4_store.proofs.laid.LaidStoreStore.read_at.Goals as goal

pub read_at-requires : goal.read_at-requires
read_at-requires g c =
    let below : g.S.Store.file c.self.inside.store ≡ g.S.Store.file c.args.self.now.0 = search rules in
    let len = length-laid c.args.self.now.1 c.args.self.now.2 (g.S.Store.file c.args.self.now.0) in
    rw (ap length below, sym len) c.requires

pub lay_words-requires-clause-within : goal.lay_words-requires-clause-within
lay_words-requires-clause-within g c =
    let below : g.S.Store.file c.self.inside.store ≡ g.S.Store.file c.args.self.now.0 = search rules in
    let len = length-laid c.args.self.now.1 c.args.self.now.2 (g.S.Store.file c.args.self.now.0) in
    let small : length (g.S.Store.file c.args.self.now.0) < 2 ^ 64 = rw (ap length (sym below), sym c.len-size.ensures) c.len-size.type_inv in
    let same : length c.read_at.new.out ≡ length c.args.out.now = search rules in
    let within = c.requires in
    omega (arith, within, len, small, same)
