use Rattle.std.proofs.Common.{◌≡◌, sym, rules}
use Rattle.mp4_store.proofs.LaidWords.{length-laid}
use Rattle.mp4_store.proofs.laid.LaidStoreStore.len.Goals as goal

pub returns : goal.returns
returns g c =
    let below : g.S.Store.file c.self.inside.store ≡ g.S.Store.file c.args.self.now.0 = search rules in
    rw (sym (length-laid c.args.self.now.1 c.args.self.now.2 (g.S.Store.file c.args.self.now.0))) at (rw below at c.len.ensures)
