use Rattle.std.proofs.Common.{arith}
use Rattle.mp4_store.proofs.Places.{length-known}
use Rattle.mp4_store.proofs.file.FileStoreStore.read_at.Goals as goal

pub read_whole-requires : goal.read_whole-requires
read_whole-requires g c = let size = length-known (g.F.Placed.known c.args.self.now.placed) c.args.self.now.size in omega (arith, size, c.requires)
