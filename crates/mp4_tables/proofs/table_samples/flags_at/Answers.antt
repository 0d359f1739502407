use Rattle.std.proofs.Common.{arith, ◌+◌}
use Rattle.mp4_tables.proofs.PlaceLists.{byte_room}
use Rattle.mp4_tables.proofs.table_samples.flags_at.Goals as goal

pub dependency_at-dependency-requires-clause-inside : goal.dependency_at-dependency-requires-clause-inside
dependency_at-dependency-requires-clause-inside c =
    let long = byte_room c.args.payload.now c.args.at.now c.requires.ok (c.args.place.now.number + 1) (omega arith) in
    omega arith
