use Rattle.std.proofs.Common.{◌≤◌, length, arith}
use Rattle.mp4_store.specs.words.Parts.{ends_of}
use Rattle.mp4_store.proofs.Parts.{length-ends_of, later_begins}
use Rattle.mp4_store.proofs.joined.begin_of.Goals as goal

pub returns-else-part-eq0 : goal.returns-else-part-eq0
returns-else-part-eq0 c = λ parts e.
    let n = length-ends_of parts 0 in
    let le : c.args.part ≤ length (ends_of 0 parts) = rw e at c.requires in
    rw e (later_begins parts c.args.part 0 (omega (arith, n, le)) c.if-part-eq0.false)
