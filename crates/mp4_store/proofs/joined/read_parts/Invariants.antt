use Rattle.std.proofs.Common.{◌≡◌, ◌+◌, ◌-◌, ◌≤◌, ◌++◌, [], length, map, take, get_or, IsTrue}
use Rattle.std.specs.List.{list_all}
use Rattle.mp4_store.proofs.Parts.{coming}
use Rattle.mp4_store.proofs.joined.read_parts.Given as goal

abbrev pub invariant-loop-done : goal.invariant-loop-done
invariant-loop-done g l =
    let files = map g.S.Store.file l.fn.parts in
    (map g.S.Store.file l.parts ≡ files)
    × (map g.S.Store.is_honest l.parts ≡ map g.S.Store.is_honest l.fn.parts)
    × (l.from ≤ length (get_or files l.part []))
    × (l.done ≤ length l.out)
    × (length l.out ≤ l.done + length (coming files l.part l.from))
    × (IsTrue (list_all g.S.Store.is_honest l.fn.parts)
    → take l.done l.out ++ take (length l.out - l.done) (coming files l.part l.from) ≡ take (length l.out) (coming files l.fn.place.part l.fn.place.offset))
    × (map g.S.Store.read_failures l.parts ≡ map g.S.Store.read_failures l.fn.parts)

abbrev pub decreases-loop-done : goal.decreases-loop-done
decreases-loop-done g l = (length l.out - l.done) + (length l.parts - l.part)
