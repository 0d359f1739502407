use Rattle.std.proofs.Common.{◌≡◌, length, map, flat_map, take}
use Rattle.mp4_store.specs.words.Parts.{ends_of}
use Rattle.mp4_store.proofs.joined.ends.Given as goal

abbrev pub invariant-loop-part : goal.invariant-loop-part
invariant-loop-part g l =
    (l.ends.items ≡ ends_of 0 (map g.S.Store.file (take l.part-index l.parts)))
    × (l.end ≡ length (flat_map g.S.Store.file (take l.part-index l.parts)))
