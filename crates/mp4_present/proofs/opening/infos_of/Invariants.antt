use Rattle.std.proofs.Common.{◌≡◌, length, take}
use Rattle.mp4_present.specs.words.OpenedMovie.{AreInfosBy}
use Rattle.mp4_present.proofs.opening.infos_of.Given as goal

-- one for each track so far, with its numbers
abbrev pub invariant-loop-k : goal.invariant-loop-k
invariant-loop-k l =
    (length l.tracks.items ≡ l.k)
    × AreInfosBy (take l.k l.head.tracks.items) (take l.k l.states) l.tracks.items
