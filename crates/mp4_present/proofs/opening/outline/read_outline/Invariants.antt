use Rattle.std.proofs.Common.{◌≡◌, ◌-◌, length}
use Rattle.std.specs.Prelude.{IsTrue, IfSome}
use Rattle.mp4_present.specs.words.Movies.{IsWhole}
use Rattle.mp4_present.specs.words.Outline.{AreIn}
use Rattle.mp4_present.proofs.Outlines.{Outlining}
use Rattle.mp4_present.proofs.opening.outline.read_outline.Given as goal

-- the headers up to the place were read
abbrev pub invariant-loop-at : goal.invariant-loop-at
invariant-loop-at g l =
    (g.S.Store.is_honest l.store ≡ g.S.Store.is_honest l.fn.store)
    × (g.S.Store.file l.store ≡ g.S.Store.file l.fn.store)
    × (g.S.Store.read_failures l.store ≡ g.S.Store.read_failures l.fn.store)
    × (IsTrue (g.S.Store.is_honest l.fn.store) → Outlining (g.S.Store.file l.fn.store) l.at l.seen l.moofs.items)
    × IfSome l.seen.moov (IsWhole (length (g.S.Store.file l.fn.store)))
    × AreIn (length (g.S.Store.file l.fn.store)) l.moofs.items

abbrev pub decreases-loop-at : goal.decreases-loop-at
decreases-loop-at g l = l.len - l.at
