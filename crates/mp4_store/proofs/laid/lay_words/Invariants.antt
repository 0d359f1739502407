use Rattle.std.proofs.Common.{◌≡◌, ◌-◌, ◌≤◌, List, ℕ, length, take}
use Rattle.mp4_store.specs.words.Device.{range}
use Rattle.mp4_store.specs.words.LaidWords.{laid}
use Rattle.mp4_store.proofs.laid.lay_words.Given as goal

abbrev pub invariant-loop-next : goal.invariant-loop-next
invariant-loop-next l = (length l.out ≡ length l.fn.out) × (l.next ≤ length l.places)
    × ((file : List ℕ) → l.fn.out ≡ range file l.at (length l.fn.out) → l.out ≡ range (laid l.word (take l.next l.places) file) l.at (length l.fn.out))

abbrev pub decreases-loop-next : goal.decreases-loop-next
decreases-loop-next l = length l.places - l.next
