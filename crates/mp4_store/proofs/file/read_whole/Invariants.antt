use Rattle.std.proofs.Common.{◌≡◌, ℕ, ◌+◌, ◌-◌, ◌≤◌, List, Some, length, take}
use Rattle.mp4_store.specs.words.Device.{range}
use Rattle.mp4_store.proofs.file.read_whole.Given as goal

abbrev pub invariant-loop-done : goal.invariant-loop-done
invariant-loop-done g l =
    (l.done ≤ length l.out)
    × (length l.out ≡ length l.initial.out)
    × (g.F.Placed.known l.placed ≡ g.F.Placed.known l.initial.placed)
    × (g.F.Placed.is_sound l.placed ≡ g.F.Placed.is_sound l.initial.placed)
    × ((list : List ℕ) → g.F.Placed.known l.initial.placed ≡ Some list → take l.done l.out ≡ range list l.at l.done)

abbrev pub decreases-loop-done : goal.decreases-loop-done
decreases-loop-done g l = (length l.initial.out - l.done) + l.tries
