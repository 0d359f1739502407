use Rattle.std.proofs.Common.{◌≡◌, ◌+◌}
use Rattle.mp4_frag.specs.words.Passing.{IsPassed, EndsNear}
use Rattle.mp4_frag.proofs.Costs.{RunsCost}
use Rattle.mp4_frag.proofs.RunsPassed.{RunsSeen}
use Rattle.mp4_frag.proofs.check.check_runs.Given as goal

-- what the runs took of the room
abbrev pub invariant-loop-child : goal.invariant-loop-child
invariant-loop-child g l =
    (goal.iterator-loop-child g).can_next l.child-iterator
    × (goal.iterator-loop-child g).is_finite l.child-iterator
    × (l.passed.count + l.room ≡ l.fn.room)
    × IsPassed l.passed
    × EndsNear l.judged.base l.passed.at
    × RunsSeen l.judged.file_len l.judged.inherited l.judged.base l.initial.child-iterator l.child-iterator l.fn.room l.room l.passed.at l.passed.count l.passed.duration l.passed.bytes
    × RunsCost l.initial.child-iterator l.child-iterator l.fn.steps l.steps l.passed.count
