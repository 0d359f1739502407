use Rattle.std.proofs.Common.{◌≡◌, ◌+◌, ◌-◌, length, take}
use Rattle.mp4_plan.specs.words.Gathering.{count_of}
use Rattle.mp4_plan.specs.words.Stretches.{JoinsOn}
use Rattle.mp4_plan.proofs.HandSteps.{NotesUpTo}
use Rattle.mp4_plan.proofs.planner.Planner.note.Given as goal

-- so many samples were taken and noted
abbrev pub invariant-loop-noted : goal.invariant-loop-noted
invariant-loop-noted g l =
    let rest = g.S.Samples.rest in
    record {
      notes : NotesUpTo l.fn.self l.self l.noted (rest l.fn.samples) (rest l.samples) l.fn.rows l.rows;
      count : count_of l.self.gathered ≡ count_of l.fn.self.gathered + l.noted;
      later : g.S.Samples.follows l.fn.samples l.samples;
      joined : JoinsOn l.fn.stretches l.stretches (take l.noted (rest l.fn.samples));
    }

abbrev pub decreases-loop-noted : goal.decreases-loop-noted
decreases-loop-noted g l = length l.rows - l.noted
