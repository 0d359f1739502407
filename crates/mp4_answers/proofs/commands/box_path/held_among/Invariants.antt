use Rattle.mp4_answers.proofs.WaysTo.{Passed}
use Rattle.mp4_answers.proofs.commands.box_path.held_among.Given as goal

abbrev pub invariant-loop-child : goal.invariant-loop-child
invariant-loop-child l =
    (goal.iterator-loop-child).can_next l.child-iterator
    × (goal.iterator-loop-child).is_finite l.child-iterator
    × Passed l.initial.child-iterator l.child-iterator
