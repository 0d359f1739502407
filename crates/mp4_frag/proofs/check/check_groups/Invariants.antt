use Rattle.mp4_tables.specs.words.Keys.{keys_seen}
use Rattle.mp4_frag.proofs.Costs.{GroupsCost}
use Rattle.mp4_frag.proofs.GroupsPassed.{GroupsSeen}
use Rattle.mp4_frag.proofs.check.check_groups.Given as goal

-- what the `sbgp`s so far named
abbrev pub invariant-loop-child : goal.invariant-loop-child
invariant-loop-child g l =
    (goal.iterator-loop-child g).can_next l.child-iterator
    × (goal.iterator-loop-child g).is_finite l.child-iterator
    × GroupsSeen l.n (keys_seen l.fn.keys) l.initial.child-iterator l.child-iterator (keys_seen l.keys) l.named
    × GroupsCost l.initial.child-iterator l.child-iterator l.fn.steps l.steps
