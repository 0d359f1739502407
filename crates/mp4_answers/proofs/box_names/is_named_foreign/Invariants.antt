use Rattle.mp4_answers.proofs.BoxCounts.{NoneBefore}
use Rattle.mp4_answers.proofs.box_names.is_named_foreign.Given as goal

-- no name before this one means the box
abbrev pub invariant-loop-k : goal.invariant-loop-k
invariant-loop-k l = NoneBefore l.rule l.own.kind.0 l.own.uuid l.k l.names
