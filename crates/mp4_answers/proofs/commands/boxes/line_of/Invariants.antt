use Rattle.std.proofs.Common.{◌≡◌, ◌*◌, replicate}
use Rattle.mp4_answers.proofs.commands.boxes.line_of.Given as goal

-- two spaces for each level so far
abbrev pub invariant-loop-level : goal.invariant-loop-level
invariant-loop-level l = l.line ≡ replicate (2 * l._level) 32
