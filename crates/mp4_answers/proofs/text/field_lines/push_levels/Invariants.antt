use Rattle.std.proofs.Common.{◌≡◌, ◌*◌, ◌++◌, replicate}
use Rattle.mp4_answers.proofs.text.field_lines.push_levels.Given as goal

-- two spaces for each level so far
abbrev pub invariant-loop-level : goal.invariant-loop-level
invariant-loop-level l = l.text.items ≡ l.fn.text.items ++ replicate (2 * l._level) 32
