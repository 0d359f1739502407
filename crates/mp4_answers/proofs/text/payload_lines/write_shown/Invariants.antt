use Rattle.std.proofs.Common.{◌≡◌, ◌+◌, ◌≤◌, ◌++◌, drop, length, map}
use Rattle.mp4_answers.specs.format.Text.{shown_byte}
use Rattle.mp4_answers.proofs.text.payload_lines.write_shown.Given as goal

-- the last bytes are written
abbrev pub invariant-loop-left : goal.invariant-loop-left
invariant-loop-left l =
    (l.left ≤ length l.bytes) × (l.start + length l.bytes ≡ l.end + l.left)
    × (drop l.start l.text ≡ map shown_byte (drop l.left l.bytes) ++ drop l.end l.fn.text)

abbrev pub decreases-loop-left : goal.decreases-loop-left
decreases-loop-left l = l.left
