use Rattle.std.proofs.Common.{◌≡◌, ◌+◌, ◌*◌, ◌≤◌, ◌++◌, drop, map}
use Rattle.std.specs.Fmt.{signed_decimal}
use Rattle.mp4_answers.specs.words.Telling.{said_text}
use Rattle.mp4_answers.proofs.text.named_lines.write_matrix.Given as goal

-- the last numbers are written
abbrev pub invariant-loop-left : goal.invariant-loop-left
invariant-loop-left l =
    (l.left ≤ 9) × (l.start ≤ l.end) × (l.end + 22 * l.left ≤ l.start + 198)
    × (drop l.start l.text ≡ said_text (map signed_decimal (drop l.left l.matrix)) ++ drop l.end l.fn.text)

abbrev pub decreases-loop-left : goal.decreases-loop-left
decreases-loop-left l = l.left
