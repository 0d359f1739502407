use Rattle.std.proofs.Common.{◌≡◌, ◌+◌, ◌*◌, ◌≤◌, ◌++◌, drop, length}
use Rattle.mp4_answers.specs.format.Texts.{hex_text}
use Rattle.mp4_answers.proofs.text.payload_lines.write_bytes_in_hex.Given as goal

-- the last bytes are written
abbrev pub invariant-loop-left : goal.invariant-loop-left
invariant-loop-left l =
    (l.left ≤ length l.bytes) × (l.start + 2 * length l.bytes ≡ l.end + 2 * l.left)
    × (drop l.start l.text ≡ hex_text (drop l.left l.bytes) ++ drop l.end l.fn.text)

abbrev pub decreases-loop-left : goal.decreases-loop-left
decreases-loop-left l = l.left
