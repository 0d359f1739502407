use Rattle.std.proofs.Common.{◌≡◌, ◌+◌, ◌/◌, ◌^◌, ◌++◌, drop}
use Rattle.mp4_answers.specs.format.Texts.{hex_digits}
use Rattle.mp4_answers.proofs.text.digits.write_hex.Given as goal

-- the last digits are written
abbrev pub invariant-loop-digit : goal.invariant-loop-digit
invariant-loop-digit l =
    (drop l.start l.text ≡ hex_digits l._digit l.number ++ drop l.end l.fn.text)
    × (l.start + l._digit ≡ l.end) × (l.left ≡ l.number / 16 ^ l._digit)
