use Rattle.std.proofs.Common.{◌≡◌, ◌++◌, take}
use Rattle.mp4_answers.specs.format.DifferenceObject.{escaped}
use Rattle.mp4_answers.proofs.text.json_text.push_printable.Given as goal

-- those so far are added
abbrev pub invariant-loop-byte : goal.invariant-loop-byte
invariant-loop-byte l = l.text.items ≡ l.fn.text.items ++ escaped (take l.byte-index l.printable)
