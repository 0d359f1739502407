use Rattle.std.proofs.Common.{◌≡◌, take}
use Rattle.mp4_answers.specs.format.SumLines.{new_text}
use Rattle.mp4_answers.specs.words.NameSets.{bytes_of}
use Rattle.mp4_answers.proofs.text.new_names.new_lines.Given as goal

-- the lines of those so far
abbrev pub invariant-loop-name : goal.invariant-loop-name
invariant-loop-name l =
    l.text.items ≡ new_text (bytes_of l.listed) l.end (bytes_of (take l.name-index l.given))
