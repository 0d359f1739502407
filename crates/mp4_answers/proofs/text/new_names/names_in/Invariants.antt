use Rattle.std.proofs.Common.{take}
use Rattle.mp4_answers.specs.words.NameSets.{bytes_of, HasNames}
use Rattle.mp4_answers.proofs.text.new_names.names_in.Given as goal

-- the set has those so far
abbrev pub invariant-loop-name : goal.invariant-loop-name
invariant-loop-name l = HasNames (bytes_of (take l.name-index l.names)) l.set
