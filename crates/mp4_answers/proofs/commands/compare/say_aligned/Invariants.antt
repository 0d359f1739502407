use Rattle.std.proofs.Common.{take}
use Rattle.mp4_answers.specs.words.Compares.{AddsAligned}
use Rattle.mp4_answers.proofs.commands.compare.say_aligned.Given as goal

-- the lines so far are added
abbrev pub invariant-loop-alignment : goal.invariant-loop-alignment
invariant-loop-alignment l = AddsAligned l.form (take l.alignment-index l.aligned) l.fn.text.items l.text.items
