use Rattle.std.proofs.Common.{◌++◌, take}
use Rattle.mp4_answers.specs.words.Compares.{lines_with}
use Rattle.mp4_answers.proofs.ComparedTimes.{LinesGo}
use Rattle.mp4_answers.proofs.commands.compare.say_first.Given as goal

-- the lines so far are added
abbrev pub invariant-loop-k : goal.invariant-loop-k
invariant-loop-k l = LinesGo l.form l.timed.times.now l.first l.k l.text.items (l.fn.text.items ++ lines_with l.form l.timed.times.now (take l.most l.timed.all.now))
