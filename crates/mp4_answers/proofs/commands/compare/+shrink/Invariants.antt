use Rattle.std.proofs.Common.{length}
use Rattle.mp4_answers.proofs.commands.compare.+shrink.Given as goal

-- one less is left to try
abbrev pub decreases-shrink : goal.decreases-shrink
decreases-shrink g l = length l.from.words.now
