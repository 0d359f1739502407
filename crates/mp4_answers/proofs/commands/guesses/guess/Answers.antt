use Rattle.std.proofs.Common.{sym, subst}
use Rattle.mp4_content.specs.format.CoveringLaws.{Covers}
use Rattle.mp4_answers.proofs.WordSets.{covers_both}
use Rattle.mp4_answers.proofs.commands.guesses.guess.Goals as goal

pub returns : goal.returns
returns c = subst (Covers c.args.leaving) (sym c.leaving_both.ensures) (covers_both c.args.leaving c.each-needed.result)
