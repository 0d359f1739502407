use Rattle.std.proofs.Common.{rules}
use Rattle.mp4_content.specs.format.Words.{has}
use Rattle.mp4_content.proofs.Words.{each_is}
use Rattle.mp4_answers.specs.words.Compares.{as_asked}
use Rattle.mp4_answers.proofs.without_words.as_asked.Goals as goal

pub returns : goal.returns
returns c = each_is c.each.result (has (as_asked c.args.asked c.args.leaving)) (λ word. let is = c.each.ensures word in search (is, rules))
