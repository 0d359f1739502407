use Rattle.std.proofs.Common.{rules}
use Rattle.mp4_answers.specs.format.WordLists.{is_listed}
use Rattle.mp4_content.proofs.Words.{each_is}
use Rattle.mp4_answers.proofs.without_words.only_these.Goals as goal

pub returns : goal.returns
returns c = each_is c.each.result (is_listed c.args.words.now) (λ word. let is = c.each.ensures word in search (is, rules))
