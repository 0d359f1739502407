use Rattle.std.proofs.Common.{rules, true}
use Rattle.mp4_content.proofs.Words.{each_is}
use Rattle.mp4_answers.proofs.without_words.everything.Goals as goal

pub returns : goal.returns
returns c = each_is c.each.result (λ word. true) (λ word. let is = c.each.ensures word in search (is, rules))
