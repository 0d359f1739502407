use Rattle.std.proofs.Common.{rules, ◌||◌}
use Rattle.mp4_content.specs.format.Words.{has}
use Rattle.mp4_content.proofs.Words.{each_is}
use Rattle.mp4_answers.proofs.without_words.leaving_both.Goals as goal

pub returns : goal.returns
returns c = each_is c.each.result (λ word. has c.args.one word || has c.args.other word) (λ word. let is = c.each.ensures word in search (is, rules))
