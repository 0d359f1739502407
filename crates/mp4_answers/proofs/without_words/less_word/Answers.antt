use Rattle.std.proofs.Common.{rules, ◌||◌, ◌&&◌, ◌==◌}
use Rattle.std.specs.Prelude.{not}
use Rattle.mp4_content.specs.format.Words.{has, word_number}
use Rattle.mp4_content.proofs.Words.{each_is}
use Rattle.mp4_answers.proofs.without_words.less_word.Goals as goal

pub returns : goal.returns
returns c = each_is c.each.result (λ word. has c.args.leaving word && (has c.args.given word || not (word_number word == word_number c.args.taken))) (λ word. let is = c.each.ensures word in search (is, rules))
