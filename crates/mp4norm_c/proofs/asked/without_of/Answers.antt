use Rattle.std.proofs.Common.{rules, ◌≡◌, ap, nat_lt, ◌^◌, length, Some, true}
use Rattle.mp4_content.specs.format.Words.{all_words, word_number}
use Rattle.mp4_content.proofs.Words.{each_is}
use Rattle.mp4norm_c.specs.format.Exports.{has_flag}
use Rattle.mp4norm_c.proofs.asked.without_of.Goals as goal

pub returns : goal.returns
returns c =
    let few : nat_lt c.args.flags (2 ^ length all_words) ≡ true = search rules in
    rw few (ap Some (each_is c.each.result (λ word. has_flag c.args.flags (word_number word)) (λ word. let is = c.each.ensures word in search (is, rules))))
