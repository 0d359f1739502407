use Rattle.std.proofs.Common.{◌≡◌, ◌++◌, length}
use Rattle.std.specs.Prelude.{true}
use Rattle.mp4_answers.specs.format.DifferenceObject.{word_list, words_by_name}
use Rattle.mp4_answers.proofs.text.difference_json.say_words.Given as goal

-- the text, with the words that come, is the text with all
abbrev pub invariant-loop-word : goal.invariant-loop-word
invariant-loop-word l = l.text.items ++ word_list l.leaving l.is_first l.left
    ≡ l.fn.text.items ++ word_list l.fn.leaving true words_by_name

abbrev pub decreases-loop-word : goal.decreases-loop-word
decreases-loop-word l = length l.left
