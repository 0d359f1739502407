use Rattle.std.proofs.Common.{◌≡◌, ◌++◌, length}
use Rattle.std.specs.Prelude.{true}
use Rattle.mp4_content.specs.format.Words.{all_words}
use Rattle.mp4_answers.specs.format.LastLine.{words_text}
use Rattle.mp4_answers.proofs.text.tally.say_words.Given as goal

-- the text, with the words that come, is the text with all
abbrev pub invariant-loop-word : goal.invariant-loop-word
invariant-loop-word l = l.text.items ++ words_text l.leaving l.is_first l.left
    ≡ l.fn.text.items ++ words_text l.fn.leaving true all_words

abbrev pub decreases-loop-word : goal.decreases-loop-word
decreases-loop-word l = length l.left
