use Rattle.std.proofs.Common.{◌≡◌, length}
use Rattle.mp4_content.specs.format.Words.{all_words}
use Rattle.mp4_answers.specs.format.WordLists.{named_in}
use Rattle.mp4_answers.proofs.without_words.word_named.Given as goal

-- the word is the one among those that come
abbrev pub invariant-loop-word : goal.invariant-loop-word
invariant-loop-word l = named_in l.left l.name ≡ named_in all_words l.fn.name

abbrev pub decreases-loop-word : goal.decreases-loop-word
decreases-loop-word l = length l.left
