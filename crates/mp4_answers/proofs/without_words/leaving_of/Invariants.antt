use Rattle.std.proofs.Common.{◌≡◌, Some, length}
use Rattle.mp4_answers.specs.format.WordLists.{also, leaving_of, words_meant, words_of}
use Rattle.mp4_answers.proofs.without_words.leaving_of.Given as goal

-- what was left out so far, and what the words that are left leave out, is what the list leaves out
abbrev pub invariant-loop-leaving : goal.invariant-loop-leaving
invariant-loop-leaving l = also (Some l.leaving) (words_meant (words_of l.left)) ≡ leaving_of l.fn.list

abbrev pub decreases-loop-leaving : goal.decreases-loop-leaving
decreases-loop-leaving l = length l.left
