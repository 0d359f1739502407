-- Words of `--without`, one by one.
use Rattle.std.specs.Prelude.{◌&&◌, ◌||◌, ◌==◌, not, true, List, [], ◌∷◌}
use Rattle.mp4_content.specs.declared.without.Word.{Word}
use Rattle.mp4_content.specs.declared.without.Word.TheVariants as words
use Rattle.mp4_content.specs.declared.without.Without.{Without}
use Rattle.mp4_content.specs.format.Words.{each, has, word_number}

-- all that can be left out
abbrev pub everything : Without
everything = each (λ word. true)

-- the words in the order in which they are taken away: `timing` before `ends`, `origins` and
-- `timescales`, which leave out less
abbrev pub single_words : List Word
single_words = words.Times ∷ words.Edits ∷ words.Flags ∷ words.Groups ∷ words.Metadata
    ∷ words.Bitrates ∷ words.Labels ∷ words.Timing ∷ words.Ends ∷ words.Origins
    ∷ words.Roles ∷ words.Ids ∷ words.Timescales ∷ words.LeadIns ∷ []

-- what is left out without one of the words, unless that one was given
abbrev pub less_word : Without → Without → Word → Without
less_word given l taken = each (λ word. has l word
    && (has given word || not (word_number word == word_number taken)))
