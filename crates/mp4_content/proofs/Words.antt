-- Sets of words are what they have.
use Rattle.std.proofs.Common.{◌≡◌, ◌==◌, Bool, true, Some, refl, sym, ap, ◌∙◌}
use Rattle.std.specs.Prelude.{slice_get}
use Rattle.std.proofs.lemmas.Bool.{eqb-true}
use Rattle.mp4_content.specs.declared.without.Word.{Word}
use Rattle.mp4_content.specs.declared.without.Word.TheVariants as words
use Rattle.mp4_content.specs.declared.without.Without.{Without}
use Rattle.mp4_content.specs.format.Words.{all_words, each, has, word_number, EachHas, SameWords}

-- what is so of each word
pub by_words : (P : Word → Type 0) → P words.Times → P words.Edits → P words.Flags → P words.Groups → P words.Metadata → P words.Bitrates → P words.Ends → P words.Origins → P words.Labels → P words.Timing → P words.Roles → P words.Ids → P words.Timescales → P words.LeadIns → (word : Word) → P word
by_words P a b c d e f g h i j k m n o words.Times = a
by_words P a b c d e f g h i j k m n o words.Edits = b
by_words P a b c d e f g h i j k m n o words.Flags = c
by_words P a b c d e f g h i j k m n o words.Groups = d
by_words P a b c d e f g h i j k m n o words.Metadata = e
by_words P a b c d e f g h i j k m n o words.Bitrates = f
by_words P a b c d e f g h i j k m n o words.Ends = g
by_words P a b c d e f g h i j k m n o words.Origins = h
by_words P a b c d e f g h i j k m n o words.Labels = i
by_words P a b c d e f g h i j k m n o words.Timing = j
by_words P a b c d e f g h i j k m n o words.Roles = k
by_words P a b c d e f g h i j k m n o words.Ids = m
by_words P a b c d e f g h i j k m n o words.Timescales = n
by_words P a b c d e f g h i j k m n o words.LeadIns = o

pub each_has : EachHas
each_has is_so = by_words (λ word. has (each is_so) word ≡ is_so word) refl refl refl refl refl refl refl refl refl refl refl refl refl refl

-- those that have each word of which this is so, and no other
pub each_is : (l : Without) (is_so : Word → Bool) → ((word : Word) → has l word ≡ is_so word) → l ≡ each is_so
each_is l is_so h = λ i. each (λ word. h word i)

pub same_words : SameWords
same_words l m h = each_is l (has m) h

-- words are told apart by their numbers
numbered : (word : Word) → slice_get all_words (word_number word) ≡ Some word
numbered = by_words (λ word. slice_get all_words (word_number word) ≡ Some word) refl refl refl refl refl refl refl refl refl refl refl refl refl refl

pub same_number : (v w : Word) → (word_number v == word_number w) ≡ true → v ≡ w
same_number v w e =
    let some : Some v ≡ Some w = sym (numbered v) ∙ ap (slice_get all_words) (eqb-true (word_number v) (word_number w) e) ∙ numbered w in cc
