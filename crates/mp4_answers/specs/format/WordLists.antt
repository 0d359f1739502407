-- Lists of words of `--without`: what they leave out.
use Rattle.std.specs.Prelude.{◌≡◌, ℕ, ◌==◌, Bool, List, [], ◌∷◌, ◌++◌, false, if◌then◌else◌, Option, None, Some, option_map, codes, bytes_eq}
use Rattle.std.specs.List.{list_any}
use Rattle.mp4_content.specs.declared.without.Word.{Word}
use Rattle.mp4_content.specs.declared.without.Word.TheVariants as words
use Rattle.mp4_content.specs.declared.without.Without.{Without}
use Rattle.mp4_content.specs.format.Words.{all_words, each, word_name, word_number}
use Rattle.mp4_content.specs.format.ReducedLaws.{both, nothing}
use Rattle.mp4_answers.specs.format.LastLine.{leaving_text}

-- ---- words

-- the one of this name among some words
abbrev pub named_in : List Word → List ℕ → Option Word
named_in [] name = None
named_in (word ∷ more) name =
    if bytes_eq name (word_name word) then Some word else named_in more name

-- the words of the named sets: what changes when the same media are packed another way, and all
-- that there were with these
abbrev pub packaging_1 : List Word
packaging_1 = words.Times ∷ words.Edits ∷ words.Flags ∷ words.Groups ∷ words.Metadata
    ∷ words.Bitrates ∷ words.Ends ∷ words.Origins ∷ []

abbrev pub media_1 : List Word
media_1 = packaging_1 ++ words.Labels ∷ words.Timing ∷ []

-- the same, but that these keep how long each track waits; and with names for people
abbrev pub packaging_2 : List Word
packaging_2 = words.Times ∷ words.Flags ∷ words.Groups ∷ words.Metadata ∷ words.Bitrates
    ∷ words.Ends ∷ words.Roles ∷ words.Ids ∷ words.Timescales ∷ words.LeadIns ∷ []

abbrev pub media_2 : List Word
media_2 = words.Times ∷ words.Flags ∷ words.Groups ∷ words.Metadata ∷ words.Bitrates
    ∷ words.Ends ∷ words.Labels ∷ words.Roles ∷ words.Ids ∷ words.Timescales
    ∷ words.LeadIns ∷ []

abbrev pub set_named : List ℕ → Option (List Word)
set_named name = if bytes_eq name (codes "packaging-1") then Some packaging_1
    else if bytes_eq name (codes "media-1") then Some media_1
    else if bytes_eq name (codes "packaging-2") then Some packaging_2
    else if bytes_eq name (codes "media-2") then Some media_2 else None

-- what some words leave out
abbrev pub is_listed : List Word → Word → Bool
is_listed listed word = list_any (λ one. word_number one == word_number word) listed

abbrev pub only_these : List Word → Without
only_these listed = each (is_listed listed)

-- what a word leaves out, or a named set; none where the name is of neither
abbrev pub meant_by : Option Word → Option (List Word) → Option Without
meant_by (Some word) set = Some (only_these (word ∷ []))
meant_by None set = option_map only_these set

abbrev pub word_meant : List ℕ → Option Without
word_meant name = meant_by (named_in all_words name) (set_named name)

-- ---- lists of them

-- the words between commas, of which an empty one is one too
abbrev pub put_first : ℕ → List (List ℕ) → List (List ℕ)
put_first byte [] = []
put_first byte (word ∷ words) = (byte ∷ word) ∷ words

abbrev pub words_of : List ℕ → List (List ℕ)
words_of [] = [] ∷ []
words_of (byte ∷ bytes) =
    if byte == 44 then [] ∷ words_of bytes else put_first byte (words_of bytes)

-- what one of two leaves out; none where one of them is none
abbrev pub also : Option Without → Option Without → Option Without
also None other = None
also (Some l) None = None
also (Some l) (Some m) = Some (both l m)

abbrev pub words_meant : List (List ℕ) → Option Without
words_meant [] = Some nothing
words_meant (word ∷ words) = also (word_meant word) (words_meant words)

-- what a list leaves out; none where one of its words is not known
abbrev pub leaving_of : List ℕ → Option Without
leaving_of list = words_meant (words_of list)

-- ---- laws of them

-- What is printed of what is left out is, behind a space, a list that leaves the same out.
abbrev pub WordsReadBack : Type 0
WordsReadBack = (l : Without) → (l ≡ nothing → ⊥)
    → (list : List ℕ) × (leaving_text l ≡ codes " " ++ list) × (leaving_of list ≡ Some l)

-- Each list leaves something out.
abbrev pub ListsLeaveOut : Type 0
ListsLeaveOut = (list : List ℕ) → leaving_of list ≡ Some nothing → ⊥

-- ---- a word and what stands behind it

-- this part stands in front of the first such byte, and the rest behind it
abbrev pub IsCut : ℕ → List ℕ → List ℕ → Option (List ℕ) → Type 0
IsCut at bytes front None = (front ≡ bytes) × (list_any (λ b. b == at) front ≡ false)
IsCut at bytes front (Some rest) = (bytes ≡ front ++ at ∷ rest)
    × (list_any (λ b. b == at) front ≡ false)
