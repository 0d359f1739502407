-- Words that say what doesn't count, and sets of them.
use Rattle.std.specs.Prelude.{◌≡◌, ℕ, Bool, List, [], ◌∷◌, codes}
use Rattle.mp4_content.specs.declared.without.Word.{Word}
use Rattle.mp4_content.specs.declared.without.Word.TheVariants as words
use Rattle.mp4_content.specs.declared.without.Without.{Without}

-- all words, in the order in which they are told of
abbrev pub all_words : List Word
all_words = words.Times ∷ words.Edits ∷ words.Flags ∷ words.Groups ∷ words.Metadata
    ∷ words.Bitrates ∷ words.Ends ∷ words.Origins ∷ words.Labels ∷ words.Timing ∷ words.Roles
    ∷ words.Ids ∷ words.Timescales ∷ words.LeadIns ∷ []

-- the place of a word among these
abbrev pub word_number : Word → ℕ
word_number words.Times = 0
word_number words.Edits = 1
word_number words.Flags = 2
word_number words.Groups = 3
word_number words.Metadata = 4
word_number words.Bitrates = 5
word_number words.Ends = 6
word_number words.Origins = 7
word_number words.Labels = 8
word_number words.Timing = 9
word_number words.Roles = 10
word_number words.Ids = 11
word_number words.Timescales = 12
word_number words.LeadIns = 13

-- what each word is called
abbrev pub word_name : Word → List ℕ
word_name words.Times = codes "times"
word_name words.Edits = codes "edits"
word_name words.Flags = codes "flags"
word_name words.Groups = codes "groups"
word_name words.Metadata = codes "metadata"
word_name words.Bitrates = codes "bitrates"
word_name words.Ends = codes "ends"
word_name words.Origins = codes "origins"
word_name words.Labels = codes "labels"
word_name words.Timing = codes "timing"
word_name words.Roles = codes "roles"
word_name words.Ids = codes "ids"
word_name words.Timescales = codes "timescales"
word_name words.LeadIns = codes "lead-ins"

-- the word is among those that say what is left out
abbrev pub has : Without → Word → Bool
has l words.Times = l.times
has l words.Edits = l.edits
has l words.Flags = l.flags
has l words.Groups = l.groups
has l words.Metadata = l.metadata
has l words.Bitrates = l.bitrates
has l words.Ends = l.ends
has l words.Origins = l.origins
has l words.Labels = l.labels
has l words.Timing = l.timing
has l words.Roles = l.roles
has l words.Ids = l.ids
has l words.Timescales = l.timescales
has l words.LeadIns = l.lead_ins

-- the words of which this is so
abbrev pub each : (Word → Bool) → Without
each is_so = record {
  times = is_so words.Times;
  edits = is_so words.Edits;
  flags = is_so words.Flags;
  groups = is_so words.Groups;
  metadata = is_so words.Metadata;
  bitrates = is_so words.Bitrates;
  ends = is_so words.Ends;
  origins = is_so words.Origins;
  labels = is_so words.Labels;
  timing = is_so words.Timing;
  roles = is_so words.Roles;
  ids = is_so words.Ids;
  timescales = is_so words.Timescales;
  lead_ins = is_so words.LeadIns;
}

-- ---- laws of them

-- A word is among those of which this is so exactly where it is so of it.
abbrev pub EachHas : Type 0
EachHas = (is_so : Word → Bool) (word : Word) → has (each is_so) word ≡ is_so word

-- Where the same words are left out, the same is left out.
abbrev pub SameWords : Type 0
SameWords = (l m : Without) → ((word : Word) → has l word ≡ has m word) → l ≡ m
