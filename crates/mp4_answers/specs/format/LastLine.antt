-- The line that ends a list of all differences: how many there are, of which kinds, and what has to
-- be left out for two files to be the same.
use Rattle.std.specs.Prelude.{ℕ, ◌==◌, ◌&&◌, not, Bool, true, if◌then◌else◌, List, [], ◌∷◌, ◌++◌, length, Option, Some, None, codes, decimal}
use Rattle.std.specs.List.{count_by}
use Rattle.mp4_content.specs.declared.comparing.differences.Subject.{Subject}
use Rattle.mp4_content.specs.declared.comparing.differences.Subject.TheVariants as subjects
use Rattle.mp4_content.specs.declared.comparing.differences.Entries.{Entries}
use Rattle.mp4_content.specs.declared.comparing.differences.Entries.TheVariants as entries
use Rattle.mp4_content.specs.declared.comparing.differences.Field.{Field}
use Rattle.mp4_content.specs.declared.comparing.differences.Field.TheVariants as fields
use Rattle.mp4_content.specs.declared.comparing.differences.Difference.{Difference}
use Rattle.mp4_content.specs.declared.without.Word.{Word}
use Rattle.mp4_content.specs.declared.without.Without.{Without}
use Rattle.mp4_content.specs.format.Words.{all_words, has, word_name}
use Rattle.mp4_answers.specs.declared.text.tally.DifferenceKind.{DifferenceKind}
use Rattle.mp4_answers.specs.declared.text.tally.DifferenceKind.TheVariants as kinds
use Rattle.mp4_answers.specs.format.Texts.{space, line_feed}

-- ---- kinds of differences

abbrev pub kind_name : DifferenceKind → List ℕ
kind_name kinds.Times = codes "times"
kind_name kinds.Edits = codes "edits"
kind_name kinds.Flags = codes "flags"
kind_name kinds.Groups = codes "groups"
kind_name kinds.Kept = codes "kept"
kind_name kinds.Heads = codes "heads"
kind_name kinds.Samples = codes "samples"
kind_name kinds.Bytes = codes "bytes"

abbrev pub all_kinds : List DifferenceKind
all_kinds = kinds.Times ∷ kinds.Edits ∷ kinds.Flags ∷ kinds.Groups ∷ kinds.Kept ∷ kinds.Heads
    ∷ kinds.Samples ∷ kinds.Bytes ∷ []

-- their place in this order, by which they are told apart
abbrev pub kind_place : DifferenceKind → ℕ
kind_place kinds.Times = 0
kind_place kinds.Edits = 1
kind_place kinds.Flags = 2
kind_place kinds.Groups = 3
kind_place kinds.Kept = 4
kind_place kinds.Heads = 5
kind_place kinds.Samples = 6
kind_place kinds.Bytes = 7

abbrev pub kind_of_entries : Entries → DifferenceKind
kind_of_entries entries.Edits = kinds.Edits
kind_of_entries entries.Kept = kinds.Kept
kind_of_entries entries.GroupDescriptions = kinds.Groups
kind_of_entries _ = kinds.Heads

-- flags of a track are a field like any other
abbrev pub kind_of_flags : Subject → DifferenceKind
kind_of_flags (subjects.Sample n k) = kinds.Flags
kind_of_flags _ = kinds.Heads

abbrev pub kind_of_others : Subject → DifferenceKind
kind_of_others (subjects.Sample n k) = kinds.Samples
kind_of_others _ = kinds.Heads

abbrev pub kind_of_field : Subject → Field → DifferenceKind
kind_of_field of fields.Creation = kinds.Times
kind_of_field of fields.Modification = kinds.Times
kind_of_field of fields.MediaCreation = kinds.Times
kind_of_field of fields.MediaModification = kinds.Times
kind_of_field of (fields.Count list) = kind_of_entries list
kind_of_field of (fields.Entry list n part) = kind_of_entries list
kind_of_field of (fields.Group key) = kinds.Groups
kind_of_field of (fields.Byte n count) = kinds.Bytes
kind_of_field of fields.Start = kinds.Samples
kind_of_field of fields.Samples = kinds.Samples
kind_of_field of fields.Flags = kind_of_flags of
kind_of_field of _ = kind_of_others of

abbrev pub kind_of_difference : Difference → DifferenceKind
kind_of_difference d = kind_of_field d.subject d.field

-- how many of these are of a kind
abbrev pub count_of_kind : DifferenceKind → List Difference → ℕ
count_of_kind kind ds = count_by (λ d. kind_place (kind_of_difference d) == kind_place kind) ds

-- ---- the line

-- what stands before the number of differences, and behind it
abbrev pub total_front : Bool → List ℕ
total_front whole = if whole then [] else codes "at least "

abbrev pub total_end : ℕ → List ℕ
total_end count = if count == 1 then codes " difference" else codes " differences"

-- the count of a kind, where it isn't 0; the first stands behind other words
unfoldable pub count_text : Bool → DifferenceKind → List Difference → List ℕ
count_text first kind ds = if count_of_kind kind ds == 0 then []
    else (if first then codes ": " else codes ", ") ++ kind_name kind ++ space
    ++ decimal (count_of_kind kind ds)

abbrev pub counts_text : Bool → List DifferenceKind → List Difference → List ℕ
counts_text first [] ds = []
counts_text first (kind ∷ more) ds = count_text first kind ds
    ++ counts_text (first && (count_of_kind kind ds == 0)) more ds

-- those of some words that are left out; the first stands behind other words
abbrev pub words_text : Without → Bool → List Word → List ℕ
words_text l first [] = []
words_text l first (word ∷ more) =
    (if has l word then (if first then codes " " else codes ",") ++ word_name word else [])
    ++ words_text l (first && not (has l word)) more

-- the words that leave these out
abbrev pub leaving_text : Without → List ℕ
leaving_text l = words_text l true all_words

-- with which words the files are the same, or that there are none
abbrev pub enough_text : Option Without → List ℕ
enough_text (Some l) = codes "; the same --without" ++ leaving_text l
enough_text None = codes "; no words of --without make them the same"

abbrev pub last_line : Bool → List Difference → Option Without → List ℕ
last_line whole ds enough = total_front whole ++ decimal (length ds) ++ total_end (length ds)
    ++ counts_text true all_kinds ds ++ enough_text enough ++ line_feed
