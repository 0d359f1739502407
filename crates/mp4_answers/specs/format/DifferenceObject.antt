-- The objects of JSON that tell of differences (RFC 8259), each a line: keys in order of their
-- bytes, types and lines as strings.
use Rattle.std.specs.Prelude.{ℕ, ◌==◌, ◌||◌, ◌&&◌, not, Bool, true, if◌then◌else◌, List, [], ◌∷◌, ◌++◌, length, flat_map, Option, Some, None, codes, decimal}
use Rattle.std.specs.Fmt.{signed_decimal}
use Rattle.mp4_content.specs.declared.comparing.differences.Subject.{Subject}
use Rattle.mp4_content.specs.declared.comparing.differences.Subject.TheVariants as subjects
use Rattle.mp4_content.specs.declared.comparing.differences.Part.{Part}
use Rattle.mp4_content.specs.declared.comparing.differences.Part.TheVariants as parts
use Rattle.mp4_content.specs.declared.comparing.differences.Field.{Field}
use Rattle.mp4_content.specs.declared.comparing.differences.Field.TheVariants as fields
use Rattle.mp4_content.specs.declared.comparing.differences.Value.{Value}
use Rattle.mp4_content.specs.declared.comparing.differences.Value.TheVariants as values
use Rattle.mp4_content.specs.declared.comparing.differences.DecodeTime.{DecodeTime}
use Rattle.mp4_content.specs.declared.comparing.differences.Difference.{Difference}
use Rattle.mp4_content.specs.declared.without.Word.{Word}
use Rattle.mp4_content.specs.declared.without.Word.TheVariants as words
use Rattle.mp4_content.specs.declared.without.Without.{Without}
use Rattle.mp4_content.specs.format.Words.{has, word_name}
use Rattle.mp4_answers.specs.declared.text.tally.DifferenceKind.{DifferenceKind}
use Rattle.mp4_answers.specs.declared.text.tally.DifferenceKind.TheVariants as kinds
use Rattle.mp4_answers.specs.format.Texts.{hex_digits, type_text, line_feed}
use Rattle.mp4_answers.specs.format.DifferenceLine.{entry_name, entries_name, is_numbered, field_name, digits_of, difference_text}
use Rattle.mp4_answers.specs.format.LastLine.{kind_name, kind_of_difference, count_of_kind}

-- ---- strings

abbrev pub quote : List ℕ
quote = 34 ∷ []

-- printable characters within a string: a backslash before a quotation mark and a backslash
abbrev pub escaped : List ℕ → List ℕ
escaped text = flat_map (λ b. if (b == 34) || (b == 92) then 92 ∷ b ∷ [] else b ∷ []) text

abbrev pub type_string : List ℕ → List ℕ
type_string kind = quote ++ escaped (type_text kind) ++ quote

-- ---- the steps to a value

unfoldable pub word_step : List ℕ → List ℕ
word_step word = codes ",\"" ++ word ++ quote

abbrev pub number_step : ℕ → List ℕ
number_step n = codes "," ++ decimal n

abbrev pub subject_steps : Subject → List ℕ
subject_steps subjects.Movie = codes "\"movie\""
subject_steps (subjects.Track n) = codes "\"track\"," ++ decimal n
subject_steps (subjects.Sample n k) = codes "\"track\"," ++ decimal n ++ codes ",\"sample\","
    ++ decimal k

abbrev pub byte_steps : ℕ → List ℕ
byte_steps n = codes ",\"byte\"," ++ decimal n

abbrev pub part_steps : Part → List ℕ
part_steps (parts.Byte n count) = byte_steps n
part_steps parts.Kind = word_step (codes "type")
part_steps parts.Length = word_step (codes "bytes")
part_steps parts.SegmentDuration = word_step (codes "segment duration")
part_steps parts.MediaTime = word_step (codes "media time")
part_steps parts.RateInteger = word_step (codes "rate integer")
part_steps parts.RateFraction = word_step (codes "rate fraction")

abbrev pub parameter_step : Option ℕ → List ℕ
parameter_step None = []
parameter_step (Some n) = number_step n

abbrev pub field_steps : Field → List ℕ
field_steps (fields.Matrix n) = word_step (codes "matrix entry") ++ number_step n
field_steps (fields.Count list) = word_step (entries_name list)
field_steps (fields.Entry list n part) = word_step (entry_name list)
    ++ (if is_numbered list then number_step n else []) ++ part_steps part
field_steps (fields.Group key) = codes ",\"group\"," ++ type_string key.kind.0
    ++ parameter_step key.parameter
field_steps (fields.Byte n count) = byte_steps n
field_steps field = word_step (field_name field)

-- ---- values

-- a number in decimal digits as it is, any other value as a string
abbrev pub number_value : ℕ → ℕ → List ℕ
number_value digits n = if digits == 0 then decimal n else quote ++ hex_digits digits n ++ quote

abbrev pub json_value : ℕ → Value → List ℕ
json_value digits (values.Number n) = number_value digits n
json_value digits (values.Signed n) = signed_decimal n
json_value digits (values.Kind kind) = type_string kind.0
json_value digits (values.Byte n) = quote ++ hex_digits 2 n ++ quote

-- of how many bytes it is one
abbrev pub of_member : Field → List ℕ
of_member (fields.Byte n count) = codes ",\"of\":" ++ decimal count
of_member (fields.Entry list i (parts.Byte n count)) = codes ",\"of\":" ++ decimal count
of_member _ = []

-- ---- a difference

-- the value in the one file, the steps to it, the value in the other
abbrev pub value_members : Difference → List ℕ
value_members d = codes "{\"a\":" ++ json_value (digits_of d.subject d.field) d.left
    ++ codes ",\"at\":[" ++ subject_steps d.subject ++ field_steps d.field
    ++ codes "],\"b\":" ++ json_value (digits_of d.subject d.field) d.right

-- what kind of difference it is, its line, and of a byte, of how many
abbrev pub line_members : Difference → List ℕ
line_members d = codes ",\"kind\":\"" ++ kind_name (kind_of_difference d)
    ++ codes "\",\"line\":\"" ++ escaped (difference_text d) ++ quote ++ of_member d.field

-- a fraction: so many parts of a second over how many a second has, as the file has them
abbrev pub fraction_member : DecodeTime → List ℕ
fraction_member t = codes ",\"seconds\":\"" ++ decimal t.time ++ codes "/" ++ decimal t.timescale
    ++ quote

-- when the sample is decoded that it is of
abbrev pub seconds_member : Option DecodeTime → List ℕ
seconds_member None = []
seconds_member (Some t) = fraction_member t

abbrev pub end_members : Option DecodeTime → List ℕ
end_members time = seconds_member time ++ codes "}" ++ line_feed

abbrev pub difference_object : Option DecodeTime → Difference → List ℕ
difference_object time d = value_members d ++ line_members d ++ end_members time

-- ---- all of them

abbrev pub kinds_by_name : List DifferenceKind
kinds_by_name = kinds.Bytes ∷ kinds.Edits ∷ kinds.Flags ∷ kinds.Groups ∷ kinds.Heads ∷ kinds.Kept
    ∷ kinds.Samples ∷ kinds.Times ∷ []

-- the count of a kind, where it isn't 0; each but the first stands behind a comma
unfoldable pub count_member : Bool → DifferenceKind → List Difference → List ℕ
count_member first kind ds = if count_of_kind kind ds == 0 then []
    else (if first then codes "\"" else codes ",\"") ++ kind_name kind ++ codes "\":"
    ++ decimal (count_of_kind kind ds)

abbrev pub count_members : Bool → List DifferenceKind → List Difference → List ℕ
count_members first [] ds = []
count_members first (kind ∷ more) ds = count_member first kind ds
    ++ count_members (first && (count_of_kind kind ds == 0)) more ds

-- all words in the order of their bytes
abbrev pub words_by_name : List Word
words_by_name = words.Bitrates ∷ words.Edits ∷ words.Ends ∷ words.Flags ∷ words.Groups
    ∷ words.Ids ∷ words.Labels ∷ words.LeadIns ∷ words.Metadata ∷ words.Origins ∷ words.Roles
    ∷ words.Times ∷ words.Timescales ∷ words.Timing ∷ []

-- those of some words that are left out
abbrev pub word_list : Without → Bool → List Word → List ℕ
word_list l first [] = []
word_list l first (word ∷ more) =
    (if has l word then (if first then codes "\"" else codes ",\"") ++ word_name word ++ quote
    else []) ++ word_list l (first && not (has l word)) more

-- the words that leave these out
abbrev pub leaving_list : Without → List ℕ
leaving_list l = word_list l true words_by_name

abbrev pub enough_value : Option Without → List ℕ
enough_value (Some l) = codes "[" ++ leaving_list l ++ codes "]"
enough_value None = codes "null"

-- whether there may be more
abbrev pub totals_front : Bool → List ℕ
totals_front whole = if whole then codes "{\"at_least\":false,\"differences\":"
    else codes "{\"at_least\":true,\"differences\":"

-- how many there are, and how many of which kinds
abbrev pub total_members : Bool → List Difference → List ℕ
total_members whole ds = totals_front whole ++ decimal (length ds) ++ codes ",\"kinds\":{"
    ++ count_members true kinds_by_name ds

abbrev pub last_object : Bool → List Difference → Option Without → List ℕ
last_object whole ds enough = total_members whole ds
    ++ codes "},\"without\":" ++ enough_value enough ++ codes "}" ++ line_feed
