-- The line that tells of a difference: the way to a value, the value in the one file, and that in
-- the other.
use Rattle.std.specs.Prelude.{ℕ, ◌==◌, Bool, true, false, if◌then◌else◌, List, [], ◌++◌, Option, Some, None, codes, decimal}
use Rattle.std.specs.Fmt.{signed_decimal}
use Rattle.mp4_content.specs.declared.comparing.differences.Subject.{Subject}
use Rattle.mp4_content.specs.declared.comparing.differences.Subject.TheVariants as subjects
use Rattle.mp4_content.specs.declared.comparing.differences.Entries.{Entries}
use Rattle.mp4_content.specs.declared.comparing.differences.Entries.TheVariants as entries
use Rattle.mp4_content.specs.declared.comparing.differences.Part.{Part}
use Rattle.mp4_content.specs.declared.comparing.differences.Part.TheVariants as parts
use Rattle.mp4_content.specs.declared.comparing.differences.Field.{Field}
use Rattle.mp4_content.specs.declared.comparing.differences.Field.TheVariants as fields
use Rattle.mp4_content.specs.declared.comparing.differences.Value.{Value}
use Rattle.mp4_content.specs.declared.comparing.differences.Value.TheVariants as values
use Rattle.mp4_content.specs.declared.comparing.differences.Difference.{Difference}
use Rattle.mp4_answers.specs.format.Texts.{hex_digits, type_text, space, line_feed}

-- ---- the way

abbrev pub subject_text : Subject → List ℕ
subject_text subjects.Movie = codes "movie: "
subject_text (subjects.Track n) = codes "track " ++ decimal n ++ codes ": "
subject_text (subjects.Sample n k) = codes "track " ++ decimal n ++ codes ": sample " ++ decimal k
    ++ codes ": "

-- what one entry of a list is called, and several
abbrev pub entry_name : Entries → List ℕ
entry_name entries.Edits = codes "edit"
entry_name entries.Kept = codes "kept box"
entry_name entries.Handler = codes "handler"
entry_name entries.ExtendedLanguages = codes "extended language"
entry_name entries.MediaHeader = codes "media header"
entry_name entries.Descriptions = codes "description"
entry_name entries.GroupDescriptions = codes "group description"

abbrev pub entries_name : Entries → List ℕ
entries_name entries.Edits = codes "edits"
entries_name entries.Kept = codes "kept boxes"
entries_name entries.Handler = codes "handlers"
entries_name entries.ExtendedLanguages = codes "extended languages"
entries_name entries.MediaHeader = codes "media headers"
entries_name entries.Descriptions = codes "descriptions"
entries_name entries.GroupDescriptions = codes "group descriptions"

-- a track has one handler and one media header, and these have no number
abbrev pub is_numbered : Entries → Bool
is_numbered entries.Handler = false
is_numbered entries.MediaHeader = false
is_numbered _ = true

abbrev pub entry_number : Entries → ℕ → List ℕ
entry_number list n = if is_numbered list then space ++ decimal n else []

-- a byte of so many
abbrev pub byte_text : ℕ → ℕ → List ℕ
byte_text n count = codes "byte " ++ decimal n ++ codes " of " ++ decimal count ++ codes ":"

abbrev pub part_text : Part → List ℕ
part_text parts.Kind = codes "type"
part_text parts.Length = codes "bytes"
part_text (parts.Byte n count) = byte_text n count
part_text parts.SegmentDuration = codes "segment duration"
part_text parts.MediaTime = codes "media time"
part_text parts.RateInteger = codes "rate integer"
part_text parts.RateFraction = codes "rate fraction"

abbrev pub parameter_after : Option ℕ → List ℕ
parameter_after None = []
parameter_after (Some n) = space ++ decimal n

-- the name of a value; those with numbers have more of a way, below
abbrev pub field_name : Field → List ℕ
field_name fields.Creation = codes "creation time"
field_name fields.Modification = codes "modification time"
field_name fields.Timescale = codes "timescale"
field_name fields.Rate = codes "rate"
field_name fields.Volume = codes "volume"
field_name fields.Tracks = codes "tracks"
field_name fields.Flags = codes "flags"
field_name fields.Id = codes "id"
field_name fields.Layer = codes "layer"
field_name fields.AlternateGroup = codes "alternate group"
field_name fields.Width = codes "width"
field_name fields.Height = codes "height"
field_name fields.MediaCreation = codes "media creation time"
field_name fields.MediaModification = codes "media modification time"
field_name fields.MediaTimescale = codes "timescale"
field_name fields.Language = codes "language"
field_name fields.Start = codes "start"
field_name fields.Samples = codes "samples"
field_name fields.Duration = codes "duration"
field_name fields.Offset = codes "offset"
field_name fields.Description = codes "description"
field_name fields.Size = codes "size"
field_name _ = []

abbrev pub field_text : Field → List ℕ
field_text (fields.Matrix n) = codes "matrix entry " ++ decimal n
field_text (fields.Count list) = entries_name list
field_text (fields.Entry list n part) = entry_name list ++ entry_number list n ++ codes ": "
    ++ part_text part
field_text (fields.Group key) = codes "group " ++ type_text key.kind.0
    ++ parameter_after key.parameter ++ codes ":"
field_text (fields.Byte n count) = byte_text n count
field_text field = field_name field

-- ---- values

-- how many hexadecimal digits a number of this field has; 0 for decimal ones
abbrev pub digits_of : Subject → Field → ℕ
digits_of (subjects.Sample n k) fields.Flags = 8
digits_of _ fields.Flags = 6
digits_of _ fields.Language = 4
digits_of _ _ = 0

abbrev pub number_text : ℕ → ℕ → List ℕ
number_text digits n = if digits == 0 then decimal n else hex_digits digits n

abbrev pub value_text : ℕ → Value → List ℕ
value_text digits (values.Number n) = number_text digits n
value_text digits (values.Signed n) = signed_decimal n
value_text digits (values.Kind kind) = type_text kind.0
value_text digits (values.Byte n) = hex_digits 2 n

-- ---- the line

abbrev pub difference_text : Difference → List ℕ
difference_text d = subject_text d.subject ++ field_text d.field ++ space
    ++ value_text (digits_of d.subject d.field) d.left ++ codes " | "
    ++ value_text (digits_of d.subject d.field) d.right

abbrev pub difference_line : Difference → List ℕ
difference_line d = difference_text d ++ line_feed
