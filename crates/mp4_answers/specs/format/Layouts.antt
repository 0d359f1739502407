-- The fields of boxes, by their names in the standard (ISO/IEC 14496-12): a table, and what it says
-- of the first bytes of a box.
use Rattle.std.specs.Prelude.{ℕ, ◌+◌, ◌==◌, ◌&&◌, nat_le, nat_lt, not, bit_and, bytes_eq, if◌then◌else◌, Bool, true, false, List, [], ◌∷◌, length, Option, Some, None, codes}
use Rattle.std.specs.Option.{option_or}
use Rattle.mp4_boxes.specs.format.Bytes.{field}
use Rattle.mp4_answers.specs.declared.layouts.FieldKind.{FieldKind}
use Rattle.mp4_answers.specs.declared.layouts.FieldKind.TheVariants as kinds
use Rattle.mp4_answers.specs.declared.layouts.RowCount.{RowCount}
use Rattle.mp4_answers.specs.declared.layouts.RowCount.TheVariants as counts
use Rattle.mp4_answers.specs.declared.layouts.Versions.{Versions}
use Rattle.mp4_answers.specs.declared.layouts.Versions.TheVariants as versions
use Rattle.mp4_answers.specs.declared.layouts.LeafHead.{LeafHead}

-- ---- the table

-- a field: its name, how it is shown, how many bytes it has in version 0 and how many after it, and
-- the flag without which it isn't there; 0 where it always is
pub record Field : Type 0 where
  pub name : List ℕ
  pub kind : FieldKind
  pub short : ℕ
  pub long : ℕ
  pub flag : ℕ

-- what follows the fields of a box: nothing, rows, or bytes of this name that are kept
pub data Tail : Type 0 where
  nothing : Tail
  rows : RowCount → List Field → Tail
  kept : List ℕ → Tail

-- what a box of a type holds, in the versions that are known
pub record Layout : Type 0 where
  pub kind : List ℕ
  pub versions : Versions
  pub fields : List Field
  pub tail : Tail

abbrev pub layout : List ℕ → Versions → List Field → Tail → Layout
layout kind known fields tail =
    record { kind = kind; versions = known; fields = fields; tail = tail }

abbrev pub always : List ℕ → FieldKind → ℕ → Field
always name kind width =
    record { name = name; kind = kind; short = width; long = width; flag = 0 }

abbrev pub by_version : List ℕ → FieldKind → ℕ → ℕ → Field
by_version name kind short long =
    record { name = name; kind = kind; short = short; long = long; flag = 0 }

abbrev pub flagged : List ℕ → FieldKind → ℕ → ℕ → Field
flagged name kind width flag =
    record { name = name; kind = kind; short = width; long = width; flag = flag }

abbrev pub version_field : Field
version_field = always (codes "version") kinds.Number 1

abbrev pub flags_field : Field
flags_field = always (codes "flags") kinds.Hex 3

abbrev pub version_and_flags : List Field
version_and_flags = version_field ∷ flags_field ∷ []

abbrev pub counted : List Field
counted = version_field ∷ flags_field ∷ always (codes "entry_count") kinds.Number 4 ∷ []

abbrev pub brands : List Field
brands = always (codes "major_brand") kinds.Code 4
    ∷ always (codes "minor_version") kinds.Number 4 ∷ []

abbrev pub brand_row : List Field
brand_row = always (codes "compatible_brand") kinds.Code 4 ∷ []

abbrev pub sidx : List Field
sidx = version_field ∷ flags_field ∷ always (codes "reference_ID") kinds.Number 4
    ∷ always (codes "timescale") kinds.Number 4
    ∷ by_version (codes "earliest_presentation_time") kinds.Number 4 8
    ∷ by_version (codes "first_offset") kinds.Number 4 8 ∷ always (codes "reserved") kinds.Hex 2
    ∷ always (codes "reference_count") kinds.Number 2 ∷ []

abbrev pub mvhd : List Field
mvhd = version_field ∷ flags_field ∷ by_version (codes "creation_time") kinds.Number 4 8
    ∷ by_version (codes "modification_time") kinds.Number 4 8
    ∷ always (codes "timescale") kinds.Number 4 ∷ by_version (codes "duration") kinds.Number 4 8
    ∷ always (codes "rate") kinds.Signed 4 ∷ always (codes "volume") kinds.Signed 2
    ∷ always (codes "reserved") kinds.Hex 10 ∷ always (codes "matrix") kinds.Matrix 36
    ∷ always (codes "pre_defined") kinds.Hex 24 ∷ always (codes "next_track_ID") kinds.Number 4 ∷ []

abbrev pub tkhd : List Field
tkhd = version_field ∷ flags_field ∷ by_version (codes "creation_time") kinds.Number 4 8
    ∷ by_version (codes "modification_time") kinds.Number 4 8
    ∷ always (codes "track_ID") kinds.Number 4 ∷ always (codes "reserved_1") kinds.Hex 4
    ∷ by_version (codes "duration") kinds.Number 4 8 ∷ always (codes "reserved_2") kinds.Hex 8
    ∷ always (codes "layer") kinds.Signed 2 ∷ always (codes "alternate_group") kinds.Signed 2
    ∷ always (codes "volume") kinds.Signed 2 ∷ always (codes "reserved_3") kinds.Hex 2
    ∷ always (codes "matrix") kinds.Matrix 36 ∷ always (codes "width") kinds.Number 4
    ∷ always (codes "height") kinds.Number 4 ∷ []

abbrev pub edit_row : List Field
edit_row = by_version (codes "segment_duration") kinds.Number 4 8
    ∷ by_version (codes "media_time") kinds.Signed 4 8
    ∷ always (codes "media_rate_integer") kinds.Signed 2
    ∷ always (codes "media_rate_fraction") kinds.Signed 2 ∷ []

abbrev pub mdhd : List Field
mdhd = version_field ∷ flags_field ∷ by_version (codes "creation_time") kinds.Number 4 8
    ∷ by_version (codes "modification_time") kinds.Number 4 8
    ∷ always (codes "timescale") kinds.Number 4 ∷ by_version (codes "duration") kinds.Number 4 8
    ∷ always (codes "language") kinds.Hex 2 ∷ always (codes "pre_defined") kinds.Hex 2 ∷ []

abbrev pub hdlr : List Field
hdlr = version_field ∷ flags_field ∷ always (codes "pre_defined") kinds.Hex 4
    ∷ always (codes "handler_type") kinds.Code 4 ∷ always (codes "reserved") kinds.Hex 12 ∷ []

abbrev pub vmhd : List Field
vmhd = version_field ∷ flags_field ∷ always (codes "graphicsmode") kinds.Number 2
    ∷ always (codes "opcolor") kinds.Hex 6 ∷ []

abbrev pub smhd : List Field
smhd = version_field ∷ flags_field ∷ always (codes "balance") kinds.Signed 2
    ∷ always (codes "reserved") kinds.Hex 2 ∷ []

abbrev pub hmhd : List Field
hmhd = version_field ∷ flags_field ∷ always (codes "maxPDUsize") kinds.Number 2
    ∷ always (codes "avgPDUsize") kinds.Number 2 ∷ always (codes "maxbitrate") kinds.Number 4
    ∷ always (codes "avgbitrate") kinds.Number 4 ∷ always (codes "reserved") kinds.Hex 4 ∷ []

abbrev pub stts_row : List Field
stts_row = always (codes "sample_count") kinds.Number 4
    ∷ always (codes "sample_delta") kinds.Number 4 ∷ []

abbrev pub ctts_row : List Field
ctts_row = always (codes "sample_count") kinds.Number 4
    ∷ always (codes "sample_offset") kinds.Offset 4 ∷ []

abbrev pub cslg : List Field
cslg = version_field ∷ flags_field ∷ by_version (codes "compositionToDTSShift") kinds.Signed 4 8
    ∷ by_version (codes "leastDecodeToDisplayDelta") kinds.Signed 4 8
    ∷ by_version (codes "greatestDecodeToDisplayDelta") kinds.Signed 4 8
    ∷ by_version (codes "compositionStartTime") kinds.Signed 4 8
    ∷ by_version (codes "compositionEndTime") kinds.Signed 4 8 ∷ []

abbrev pub stsc_row : List Field
stsc_row = always (codes "first_chunk") kinds.Number 4
    ∷ always (codes "samples_per_chunk") kinds.Number 4
    ∷ always (codes "sample_description_index") kinds.Number 4 ∷ []

abbrev pub stsz : List Field
stsz = version_field ∷ flags_field ∷ always (codes "sample_size") kinds.Number 4
    ∷ always (codes "sample_count") kinds.Number 4 ∷ []

abbrev pub stz2 : List Field
stz2 = version_field ∷ flags_field ∷ always (codes "reserved") kinds.Hex 3
    ∷ always (codes "field_size") kinds.Number 1 ∷ always (codes "sample_count") kinds.Number 4 ∷ []

abbrev pub sbgp : List Field
sbgp = version_field ∷ flags_field ∷ always (codes "grouping_type") kinds.Code 4
    ∷ by_version (codes "grouping_type_parameter") kinds.Number 0 4
    ∷ always (codes "entry_count") kinds.Number 4 ∷ []

abbrev pub group_row : List Field
group_row = always (codes "sample_count") kinds.Number 4
    ∷ always (codes "group_description_index") kinds.Number 4 ∷ []

abbrev pub sgpd : List Field
sgpd = version_field ∷ flags_field ∷ always (codes "grouping_type") kinds.Code 4
    ∷ by_version (codes "default_length") kinds.Number 0 4
    ∷ always (codes "entry_count") kinds.Number 4 ∷ []

abbrev pub mehd : List Field
mehd = version_field ∷ flags_field ∷ by_version (codes "fragment_duration") kinds.Number 4 8 ∷ []

abbrev pub trex : List Field
trex = version_field ∷ flags_field ∷ always (codes "track_ID") kinds.Number 4
    ∷ always (codes "default_sample_description_index") kinds.Number 4
    ∷ always (codes "default_sample_duration") kinds.Number 4
    ∷ always (codes "default_sample_size") kinds.Number 4
    ∷ always (codes "default_sample_flags") kinds.Hex 4 ∷ []

abbrev pub mfhd : List Field
mfhd = version_field ∷ flags_field ∷ always (codes "sequence_number") kinds.Number 4 ∷ []

abbrev pub tfhd : List Field
tfhd = version_field ∷ flags_field ∷ always (codes "track_ID") kinds.Number 4
    ∷ flagged (codes "base_data_offset") kinds.Number 8 0x000001
    ∷ flagged (codes "sample_description_index") kinds.Number 4 0x000002
    ∷ flagged (codes "default_sample_duration") kinds.Number 4 0x000008
    ∷ flagged (codes "default_sample_size") kinds.Number 4 0x000010
    ∷ flagged (codes "default_sample_flags") kinds.Hex 4 0x000020 ∷ []

abbrev pub tfdt : List Field
tfdt = version_field ∷ flags_field ∷ by_version (codes "baseMediaDecodeTime") kinds.Number 4 8 ∷ []

abbrev pub trun : List Field
trun = version_field ∷ flags_field ∷ always (codes "sample_count") kinds.Number 4
    ∷ flagged (codes "data_offset") kinds.Signed 4 0x000001
    ∷ flagged (codes "first_sample_flags") kinds.Hex 4 0x000004 ∷ []

abbrev pub sample_row : List Field
sample_row = flagged (codes "sample_duration") kinds.Number 4 0x000100
    ∷ flagged (codes "sample_size") kinds.Number 4 0x000200
    ∷ flagged (codes "sample_flags") kinds.Hex 4 0x000400
    ∷ flagged (codes "sample_composition_time_offset") kinds.Offset 4 0x000800 ∷ []

abbrev pub size_row : List Field
size_row = always (codes "entry_size") kinds.Number 4 ∷ []

abbrev pub chunk_row : List Field
chunk_row = always (codes "chunk_offset") kinds.Number 4 ∷ []

abbrev pub long_chunk_row : List Field
long_chunk_row = always (codes "chunk_offset") kinds.Number 8 ∷ []

abbrev pub sync_row : List Field
sync_row = always (codes "sample_number") kinds.Number 4 ∷ []

abbrev pub user_type : List Field
user_type = always (codes "usertype") kinds.Hex 16 ∷ []

abbrev pub of_file : List Layout
of_file = layout (codes "ftyp") versions.Without brands (rows counts.ToEnd brand_row)
    ∷ layout (codes "styp") versions.Without brands (rows counts.ToEnd brand_row)
    ∷ layout (codes "sidx") (versions.UpTo 1) sidx (kept (codes "references"))
    ∷ layout (codes "uuid") versions.Without user_type (kept (codes "payload"))
    ∷ []

abbrev pub of_movie : List Layout
of_movie = layout (codes "mvhd") (versions.UpTo 1) mvhd nothing
    ∷ layout (codes "iods") (versions.UpTo 0) version_and_flags (kept (codes "OD"))
    ∷ layout (codes "udta") versions.Without [] (kept (codes "payload"))
    ∷ layout (codes "meta") versions.Without [] (kept (codes "payload"))
    ∷ layout (codes "mehd") (versions.UpTo 1) mehd nothing
    ∷ layout (codes "trex") (versions.UpTo 0) trex nothing
    ∷ []

abbrev pub of_track : List Layout
of_track = layout (codes "tkhd") (versions.UpTo 1) tkhd nothing
    ∷ layout (codes "tref") versions.Without [] (kept (codes "payload"))
    ∷ layout (codes "elst") (versions.UpTo 1) counted (rows (counts.At 4 4) edit_row)
    ∷ []

abbrev pub of_media : List Layout
of_media = layout (codes "mdhd") (versions.UpTo 1) mdhd nothing
    ∷ layout (codes "hdlr") versions.Any hdlr (kept (codes "name"))
    ∷ layout (codes "elng") versions.Any version_and_flags (kept (codes "extended_language"))
    ∷ layout (codes "vmhd") (versions.UpTo 0) vmhd nothing
    ∷ layout (codes "smhd") (versions.UpTo 0) smhd nothing
    ∷ layout (codes "hmhd") (versions.UpTo 0) hmhd nothing
    ∷ layout (codes "nmhd") (versions.UpTo 0) version_and_flags nothing
    ∷ layout (codes "sthd") (versions.UpTo 0) version_and_flags nothing
    ∷ layout (codes "gmhd") versions.Without [] (kept (codes "payload"))
    ∷ []

abbrev pub of_samples : List Layout
of_samples = layout (codes "dref") (versions.UpTo 0) counted (kept (codes "entries"))
    ∷ layout (codes "stsd") (versions.UpTo 0) counted (kept (codes "entries"))
    ∷ layout (codes "stts") (versions.UpTo 0) counted (rows (counts.At 4 4) stts_row)
    ∷ layout (codes "ctts") (versions.UpTo 1) counted (rows (counts.At 4 4) ctts_row)
    ∷ layout (codes "cslg") (versions.UpTo 1) cslg nothing
    ∷ layout (codes "stsc") (versions.UpTo 0) counted (rows (counts.At 4 4) stsc_row)
    ∷ layout (codes "stsz") (versions.UpTo 0) stsz (rows (counts.Unless 4 8) size_row)
    ∷ layout (codes "stz2") (versions.UpTo 0) stz2 (kept (codes "entry_size"))
    ∷ []

abbrev pub of_places : List Layout
of_places = layout (codes "stco") (versions.UpTo 0) counted (rows (counts.At 4 4) chunk_row)
    ∷ layout (codes "co64") (versions.UpTo 0) counted (rows (counts.At 4 4) long_chunk_row)
    ∷ layout (codes "stss") (versions.UpTo 0) counted (rows (counts.At 4 4) sync_row)
    ∷ layout (codes "sdtp") (versions.UpTo 0) version_and_flags (kept (codes "samples"))
    ∷ layout (codes "sbgp") (versions.UpTo 1) sbgp (rows (counts.At 8 12) group_row)
    ∷ layout (codes "sgpd") (versions.UpTo 1) sgpd (kept (codes "entries"))
    ∷ []

abbrev pub of_fragment : List Layout
of_fragment = layout (codes "mfhd") (versions.UpTo 0) mfhd nothing
    ∷ layout (codes "tfhd") (versions.UpTo 0) tfhd nothing
    ∷ layout (codes "tfdt") (versions.UpTo 1) tfdt nothing
    ∷ layout (codes "trun") (versions.UpTo 1) trun (rows (counts.At 4 4) sample_row)
    ∷ []

-- ---- what it says of a box

-- the first of these layouts that is of the type
abbrev pub first_of : List ℕ → List Layout → Option Layout
first_of kind [] = None
first_of kind (l ∷ more) = if bytes_eq l.kind kind then Some l else first_of kind more

abbrev pub layout_of : List ℕ → Option Layout
layout_of kind = option_or (first_of kind of_file) (option_or (first_of kind of_movie)
    (option_or (first_of kind of_track) (option_or (first_of kind of_media)
    (option_or (first_of kind of_samples) (option_or (first_of kind of_places)
    (option_or (first_of kind of_fragment) None))))))

-- how many bytes a field has; none where it isn't there
abbrev pub width : LeafHead → Field → ℕ
width head f = if not (f.flag == 0) && (bit_and head.flags f.flag == 0) then 0
    else (if head.version == 0 then f.short else f.long)

abbrev pub width_of : LeafHead → List Field → ℕ
width_of head [] = 0
width_of head (f ∷ fields) = width head f + width_of head fields

-- the number of four bytes at a place; 0 where the bytes don't go so far
abbrev pub number_at : List ℕ → ℕ → ℕ
number_at bytes place = if nat_lt (length bytes) (place + 4) then 0 else field bytes place 4

-- how many rows are due; none is said where they go to the end of the box
abbrev pub count_of : RowCount → LeafHead → List ℕ → Option ℕ
count_of (counts.At short long) head front =
    Some (number_at front (if head.version == 0 then short else long))
count_of (counts.Unless other place) head front =
    Some (if nat_lt 0 (number_at front other) then 0 else number_at front place)
count_of counts.ToEnd head front = None

abbrev pub has_version : Versions → Bool
has_version versions.Without = false
has_version (versions.UpTo last) = true
has_version versions.Any = true

-- version and flags, as far as they are there; 0 where a box has none
abbrev pub head_of : Versions → List ℕ → LeafHead
head_of known front = if has_version known then record {
  version = if nat_le 1 (length front) then field front 0 1 else 0;
  flags = if nat_le 4 (length front) then field front 1 3 else 0;
} else record { version = 0; flags = 0 }

abbrev pub knows : Versions → LeafHead → Bool
knows (versions.UpTo last) head = nat_le head.version last
knows _ head = true

-- the fields of a box of this version; version and flags alone where it isn't known
abbrev pub fields_of : Layout → LeafHead → List Field
fields_of l head = if knows l.versions head then l.fields else version_and_flags

abbrev pub tail_of : Layout → LeafHead → Tail
tail_of l head = if knows l.versions head then l.tail else nothing
