-- The leaves that are read, and the layout of each as data: versions, flags, the widths of its
-- fields and rows (ISO/IEC 14496-12, clause 8).
use Rattle.std.specs.Prelude.{◌≡◌, ℕ, zero, suc, ◌+◌, ◌*◌, ◌^◌, ◌≤◌, ◌||◌, map, slice_index, slice_index_or, List, [], ◌∷◌, ◌++◌, length, drop, replicate, Bool, true, false, cond, if◌then◌else◌, not, ◌&&◌, ◌==◌, nat_lt, nat_le, bit_and, IsTrue, Option, Some, None}
use Rattle.std.specs.Int.{div_ceil}
use Rattle.mp4_boxes.specs.format.Bytes.{field, numbers, rows, width_of}

-- the boxes whose fields are read, and the entries of `stsd`
pub data Leaf : Type 0 where
  mvhd : Leaf
  tkhd : Leaf
  mdhd : Leaf
  hdlr : Leaf
  elst : Leaf
  dref : Leaf
  data_entry_url : Leaf
  stsd : Leaf
  sample_entry : Leaf
  stts : Leaf
  ctts : Leaf
  stsc : Leaf
  stsz : Leaf
  stz2 : Leaf
  stco : Leaf
  co64 : Leaf
  stss : Leaf
  sdtp : Leaf
  sbgp : Leaf
  sgpd : Leaf
  trex : Leaf
  tfhd : Leaf
  tfdt : Leaf
  trun : Leaf

abbrev pub version : List ℕ → ℕ
version payload = field payload 0 1

abbrev pub flags : List ℕ → ℕ
flags payload = field payload 1 3

-- a flag is set
abbrev pub has : ℕ → ℕ → Bool
has bits flag = nat_lt 0 (bit_and bits flag)

-- how versions are judged: any, or the listed ones, which are 0 up to a last
abbrev pub last_version : Leaf → Option ℕ
last_version mvhd = Some 1
last_version tkhd = Some 1
last_version mdhd = Some 1
last_version hdlr = None
last_version elst = Some 1
last_version data_entry_url = None
last_version sample_entry = None
last_version ctts = Some 1
last_version sbgp = Some 1
last_version sgpd = Some 1
last_version tfdt = Some 1
last_version trun = Some 1
last_version _ = Some 0

-- flags of `tfhd` (8.8.7) and of `trun` (8.8.8)
abbrev pub base_data_offset_present : ℕ
base_data_offset_present = 0x000001

abbrev pub sample_description_index_present : ℕ
sample_description_index_present = 0x000002

abbrev pub default_sample_duration_present : ℕ
default_sample_duration_present = 0x000008

abbrev pub default_sample_size_present : ℕ
default_sample_size_present = 0x000010

abbrev pub default_sample_flags_present : ℕ
default_sample_flags_present = 0x000020

abbrev pub duration_is_empty : ℕ
duration_is_empty = 0x010000

abbrev pub default_base_is_moof : ℕ
default_base_is_moof = 0x020000

abbrev pub data_offset_present : ℕ
data_offset_present = 0x000001

abbrev pub first_sample_flags_present : ℕ
first_sample_flags_present = 0x000004

abbrev pub sample_duration_present : ℕ
sample_duration_present = 0x000100

abbrev pub sample_size_present : ℕ
sample_size_present = 0x000200

abbrev pub sample_flags_present : ℕ
sample_flags_present = 0x000400

abbrev pub sample_composition_time_offset_present : ℕ
sample_composition_time_offset_present = 0x000800

-- a field that stands there if a flag is set
pub record Column : Type 0 where
  pub flag : ℕ
  pub width : ℕ

-- the fields of `tfhd` after the track ID, those of `trun` after the count, and those of a row of
-- `trun`
abbrev pub tfhd_columns : List Column
tfhd_columns = record { flag = base_data_offset_present; width = 8 }
    ∷ record { flag = sample_description_index_present; width = 4 }
    ∷ record { flag = default_sample_duration_present; width = 4 }
    ∷ record { flag = default_sample_size_present; width = 4 }
    ∷ record { flag = default_sample_flags_present; width = 4 } ∷ []

abbrev pub trun_columns : List Column
trun_columns = record { flag = data_offset_present; width = 4 }
    ∷ record { flag = first_sample_flags_present; width = 4 } ∷ []

abbrev pub sample_columns : List Column
sample_columns = record { flag = sample_duration_present; width = 4 }
    ∷ record { flag = sample_size_present; width = 4 }
    ∷ record { flag = sample_flags_present; width = 4 }
    ∷ record { flag = sample_composition_time_offset_present; width = 4 } ∷ []

-- the widths of the columns that the flags name
abbrev pub present : ℕ → List Column → List ℕ
present bits [] = []
present bits (c ∷ columns) = cond (has bits c.flag) (c.width ∷ present bits columns)
    (present bits columns)

-- the columns' numbers, where the flags name them
abbrev pub column_values : ℕ → List Column → List ℕ → List (Option ℕ)
column_values bits [] bytes = []
column_values bits (c ∷ columns) bytes = cond (has bits c.flag) (Some (field bytes 0 c.width)
    ∷ column_values bits columns (drop c.width bytes)) (None ∷ column_values bits columns bytes)

-- flags that may be set; elsewhere flags are ignored
abbrev pub known_flags : Leaf → Option ℕ
known_flags tfhd = Some (base_data_offset_present + sample_description_index_present
    + default_sample_duration_present + default_sample_size_present + default_sample_flags_present
    + duration_is_empty + default_base_is_moof)
known_flags trun = Some (data_offset_present + first_sample_flags_present + sample_duration_present
    + sample_size_present + sample_flags_present + sample_composition_time_offset_present)
known_flags _ = None

-- times and durations take four bytes in version 0 and eight in version 1
abbrev pub time_width : ℕ → ℕ
time_width v = if v == 0 then 4 else 8

-- The widths of the fields before any rows, optional fields or boxes, by version.
abbrev pub fields : Leaf → ℕ → List ℕ
-- 8.2.2: version, flags, creation_time, modification_time, timescale, duration, rate, volume,
-- reserved, reserved[2], matrix[9], pre_defined[6], next_track_ID
fields mvhd v = 1 ∷ 3 ∷ time_width v ∷ time_width v ∷ 4 ∷ time_width v ∷ 4 ∷ 2 ∷ 2 ∷ 4 ∷ 4
    ∷ (replicate 9 4 ++ replicate 6 4 ++ 4 ∷ [])
-- 8.3.2: version, flags, creation_time, modification_time, track_ID, reserved, duration,
-- reserved[2], layer, alternate_group, volume, reserved, matrix[9], width, height
fields tkhd v = 1 ∷ 3 ∷ time_width v ∷ time_width v ∷ 4 ∷ 4 ∷ time_width v ∷ 4 ∷ 4 ∷ 2 ∷ 2 ∷ 2 ∷ 2
    ∷ (replicate 9 4 ++ 4 ∷ 4 ∷ [])
-- 8.4.2: version, flags, creation_time, modification_time, timescale, duration, language,
-- pre_defined
fields mdhd v = 1 ∷ 3 ∷ time_width v ∷ time_width v ∷ 4 ∷ time_width v ∷ 2 ∷ 2 ∷ []
-- 8.4.3: version, flags, pre_defined, handler_type, reserved[3]; the name follows
fields hdlr v = 1 ∷ 3 ∷ 4 ∷ 4 ∷ 4 ∷ 4 ∷ 4 ∷ []
-- 8.6.6: version, flags, entry_count
fields elst v = 1 ∷ 3 ∷ 4 ∷ []
-- 8.7.2: version, flags, entry_count; the entries follow
fields dref v = 1 ∷ 3 ∷ 4 ∷ []
fields data_entry_url v = 1 ∷ 3 ∷ []
-- 8.5.2: version, flags, entry_count; the entries follow, each of reserved[6] and
-- data_reference_index first
fields stsd v = 1 ∷ 3 ∷ 4 ∷ []
fields sample_entry v = 6 ∷ 2 ∷ []
-- 8.6.1.2, 8.6.1.3, 8.7.4, 8.7.5, 8.6.2: version, flags, entry_count
fields stts v = 1 ∷ 3 ∷ 4 ∷ []
fields ctts v = 1 ∷ 3 ∷ 4 ∷ []
fields stsc v = 1 ∷ 3 ∷ 4 ∷ []
fields stco v = 1 ∷ 3 ∷ 4 ∷ []
fields co64 v = 1 ∷ 3 ∷ 4 ∷ []
fields stss v = 1 ∷ 3 ∷ 4 ∷ []
-- 8.7.3.2: version, flags, sample_size, sample_count
fields stsz v = 1 ∷ 3 ∷ 4 ∷ 4 ∷ []
-- 8.7.3.3: version, flags, reserved, field_size, sample_count; the sizes follow, of field_size bits
-- each
fields stz2 v = 1 ∷ 3 ∷ 3 ∷ 1 ∷ 4 ∷ []
-- 8.6.4: version, flags; a byte a sample follows
fields sdtp v = 1 ∷ 3 ∷ []
-- 8.9.2: version, flags, grouping_type, in version 1 grouping_type_parameter, entry_count
fields sbgp v = if v == 0 then 1 ∷ 3 ∷ 4 ∷ 4 ∷ [] else 1 ∷ 3 ∷ 4 ∷ 4 ∷ 4 ∷ []
-- 8.9.3: version, flags, grouping_type; what follows is kept unread
fields sgpd v = 1 ∷ 3 ∷ 4 ∷ []
-- 8.8.3: version, flags, track_ID, default_sample_description_index, default_sample_duration,
-- default_sample_size, default_sample_flags
fields trex v = 1 ∷ 3 ∷ 4 ∷ 4 ∷ 4 ∷ 4 ∷ 4 ∷ []
-- 8.8.7: version, flags, track_ID
fields tfhd v = 1 ∷ 3 ∷ 4 ∷ []
-- 8.8.12: version, flags, baseMediaDecodeTime
fields tfdt v = 1 ∷ 3 ∷ time_width v ∷ []
-- 8.8.8: version, flags, sample_count
fields trun v = 1 ∷ 3 ∷ 4 ∷ []

-- the widths of the fields of a row
abbrev pub row : Leaf → ℕ → List ℕ
-- segment_duration, media_time, media_rate_integer, media_rate_fraction
row elst v = time_width v ∷ time_width v ∷ 2 ∷ 2 ∷ []
-- sample_count, sample_delta or sample_offset
row stts v = 4 ∷ 4 ∷ []
row ctts v = 4 ∷ 4 ∷ []
-- first_chunk, samples_per_chunk, sample_description_index
row stsc v = 4 ∷ 4 ∷ 4 ∷ []
-- entry_size, chunk_offset, sample_number
row stsz v = 4 ∷ []
row stco v = 4 ∷ []
row co64 v = 8 ∷ []
row stss v = 4 ∷ []
-- sample_count, group_description_index
row sbgp v = 4 ∷ 4 ∷ []
row _ v = []

-- how many rows there are
abbrev pub row_count : Leaf → List ℕ → ℕ
-- with one size for all samples no sizes follow
row_count stsz payload = if field payload 4 4 == 0 then field payload 8 4 else 0
row_count elst payload = field payload 4 4
row_count stts payload = field payload 4 4
row_count ctts payload = field payload 4 4
row_count stsc payload = field payload 4 4
row_count stco payload = field payload 4 4
row_count co64 payload = field payload 4 4
row_count stss payload = field payload 4 4
row_count stz2 payload = field payload 8 4
row_count sbgp payload = if version payload == 0 then field payload 8 4 else field payload 12 4
row_count trun payload = field payload 4 4
row_count _ payload = 0

-- the widths of what stands between the fields and the rows
abbrev pub options : Leaf → ℕ → List ℕ
options tfhd bits = present bits tfhd_columns
options trun bits = present bits trun_columns
options _ bits = []

-- the width of a row
abbrev pub row_width : Leaf → List ℕ → ℕ
row_width trun payload = width_of (present (flags payload) sample_columns)
row_width leaf payload = width_of (row leaf (version payload))

-- how many bits a size takes in `stz2` (8.7.3.3.2)
abbrev pub size_bits : List ℕ → ℕ
size_bits payload = field payload 7 1

abbrev pub is_size_bits : ℕ → Bool
is_size_bits bits = bits == 4 || (bits == 8 || bits == 16)

-- how many bytes the rows take; no size is read of bits that are not 4, 8 or 16
abbrev pub rows_size : Leaf → List ℕ → ℕ
rows_size stz2 payload = if is_size_bits (size_bits payload)
    then div_ceil (row_count stz2 payload * size_bits payload) 8 else 0
rows_size leaf payload = row_count leaf payload * row_width leaf payload

-- how many bytes the fields and rows take
abbrev pub needed : Leaf → List ℕ → ℕ
needed leaf payload = width_of (fields leaf (version payload))
    + width_of (options leaf (flags payload)) + rows_size leaf payload

-- the numbers before any rows, and the rows
abbrev pub leaf_fields : Leaf → List ℕ → List ℕ
leaf_fields leaf payload = numbers (fields leaf (version payload)) payload

abbrev pub leaf_rows : Leaf → List ℕ → List (List ℕ)
leaf_rows leaf payload = rows (row_count leaf payload) (row leaf (version payload))
    (drop (width_of (fields leaf (version payload))) payload)

-- n is no greater than the last, if there is one
abbrev pub up_to : Option ℕ → ℕ → Bool
up_to None n = true
up_to (Some last) n = nat_le n last

-- the version is listed
abbrev pub knows_version : Leaf → List ℕ → Bool
knows_version leaf payload = up_to (last_version leaf) (version payload)

-- no other bits than these are set, if they are named
abbrev pub only_among : Option ℕ → ℕ → Bool
only_among None bits = true
only_among (Some known) bits = bit_and bits known == bits

-- the flags are allowed: none but the known ones, and in `trun` not a first sample's flags beside
-- those of each sample
abbrev pub knows_flags : Leaf → List ℕ → Bool
knows_flags trun payload = only_among (known_flags trun) (flags payload)
    && not (has (flags payload) first_sample_flags_present
    && has (flags payload) sample_flags_present)
knows_flags leaf payload = only_among (known_flags leaf) (flags payload)

-- What the values of a leaf must not be, whatever else the file says. a timescale of 0 (8.2.2.3,
-- 8.4.2.3), a track ID of 0 (8.3.2.3), a data reference other than the first (8.5.2.3), sizes of
-- other than 4, 8 or 16 bits (8.7.3.3.2)
abbrev pub has_bad_value : Leaf → List ℕ → Bool
has_bad_value mvhd payload = slice_index (leaf_fields mvhd payload) 4 == 0
has_bad_value mdhd payload = slice_index (leaf_fields mdhd payload) 4 == 0
has_bad_value tkhd payload = slice_index (leaf_fields tkhd payload) 4 == 0
has_bad_value sample_entry payload = not (slice_index (leaf_fields sample_entry payload) 1 == 1)
has_bad_value stz2 payload = not (is_size_bits (size_bits payload))
has_bad_value _ payload = false

-- more or fewer than one data reference, or one whose data is in another file (8.7.2.3)
abbrev pub is_outside_data : Leaf → List ℕ → Bool
is_outside_data dref payload = not (slice_index (leaf_fields dref payload) 2 == 1)
is_outside_data data_entry_url payload = not (has (flags payload) 1)
is_outside_data _ payload = false

-- the offset of a row of version 0 is 2^31 or more (8.6.1.3.3, 8.8.8.3)
abbrev pub too_large : List (Option ℕ) → Bool
too_large [] = false
too_large (None ∷ ns) = too_large ns
too_large (Some n ∷ ns) = nat_le (2 ^ 31) n || too_large ns

abbrev pub run_offsets : ℕ → ℕ → List ℕ → List (Option ℕ)
run_offsets zero bits bytes = []
run_offsets (suc n) bits bytes = slice_index_or (column_values bits sample_columns bytes) 3 None
    ∷ run_offsets n bits (drop (width_of (present bits sample_columns)) bytes)

abbrev pub has_large_offset : Leaf → List ℕ → Bool
has_large_offset ctts payload = (version payload == 0)
    && too_large (map (λ r. Some (slice_index r 1)) (leaf_rows ctts payload))
has_large_offset trun payload = (version payload == 0)
    && too_large (run_offsets (row_count trun payload) (flags payload)
    (drop (8 + width_of (present (flags payload) trun_columns)) payload))
has_large_offset _ payload = false

-- The leaf can be read: its version is listed, its flags are allowed, and it has room for its
-- fields and rows.
pub record IsReadable (leaf : Leaf) (payload : List ℕ) : Type 0 where
  pub version : IsTrue (knows_version leaf payload)
  pub flags : IsTrue (knows_flags leaf payload)
  pub room : needed leaf payload ≤ length payload

-- The leaf can be read, and none of its values is refused.
pub record IsSound (leaf : Leaf) (payload : List ℕ) : Type 0 where
  pub readable : IsReadable leaf payload
  pub value : has_bad_value leaf payload ≡ false
  pub inside : is_outside_data leaf payload ≡ false
  pub offsets : has_large_offset leaf payload ≡ false
