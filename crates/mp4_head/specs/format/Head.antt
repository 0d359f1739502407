-- What a movie says of itself and of its tracks, apart from their samples (ISO/IEC 14496-12, 8.2 to
-- 8.7), and what it says of fragments to come (8.8.3).
use Rattle.std.specs.Prelude.{◌≡◌, ℕ, ◌<◌, ◌≤◌, ◌^◌, ◌||◌, Bool, false, IsTrue, List, [], ◌∷◌, length, ℤ, FitsSigned, codes, slice_range}
use Rattle.std.specs.Int.{w16, w32, w64}
use Rattle.std.specs.List.{starts_with, AllByRecursion}
use Rattle.std.specs.Prelude.{nat_eq}
use Rattle.mp4_boxes.specs.format.Bytes.{AreBytes, field}
use Rattle.mp4_boxes.specs.format.Children.{is_among, media_headers, kept_kinds}
use Rattle.mp4_boxes.specs.declared.rule.Rule.TheVariants.{Movie, Track}
use Rattle.mp4_frag.specs.declared.trex.Trex.{Trex}

-- a box that is kept as it is: its type and its payload
pub record Kept : Type 0 where
  pub kind : List ℕ
  pub payload : List ℕ

-- an entry of `elst` (8.6.6)
pub record Edit : Type 0 where
  pub segment_duration : ℕ
  pub media_time : ℤ
  pub rate_integer : ℤ
  pub rate_fraction : ℤ

-- `mdhd` (8.4.2), `hdlr` (8.4.3), `elng` (8.4.6), the media header (8.4.5), the entries of `stsd`
-- (8.5.2)
pub record Media : Type 0 where
  pub creation : ℕ
  pub modification : ℕ
  pub timescale : ℕ
  pub language : ℕ
  pub handler : List ℕ
  pub extended_languages : List (List ℕ)
  pub header : Kept
  pub descriptions : List Kept

-- `tkhd` (8.3.2), `elst`, what is kept of `trak`, `mdia`, the payloads of `sgpd` (8.9.3) in `stbl`
pub record TrackHead : Type 0 where
  pub flags : ℕ
  pub creation : ℕ
  pub modification : ℕ
  pub id : ℕ
  pub layer : ℤ
  pub alternate_group : ℤ
  pub volume : ℤ
  pub matrix : List ℤ
  pub width : ℕ
  pub height : ℕ
  pub edits : List Edit
  pub kept : List Kept
  pub media : Media
  pub group_descriptions : List (List ℕ)

-- `mvhd` (8.2.2), what is kept of `moov`
pub record MovieHead : Type 0 where
  pub creation : ℕ
  pub modification : ℕ
  pub timescale : ℕ
  pub rate : ℤ
  pub volume : ℤ
  pub matrix : List ℤ
  pub kept : List Kept

-- all that `moov` says apart from tables
pub record Head : Type 0 where
  pub movie : MovieHead
  pub tracks : List TrackHead
  pub trexes : List Trex

-- the type that a handler names (8.4.3.3)
abbrev pub handler_type : List ℕ → List ℕ
handler_type payload = slice_range payload 8 12

-- somewhere in the bytes stand the letters `iloc`
abbrev pub names_item_location : List ℕ → Bool
names_item_location [] = false
names_item_location (b ∷ bytes) = starts_with nat_eq (b ∷ bytes) (codes "iloc")
    || names_item_location bytes

-- ---- what is well formed

pub record IsMatrix (matrix : List ℤ) : Type 0 where
  pub nine : length matrix ≡ 9
  pub fits : AllByRecursion (FitsSigned w32) matrix

-- a kept box of one of these types, which names no file offsets of items
pub record IsKept (kinds : List (List ℕ)) (k : Kept) : Type 0 where
  pub kind : IsTrue (is_among kinds k.kind)
  pub bytes : AreBytes k.payload
  pub no_item_location : names_item_location k.payload ≡ false

pub record IsEdit (e : Edit) : Type 0 where
  pub segment_duration : e.segment_duration < 2 ^ 64
  pub media_time : FitsSigned w64 e.media_time
  pub rate_integer : FitsSigned w16 e.rate_integer
  pub rate_fraction : FitsSigned w16 e.rate_fraction

-- an entry of `stsd` with the first data reference
pub record IsDescription (k : Kept) : Type 0 where
  pub kind_length : length k.kind ≡ 4
  pub kind : AreBytes k.kind
  pub bytes : AreBytes k.payload
  pub room : 8 ≤ length k.payload
  pub data_reference : field k.payload 6 2 ≡ 1

pub record IsMedia (m : Media) : Type 0 where
  pub creation : m.creation < 2 ^ 64
  pub modification : m.modification < 2 ^ 64
  pub timescale : m.timescale < 2 ^ 32
  pub timescale_not_0 : 0 < m.timescale
  pub language : m.language < 2 ^ 16
  pub handler : AreBytes m.handler
  pub handler_room : 24 ≤ length m.handler
  pub extended_languages : AllByRecursion AreBytes m.extended_languages
  pub header : IsTrue (is_among media_headers m.header.kind)
  pub header_bytes : AreBytes m.header.payload
  pub descriptions : AllByRecursion IsDescription m.descriptions

-- the payload of an `sgpd` of version 0 or 1
pub record IsGroupDescription (payload : List ℕ) : Type 0 where
  pub bytes : AreBytes payload
  pub room : 8 ≤ length payload
  pub version : field payload 0 1 ≤ 1

pub record IsTrackHead (t : TrackHead) : Type 0 where
  pub flags : t.flags < 2 ^ 24
  pub creation : t.creation < 2 ^ 64
  pub modification : t.modification < 2 ^ 64
  pub id : t.id < 2 ^ 32
  pub id_not_0 : 0 < t.id
  pub layer : FitsSigned w16 t.layer
  pub alternate_group : FitsSigned w16 t.alternate_group
  pub volume : FitsSigned w16 t.volume
  pub matrix : IsMatrix t.matrix
  pub width : t.width < 2 ^ 32
  pub height : t.height < 2 ^ 32
  pub edits : AllByRecursion IsEdit t.edits
  pub kept : AllByRecursion (IsKept (kept_kinds Track)) t.kept
  pub media : IsMedia t.media
  pub group_descriptions : AllByRecursion IsGroupDescription t.group_descriptions

pub record IsMovieHead (m : MovieHead) : Type 0 where
  pub creation : m.creation < 2 ^ 64
  pub modification : m.modification < 2 ^ 64
  pub timescale : m.timescale < 2 ^ 32
  pub timescale_not_0 : 0 < m.timescale
  pub rate : FitsSigned w32 m.rate
  pub volume : FitsSigned w16 m.volume
  pub matrix : IsMatrix m.matrix
  pub kept : AllByRecursion (IsKept (kept_kinds Movie)) m.kept
