-- What readers say of the leaves of a `moov`: their numbers, and in which way they can't be read.
use Rattle.std.specs.Prelude.{◌≡◌, ℕ, ◌+◌, ◌*◌, ◌<◌, ◌≤◌, ◌⊎◌, List, [], ◌∷◌, length, slice_index, bytes_eq, codes, true, false}
use Rattle.byteorder.specs.Endian.{twos_complement}
use Rattle.mp4_boxes.specs.format.Bytes.{field}
use Rattle.mp4_boxes.specs.format.Box.{Box}
use Rattle.mp4_boxes.specs.format.BoxFaults.{fault_of, Fails}
use Rattle.mp4_boxes.specs.format.Layout.{Leaf, mvhd, tkhd, mdhd, data_entry_url, version, time_width, leaf_fields}
use Rattle.mp4_boxes.specs.declared.fault.Fault.{Fault}
use Rattle.mp4_boxes.specs.declared.fault.Kind.{Kind}
use Rattle.mp4_boxes.specs.declared.fault.Kind.TheVariants.{ShortBox, BadVersion, OutsideData}
use Rattle.mp4_head.specs.format.Tree.{matrix_of}
use Rattle.mp4_head.specs.declared.movie_header.MovieHeader.{MovieHeader}
use Rattle.mp4_head.specs.declared.track_header.TrackHeader.{TrackHeader}
use Rattle.mp4_head.specs.declared.media_boxes.MediaHeader.{MediaHeader}

-- A kind is true of the box as a leaf, and names it.
pub record IsFaultOf (leaf : Leaf) (b : Box) (f : Fault) : Type 0 where
  pub kind : Kind
  pub fails : Fails leaf b.payload kind
  pub named : f ≡ fault_of kind b

-- A full box of versions up to `last`, with fields of so many bytes and so many times, can't be
-- opened: it has no version, one that is not listed, or no room.
pub data FailsToOpen (last fixed times : ℕ) (b : Box) (f : Fault) : Type 0 where
  no_version : length b.payload < 4 → f ≡ fault_of ShortBox b → FailsToOpen last fixed times b f
  other_version : 4 ≤ length b.payload → last < version b.payload → f ≡ fault_of BadVersion b
      → FailsToOpen last fixed times b f
  no_room : length b.payload < fixed + times * time_width (version b.payload)
      → f ≡ fault_of ShortBox b → FailsToOpen last fixed times b f

-- It can be opened, and a time in it takes so many bytes.
pub record IsOpen (last fixed times : ℕ) (payload : List ℕ) (width : ℕ) : Type 0 where
  pub width_is : width ≡ time_width (version payload)
  pub either : (width ≡ 4) ⊎ (width ≡ 8)
  pub version_is : version payload ≤ last
  pub whole : 4 ≤ length payload
  pub room : fixed + times * width ≤ length payload

-- the numbers of nine fields of four bytes
abbrev pub nine : List ℕ → ℕ → List ℕ
nine bytes place =
    field bytes place 4 ∷ field bytes (place + 4) 4 ∷ field bytes (place + 8) 4
    ∷ field bytes (place + 12) 4 ∷ field bytes (place + 16) 4
    ∷ field bytes (place + 20) 4 ∷ field bytes (place + 24) 4 ∷ field bytes (place + 28) 4
    ∷ field bytes (place + 32) 4 ∷ []

-- what an `mvhd` says
pub record SaysMovie (payload : List ℕ) (h : MovieHeader) : Type 0 where
  pub creation : h.creation ≡ slice_index (leaf_fields mvhd payload) 2
  pub modification : h.modification ≡ slice_index (leaf_fields mvhd payload) 3
  pub timescale : h.timescale ≡ slice_index (leaf_fields mvhd payload) 4
  pub rate : h.rate ≡ twos_complement 4 (slice_index (leaf_fields mvhd payload) 6)
  pub volume : h.volume ≡ twos_complement 2 (slice_index (leaf_fields mvhd payload) 7)
  pub matrix : h.matrix ≡ matrix_of (leaf_fields mvhd payload) 11 20

-- what a `tkhd` says
pub record SaysTrack (payload : List ℕ) (h : TrackHeader) : Type 0 where
  pub flags : h.flags ≡ slice_index (leaf_fields tkhd payload) 1
  pub creation : h.creation ≡ slice_index (leaf_fields tkhd payload) 2
  pub modification : h.modification ≡ slice_index (leaf_fields tkhd payload) 3
  pub id : h.id ≡ slice_index (leaf_fields tkhd payload) 4
  pub layer : h.layer ≡ twos_complement 2 (slice_index (leaf_fields tkhd payload) 9)
  pub alternate_group : h.alternate_group
      ≡ twos_complement 2 (slice_index (leaf_fields tkhd payload) 10)
  pub volume : h.volume ≡ twos_complement 2 (slice_index (leaf_fields tkhd payload) 11)
  pub matrix : h.matrix ≡ matrix_of (leaf_fields tkhd payload) 13 22
  pub width : h.width ≡ slice_index (leaf_fields tkhd payload) 22
  pub height : h.height ≡ slice_index (leaf_fields tkhd payload) 23

-- what an `mdhd` says
pub record SaysMedia (payload : List ℕ) (h : MediaHeader) : Type 0 where
  pub creation : h.creation ≡ slice_index (leaf_fields mdhd payload) 2
  pub modification : h.modification ≡ slice_index (leaf_fields mdhd payload) 3
  pub timescale : h.timescale ≡ slice_index (leaf_fields mdhd payload) 4
  pub language : h.language ≡ slice_index (leaf_fields mdhd payload) 6

-- An entry of a `dref` is of another type than `url `, or is at fault as one.
pub data FailsAsReference (b : Box) (f : Fault) : Type 0 where
  another : bytes_eq (codes "url ") b.kind ≡ false → f ≡ fault_of OutsideData b
      → FailsAsReference b f
  at_fault : bytes_eq (codes "url ") b.kind ≡ true → IsFaultOf data_entry_url b f
      → FailsAsReference b f
