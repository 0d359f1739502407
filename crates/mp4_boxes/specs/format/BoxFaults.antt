-- Faults of headers and of children: what is so where one of them is named.
use Rattle.std.specs.Prelude.{◌≡◌, ℕ, ◌+◌, ◌<◌, ◌≤◌, ◌⊎◌, List, length, take, drop, Bool, true, false, Some, Result, Ok, Err}
use Rattle.mp4_boxes.specs.format.Box.{Box, Header, Container, may_be_open, header_in, header_at, sizes, IsFront, IsDue, Tiles, StandsAfter}
use Rattle.mp4_boxes.specs.format.Children.{allows, repeats, lacks}
use Rattle.mp4_boxes.specs.format.Layout.{Leaf, needed, knows_version, knows_flags, IsReadable, has_bad_value, is_outside_data, has_large_offset}
use Rattle.mp4_boxes.specs.format.Places.{Place, leaf_of, StandsIn}
use Rattle.mp4_boxes.specs.declared.rule.Rule.{Rule}
use Rattle.mp4_boxes.specs.declared.fault.Fault.{Fault}
use Rattle.mp4_boxes.specs.declared.fault.Kind.{Kind}
use Rattle.mp4_boxes.specs.declared.fault.Kind.TheVariants.{ShortHeader, ShortBox, BoxNotInProfile, DuplicateBox, MissingBox, BadVersion, BadFlags, BadValue, OutsideData, OffsetTooLarge}

-- a fault that names a box
abbrev pub fault_of : Kind → Box → Fault
fault_of kind b = record { kind = kind; box_type = b.kind; offset = b.offset }

-- a fault that names a container
abbrev pub fault_in : Kind → Container → Fault
fault_in kind c = record { kind = kind; box_type = c.kind; offset = c.offset }

-- what is named where no header can be read: the container of this type if the header is cut short,
-- else the box, which has that type
abbrev pub unreadable : List ℕ → ℕ → List ℕ → Kind → Fault
unreadable container at box_type ShortHeader = record {
  kind = ShortHeader;
  box_type = container;
  offset = at;
}
unreadable container at box_type kind = record { kind = kind; box_type = box_type; offset = at }

-- the type of a box stands behind its size
abbrev pub type_of : List ℕ → List ℕ
type_of bytes = take 4 (drop 4 bytes)

-- the fault of the header behind some boxes of a container
abbrev pub header_fault : Container → ℕ → Kind → Fault
header_fault c reached kind = unreadable c.kind (c.at + reached) (type_of (drop reached c.bytes))
    kind

-- the header in front of these bytes, which lie at a place of the file, or the fault that it has
abbrev pub located : List ℕ → ℕ → List ℕ → Result Header Kind → Result Header Fault
located container at box_type (Ok h) = Ok h
located container at box_type (Err kind) = Err (unreadable container at box_type kind)

abbrev pub header_there : Bool → ℕ → List ℕ → List ℕ → ℕ → Result Header Fault
header_there is_open left bytes container at = located container at (type_of bytes)
    (header_in is_open left bytes)

-- A box is due behind some first boxes of the container, and no header can be read there.
pub record IsHeaderFault (c : Container) (f : Fault) : Type 0 where
  pub before : List Box
  pub front : IsFront c before
  pub due : IsDue c.extent (length c.bytes) before
  pub kind : Kind
  pub fails : header_at (may_be_open c.extent) (drop (sizes before) c.bytes) ≡ Err kind
  pub named : f ≡ header_fault c (sizes before) kind

-- A box stands in the container whose type may not stand there.
pub record IsNotInProfile (rule : Rule) (c : Container) (f : Fault) : Type 0 where
  pub before : List Box
  pub b : Box
  pub stands : StandsAfter c before b
  pub refused : allows rule b.kind ≡ false
  pub named : f ≡ fault_of BoxNotInProfile b

-- A box follows one of its type or group where one may stand.
pub record IsDuplicate (rule : Rule) (c : Container) (f : Fault) : Type 0 where
  pub before : List Box
  pub b : Box
  pub stands : StandsAfter c before b
  pub repeated : repeats rule before b.kind ≡ true
  pub named : f ≡ fault_of DuplicateBox b

-- The container is tiled, and no box of a line stands that must.
pub record IsMissing (rule : Rule) (c : Container) (f : Fault) : Type 0 where
  pub boxes : List Box
  pub tiles : Tiles c boxes
  pub lacking : lacks rule boxes ≡ true
  pub named : f ≡ fault_in MissingBox c

-- a fault of the container's own children, as their list is checked
abbrev pub IsChildFault : Rule → Container → Fault → Type 0
IsChildFault rule c f = IsHeaderFault c f
    ⊎ (IsNotInProfile rule c f ⊎ (IsDuplicate rule c f ⊎ IsMissing rule c f))

-- What of a leaf fails where a kind is named of it. (The rows of `sdtp` are judged against the
-- number of samples, elsewhere.)
abbrev pub Fails : Leaf → List ℕ → Kind → Type 0
Fails leaf payload ShortBox = length payload < needed leaf payload
Fails leaf payload BadVersion = (4 ≤ length payload) × (knows_version leaf payload ≡ false)
Fails leaf payload BadFlags = (4 ≤ length payload) × (knows_flags leaf payload ≡ false)
Fails leaf payload BadValue = IsReadable leaf payload × (has_bad_value leaf payload ≡ true)
Fails leaf payload OutsideData = IsReadable leaf payload × (is_outside_data leaf payload ≡ true)
Fails leaf payload OffsetTooLarge = IsReadable leaf payload × (has_large_offset leaf payload ≡ true)
Fails leaf payload _ = ⊥

-- A leaf stands there of which the kind is true.
pub record IsLeafFault (from : Place) (f : Fault) : Type 0 where
  pub place : Place
  pub before : List Box
  pub b : Box
  pub stands : StandsIn from place before b
  pub leaf : Leaf
  pub read : leaf_of place.scope b.kind ≡ Some leaf
  pub kind : Kind
  pub fails : Fails leaf b.payload kind
  pub named : f ≡ fault_of kind b
