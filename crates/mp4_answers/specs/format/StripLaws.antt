-- The laws of copies in which some boxes are free space.
use Rattle.std.specs.Prelude.{◌≡◌, ◌⊎◌, ⊤, ℕ, ◌+◌, ◌<◌, ◌≤◌, ℤ, pos, negsuc, List, [], ◌∷◌, length, take, drop, true, false, Option, None, Some, Ok, codes}
use Rattle.std.specs.List.{AllByRecursion}
use Rattle.mp4_boxes.specs.format.Box.{Header, header_at}
use Rattle.mp4_boxes.specs.format.Children.{allows, free_space, is_among}
use Rattle.mp4_boxes.specs.declared.fault.Fault.{Fault}
use Rattle.mp4_boxes.specs.declared.fault.Kind.TheVariants.{BoxNotInProfile}
use Rattle.mp4_boxes.specs.declared.rule.Rule.{Rule}
use Rattle.mp4_boxes.specs.declared.rule.Rule.TheVariants.{File}
use Rattle.mp4_tables.specs.format.PlainSamples.{PlacedSample}
use Rattle.mp4_head.specs.format.Tree.{TrackTree}
use Rattle.mp4_present.specs.format.Presentation.{Presentation}
use Rattle.mp4_present.specs.format.Denotes.{Denotes, FileTree, file_parts, placed_of}
use Rattle.mp4_present.specs.format.Stands.{Stands}
use Rattle.mp4_answers.specs.format.BoxWalk.{rule_inside}
use Rattle.mp4_answers.specs.format.Strips.{is_top, is_named, payload_behind, uuid_at, IsStripped, Halts}
use Rattle.mp4_answers.specs.declared.box_names.Name.{Name}
use Rattle.mp4_answers.specs.declared.box_names.Name.TheVariants.{Foreign}

-- A named box stands at this place of bytes that are boxes, end to end under a rule, and in no
-- other named box.
pub data NamedBoxAt (names : List Name) : Rule → ℕ → List ℕ → Type 0 where
  at_front : (rule : Rule) (place : ℕ) (bytes : List ℕ) (h : Header)
      → header_at (is_top rule) bytes ≡ Ok h → is_named names rule h.kind (uuid_at h bytes) ≡ true
      → place ≡ 0
      → NamedBoxAt names rule place bytes
  further : (rule : Rule) (place : ℕ) (bytes : List ℕ) (h : Header) (left : ℕ)
      → header_at (is_top rule) bytes ≡ Ok h → NamedBoxAt names rule left (drop h.size bytes)
      → place ≡ h.size + left → NamedBoxAt names rule place bytes
  inside : (rule : Rule) (place : ℕ) (bytes : List ℕ) (h : Header) (inner : Rule) (left : ℕ)
      → header_at (is_top rule) bytes ≡ Ok h → is_named names rule h.kind (uuid_at h bytes) ≡ false
      → rule_inside rule h.kind ≡ Some inner → NamedBoxAt names inner left (payload_behind h bytes)
      → place ≡ h.length + left → NamedBoxAt names rule place bytes

-- A copy is as long as the file.
abbrev pub StripKeepsLength : Type 0
StripKeepsLength = (names : List Name) (file text : List ℕ) → IsStripped names file text
    → length text ≡ length file

-- Where no named box stands in the file, the copy is the file.
abbrev pub UnnamedIsCopied : Type 0
UnnamedIsCopied = (names : List Name) (file text : List ℕ)
    → ((place : ℕ) → NamedBoxAt names File place file → ⊥) → IsStripped names file text
    → text ≡ file

-- Where a named box stood, the type is `free` in the copy.
abbrev pub NamedIsFree : Type 0
NamedIsFree = (names : List Name) (file text : List ℕ) (place : ℕ)
    → NamedBoxAt names File place file → IsStripped names file text
    → take 4 (drop (place + 4) text) ≡ codes "free"

-- Where a header that is looked at can't be read, no bytes are a copy.
abbrev pub HaltedStripsNothing : Type 0
HaltedStripsNothing = (names : List Name) (f : Fault) (file text : List ℕ)
    → Halts names f File 0 file → IsStripped names file text → ⊥

-- no name means free space
abbrev pub SparesFree : List Name → Type 0
SparesFree names = (rule : Rule) → is_named names rule (codes "free") None ≡ false

-- Then no named box stands in the copy.
abbrev pub StripLeavesNone : Type 0
StripLeavesNone = (names : List Name) (file text : List ℕ) (place : ℕ) → SparesFree names
    → IsStripped names file text → NamedBoxAt names File place text → ⊥

-- And a copy of the copy is the copy.
abbrev pub StripTwiceIsOnce : Type 0
StripTwiceIsOnce = (names : List Name) (file text again : List ℕ) → SparesFree names
    → IsStripped names file text → IsStripped names text again → again ≡ text

-- The name of boxes that the profile refuses never means free space.
abbrev pub ForeignSparesFree : Type 0
ForeignSparesFree = (names : List Name) → SparesFree names → SparesFree (Foreign ∷ names)

-- What it means, where it isn't inside another, is a fault of the file.
abbrev pub ForeignIsFault : Type 0
ForeignIsFault = (file : List ℕ) (place : ℕ) → NamedBoxAt (Foreign ∷ []) File place file
    → (f : Fault) × (f.kind ≡ BoxNotInProfile) × Stands file f

-- So a file that denotes something is copied byte for byte.
abbrev pub AcceptedIsCopied : Type 0
AcceptedIsCopied = (file text : List ℕ) (p : Presentation) → Denotes file p
    → IsStripped (Foreign ∷ []) file text → text ≡ file

-- ---- copies that denote the same

-- Types of a file's own boxes that say nothing of a presentation: brands, indexes, free space, and
-- media data, of which samples are found by their place.
abbrev pub passed_over : List (List ℕ)
passed_over = codes "ftyp" ∷ codes "styp" ∷ codes "sidx" ∷ codes "mfra" ∷ codes "mdat" ∷ free_space

-- What the names mean of the boxes of the profile are the file's own, of these types.
abbrev pub MeansPassedOver : List Name → Type 0
MeansPassedOver names = (rule : Rule) (kind : List ℕ) (uuid : Option (List ℕ))
    → allows rule kind ≡ true → is_named names rule kind uuid ≡ true
    → (is_top rule ≡ true) × (is_among passed_over kind ≡ true)

-- no byte of so many at a place is one of the type of a named box
abbrev pub SparesBytes : List Name → List ℕ → ℤ → ℕ → Type 0
SparesBytes names file (pos at) size = (place : ℕ) → 0 < size → NamedBoxAt names File place file
    → (at + size ≤ place + 4) ⊎ (place + 8 ≤ at)
SparesBytes names file (negsuc below) size = ⊤

-- no byte of a sample is
abbrev pub SparesSamples : List Name → List ℕ → FileTree → Type 0
SparesSamples names file tree = AllByRecursion (λ (t : TrackTree). AllByRecursion
    (λ (s : PlacedSample). SparesBytes names file s.at s.size) (placed_of (file_parts tree) t))
    tree.movie.tracks

-- Then the copy denotes what the file denotes.
abbrev pub CopyDenotesTheSame : Type 0
CopyDenotesTheSame = (names : List Name) (file text : List ℕ) (p : Presentation)
    (d : Denotes file p) → MeansPassedOver names → SparesSamples names file d.tree
    → IsStripped names file text → Denotes text p
