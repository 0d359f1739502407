-- Which faults stand in a container: in the headers and the lists of boxes, in a leaf, in what is
-- kept.
use Rattle.std.specs.Prelude.{◌≡◌, ℕ, ◌<◌, ◌⊎◌, Bool, true, false, IsTrue, List, None, Some, slice_index}
use Rattle.mp4_boxes.specs.format.Box.{Box}
use Rattle.mp4_boxes.specs.format.Children.{is_among, kept_kinds}
use Rattle.mp4_boxes.specs.format.Layout.{Leaf, tkhd, trex, stts, ctts, stsc, stsz, stz2, stco, co64, stss, sdtp, sbgp, sgpd, leaf_fields, IsReadable}
use Rattle.mp4_boxes.specs.format.Places.{ruled, data_entries, Place, leaf_of, Reaches, StandsIn}
use Rattle.mp4_boxes.specs.format.BoxFaults.{fault_of, IsHeaderFault, IsNotInProfile, IsDuplicate, IsMissing, IsLeafFault}
use Rattle.mp4_boxes.specs.declared.rule.Rule.{Rule}
use Rattle.mp4_boxes.specs.declared.rule.Rule.TheVariants as rules
use Rattle.mp4_boxes.specs.declared.fault.Fault.{Fault}
use Rattle.mp4_boxes.specs.declared.fault.Kind.TheVariants.{BadValue, OutsideData, ItemLocation}
use Rattle.mp4_head.specs.format.Head.{names_item_location}

-- ---- headers, and which boxes stand where

-- no header can be read where a box is due
pub record HeaderStands (from : Place) (f : Fault) : Type 0 where
  pub place : Place
  pub reaches : Reaches from place
  pub fault : IsHeaderFault place.container f

-- a box stands where it may not, or once more than it may
pub record ChildStands (from : Place) (f : Fault) : Type 0 where
  pub place : Place
  pub reaches : Reaches from place
  pub rule : Rule
  pub under : place.scope ≡ ruled rule
  pub fault : IsNotInProfile rule place.container f ⊎ IsDuplicate rule place.container f

-- a box does not stand that must
pub record MissingStands (from : Place) (f : Fault) : Type 0 where
  pub place : Place
  pub reaches : Reaches from place
  pub rule : Rule
  pub under : place.scope ≡ ruled rule
  pub fault : IsMissing rule place.container f

-- ---- what one leaf, entry or kept box says

-- a track ID in `tkhd`, or in `trex`, that an earlier one has
pub record IsTakenId (from : Place) (leaf : Leaf) (number : ℕ) (f : Fault) : Type 0 where
  pub place : Place
  pub before : List Box
  pub b : Box
  pub stands : StandsIn from place before b
  pub leaf_is : leaf_of place.scope b.kind ≡ Some leaf
  pub readable : IsReadable leaf b.payload
  pub earlier_place : Place
  pub earlier_before : List Box
  pub earlier : Box
  pub earlier_stands : StandsIn from earlier_place earlier_before earlier
  pub earlier_leaf_is : leaf_of earlier_place.scope earlier.kind ≡ Some leaf
  pub earlier_readable : IsReadable leaf earlier.payload
  pub order : earlier.offset < b.offset
  pub same_id : slice_index (leaf_fields leaf b.payload) number
      ≡ slice_index (leaf_fields leaf earlier.payload) number
  pub named : f ≡ fault_of BadValue b

-- an entry of `dref` of another type than `url `
pub record IsForeignReference (from : Place) (f : Fault) : Type 0 where
  pub place : Place
  pub before : List Box
  pub b : Box
  pub stands : StandsIn from place before b
  pub in_dref : place.scope ≡ data_entries
  pub foreign : leaf_of data_entries b.kind ≡ None
  pub named : f ≡ fault_of OutsideData b

-- a kept box of `moov` or `trak` that names file offsets of items
pub record IsItemLocation (from : Place) (f : Fault) : Type 0 where
  pub place : Place
  pub before : List Box
  pub b : Box
  pub stands : StandsIn from place before b
  pub kept : ((place.scope ≡ ruled rules.Movie) × IsTrue (is_among (kept_kinds rules.Movie) b.kind))
      ⊎ ((place.scope ≡ ruled rules.Track) × IsTrue (is_among (kept_kinds rules.Track) b.kind))
  pub names : names_item_location b.payload ≡ true
  pub named : f ≡ fault_of ItemLocation b

-- the ID is the third field of `tkhd`'s after the flags, and the first of `trex`'s
abbrev pub LeafStands : Place → Fault → Type 0
LeafStands from f = IsLeafFault from f
    ⊎ (IsTakenId from tkhd 4 f
    ⊎ (IsTakenId from trex 2 f ⊎ (IsForeignReference from f ⊎ IsItemLocation from f)))

-- ---- apart from tables

-- the leaves of an `stbl` but its `stsd`
abbrev pub is_table : Leaf → Bool
is_table stts = true
is_table ctts = true
is_table stsc = true
is_table stsz = true
is_table stz2 = true
is_table stco = true
is_table co64 = true
is_table stss = true
is_table sdtp = true
is_table sbgp = true
is_table sgpd = true
is_table _ = false

-- a leaf is at fault that is no table
pub record IsHeadLeafFault (from : Place) (f : Fault) : Type 0 where
  pub fault : IsLeafFault from f
  pub no_table : is_table fault.leaf ≡ false

-- what may be said of a box and the boxes in it, apart from tables
abbrev pub HeadStands : Place → Fault → Type 0
HeadStands from f =
    HeaderStands from f
    ⊎ (ChildStands from f
    ⊎ (MissingStands from f
    ⊎ (IsHeadLeafFault from f
    ⊎ (IsTakenId from tkhd 4 f
    ⊎ (IsTakenId from trex 2 f ⊎ (IsForeignReference from f ⊎ IsItemLocation from f))))))
