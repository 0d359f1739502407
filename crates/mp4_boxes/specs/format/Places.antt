-- Which boxes are containers, which are read as leaves, which are kept; and what it means to stand
-- in a file.
use Rattle.std.specs.Prelude.{◌≡◌, ℕ, List, [], ◌∷◌, Option, Some, None, cond, codes, bytes_eq, option_map}
use Rattle.mp4_boxes.specs.format.Box.{Box, Container, file_container, box_container, counted_container, StandsAfter}
use Rattle.std.specs.List.{AllByRecursion}
use Rattle.mp4_boxes.specs.format.Layout.{IsSound, Leaf, mvhd, tkhd, mdhd, hdlr, elst, dref, data_entry_url, stsd, sample_entry, stts, ctts, stsc, stsz, stz2, stco, co64, stss, sdtp, sbgp, sgpd, trex, tfhd, tfdt, trun}
use Rattle.mp4_boxes.specs.declared.rule.Rule.{Rule}
use Rattle.mp4_boxes.specs.declared.rule.Rule.TheVariants.{File, Movie, Track, Edits, Media, MediaInformation, DataInformation, SampleTable, MovieExtends, MovieFragment, TrackFragment}

-- what a container holds: boxes under a rule of the table, or the counted entries of `dref` or of
-- `stsd`
pub data Scope : Type 0 where
  ruled : Rule → Scope
  data_entries : Scope
  sample_entries : Scope

-- a container, and what it holds
pub record Place : Type 0 where
  pub scope : Scope
  pub container : Container

-- the file itself
abbrev pub whole : List ℕ → Place
whole file = record { scope = ruled File; container = file_container file }

-- the value at a type, if the table has it
abbrev pub at_kind : {A : Type 0} → List (List ℕ × A) → List ℕ → Option A
at_kind [] kind = None
at_kind (entry ∷ entries) kind = cond (bytes_eq entry.0 kind) (Some entry.1) (at_kind entries kind)

-- the containers that a container may hold
abbrev pub containers : Scope → List (List ℕ × Scope)
containers (ruled File) = (codes "moov", ruled Movie) ∷ (codes "moof", ruled MovieFragment) ∷ []
containers (ruled Movie) = (codes "trak", ruled Track) ∷ (codes "mvex", ruled MovieExtends) ∷ []
containers (ruled Track) = (codes "edts", ruled Edits) ∷ (codes "mdia", ruled Media) ∷ []
containers (ruled Media) = (codes "minf", ruled MediaInformation) ∷ []
containers (ruled MediaInformation) = (codes "dinf", ruled DataInformation)
    ∷ (codes "stbl", ruled SampleTable) ∷ []
containers (ruled DataInformation) = (codes "dref", data_entries) ∷ []
containers (ruled SampleTable) = (codes "stsd", sample_entries) ∷ []
containers (ruled MovieFragment) = (codes "traf", ruled TrackFragment) ∷ []
containers _ = []

-- the leaves that are read there
abbrev pub leaves : Scope → List (List ℕ × Leaf)
leaves (ruled Movie) = (codes "mvhd", mvhd) ∷ []
leaves (ruled Track) = (codes "tkhd", tkhd) ∷ []
leaves (ruled Edits) = (codes "elst", elst) ∷ []
leaves (ruled Media) = (codes "mdhd", mdhd) ∷ (codes "hdlr", hdlr) ∷ []
leaves (ruled DataInformation) = (codes "dref", dref) ∷ []
leaves (ruled SampleTable) = (codes "stsd", stsd) ∷ (codes "stts", stts) ∷ (codes "ctts", ctts)
    ∷ (codes "stsc", stsc) ∷ (codes "stsz", stsz) ∷ (codes "stz2", stz2) ∷ (codes "stco", stco)
    ∷ (codes "co64", co64) ∷ (codes "stss", stss) ∷ (codes "sdtp", sdtp) ∷ (codes "sbgp", sbgp)
    ∷ (codes "sgpd", sgpd) ∷ []
leaves (ruled MovieExtends) = (codes "trex", trex) ∷ []
leaves (ruled TrackFragment) = (codes "tfhd", tfhd) ∷ (codes "tfdt", tfdt) ∷ (codes "trun", trun)
    ∷ (codes "sbgp", sbgp) ∷ []
leaves data_entries = (codes "url ", data_entry_url) ∷ []
leaves _ = []

-- how a box is read as a leaf: an entry of `stsd` as an entry, whatever its type
abbrev pub leaf_of : Scope → List ℕ → Option Leaf
leaf_of sample_entries kind = Some sample_entry
leaf_of scope kind = at_kind (leaves scope) kind

-- a box of this scope as a container
abbrev pub as_container : Scope → Box → Container
as_container (ruled rule) b = box_container b
as_container _ b = counted_container b

-- what a box holds that stands in a container, if it is one
abbrev pub inside : Place → Box → Option Place
inside place b = option_map (λ scope. record { scope = scope; container = as_container scope b })
    (at_kind (containers place.scope) b.kind)

-- The boxes lead from a container down to another: each stands in the one that the box before it
-- holds.
abbrev pub Leads : Place → List Box → Place → Type 0
Leads from [] to = from ≡ to
Leads from (b ∷ path) to = (before : List Box) × StandsAfter from.container before b
    × (next : Place) × (inside from b ≡ Some next) × Leads next path to

-- the container stands there, or is it
abbrev pub Reaches : Place → Place → Type 0
Reaches from to = (path : List Box) × Leads from path to

-- the box stands somewhere in a container, in this place and behind these
pub record StandsIn (from place : Place) (before : List Box) (b : Box) : Type 0 where
  pub reaches : Reaches from place
  pub after : StandsAfter place.container before b

-- each box that is read as a leaf there can be read, and none of its values is refused
abbrev pub IsSoundAs : Option Leaf → List ℕ → Type 0
IsSoundAs None payload = Unit {0}
IsSoundAs (Some leaf) payload = IsSound leaf payload

abbrev pub AreSound : Scope → List Box → Type 0
AreSound scope children = AllByRecursion (λ (b : Box). IsSoundAs (leaf_of scope b.kind) b.payload)
    children
