-- What readers say of the containers of a `moov`.
use Rattle.std.specs.Prelude.{◌≡◌, ℕ, List, map, codes, true}
use Rattle.std.specs.List.{AllByRecursion}
use Rattle.mp4_boxes.specs.format.Box.{Box, box_container, counted_container, Tiles}
use Rattle.mp4_boxes.specs.format.Children.{Holds, of_kind, payload_if, media_headers}
use Rattle.mp4_boxes.specs.format.Layout.{dref, stsd, IsSound}
use Rattle.mp4_boxes.specs.format.Places.{ruled, data_entries, sample_entries, AreSound}
use Rattle.mp4_boxes.specs.declared.rule.Rule.TheVariants as rules
use Rattle.mp4_frag.specs.declared.trex.Trex.{Trex}
use Rattle.mp4_frag.specs.format.Fragments.{trex_of}
use Rattle.mp4_head.specs.format.Head.{Kept, Edit}
use Rattle.mp4_head.specs.words.Leaves.{SaysMedia}
use Rattle.mp4_head.specs.declared.media_boxes.MediaHeader.{MediaHeader}
use Rattle.mp4_head.specs.format.Tree.{first_of, first_among, edits_of, are_distinct}

-- the boxes of an `edts`, and its edits
pub record SaysEdits (edts : Box) (edits : List Edit) : Type 0 where
  pub boxes : List Box
  pub holds : Holds rules.Edits (box_container edts) boxes
  pub sound : AreSound (ruled rules.Edits) boxes
  pub says : edits ≡ edits_of (payload_if (codes "elst") boxes)

-- the entries of a `dref`
pub record SaysReferences (b : Box) : Type 0 where
  pub entries : List Box
  pub tiles : Tiles (counted_container b) entries
  pub own : IsSound dref b.payload
  pub sound : AreSound data_entries entries
  pub urls : AllByRecursion (λ (e : Box). e.kind ≡ codes "url ") entries

-- the boxes of a `dinf`
pub record SaysDataInformation (dinf : Box) : Type 0 where
  pub boxes : List Box
  pub holds : Holds rules.DataInformation (box_container dinf) boxes
  pub sound : AreSound (ruled rules.DataInformation) boxes
  pub references : SaysReferences (first_of (codes "dref") boxes)

-- the entries of an `stsd`, and the descriptions that they are
pub record SaysDescriptions (b : Box) (descriptions : List Kept) : Type 0 where
  pub entries : List Box
  pub tiles : Tiles (counted_container b) entries
  pub own : IsSound stsd b.payload
  pub sound : AreSound sample_entries entries
  pub says : descriptions ≡ map (λ (e : Box). record { kind = e.kind; payload = e.payload }) entries

-- the boxes of an `stbl`: its descriptions, and what describes groups
pub record SaysTable (stbl : Box) (descriptions : List Kept) (groups : List (List ℕ)) : Type 0 where
  pub boxes : List Box
  pub holds : Holds rules.SampleTable (box_container stbl) boxes
  pub entries : SaysDescriptions (first_of (codes "stsd") boxes) descriptions
  pub says : groups ≡ map (λ (b : Box). b.payload) (of_kind (codes "sgpd") boxes)

-- a box as it is kept
abbrev pub kept_of : Box → Kept
kept_of b = record { kind = b.kind; payload = b.payload }

-- the boxes of a `minf`: the media header, the `stbl` and what it says
pub record SaysInformation (minf : Box) (header : Kept) (stbl : Box) (descriptions : List Kept)
    (groups : List (List ℕ)) : Type 0 where
  pub boxes : List Box
  pub holds : Holds rules.MediaInformation (box_container minf) boxes
  pub reference : SaysDataInformation (first_of (codes "dinf") boxes)
  pub header_is : header ≡ kept_of (first_among media_headers boxes)
  pub stbl_is : stbl ≡ first_of (codes "stbl") boxes
  pub table : SaysTable (first_of (codes "stbl") boxes) descriptions groups

-- the boxes of an `mdia`: its `mdhd`, the payload of its `hdlr`, those of its `elng`, and what its
-- `minf` says
pub record SaysMediaBoxes (mdia : Box) (h : MediaHeader) (handler : List ℕ)
    (languages : List (List ℕ)) (header : Kept) (stbl : Box) (descriptions : List Kept)
    (groups : List (List ℕ)) : Type 0 where
  pub boxes : List Box
  pub holds : Holds rules.Media (box_container mdia) boxes
  pub sound : AreSound (ruled rules.Media) boxes
  pub header_says : SaysMedia (first_of (codes "mdhd") boxes).payload h
  pub handler_is : handler ≡ (first_of (codes "hdlr") boxes).payload
  pub languages_are : languages ≡ map (λ (b : Box). b.payload) (of_kind (codes "elng") boxes)
  pub information : SaysInformation (first_of (codes "minf") boxes) header stbl descriptions groups

-- the boxes of an `mvex`, and what its `trex`s say
pub record SaysExtends (mvex : Box) (trexes : List Trex) : Type 0 where
  pub boxes : List Box
  pub holds : Holds rules.MovieExtends (box_container mvex) boxes
  pub sound : AreSound (ruled rules.MovieExtends) boxes
  pub says : trexes ≡ map (λ (b : Box). trex_of b.payload) (of_kind (codes "trex") boxes)
  pub distinct : are_distinct (map (λ (x : Trex). x.id) trexes) ≡ true
