-- The first fault of a `moov`, apart from tables: one walk over the containers of the profile. Of a
-- container first the list of its boxes is judged, then each box in file order: as a leaf, then
-- what is in it.
use Rattle.std.specs.Prelude.{ℕ, zero, suc, ◌&&◌, not, Bool, true, false, nat_eq, List, [], ◌∷◌, ◌++◌, map, Option, Some, None, Result, Ok, Err, codes, bytes_eq, slice_index}
use Rattle.std.specs.List.{list_any}
use Rattle.mp4_boxes.specs.format.Box.{Box, box_container, counted_container}
use Rattle.mp4_boxes.specs.format.Children.{is_among, kept_kinds, of_kind}
use Rattle.mp4_boxes.specs.format.Layout.{Leaf, tkhd, trex, leaf_fields}
use Rattle.mp4_boxes.specs.format.Places.{Scope, ruled, data_entries, sample_entries, Place, leaf_of, inside}
use Rattle.mp4_boxes.specs.format.FirstFault.{Test, first_failed, naming, leaf_tests, children_or_fault, counted_or_fault}
use Rattle.mp4_boxes.specs.declared.rule.Rule.{Rule}
use Rattle.mp4_boxes.specs.declared.rule.Rule.TheVariants as rules
use Rattle.mp4_boxes.specs.declared.fault.Fault.{Fault}
use Rattle.mp4_boxes.specs.declared.fault.Kind.{Kind}
use Rattle.mp4_boxes.specs.declared.fault.Kind.TheVariants.{BadValue, OutsideData, ItemLocation}
use Rattle.mp4_head.specs.format.Head.{names_item_location}
use Rattle.mp4_head.specs.format.Tree.{TrackTree, MovieTree, first_of}
use Rattle.mp4_head.specs.format.HeadFaults.{is_table}

-- the boxes of a container, or the first fault of their list
abbrev pub held : Place → Result (List Box) Fault
held place = by place.scope
  where
    by : Scope → Result (List Box) Fault
    by (ruled rule) = children_or_fault rule place.container
    by data_entries = counted_or_fault place.container
    by sample_entries = counted_or_fault place.container

-- the boxes of a container, none where they are at fault
abbrev pub boxes_there : Result (List Box) Fault → List Box
boxes_there (Ok boxes) = boxes
boxes_there (Err f) = []

abbrev pub boxes_in : Rule → Box → List Box
boxes_in rule b = boxes_there (children_or_fault rule (box_container b))

-- the ID that a `tkhd` or `trex` says
abbrev pub id_in : Leaf → ℕ → Box → ℕ
id_in leaf number b = slice_index (leaf_fields leaf b.payload) number

abbrev pub track_id_of : Box → ℕ
track_id_of trak = id_in tkhd 4 (first_of (codes "tkhd") (boxes_in rules.Track trak))

-- no box of the type has an ID that one of these is
abbrev pub is_new : List ℕ → Leaf → ℕ → List ℕ → Box → Bool
is_new kind leaf number ids b = not (bytes_eq kind b.kind
    && list_any (nat_eq (id_in leaf number b)) ids)

abbrev pub is_placed : Rule → Box → Bool
is_placed rule b = is_among (kept_kinds rule) b.kind && names_item_location b.payload

-- what is tested of a box beside its own fields: where it stands, behind which boxes, and behind
-- tracks of which IDs
abbrev pub place_tests : Scope → List ℕ → List Box → Box → List (Test Kind)
place_tests (ruled rules.Movie) ids before b = (not (is_placed rules.Movie b), ItemLocation) ∷ []
place_tests (ruled rules.Track) ids before b = (not (is_placed rules.Track b), ItemLocation)
    ∷ (is_new (codes "tkhd") tkhd 4 ids b, BadValue) ∷ []
place_tests (ruled rules.MovieExtends) ids before b =
    (is_new (codes "trex") trex 2 (map (id_in trex 2) (of_kind (codes "trex") before)) b, BadValue)
    ∷ []
place_tests data_entries ids before b = (bytes_eq (codes "url ") b.kind, OutsideData) ∷ []
place_tests _ ids before b = []

-- a box as a leaf that is no table
abbrev pub head_leaf_tests : Option Leaf → Box → List (Test Kind)
head_leaf_tests None b = []
head_leaf_tests (Some leaf) b = unless_table (is_table leaf)
  where
    unless_table : Bool → List (Test Kind)
    unless_table true = []
    unless_table false = leaf_tests leaf b.payload

abbrev pub own_tests : Scope → List ℕ → List Box → Box → List (Test Fault)
own_tests scope ids before b = naming b (head_leaf_tests (leaf_of scope b.kind) b
    ++ place_tests scope ids before b)

abbrev pub or_else : Option Fault → (Unit {0} → Option Fault) → Option Fault
or_else (Some f) next = Some f
or_else None next = next tt

-- the first fault of each of these boxes, behind those
abbrev pub each_fault : (List Box → Box → Option Fault) → List Box → List Box → Option Fault
each_fault judged before [] = None
each_fault judged before (b ∷ boxes) = or_else (judged before b)
    (λ u. each_fault judged (before ++ b ∷ []) boxes)

-- the IDs of tracks behind which the inside of a box is judged
abbrev pub ids_behind : Scope → List ℕ → List Box → List ℕ
ids_behind (ruled rules.Movie) ids before = map track_id_of (of_kind (codes "trak") before)
ids_behind _ ids before = ids

abbrev pub if_container : Option Place → (Place → Option Fault) → Option Fault
if_container None deeper = None
if_container (Some place) deeper = deeper place

abbrev pub in_list : Result (List Box) Fault → (List Box → Box → Option Fault) → Option Fault
in_list (Err f) judged = Some f
in_list (Ok boxes) judged = each_fault judged [] boxes

-- the first fault of a container, n containers deep, behind tracks of these IDs
abbrev pub fault_within : ℕ → List ℕ → Place → Option Fault
fault_within zero ids place = None
fault_within (suc n) ids place = in_list (held place) (λ before b.
    or_else (first_failed (own_tests place.scope ids before b)) (λ u.
    if_container (inside place b) (fault_within n (ids_behind place.scope ids before))))

-- `moov`, `trak`, `mdia`, `minf`, `stbl`, `stsd`
abbrev pub depth : ℕ
depth = 6

-- ---- the tree

abbrev pub counted_in : Box → List Box
counted_in b = boxes_there (counted_or_fault (counted_container b))

abbrev pub in_all : Rule → List Box → List Box
in_all rule [] = []
in_all rule (b ∷ more) = boxes_in rule b

abbrev pub track_tree_of : Box → TrackTree
track_tree_of trak =
    let track = boxes_in rules.Track trak in
    let media = boxes_in rules.Media (first_of (codes "mdia") track) in
    let information = boxes_in rules.MediaInformation (first_of (codes "minf") media) in
    let data_information = boxes_in rules.DataInformation (first_of (codes "dinf") information) in
    let table = boxes_in rules.SampleTable (first_of (codes "stbl") information) in
    record {
      trak = trak;
      track = track;
      edits = in_all rules.Edits (of_kind (codes "edts") track);
      media = media;
      information = information;
      data_information = data_information;
      data_references = counted_in (first_of (codes "dref") data_information);
      table = table;
      descriptions = counted_in (first_of (codes "stsd") table);
    }

abbrev pub movie_tree_of : Box → MovieTree
movie_tree_of moov =
    let movie = boxes_in rules.Movie moov in
    record {
      moov = moov;
      movie = movie;
      extends = in_all rules.MovieExtends (of_kind (codes "mvex") movie);
      tracks = map track_tree_of (of_kind (codes "trak") movie);
    }

abbrev pub head_or_fault : Box → Result MovieTree Fault
head_or_fault moov = by (fault_within depth []
    (record { scope = ruled rules.Movie; container = box_container moov }))
  where
    by : Option Fault → Result MovieTree Fault
    by (Some f) = Err f
    by None = Ok (movie_tree_of moov)
