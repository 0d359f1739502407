-- The tree of a `moov` by the definition is the one that its boxes have.
use Rattle.std.proofs.Common.{◌≡◌, List, [], ◌∷◌, map, refl, sym, ap, ◌∙◌}
use Rattle.std.specs.Prelude.{codes}
use Rattle.std.specs.List.{AllByRecursion}
use Rattle.mp4_boxes.specs.format.Box.{Box, Tiles, box_container, counted_container}
use Rattle.mp4_boxes.specs.format.Children.{Holds, of_kind}
use Rattle.mp4_boxes.specs.declared.rule.Rule.{Rule}
use Rattle.mp4_boxes.specs.declared.rule.Rule.TheVariants as rules
use Rattle.mp4_boxes.proofs.ChildrenJudged.{held_are}
use Rattle.mp4_head.specs.format.FirstFault.{boxes_there, boxes_in, counted_in, in_all, track_tree_of, movie_tree_of}
use Rattle.mp4_head.specs.format.Tree.{TrackTree, MovieTree, IsTrackTree, IsMovieTree, HoldsIfThere, first_of, stbl_of}
use Rattle.mp4_present.proofs.BoxesJudged.{counted_are}

-- the boxes that a box holds
held_in : (rule : Rule) (b : Box) (boxes : List Box) → Holds rule (box_container b) boxes → boxes_in rule b ≡ boxes
held_in rule b boxes h = ap boxes_there (held_are rule (box_container b) boxes h)

-- the counted boxes that a box holds
counted_there : (b : Box) (boxes : List Box) → Tiles (counted_container b) boxes → counted_in b ≡ boxes
counted_there b boxes t = ap boxes_there (counted_are (counted_container b) boxes t)

-- the boxes of a container that need not be there
held_if : (rule : Rule) (bs boxes : List Box) → HoldsIfThere rule bs boxes → in_all rule bs ≡ boxes
held_if rule [] boxes h = sym h
held_if rule (b ∷ more) boxes h = held_in rule b boxes h

-- the tree of a `trak`
pub track_is : (t : TrackTree) → IsTrackTree t → track_tree_of t.trak ≡ t
track_is t i =
    let track = held_in rules.Track t.trak t.track i.track in
    let edits = ap (λ (bs : List Box). in_all rules.Edits (of_kind (codes "edts") bs)) track ∙ held_if rules.Edits (of_kind (codes "edts") t.track) t.edits i.edits in
    let media = ap (λ (bs : List Box). boxes_in rules.Media (first_of (codes "mdia") bs)) track ∙ held_in rules.Media (first_of (codes "mdia") t.track) t.media i.media in
    let information = ap (λ (bs : List Box). boxes_in rules.MediaInformation (first_of (codes "minf") bs)) media ∙ held_in rules.MediaInformation (first_of (codes "minf") t.media) t.information i.information in
    let data_information = ap (λ (bs : List Box). boxes_in rules.DataInformation (first_of (codes "dinf") bs)) information ∙ held_in rules.DataInformation (first_of (codes "dinf") t.information) t.data_information i.data_information in
    let data_references = ap (λ (bs : List Box). counted_in (first_of (codes "dref") bs)) data_information ∙ counted_there (first_of (codes "dref") t.data_information) t.data_references i.data_references in
    let table = ap (λ (bs : List Box). boxes_in rules.SampleTable (first_of (codes "stbl") bs)) information ∙ held_in rules.SampleTable (stbl_of t) t.table i.table in
    let descriptions = ap (λ (bs : List Box). counted_in (first_of (codes "stsd") bs)) table ∙ counted_there (first_of (codes "stsd") t.table) t.descriptions i.descriptions in
    λ j. record {
      trak = t.trak;
      track = track j;
      edits = edits j;
      media = media j;
      information = information j;
      data_information = data_information j;
      data_references = data_references j;
      table = table j;
      descriptions = descriptions j;
    }

-- the trees of all
tracks_are : (tracks : List TrackTree) → AllByRecursion IsTrackTree tracks → map track_tree_of (map (λ (t : TrackTree). t.trak) tracks) ≡ tracks
tracks_are [] h = refl
tracks_are (t ∷ tracks) h = λ j. track_is t h.0 j ∷ tracks_are tracks h.1 j

-- the tree of a `moov`
pub movie_is : (m : MovieTree) → IsMovieTree m → movie_tree_of m.moov ≡ m
movie_is m i =
    let movie = held_in rules.Movie m.moov m.movie i.movie in
    let extends = ap (λ (bs : List Box). in_all rules.MovieExtends (of_kind (codes "mvex") bs)) movie ∙ held_if rules.MovieExtends (of_kind (codes "mvex") m.movie) m.extends i.extends in
    let tracks = ap (λ (bs : List Box). map track_tree_of (of_kind (codes "trak") bs)) movie ∙ ap (map track_tree_of) (sym i.traks) ∙ tracks_are m.tracks i.tracks in
    λ j. record { moov = m.moov; movie = movie j; extends = extends j; tracks = tracks j }
