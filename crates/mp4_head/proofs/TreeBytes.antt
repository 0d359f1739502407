-- The boxes in a `moov` that lies in bytes are of bytes.
use Rattle.std.proofs.Common.{ℕ, List, [], ◌∷◌, sym, subst}
use Rattle.std.specs.Prelude.{codes, map}
use Rattle.std.specs.List.{AllByRecursion}
use Rattle.mp4_boxes.specs.format.Bytes.{AreBytes}
use Rattle.mp4_boxes.specs.format.Box.{Box, box_container, counted_container, Tiles}
use Rattle.mp4_boxes.specs.format.Children.{Holds, of_kind}
use Rattle.mp4_boxes.specs.declared.rule.Rule.{Rule}
use Rattle.mp4_boxes.specs.declared.rule.Rule.TheVariants as rules
use Rattle.mp4_boxes.proofs.OfBytes.{IsOfBytes, bytes_dropped, tiled_of_bytes, payload_of_bytes, payloads_of_bytes}
use Rattle.mp4_head.specs.format.Tree.{TrackTree, MovieTree, HoldsIfThere, IsTrackTree, IsMovieTree, first_of}
use Rattle.mp4_head.proofs.Distinct.{payload_first}

-- the payload of the first box of a type
first_of_bytes : (kind : List ℕ) (bs : List Box) → AllByRecursion IsOfBytes bs → AreBytes (first_of kind bs).payload
first_of_bytes kind bs h = subst AreBytes (payload_first kind bs) (payload_of_bytes kind bs h)

-- the boxes of a container in a container
inside_of_bytes : (rule : Rule) (kind : List ℕ) (bs boxes : List Box) → AllByRecursion IsOfBytes bs → Holds rule (box_container (first_of kind bs)) boxes → AllByRecursion IsOfBytes boxes
inside_of_bytes rule kind bs boxes h k = tiled_of_bytes (box_container (first_of kind bs)) boxes (first_of_bytes kind bs h) k.tiles

-- the same of counted boxes
counted_of_bytes : (kind : List ℕ) (bs boxes : List Box) → AllByRecursion IsOfBytes bs → Tiles (counted_container (first_of kind bs)) boxes → AllByRecursion IsOfBytes boxes
counted_of_bytes kind bs boxes h k = tiled_of_bytes (counted_container (first_of kind bs)) boxes (bytes_dropped 8 (first_of kind bs).payload (first_of_bytes kind bs h)) k

-- and of a container that need not be there
there_of_bytes : (rule : Rule) (found boxes : List Box) → AllByRecursion (λ (b : Box). AreBytes b.payload) found → HoldsIfThere rule found boxes → AllByRecursion IsOfBytes boxes
there_of_bytes rule [] boxes h k = subst (λ (bs : List Box). AllByRecursion IsOfBytes bs) (sym k) tt
there_of_bytes rule (b ∷ more) boxes h k = tiled_of_bytes (box_container b) boxes h.0 k.tiles

-- each box of a track is of bytes
pub record TrackOfBytes (t : TrackTree) : Type 0 where
  pub track : AllByRecursion IsOfBytes t.track
  pub edits : AllByRecursion IsOfBytes t.edits
  pub media : AllByRecursion IsOfBytes t.media
  pub information : AllByRecursion IsOfBytes t.information
  pub table : AllByRecursion IsOfBytes t.table
  pub descriptions : AllByRecursion IsOfBytes t.descriptions

-- a track whose `trak` is of bytes
track_of_bytes : (t : TrackTree) → AreBytes t.trak.payload → IsTrackTree t → TrackOfBytes t
track_of_bytes t h k =
    let track = tiled_of_bytes (box_container t.trak) t.track h k.track.tiles in
    let media = inside_of_bytes rules.Media (codes "mdia") t.track t.media track k.media in
    let information = inside_of_bytes rules.MediaInformation (codes "minf") t.media t.information media k.information in
    let table = inside_of_bytes rules.SampleTable (codes "stbl") t.information t.table information k.table in
    record {
      track = track;
      edits = there_of_bytes rules.Edits (of_kind (codes "edts") t.track) t.edits (payloads_of_bytes (codes "edts") t.track track) k.edits;
      media = media;
      information = information;
      table = table;
      descriptions = counted_of_bytes (codes "stsd") t.table t.descriptions table k.descriptions;
    }

-- and all tracks
tracks_of_bytes : (ts : List TrackTree) → AllByRecursion (λ (b : Box). AreBytes b.payload) (map (λ (t : TrackTree). t.trak) ts) → AllByRecursion IsTrackTree ts → AllByRecursion TrackOfBytes ts
tracks_of_bytes [] h k = tt
tracks_of_bytes (t ∷ ts) h k = (track_of_bytes t h.0 k.0, tracks_of_bytes ts h.1 k.1)

-- each box of a `moov` is of bytes
pub record MovieOfBytes (m : MovieTree) : Type 0 where
  pub movie : AllByRecursion IsOfBytes m.movie
  pub extends : AllByRecursion IsOfBytes m.extends
  pub tracks : AllByRecursion TrackOfBytes m.tracks

-- The boxes in a `moov` of bytes are of bytes.
pub movie_of_bytes : (m : MovieTree) → AreBytes m.moov.payload → IsMovieTree m → MovieOfBytes m
movie_of_bytes m h k =
    let movie = tiled_of_bytes (box_container m.moov) m.movie h k.movie.tiles in
    record {
      movie = movie;
      extends = there_of_bytes rules.MovieExtends (of_kind (codes "mvex") m.movie) m.extends (payloads_of_bytes (codes "mvex") m.movie movie) k.extends;
      tracks = tracks_of_bytes m.tracks (subst (λ (bs : List Box). AllByRecursion (λ (b : Box). AreBytes b.payload) bs) (sym k.traks) (payloads_of_bytes (codes "trak") m.movie movie)) k.tracks;
    }
