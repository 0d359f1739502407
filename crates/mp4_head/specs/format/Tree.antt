-- The boxes of a `moov` as a whole, and what its fields say (ISO/IEC 14496-12, 8.1 to 8.7).
use Rattle.std.specs.Prelude.{◌≡◌, ℕ, List, [], ◌∷◌, map, filter, find, Bool, true, false, not, ◌&&◌, Option, Some, None, unwrap_or, slice_index, slice_range, ℤ, codes, bytes_eq, nat_eq}
use Rattle.std.specs.List.{AllByRecursion, list_any}
use Rattle.byteorder.specs.Endian.{twos_complement}
use Rattle.mp4_boxes.specs.format.Box.{Box, box_container, counted_container, Tiles}
use Rattle.mp4_boxes.specs.format.Children.{Holds, of_kind, payload_of, payload_if, is_among, media_headers, kept_kinds}
use Rattle.mp4_boxes.specs.format.Layout.{mvhd, tkhd, mdhd, elst, stsd, leaf_fields, leaf_rows, version, time_width, IsSound}
use Rattle.mp4_boxes.specs.format.Places.{ruled, data_entries, sample_entries, AreSound}
use Rattle.mp4_boxes.specs.declared.rule.Rule.{Rule}
use Rattle.mp4_boxes.specs.declared.rule.Rule.TheVariants as rules
use Rattle.mp4_frag.specs.declared.trex.Trex.{Trex}
use Rattle.mp4_frag.specs.format.Fragments.{trex_of}
use Rattle.mp4_head.specs.format.Head.{Kept, Edit, Media, TrackHead, MovieHead, Head, names_item_location}

-- the first box of a type; an empty one where there is none
abbrev pub first_of : List ℕ → List Box → Box
first_of kind boxes = unwrap_or (find (λ (b : Box). bytes_eq kind b.kind) boxes)
    (record { kind = kind; offset = 0; header = 0; payload = [] })

-- the first box of one of these types
abbrev pub first_among : List (List ℕ) → List Box → Box
first_among kinds boxes = unwrap_or (find (λ (b : Box). is_among kinds b.kind) boxes)
    (record { kind = []; offset = 0; header = 0; payload = [] })

-- the boxes in each container of a `trak`
pub record TrackTree : Type 0 where
  pub trak : Box
  pub track : List Box
  pub edits : List Box
  pub media : List Box
  pub information : List Box
  pub data_information : List Box
  pub data_references : List Box
  pub table : List Box
  pub descriptions : List Box

-- the boxes in each container of a `moov`
pub record MovieTree : Type 0 where
  pub moov : Box
  pub movie : List Box
  pub extends : List Box
  pub tracks : List TrackTree

abbrev pub stbl_of : TrackTree → Box
stbl_of t = first_of (codes "stbl") t.information

-- the boxes of a container that need not be there, none if it is not
abbrev pub HoldsIfThere : Rule → List Box → List Box → Type 0
HoldsIfThere rule [] boxes = boxes ≡ []
HoldsIfThere rule (b ∷ more) boxes = Holds rule (box_container b) boxes

-- The tree of a `trak` is this one: each container is tiled, and its boxes are those of the
-- profile.
pub record IsTrackTree (t : TrackTree) : Type 0 where
  pub track : Holds rules.Track (box_container t.trak) t.track
  pub edits : HoldsIfThere rules.Edits (of_kind (codes "edts") t.track) t.edits
  pub media : Holds rules.Media (box_container (first_of (codes "mdia") t.track)) t.media
  pub information : Holds rules.MediaInformation (box_container (first_of (codes "minf") t.media))
      t.information
  pub data_information : Holds rules.DataInformation
      (box_container (first_of (codes "dinf") t.information)) t.data_information
  pub data_references : Tiles (counted_container (first_of (codes "dref") t.data_information))
      t.data_references
  pub table : Holds rules.SampleTable (box_container (stbl_of t)) t.table
  pub descriptions : Tiles (counted_container (first_of (codes "stsd") t.table)) t.descriptions

pub record IsMovieTree (m : MovieTree) : Type 0 where
  pub movie : Holds rules.Movie (box_container m.moov) m.movie
  pub extends : HoldsIfThere rules.MovieExtends (of_kind (codes "mvex") m.movie) m.extends
  pub traks : map (λ t. t.trak) m.tracks ≡ of_kind (codes "trak") m.movie
  pub tracks : AllByRecursion IsTrackTree m.tracks

-- ---- values

-- two's complement numbers of four bytes from one field on up to another
abbrev pub matrix_of : List ℕ → ℕ → ℕ → List ℤ
matrix_of numbers from to = map (twos_complement 4) (slice_range numbers from to)

-- the boxes of these types, kept
abbrev pub kept_among : List (List ℕ) → List Box → List Kept
kept_among kinds boxes = map (λ (b : Box). record { kind = b.kind; payload = b.payload })
    (filter (λ (b : Box). is_among kinds b.kind) boxes)

abbrev pub edit_of : ℕ → List ℕ → Edit
edit_of v numbers = record {
  segment_duration = slice_index numbers 0;
  media_time = twos_complement (time_width v) (slice_index numbers 1);
  rate_integer = twos_complement 2 (slice_index numbers 2);
  rate_fraction = twos_complement 2 (slice_index numbers 3);
}

abbrev pub edits_of : Option (List ℕ) → List Edit
edits_of None = []
edits_of (Some payload) = map (edit_of (version payload)) (leaf_rows elst payload)

abbrev pub media_of : TrackTree → Media
media_of t =
    let numbers = leaf_fields mdhd (payload_of (codes "mdhd") t.media) in
    let header = first_among media_headers t.information in
    record {
      creation = slice_index numbers 2;
      modification = slice_index numbers 3;
      timescale = slice_index numbers 4;
      language = slice_index numbers 6;
      handler = payload_of (codes "hdlr") t.media;
      extended_languages = map (λ (b : Box). b.payload) (of_kind (codes "elng") t.media);
      header = record { kind = header.kind; payload = header.payload };
      descriptions = map (λ (b : Box). record { kind = b.kind; payload = b.payload })
          t.descriptions;
    }

abbrev pub track_head_of : TrackTree → TrackHead
track_head_of t =
    let numbers = leaf_fields tkhd (payload_of (codes "tkhd") t.track) in
    record {
      flags = slice_index numbers 1;
      creation = slice_index numbers 2;
      modification = slice_index numbers 3;
      id = slice_index numbers 4;
      layer = twos_complement 2 (slice_index numbers 9);
      alternate_group = twos_complement 2 (slice_index numbers 10);
      volume = twos_complement 2 (slice_index numbers 11);
      matrix = matrix_of numbers 13 22;
      width = slice_index numbers 22;
      height = slice_index numbers 23;
      edits = edits_of (payload_if (codes "elst") t.edits);
      kept = kept_among (kept_kinds rules.Track) t.track;
      media = media_of t;
      group_descriptions = map (λ (b : Box). b.payload) (of_kind (codes "sgpd") t.table);
    }

abbrev pub movie_head_of : MovieTree → MovieHead
movie_head_of m =
    let numbers = leaf_fields mvhd (payload_of (codes "mvhd") m.movie) in
    record {
      creation = slice_index numbers 2;
      modification = slice_index numbers 3;
      timescale = slice_index numbers 4;
      rate = twos_complement 4 (slice_index numbers 6);
      volume = twos_complement 2 (slice_index numbers 7);
      matrix = matrix_of numbers 11 20;
      kept = kept_among (kept_kinds rules.Movie) m.movie;
    }

abbrev pub trexes_of : MovieTree → List Trex
trexes_of m = map (λ (b : Box). trex_of b.payload) (of_kind (codes "trex") m.extends)

abbrev pub head_of : MovieTree → Head
head_of m = record {
  movie = movie_head_of m;
  tracks = map track_head_of m.tracks;
  trexes = trexes_of m;
}

-- ---- what is refused

-- no number is that of one before it
abbrev pub are_distinct : List ℕ → Bool
are_distinct [] = true
are_distinct (n ∷ ns) = not (list_any (nat_eq n) ns) && are_distinct ns

-- the kept boxes name no file offsets of items
abbrev pub NameNoItems : List Kept → Type 0
NameNoItems kept = AllByRecursion (λ (k : Kept). names_item_location k.payload ≡ false) kept

-- the leaves of a `trak` that are no tables can be read, and their values are allowed
pub record IsSoundTrack (t : TrackTree) : Type 0 where
  pub track : AreSound (ruled rules.Track) t.track
  pub kept : NameNoItems (track_head_of t).kept
  pub edits : AreSound (ruled rules.Edits) t.edits
  pub media : AreSound (ruled rules.Media) t.media
  pub data_information : AreSound (ruled rules.DataInformation) t.data_information
  pub data_references : AreSound data_entries t.data_references
  pub urls : AllByRecursion (λ (b : Box). b.kind ≡ codes "url ") t.data_references
  pub stsd : IsSound stsd (payload_of (codes "stsd") t.table)
  pub descriptions : AreSound sample_entries t.descriptions

pub record IsSoundMovie (m : MovieTree) : Type 0 where
  pub movie : AreSound (ruled rules.Movie) m.movie
  pub kept : NameNoItems (movie_head_of m).kept
  pub tracks : AllByRecursion IsSoundTrack m.tracks
  pub track_ids : are_distinct (map (λ (t : TrackHead). t.id) (map track_head_of m.tracks)) ≡ true
  pub extends : AreSound (ruled rules.MovieExtends) m.extends
  pub trex_ids : are_distinct (map (λ (x : Trex). x.id) (trexes_of m)) ≡ true

-- The `moov` has this head.
pub record HasHead (moov : Box) (head : Head) : Type 0 where
  pub tree : MovieTree
  pub is_moov : tree.moov ≡ moov
  pub is_tree : IsMovieTree tree
  pub is_sound : IsSoundMovie tree
  pub says : head ≡ head_of tree
