-- What is found in a `moov`: where a box lies in another, and what the `trak`s and the `moov` say.
use Rattle.std.specs.Prelude.{◌≡◌, ℕ, ◌+◌, ◌-◌, ◌≤◌, List, length, take, drop, map, codes}
use Rattle.std.specs.List.{AllZip}
use Rattle.mp4_boxes.specs.format.Box.{Box, size}
use Rattle.mp4_boxes.specs.words.View.{box_seen}
use Rattle.mp4_head.specs.format.Head as heads
use Rattle.mp4_head.specs.format.Tree.{TrackTree, IsTrackTree, IsSoundTrack, track_head_of, stbl_of, first_of, HasHead}
use Rattle.mp4_head.specs.words.Seen.{kept_seen, head_seen}
use Rattle.mp4_head.specs.declared.movie_header.MovieHeader.{MovieHeader}
use Rattle.mp4_head.specs.declared.track_header.TrackHeader.{TrackHeader}
use Rattle.mp4_head.specs.declared.heads.TrackHead.{TrackHead}
use Rattle.mp4_head.specs.declared.heads.MovieHead.{MovieHead}
use Rattle.mp4_head.specs.declared.media_boxes.MediaParts.{MediaParts}

-- The box lies in the payload of another, at any depth: what it holds are the bytes of that payload
-- from its own place on.
pub record LiesIn (outer b : Box) : Type 0 where
  pub begins : outer.offset + outer.header ≤ b.offset
  pub ends : b.offset + size b ≤ outer.offset + size outer
  pub payload : b.payload
      ≡ take (length b.payload)
      (drop ((b.offset + b.header) - (outer.offset + outer.header)) outer.payload)

-- a track's head, of what was read of the boxes in its `trak`
abbrev pub track_joined : TrackHeader → List heads.Edit → List heads.Kept → MediaParts
    → heads.TrackHead
track_joined h edits kept m = record {
  flags = h.flags;
  creation = h.creation;
  modification = h.modification;
  id = h.id;
  layer = h.layer;
  alternate_group = h.alternate_group;
  volume = h.volume;
  matrix = h.matrix;
  width = h.width;
  height = h.height;
  edits = edits;
  kept = kept;
  media = record {
    creation = m.header.creation;
    modification = m.header.modification;
    timescale = m.header.timescale;
    language = m.header.language;
    handler = m.handler.now;
    extended_languages = map (λ p. p.now) m.extended_languages.items;
    header = kept_seen m.information.header;
    descriptions = map kept_seen m.information.table.descriptions.items;
  };
  group_descriptions = map (λ p. p.now) m.information.table.group_descriptions.items;
}

-- what a movie says apart from its tracks, of what was read of the boxes in its `moov`
abbrev pub movie_joined : MovieHeader → List heads.Kept → heads.MovieHead
movie_joined h kept = record {
  creation = h.creation;
  modification = h.modification;
  timescale = h.timescale;
  rate = h.rate;
  volume = h.volume;
  matrix = h.matrix;
  kept = kept;
}

-- The `trak` is sound and says this head. Its tables are in this `stbl`, and its `tkhd` stands at
-- this place of the file.
pub record HasTrackHead (trak : Box) (head : heads.TrackHead) (stbl : Box) (offset : ℕ)
    : Type 0 where
  pub tree : TrackTree
  pub is_trak : tree.trak ≡ trak
  pub is_tree : IsTrackTree tree
  pub is_sound : IsSoundTrack tree
  pub says : head ≡ track_head_of tree
  pub stbl_is : stbl ≡ stbl_of tree
  pub offset_is : offset ≡ (first_of (codes "tkhd") tree.track).offset

-- the track's tables are in the `stbl` of this tree, and its `tkhd` stands at its place of the file
pub record IsFoundIn (t : TrackTree) (h : TrackHead) : Type 0 where
  pub stbl : box_seen h.stbl ≡ stbl_of t
  pub offset : h.offset ≡ (first_of (codes "tkhd") t.track).offset

-- The `moov` has this head, and this is where its tracks are.
pub record SaysHead (moov : Box) (head : MovieHead) : Type 0 where
  pub has : HasHead moov (head_seen head)
  pub tracks : AllZip IsFoundIn has.tree.tracks head.tracks.items
