-- When what is left of two presentations is the same: each thing that they say, and the word that
-- leaves it out.
use Rattle.std.specs.Prelude.{◌≡◌, ◌↔◌, ℕ, suc, ◌/◌, ◌%◌, ◌^◌, ◌&&◌, Bool, false, true, not, List, [], ◌∷◌, length, filter, ℤ, ◌-ℤ◌}
use Rattle.std.specs.List.{AllZip}
use Rattle.mp4_boxes.specs.format.Children.{is_among}
use Rattle.mp4_head.specs.format.Head.{Kept, Media, TrackHead, MovieHead}
use Rattle.mp4_present.specs.format.Presentation.{Sample, Track, Presentation}
use Rattle.mp4_content.specs.format.Reduced.{metadata_kinds, first_offset, is_at_end, plain_handler, reduce_descriptions, reduce}
use Rattle.mp4_content.specs.declared.without.Without.{Without}

-- a kept box that is no metadata
abbrev pub is_other : Kept → Bool
is_other k = not (is_among metadata_kinds k.kind)

-- two samples with this number, of tracks with so many, of which the first have these offsets
pub record SamplesAgree (l : Without) (count : ℕ) (first other : ℤ) (n : ℕ) (a b : Sample)
    : Type 0 where
  pub duration : l.timing ≡ false → (l.ends && is_at_end count n) ≡ false → a.duration ≡ b.duration
  pub offset : l.timing ≡ false → l.origins ≡ false → a.offset ≡ b.offset
  pub moved : l.timing ≡ false → l.origins ≡ true → a.offset -ℤ first ≡ b.offset -ℤ other
  pub description : a.description ≡ b.description
  pub bytes : a.bytes ≡ b.bytes
  pub sync : a.flags / 2 ^ 16 % 2 ≡ b.flags / 2 ^ 16 % 2
  pub flags : l.flags ≡ false → a.flags ≡ b.flags
  pub groups : l.groups ≡ false → a.groups ≡ b.groups

-- the same of as many on both sides, of which the first have this number
abbrev pub AllAgree : Without → ℕ → ℤ → ℤ → ℕ → List Sample → List Sample → Type 0
AllAgree l count first other n [] [] = Unit {0}
AllAgree l count first other n (a ∷ samples) (b ∷ others) =
    SamplesAgree l count first other n a b × AllAgree l count first other (suc n) samples others
AllAgree l count first other n _ _ = ⊥

-- What counts of sample descriptions is what is left of them (`Reduced.antt`), and that is the
-- same: `labels` leaves out names of compressors, `bitrates` what says bit rates, `ids` ES_ID of
-- `esds`. Without these three words all of a description counts.
pub record MediaAgree (l : Without) (a b : Media) : Type 0 where
  pub timescale : l.timing ≡ false → a.timescale ≡ b.timescale
  pub language : a.language ≡ b.language
  pub extended_languages : a.extended_languages ≡ b.extended_languages
  pub header : a.header ≡ b.header
  pub creation : l.times ≡ false → a.creation ≡ b.creation
  pub modification : l.times ≡ false → a.modification ≡ b.modification
  pub handler : l.labels ≡ false → a.handler ≡ b.handler
  pub left_handler : plain_handler a.handler ≡ plain_handler b.handler
  pub descriptions : reduce_descriptions l a.handler a.descriptions
      ≡ reduce_descriptions l b.handler b.descriptions

pub record TrackHeadsAgree (l : Without) (a b : TrackHead) : Type 0 where
  pub flags : l.roles ≡ false → a.flags ≡ b.flags
  pub enabled : a.flags % 2 ≡ b.flags % 2
  pub id : l.ids ≡ false → a.id ≡ b.id
  pub layer : l.roles ≡ false → a.layer ≡ b.layer
  pub alternate_group : l.roles ≡ false → a.alternate_group ≡ b.alternate_group
  pub volume : a.volume ≡ b.volume
  pub matrix : a.matrix ≡ b.matrix
  pub width : a.width ≡ b.width
  pub height : a.height ≡ b.height
  pub creation : l.times ≡ false → a.creation ≡ b.creation
  pub modification : l.times ≡ false → a.modification ≡ b.modification
  pub edits : l.edits ≡ false → a.edits ≡ b.edits
  pub kept : l.metadata ≡ false → a.kept ≡ b.kept
  pub other_kept : filter is_other a.kept ≡ filter is_other b.kept
  pub media : MediaAgree l a.media b.media
  pub group_descriptions : l.groups ≡ false → a.group_descriptions ≡ b.group_descriptions

pub record MovieHeadsAgree (l : Without) (a b : MovieHead) : Type 0 where
  pub timescale : l.timing ≡ false → a.timescale ≡ b.timescale
  pub rate : a.rate ≡ b.rate
  pub volume : a.volume ≡ b.volume
  pub matrix : a.matrix ≡ b.matrix
  pub creation : l.times ≡ false → a.creation ≡ b.creation
  pub modification : l.times ≡ false → a.modification ≡ b.modification
  pub kept : l.metadata ≡ false → a.kept ≡ b.kept
  pub other_kept : filter is_other a.kept ≡ filter is_other b.kept

pub record TracksAgree (l : Without) (a b : Track) : Type 0 where
  pub start : l.timing ≡ false → l.origins ≡ false → a.start ≡ b.start
  pub head : TrackHeadsAgree l a.head b.head
  pub samples : AllAgree l (length a.samples) (first_offset a.samples) (first_offset b.samples) 0
      a.samples b.samples

pub record Agree (l : Without) (a b : Presentation) : Type 0 where
  pub movie : MovieHeadsAgree l a.movie b.movie
  pub tracks : AllZip (TracksAgree l) a.tracks b.tracks

-- What is left is the same exactly where they agree.
abbrev pub ReduceIsExact : Type 0
ReduceIsExact = (l : Without) (p q : Presentation) → (reduce l p ≡ reduce l q) ↔ Agree l p q
