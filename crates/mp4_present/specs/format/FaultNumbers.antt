-- What numbers say of a fault.
use Rattle.std.specs.Prelude.{◌≡◌, ℕ, ◌+◌, ◌-◌, ◌<◌, List, [], ◌∷◌, ◌++◌, length, take, map, codes, Contains}
use Rattle.std.specs.List.{AllByRecursion}
use Rattle.mp4_boxes.specs.format.Bytes.{field}
use Rattle.mp4_boxes.specs.format.Box.{Box, Tiles, file_container, box_container, StandsAfter}
use Rattle.mp4_boxes.specs.format.Children.{of_kind}
use Rattle.mp4_tables.specs.format.TableRules.{Fit}
use Rattle.mp4_tables.specs.format.Tables.{tables_of}
use Rattle.mp4_frag.specs.format.Fragments.{FragmentTree, AreTrafs, IsFragmentTree, fragment_of, decode_time_of}
use Rattle.mp4_frag.specs.format.FragmentSamples.{Part, all_parts, duration_of, fragment_samples}
use Rattle.mp4_head.specs.format.Tree.{TrackTree, MovieTree, IsMovieTree, IsSoundMovie, track_head_of, trexes_of}
use Rattle.mp4_present.specs.format.Denotes.{HasSoundTables, surroundings, first_due}
use Rattle.mp4_present.specs.declared.faults.FaultNumbers.{FaultNumbers}
use Rattle.mp4_present.specs.declared.faults.FaultNumbers.TheVariants as numbers

-- one of the boxes that fill a box
abbrev pub IsChildOf : Box → Box → Type 0
IsChildOf container b =
    (boxes : List Box) × Tiles (box_container container) boxes × Contains boxes b

-- a box up to a place in it
abbrev pub box_up_to : ℕ → Box → Box
box_up_to place b = record b { payload = take (place - (b.offset + b.header)) b.payload }

-- a `traf` of the `moof` says this time in its `tfdt`, which stands at the place, and this track in
-- its `tfhd`
pub record SaysTime (moof : Box) (place : ℕ) (traf : Box) (track found : ℕ) : Type 0 where
  pub is_child : IsChildOf moof traf
  pub time : Box
  pub has_time : IsChildOf traf time
  pub is_time : time.kind ≡ codes "tfdt"
  pub there : time.offset ≡ place
  pub found_is : found ≡ decode_time_of time.payload
  pub head : Box
  pub has_head : IsChildOf traf head
  pub is_head : head.kind ≡ codes "tfhd"
  pub track_is : track ≡ field head.payload 4 4

-- the end of a track behind the samples of its tables and of these parts
abbrev pub track_end : TrackTree → List Part → ℕ
track_end t parts =
    first_due parts t + duration_of (fragment_samples (track_head_of t).id parts)

-- All of the `moov`, of the `moof`s before, and of each `traf` of this `moof` up to the one with
-- the `tfdt` at the place is as it should be. With these samples the track that the `traf` names
-- ends at the time that is due.
pub record IsGap (file : List ℕ) (place track due found : ℕ) : Type 0 where
  pub before : List Box
  pub moof : Box
  pub stands : StandsAfter (file_container file) before moof
  pub is_moof : moof.kind ≡ codes "moof"
  pub movie : MovieTree
  pub is_moov : of_kind (codes "moov") before ≡ movie.moov ∷ []
  pub movie_tree : IsMovieTree movie
  pub movie_sound : IsSoundMovie movie
  pub tables_sound : HasSoundTables movie
  pub tables_fit : AllByRecursion (λ (t : TrackTree). Fit (surroundings file t) (tables_of t.table))
      movie.tracks
  pub earlier : List FragmentTree
  pub earlier_moofs : map (λ (e : FragmentTree). e.moof) earlier ≡ of_kind (codes "moof") before
  pub traf : Box
  pub says : SaysTime moof place traf track found
  pub trees : AllByRecursion IsFragmentTree earlier
  pub front : FragmentTree
  pub is_front : front.moof ≡ box_up_to traf.offset moof
  pub front_tiles : Tiles (box_container front.moof) front.children
  pub front_trafs : AreTrafs (of_kind (codes "traf") front.children) front.trafs
  pub t : TrackTree
  pub has_track : Contains movie.tracks t
  pub is_track : (track_head_of t).id ≡ track
  pub due_is : due ≡ track_end t
      (all_parts (trexes_of movie) (map fragment_of (earlier ++ front ∷ [])))

-- a sample of this size at this place does not end in the file, which has this length
abbrev pub IsOutside : List ℕ → ℕ → ℕ → ℕ → Type 0
IsOutside file at size file_length = (file_length ≡ length file) × (length file < at + size)

-- what is told of a fault at a place; of counts no more than that they are counts
abbrev pub Tells : List ℕ → ℕ → FaultNumbers → Type 0
Tells file place (numbers.Gap track due found) = IsGap file place track due found
Tells file place (numbers.Counts counted wanted) = Unit {0}
Tells file place (numbers.Outside at size file_length) = IsOutside file at size file_length
