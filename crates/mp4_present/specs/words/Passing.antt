-- What is known of the tracks of a movie, and of the room for samples, between two `moof`s of a
-- file.
use Rattle.std.specs.Prelude.{◌≡◌, ℕ, ◌+◌, List, [], ◌∷◌, ◌++◌, length, map, pos, codes}
use Rattle.std.specs.List.{AllByRecursion}
use Rattle.mp4_boxes.specs.format.Bytes.{sum_of}
use Rattle.mp4_boxes.specs.format.Box.{Box, file_container, StandsAfter}
use Rattle.mp4_boxes.specs.format.Children.{of_kind}
use Rattle.mp4_tables.specs.format.TableRules.{Fit}
use Rattle.mp4_tables.specs.format.Tables.{tables_of}
use Rattle.mp4_frag.specs.format.Fragments.{FragmentTree, IsFragmentTree, fragment_of}
use Rattle.mp4_frag.specs.format.FragmentSamples.{Part, all_parts, trex_for, duration_of, keys_behind, bytes_of}
use Rattle.mp4_frag.specs.words.Judged.{AreTrexesOf, IsSoundMoof, AreMovedOn, TrackSeen, track_seen, tree_of}
use Rattle.mp4_frag.specs.words.RunsJudged.{children_of}
use Rattle.mp4_frag.specs.declared.state.TrackState.{TrackState}
use Rattle.mp4_head.specs.format.Tree.{TrackTree, MovieTree, IsMovieTree, IsSoundMovie, track_head_of, trexes_of}
use Rattle.mp4_present.specs.format.Presentation.{max_samples}
use Rattle.mp4_present.specs.format.Denotes.{HasSoundTables, IsSoundFragment, surroundings, plain_keys, parts_of_track, first_due, placed_of, plain_of}
use Rattle.mp4_present.specs.format.Stands.{AreConsistent, table_total, trafs_total}
use Rattle.mp4_frag.specs.format.FragmentSamples.{start_of, fragment_samples}

-- the `moov` is as it should be, and so are the tables of each track
pub record IsMovieOf (file : List ℕ) (movie : MovieTree) : Type 0 where
  pub tree : IsMovieTree movie
  pub sound : IsSoundMovie movie
  pub tables_sound : HasSoundTables movie
  pub tables_fit : AllByRecursion (λ (t : TrackTree). Fit (surroundings file t) (tables_of t.table))
      movie.tracks

-- the parts of these `moof`s
abbrev pub parts_behind : MovieTree → List FragmentTree → List Part
parts_behind movie earlier = all_parts (trexes_of movie) (map fragment_of earlier)

-- a track behind the samples of its tables and of these parts: how many came, when it starts, when
-- the next one is due, how many bytes they take, which keys it named
abbrev pub seen_behind : MovieTree → List Part → TrackTree → TrackSeen
seen_behind movie parts t = record {
  id = (track_head_of t).id;
  descriptions = length t.descriptions;
  trex = trex_for (trexes_of movie) (track_head_of t).id;
  start = start_of (plain_of t) (parts_of_track parts t);
  count = length (placed_of parts t);
  time = first_due parts t + duration_of (fragment_samples (track_head_of t).id parts);
  bytes = bytes_of (plain_of t) + bytes_of (fragment_samples (track_head_of t).id parts);
  keys = keys_behind (plain_keys t) (parts_of_track parts t);
}

-- These `moof`s are as they should be, and these are the tracks and the room for samples behind
-- them.
pub record AreBehind (file : List ℕ) (movie : MovieTree) (earlier : List FragmentTree)
    (states : List TrackState) (room : ℕ) : Type 0 where
  pub trees : AllByRecursion IsFragmentTree earlier
  pub sound : AllByRecursion IsSoundFragment earlier
  pub consistent : AreConsistent file movie (parts_behind movie earlier)
  pub seen : map track_seen states
      ≡ map (seen_behind movie (parts_behind movie earlier)) movie.tracks
  pub left : room
      + (table_total movie.tracks + sum_of (λ (e : FragmentTree). trafs_total e.trafs) earlier)
      ≡ max_samples

-- the `moof` stands behind these boxes of the file, among them the `moov` and these `moof`s
pub record IsNextMoof (file : List ℕ) (movie : MovieTree) (earlier : List FragmentTree)
    (before : List Box) (moof : Box) : Type 0 where
  pub stands : StandsAfter (file_container file) before moof
  pub is_moof : moof.kind ≡ codes "moof"
  pub is_moov : of_kind (codes "moov") before ≡ movie.moov ∷ []
  pub earlier_moofs : map (λ (e : FragmentTree). e.moof) earlier ≡ of_kind (codes "moof") before

-- ---- what is proved of them

-- before the first `moof`
abbrev pub BeginsBehind : Type 0
BeginsBehind = (file : List ℕ) (movie : MovieTree) (states : List TrackState) (room : ℕ)
    → map track_seen states ≡ map (seen_behind movie []) movie.tracks
    → room + table_total movie.tracks ≡ max_samples → AreBehind file movie [] states room

-- what the fragments of each track inherit, as the check of a `moof` wants it
abbrev pub TrexesBehind : Type 0
TrexesBehind = (file : List ℕ) (movie : MovieTree) (earlier : List FragmentTree)
    (states : List TrackState) (room : ℕ)
    → AreBehind file movie earlier states room → AreTrexesOf (trexes_of movie) states

-- one more `moof` that was accepted
abbrev pub PassesMoof : Type 0
PassesMoof = (file : List ℕ) (movie : MovieTree) (earlier : List FragmentTree) (moof : Box)
    (states new : List TrackState) (room less : ℕ)
    → IsMovieOf file movie → AreBehind file movie earlier states room
    → IsSoundMoof (length file) (trexes_of movie) states (tree_of moof)
    → AreMovedOn moof.offset (pos moof.offset) (of_kind (codes "traf") (children_of moof))
    states new room less
    → AreBehind file movie (earlier ++ tree_of moof ∷ []) new less
