-- What a file denotes: one relation between a whole file and a whole presentation.
use Rattle.std.specs.Prelude.{◌≡◌, ℕ, ◌+◌, Bool, true, false, cond, IsTrue, List, [], ◌∷◌, ◌++◌, length, take, drop, map, ℤ, pos, negsuc, codes, bytes_eq}
use Rattle.std.specs.List.{AllByRecursion}
use Rattle.mp4_boxes.specs.format.Box.{Box, file_container}
use Rattle.mp4_boxes.specs.format.Children.{Holds, of_kind}
use Rattle.mp4_boxes.specs.format.Places.{ruled, AreSound}
use Rattle.mp4_boxes.specs.declared.rule.Rule.TheVariants as rules
use Rattle.mp4_tables.specs.format.Groups.{GroupKey, keys_after}
use Rattle.mp4_tables.specs.format.Tables.{tables_of}
use Rattle.mp4_tables.specs.format.PlainSamples.{PlacedSample, plain_samples}
use Rattle.mp4_tables.specs.format.TableRules.{Surroundings, Fit}
use Rattle.mp4_frag.specs.format.Fragments.{FragmentTree, IsFragmentTree, fragment_of}
use Rattle.mp4_frag.specs.format.FragmentSamples.{Part, all_parts, parts_for, fragment_samples, start_of, duration_of, AreOnTime, AreGrouped}
use Rattle.mp4_frag.specs.format.FragmentRules.{TrackFacts, is_known, has_indexes, is_within}
use Rattle.mp4_head.specs.format.Tree.{TrackTree, MovieTree, IsMovieTree, IsSoundMovie, track_head_of, movie_head_of, trexes_of}
use Rattle.mp4_present.specs.format.Presentation.{Sample, Track, Presentation, IsWithinLimits}

-- the boxes of a file in all its containers
pub record FileTree : Type 0 where
  pub top : List Box
  pub movie : MovieTree
  pub fragments : List FragmentTree

-- no `moof` stands before the `moov`
abbrev pub begins_with_movie : List Box → Bool
begins_with_movie [] = true
begins_with_movie (b ∷ boxes) = cond (bytes_eq (codes "moov") b.kind) true
    (cond (bytes_eq (codes "moof") b.kind) false (begins_with_movie boxes))

-- The file is tiled by these boxes, in each container by those of the profile.
pub record IsFileTree (file : List ℕ) (t : FileTree) : Type 0 where
  pub top : Holds rules.File (file_container file) t.top
  pub order : begins_with_movie t.top ≡ true
  pub moov : of_kind (codes "moov") t.top ≡ t.movie.moov ∷ []
  pub movie : IsMovieTree t.movie
  pub moofs : map (λ (f : FragmentTree). f.moof) t.fragments ≡ of_kind (codes "moof") t.top
  pub fragments : AllByRecursion IsFragmentTree t.fragments

-- the tables of each track can be read
abbrev pub HasSoundTables : MovieTree → Type 0
HasSoundTables m = AllByRecursion (λ (t : TrackTree). AreSound (ruled rules.SampleTable) t.table)
    m.tracks

-- the leaves of each `traf` can be read
abbrev pub IsSoundFragment : FragmentTree → Type 0
IsSoundFragment f = AllByRecursion (AreSound (ruled rules.TrackFragment)) f.trafs

-- Each leaf can be read, and none of its values is refused.
pub record IsSoundFile (t : FileTree) : Type 0 where
  pub movie : IsSoundMovie t.movie
  pub tables : HasSoundTables t.movie
  pub fragments : AllByRecursion IsSoundFragment t.fragments

-- ---- what the boxes mean together

abbrev pub surroundings : List ℕ → TrackTree → Surroundings
surroundings file t = record { file_length = length file; descriptions = length t.descriptions }

abbrev pub track_infos : MovieTree → List TrackFacts
track_infos m =
    map (λ (t : TrackTree). record {
      id = (track_head_of t).id;
      descriptions = length t.descriptions;
    }) m.tracks

-- the `traf`s of the whole file as what they say
abbrev pub file_parts : FileTree → List Part
file_parts t = all_parts (trexes_of t.movie) (map fragment_of t.fragments)

abbrev pub plain_of : TrackTree → List PlacedSample
plain_of t = plain_samples (tables_of t.table)

abbrev pub parts_of_track : List Part → TrackTree → List Part
parts_of_track parts t = parts_for (track_head_of t).id parts

-- the decode time at which the first sample of a track's fragments is due
abbrev pub first_due : List Part → TrackTree → ℕ
first_due parts t = start_of (plain_of t) (parts_of_track parts t) + duration_of (plain_of t)

-- the keys that the tables of a track name, before its fragments
abbrev pub plain_keys : TrackTree → List GroupKey
plain_keys t = keys_after [] (tables_of t.table).groups

-- The tables of each track fit, each `traf` names a track that has a `trex`, indexes name
-- descriptions, samples lie in the file, each `sbgp` keeps its rules, and each `tfdt` is on time.
pub record IsConsistent (file : List ℕ) (t : FileTree) : Type 0 where
  pub tables : AllByRecursion (λ (track : TrackTree).
      Fit (surroundings file track) (tables_of track.table)) t.movie.tracks
  pub known : AllByRecursion
      (λ (part : Part). IsTrue (is_known (track_infos t.movie) (trexes_of t.movie) part))
      (file_parts t)
  pub indexes : AllByRecursion (λ (part : Part). IsTrue (has_indexes (track_infos t.movie) part))
      (file_parts t)
  pub places : AllByRecursion
      (λ (part : Part). AllByRecursion (λ run. IsTrue (is_within (length file) run)) part.runs)
      (file_parts t)
  pub groups : AllByRecursion (λ (track : TrackTree).
      AreGrouped (plain_keys track) (parts_of_track (file_parts t) track)) t.movie.tracks
  pub times : AllByRecursion (λ (track : TrackTree).
      AreOnTime (first_due (file_parts t) track) (parts_of_track (file_parts t) track))
      t.movie.tracks

-- the bytes at a place
abbrev pub bytes_at : List ℕ → ℤ → ℕ → List ℕ
bytes_at file (pos at) size = take size (drop at file)
bytes_at file (negsuc below) size = []

abbrev pub sample_of : List ℕ → PlacedSample → Sample
sample_of file s = record {
  duration = s.duration;
  offset = s.offset;
  flags = s.flags;
  description = s.description;
  bytes = bytes_at file s.at s.size;
  groups = s.groups;
}

-- a track's samples: those of its tables, then those of its fragments
abbrev pub placed_of : List Part → TrackTree → List PlacedSample
placed_of parts t = plain_of t ++ fragment_samples (track_head_of t).id parts

abbrev pub track_of : List ℕ → List Part → TrackTree → Track
track_of file parts t = record {
  head = track_head_of t;
  start = start_of (plain_of t) (parts_of_track parts t);
  samples = map (sample_of file) (placed_of parts t);
}

abbrev pub presentation_of : List ℕ → FileTree → Presentation
presentation_of file t = record {
  movie = movie_head_of t.movie;
  tracks = map (track_of file (file_parts t)) t.movie.tracks;
}

abbrev pub movie_timescale : List ℕ → FileTree → ℕ
movie_timescale file t = (movie_head_of t.movie).timescale

-- The file denotes the presentation.
pub record Denotes (file : List ℕ) (p : Presentation) : Type 0 where
  pub tree : FileTree
  pub is_tree : IsFileTree file tree
  pub is_sound : IsSoundFile tree
  pub is_consistent : IsConsistent file tree
  pub says : p ≡ presentation_of file tree
  pub limits : IsWithinLimits p

-- The file's own boxes are those of the table, its `moov` is sound apart from sample tables, and
-- its tracks have these IDs, in order.
pub record HasMovie (file : List ℕ) (ids : List ℕ) : Type 0 where
  pub boxes : List Box
  pub holds : Holds rules.File (file_container file) boxes
  pub order : begins_with_movie boxes ≡ true
  pub tree : MovieTree
  pub is_moov : of_kind (codes "moov") boxes ≡ tree.moov ∷ []
  pub is_tree : IsMovieTree tree
  pub is_sound : IsSoundMovie tree
  pub ids_are : ids ≡ map (λ (t : TrackTree). (track_head_of t).id) tree.tracks
