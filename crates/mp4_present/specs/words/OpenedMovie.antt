-- What an opened movie is of the file that it was opened from.
use Rattle.std.specs.Prelude.{◌≡◌, ℕ, ◌-◌, ◌^◌, ◌<◌, min, List, [], ◌∷◌, ⊤, length, map, Option, None, true, IsTrue, codes}
use Rattle.std.specs.List.{AllByRecursion, AllZip}
use Rattle.mp4_boxes.specs.format.Bytes.{sum_of, AreBytes}
use Rattle.mp4_boxes.specs.format.Box.{Box, box_container, file_container}
use Rattle.mp4_boxes.specs.format.Children.{Holds, of_kind}
use Rattle.mp4_boxes.specs.declared.rule.Rule.TheVariants as rules
use Rattle.mp4_tables.specs.words.Accepted.{tables_at}
use Rattle.mp4_tables.specs.words.Keys.{keys_seen}
use Rattle.mp4_tables.specs.format.PlainSamples.{PlacedSample}
use Rattle.mp4_tables.specs.format.TableRules.{Fit}
use Rattle.mp4_tables.specs.format.Tables.{tables_of}
use Rattle.mp4_frag.specs.format.Fragments.{FragmentTree, IsFragmentTree}
use Rattle.mp4_frag.specs.format.FragmentSamples.{Part, trex_for, duration_of, keys_behind, bytes_of}
use Rattle.mp4_frag.specs.format.FragmentRules.{is_within}
use Rattle.mp4_frag.specs.words.Judged.{AreTrexesOf, IsGrouped, TrackSeen, is_known_among, track_seen}
use Rattle.mp4_present.specs.words.OwnTrafs.{own_seen, AreOwn}
use Rattle.mp4_frag.specs.declared.trex.Trex.{Trex}
use Rattle.mp4_head.specs.format.Head as heads
use Rattle.mp4_head.specs.format.Tree.{TrackTree, are_distinct, stbl_of, track_head_of, trexes_of}
use Rattle.mp4_present.specs.format.Presentation.{Track, Presentation, IsWithinLimits, movie_length, total_duration}
use Rattle.mp4_present.specs.format.Denotes.{FileTree, Denotes, IsFileTree, IsSoundFile, IsSoundFragment, IsConsistent, begins_with_movie, plain_of, plain_keys, file_parts, parts_of_track, placed_of, surroundings, track_of, presentation_of}
use Rattle.mp4_present.specs.words.Movies.{MovieSeen, moov_box, table_bytes}
use Rattle.mp4_present.specs.words.OneTrack.{only_tree}
use Rattle.mp4_present.specs.words.Outline.{longest}
use Rattle.mp4_present.specs.words.ToldTrees.{IsTold}
use Rattle.mp4_frag.specs.declared.state.TrackState.{TrackState}
use Rattle.mp4_head.specs.declared.heads.TrackHead.{TrackHead}
use Rattle.mp4_present.specs.declared.opening.FoundTracks.{FoundTracks}
use Rattle.mp4_present.specs.declared.opening.outline.Outline.{Outline}
use Rattle.mp4_present.specs.declared.movie.TrackTables.{TrackTables}
use Rattle.mp4_present.specs.declared.track_info.TrackInfo.{TrackInfo}

-- The tables lie where the payload of the track's `stbl` lies in that of the `moov`, and are those
-- of its boxes.
pub record AreTablesOf (moov : List ℕ) (t : TrackTree) (found : TrackTables) : Type 0 where
  pub bytes : table_bytes moov found ≡ (stbl_of t).payload
  pub says : tables_at (stbl_of t).payload found.tables ≡ tables_of t.table

-- a track behind the samples of its tables, which begin at decode time 0; what its fragments
-- inherit is one of these
abbrev pub plain_seen : List Trex → TrackTree → TrackSeen
plain_seen trexes t = record {
  id = (track_head_of t).id;
  descriptions = length t.descriptions;
  trex = trex_for trexes (track_head_of t).id;
  start = 0;
  count = length (plain_of t);
  time = duration_of (plain_of t);
  bytes = bytes_of (plain_of t);
  keys = plain_keys t;
}

-- A track in numbers: those of the track that the file's boxes say.
pub record IsInfoOf (file : List ℕ) (tree : FileTree) (t : TrackTree) (info : TrackInfo)
    : Type 0 where
  pub id : info.id ≡ (track_head_of t).id
  pub timescale : info.timescale ≡ (track_head_of t).media.timescale
  pub start : info.start ≡ (track_of file (file_parts tree) t).start
  pub samples : info.samples ≡ length (track_of file (file_parts tree) t).samples
  pub duration : info.duration ≡ total_duration (track_of file (file_parts tree) t).samples
  pub bytes : info.bytes ≡ sum_of (λ (s : PlacedSample). s.size) (placed_of (file_parts tree) t)
  pub keys : keys_seen info.keys ≡ keys_behind (plain_keys t) (parts_of_track (file_parts tree) t)

-- What was read of a track, and is known of it behind its samples, in numbers.
pub record IsInfoBy (h : TrackHead) (s : TrackState) (info : TrackInfo) : Type 0 where
  pub id : info.id ≡ h.id
  pub timescale : info.timescale ≡ h.media.timescale
  pub start : info.start ≡ s.start
  pub samples : info.samples ≡ s.count
  pub duration : info.duration ≡ min (s.time - s.start) (2 ^ 64 - 1)
  pub bytes : info.bytes ≡ s.bytes
  pub keys : info.keys ≡ s.keys

-- the same of all tracks
abbrev pub AreInfosBy : List TrackHead → List TrackState → List TrackInfo → Type 0
AreInfosBy [] [] [] = ⊤
AreInfosBy (h ∷ heads) (s ∷ states) (info ∷ infos) = IsInfoBy h s info
    × AreInfosBy heads states infos
AreInfosBy _ _ _ = ⊥

-- the `moov` and each `moof` is of bytes
pub record AreOfBytes (t : FileTree) : Type 0 where
  pub moov : AreBytes t.movie.moov.payload
  pub moofs : AllByRecursion (λ (f : FragmentTree). AreBytes f.moof.payload) t.fragments

-- the tree of the file's own boxes, in which nothing is refused
pub record IsTreeOf (file : List ℕ) (t : FileTree) : Type 0 where
  pub is_tree : IsFileTree file t
  pub is_sound : IsSoundFile t
  pub is_consistent : IsConsistent file t
  pub bytes : AreOfBytes t

-- it is that, or the same with one track alone, but for how long tracks are told to wait
unfoldable pub IsShownOf : List ℕ → Option ℕ → Option (List ℕ) → FileTree → Type 0
IsShownOf file only waits t = (own : FileTree) × IsTreeOf file own
    × IsTold waits (only_tree only own) t

-- a `trak` has these boxes
abbrev pub HoldsTrack : TrackTree → Type 0
HoldsTrack t = Holds rules.Track (box_container t.trak) t.track

-- It has the file's own boxes and fragments, and each `trak` its own boxes.
pub record IsReadTree (file : List ℕ) (t : FileTree) : Type 0 where
  pub top : Holds rules.File (file_container file) t.top
  pub order : begins_with_movie t.top ≡ true
  pub moov : of_kind (codes "moov") t.top ≡ t.movie.moov ∷ []
  pub moofs : map (λ (f : FragmentTree). f.moof) t.fragments ≡ of_kind (codes "moof") t.top
  pub fragments : AllByRecursion IsFragmentTree t.fragments
  pub tracks : AllByRecursion HoldsTrack t.movie.tracks

-- The leaves of its fragments can be read; the timescale of each track is above 0, and its ID is no
-- other's.
pub record IsReadSound (t : FileTree) : Type 0 where
  pub fragments : AllByRecursion IsSoundFragment t.fragments
  pub timescales : AllByRecursion (λ (track : TrackTree).
      0 < (track_head_of track).media.timescale) t.movie.tracks
  pub track_ids : are_distinct
      (map (λ (h : heads.TrackHead). h.id) (map track_head_of t.movie.tracks)) ≡ true

-- The samples of its tracks can be handed out: their tables fit; and each `traf` of the file is of
-- a track that was known, its samples lie in the file, and they are grouped.
pub record CanHandOut (file : List ℕ) (t : FileTree) : Type 0 where
  pub tables : AllByRecursion (λ (track : TrackTree).
      Fit (surroundings file track) (tables_of track.table)) t.movie.tracks
  -- what was known of the tracks of the file
  pub known : List TrackState
  pub defaults : AreTrexesOf (trexes_of t.movie) known
  pub parts : AllByRecursion (λ (part : Part). IsTrue (is_known_among known part)) (file_parts t)
  pub places : AllByRecursion
      (λ (part : Part). AllByRecursion (λ run. IsTrue (is_within (length file) run)) part.runs)
      (file_parts t)
  pub groups : AllByRecursion IsGrouped (file_parts t)

-- This is what is kept of a movie, of which all tracks are shown or one, that wait or don't: a
-- presentation of its boxes, or of those that say how long they wait.
pub record IsOpenedAs (file : List ℕ) (m : MovieSeen) (t : FileTree) : Type 0 where
  pub shown : IsShownOf file m.only m.waits t
  pub is_tree : IsReadTree file t
  pub is_sound : IsReadSound t
  pub hands_out : CanHandOut file t
  pub limits : IsWithinLimits (presentation_of file t)
  pub whole : m.file_len ≡ length file
  pub moov : moov_box m ≡ t.movie.moov
  pub longest_is : m.longest ≡ longest (of_kind (codes "moof") t.top)
  pub moofs : m.moofs ≡ map (λ (b : Box). b.offset) (of_kind (codes "moof") t.top)
  -- for each track in order
  pub tables : AllZip (AreTablesOf m.moov) t.movie.tracks m.tables
  pub states : map track_seen m.states ≡ map (plain_seen (trexes_of t.movie)) t.movie.tracks
  pub tracks : AllZip (IsInfoOf file t) t.movie.tracks m.tracks
  pub own : AreOwn t.movie t.fragments m.own
  pub mehd : m.mehd ≡ movie_length (presentation_of file t)

-- the same of a movie of which all tracks are shown, and not told to wait
pub record IsOpenedOwn (file : List ℕ) (m : MovieSeen) (t : FileTree) : Type 0 where
  pub opened : IsOpenedAs file m t
  pub own_tracks : m.only ≡ None
  pub own_edits : m.waits ≡ None

-- the numbers that are kept of a track are its own
pub record IsTrackIn (t : Track) (info : TrackInfo) : Type 0 where
  pub id : info.id ≡ t.head.id
  pub timescale : info.timescale ≡ t.head.media.timescale
  pub start : info.start ≡ t.start
  pub samples : info.samples ≡ length t.samples
  pub duration : info.duration ≡ total_duration t.samples

-- What is kept of a movie is what the presentation says: its tracks in order, and its length.
pub record IsMovieIn (p : Presentation) (m : MovieSeen) : Type 0 where
  pub tracks : AllZip IsTrackIn p.tracks m.tracks
  pub mehd : m.mehd ≡ movie_length p

-- The file denotes a presentation, and this is what is kept of it.
abbrev pub OpensAs : List ℕ → MovieSeen → Type 0
OpensAs file m = (p : Presentation) × Denotes file p × IsMovieIn p m

-- what is kept of a file of so many bytes, with this outline and this `moov`, of which this was
-- found
abbrev pub kept_of : Outline → List ℕ → ℕ → FoundTracks → MovieSeen
kept_of o moov file_length f = record {
  top = o.moov;
  moov = moov;
  file_len = file_length;
  longest = o.longest;
  moofs = o.moofs.items;
  tables = f.plain.tables.items;
  states = f.plain.states.items;
  tracks = f.tracks.items;
  own = map own_seen f.own.items;
  mehd = f.mehd;
  only = None;
  waits = None;
}
