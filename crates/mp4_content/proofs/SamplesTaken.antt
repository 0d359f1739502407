-- The samples that an opened file hands out are those of the presentation that it denotes.
use Rattle.std.proofs.Common.{ℕ, ◌+◌, List, [], ◌∷◌, length, refl, sym, subst}
use Rattle.std.specs.Prelude.{map}
use Rattle.std.specs.List.{AllByRecursion, AllZip}
use Rattle.mp4_boxes.proofs.Each.{each_weaker, each_member}
use Rattle.mp4_tables.specs.format.Groups.{GroupKey}
use Rattle.mp4_tables.specs.words.Keys.{keys_seen}
use Rattle.mp4_tables.specs.format.PlainSamples.{PlacedSample}
use Rattle.mp4_tables.specs.words.Timed.{timed, sample_at}
use Rattle.mp4_tables.proofs.Placed.{IsKey, IsIndex}
use Rattle.mp4_head.specs.format.Tree.{TrackTree}
use Rattle.mp4_present.specs.words.SamplesComing.{track_keys, track_samples}
use Rattle.mp4_present.specs.format.Denotes.{FileTree, file_parts, placed_of, sample_of, track_of}
use Rattle.mp4_present.specs.words.Movies.{MovieSeen}
use Rattle.mp4_present.specs.words.OpenedMovie.{IsInfoOf, IsOpenedAs}
use Rattle.mp4_present.specs.format.Presentation.{Track, IsGroup}
use Rattle.mp4_present.specs.declared.track_info.TrackInfo.{TrackInfo}
use Rattle.mp4_present.proofs.PlacedTracks.{IsTrackPlaced}
use Rattle.mp4_present.proofs.ToldTrees.{track_is_placed}
use Rattle.mp4_present.proofs.SamplesLie.{IsInFile, placed_lie, bytes_whole, there}
use Rattle.mp4_present.proofs.ValidSamples.{IsOfTrack, is_parameter, is_group}
use Rattle.mp4_content.specs.format.TimedSamples.{timed_from}
use Rattle.mp4_content.specs.format.TimedSamples as given
use Rattle.mp4_content.specs.words.TakenSamples.{IsTaken, AreTaken, IsNamed}

pub is_named : (key : GroupKey) → IsKey key → IsNamed key
is_named key h = record { kind_length = h.kind_length; kind = h.kind; parameter = is_parameter key.parameter h.parameter }

-- a sample that lies in the file, with its decode time, is that of the presentation
is_taken : (file : List ℕ) (descriptions : ℕ) (keys : List GroupKey) (before number dts : ℕ) (s : PlacedSample) → IsInFile (length file) s → IsOfTrack descriptions keys s
    → IsTaken file keys (sample_at keys before dts s) (record { sample = sample_of file s; number = number; time = dts })
is_taken file descriptions keys before number dts s h k = record {
  time = refl;
  duration = refl;
  offset = refl;
  flags = refl;
  description = refl;
  size = sym (bytes_whole file s.at s.size h);
  bytes = there file s.at s.size h;
  groups = refl;
  named = k.groups.named;
  are_groups = each_weaker IsIndex IsGroup is_group s.groups k.groups.each;
}

-- so are samples one after the other
pub are_taken : (file : List ℕ) (descriptions : ℕ) (keys : List GroupKey) (before number dts : ℕ) (placed : List PlacedSample) → AllByRecursion (IsInFile (length file)) placed → AllByRecursion (IsOfTrack descriptions keys) placed
    → AreTaken file keys (timed keys before dts placed) (timed_from number dts (map (sample_of file) placed))
are_taken file descriptions keys before number dts [] h k = tt
are_taken file descriptions keys before number dts (s ∷ placed) h k = (is_taken file descriptions keys before number dts s h.0 k.0, are_taken file descriptions keys (before + 1) (number + 1) (dts + s.duration) placed h.1 k.1)

-- each of the first list with its partner in the second, where it is so of all that go with it
pub turned : {A B : Type 0} (R : A → B → Type 0) (Q : B → A → Type 0) (xs : List A) (ys : List B) → AllByRecursion (λ x. (y : B) → R x y → Q y x) xs → AllZip R xs ys → AllZip Q ys xs
turned R Q [] [] h z = tt
turned R Q [] (y ∷ ys) h z = absurd z
turned R Q (x ∷ xs) [] h z = absurd z
turned R Q (x ∷ xs) (y ∷ ys) h z = (h.0 y z.0, turned R Q xs ys h.1 z.1)

-- The samples of a track of which this is kept are those of the track that the file's boxes say.
abbrev pub IsTrackTaken : List ℕ → FileTree → TrackInfo → TrackTree → Type 0
IsTrackTaken file tree info t = AreTaken file (keys_seen info.keys) (track_samples tree t) (given.timed (track_of file (file_parts tree) t))

taken_of : (file : List ℕ) (tree : FileTree) (t : TrackTree) (info : TrackInfo) → AllByRecursion (IsInFile (length file)) (placed_of (file_parts tree) t) → IsTrackPlaced tree t → IsInfoOf file tree t info → IsTrackTaken file tree info t
taken_of file tree t info h p i =
    let placed = placed_of (file_parts tree) t in
    let u : Track = track_of file (file_parts tree) t in
    subst (λ ks. AreTaken file ks (track_samples tree t) (given.timed u)) (sym i.keys) (are_taken file (length t.descriptions) (track_keys tree t) 0 1 u.start placed h p.placed)

-- So it is of all tracks in order.
pub tracks_taken : (file : List ℕ) (m : MovieSeen) (tree : FileTree) → IsOpenedAs file m tree → AllZip (IsTrackTaken file tree) m.tracks tree.movie.tracks
tracks_taken file m tree o =
    turned (IsInfoOf file tree) (IsTrackTaken file tree) tree.movie.tracks m.tracks
    (each_member (λ (t : TrackTree). (info : TrackInfo) → IsInfoOf file tree t info → IsTrackTaken file tree info t) tree.movie.tracks
    (λ t i info h. taken_of file tree t info (placed_lie file tree t o.hands_out i) (track_is_placed file m tree o t i) h)) o.tracks
