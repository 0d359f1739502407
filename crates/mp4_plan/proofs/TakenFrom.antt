-- What an opened file says of its tracks: their samples are those of the presentation that it denotes, and lie in it; their keys differ, and are at most four.
use Rattle.std.proofs.Common.{◌≡◌, ℕ, zero, suc, ◌^◌, ◌≤◌, false, List, [], ◌∷◌, length, Some, refl, sym, subst, ◌∙◌, arith}
use Rattle.std.specs.Prelude.{map}
use Rattle.std.specs.List.{AllByRecursion, AllZip, list_any, slice_get, sum_by}
use Rattle.std.proofs.lemmas.Bool.{or_from}
use Rattle.std.proofs.lemmas.List.Sums.{sum_by-cons}
use Rattle.mp4_boxes.specs.format.Bytes.{sum_of}
use Rattle.mp4_boxes.proofs.Each.{each_weaker, each_member}
use Rattle.mp4_boxes.proofs.Plain.{get_map, get_zip}
use Rattle.mp4_tables.specs.words.Accepted.{AreDistinct}
use Rattle.mp4_tables.specs.format.Groups.{GroupKey, same_key}
use Rattle.mp4_tables.specs.words.Keys.{keys_seen}
use Rattle.mp4_tables.specs.declared.sample.SampleAt.{SampleAt}
use Rattle.mp4_tables.proofs.Placed.{IsKey}
use Rattle.mp4_head.specs.format.Tree.{TrackTree}
use Rattle.mp4_present.specs.words.SamplesComing.{track_keys, track_samples}
use Rattle.mp4_present.specs.format.Denotes.{FileTree, file_parts, placed_of, track_of}
use Rattle.mp4_present.specs.words.Joined.{IsBelow}
use Rattle.mp4_present.specs.words.Movies.{MovieSeen}
use Rattle.mp4_present.specs.words.OpenedMovie.{IsInfoOf, IsOpenedAs}
use Rattle.mp4_present.specs.format.Presentation.{Track}
use Rattle.mp4_present.specs.declared.track_info.TrackInfo.{TrackInfo}
use Rattle.mp4_present.proofs.PlacedTracks.{IsTrackPlaced}
use Rattle.mp4_present.proofs.ToldTrees.{track_is_placed}
use Rattle.mp4_present.proofs.SamplesLie.{IsInFile, placed_lie, timed_lie}
use Rattle.mp4_plan.specs.words.PiecesComing.{coming_of}
use Rattle.mp4_content.specs.words.TakenSamples.{AreTaken, IsNamed}
use Rattle.mp4_plan.specs.words.UsedKeys.{AreApart}
use Rattle.mp4_plan.proofs.Lefts.{IsLeft, left_count}
use Rattle.mp4_content.proofs.SamplesTaken.{is_named, are_taken, turned}
use Rattle.mp4_content.proofs.EndsCompared.{samples_many}

-- ---- keys

none_same : (key : GroupKey) (keys : List GroupKey) → AllByRecursion (λ other. same_key key other ≡ false) keys → list_any (same_key key) keys ≡ false
none_same key [] d = refl
none_same key (other ∷ keys) d = or_from (same_key key other) (list_any (same_key key) keys) d.0 (none_same key keys d.1)

are_apart : (keys : List GroupKey) → AreDistinct keys → AreApart keys
are_apart [] d = tt
are_apart (key ∷ keys) d = (none_same key keys d.0, are_apart keys d.1)

-- ---- tracks

-- What is kept of a track of a file, and the track that the file's boxes say.
pub record TrackFacts (file : List ℕ) (tree : FileTree) (info : TrackInfo) (t : TrackTree) : Type 0 where
  pub left : IsLeft file info (track_samples tree t) (coming_of (track_of file (file_parts tree) t))
  pub apart : AreApart (keys_seen info.keys)
  pub named : AllByRecursion IsNamed (keys_seen info.keys)
  pub few_keys : length (keys_seen info.keys) ≤ 4
  pub lies : AllByRecursion (IsBelow (length file)) (track_samples tree t)

facts_of : (file : List ℕ) (tree : FileTree) (t : TrackTree) (info : TrackInfo) → AllByRecursion (IsInFile (length file)) (placed_of (file_parts tree) t) → IsTrackPlaced tree t → IsInfoOf file tree t info → TrackFacts file tree info t
facts_of file tree t info h p i =
    let placed = placed_of (file_parts tree) t in
    let u : Track = track_of file (file_parts tree) t in
    let keys = sym i.keys in
    let taken = are_taken file (length t.descriptions) (track_keys tree t) 0 1 u.start placed h p.placed in
    record {
      left = record { id = sym i.id; timescale = sym i.timescale; taken = subst (λ ks. AreTaken file ks (track_samples tree t) (coming_of u).samples) keys taken };
      apart = subst AreApart keys (are_apart (track_keys tree t) p.distinct);
      named = subst (λ ks. AllByRecursion IsNamed ks) keys (each_weaker IsKey IsNamed is_named (track_keys tree t) p.keys);
      few_keys = subst (λ (ks : List GroupKey). length ks ≤ 4) keys p.few;
      lies = timed_lie (length file) (track_keys tree t) 0 u.start placed h;
    }

-- The facts of all tracks in order.
pub track_facts : (file : List ℕ) (m : MovieSeen) (tree : FileTree) → IsOpenedAs file m tree → AllZip (TrackFacts file tree) m.tracks tree.movie.tracks
track_facts file m tree o =
    turned (IsInfoOf file tree) (TrackFacts file tree) tree.movie.tracks m.tracks
    (each_member (λ (t : TrackTree). (info : TrackInfo) → IsInfoOf file tree t info → TrackFacts file tree info t) tree.movie.tracks
    (λ t i info h. facts_of file tree t info (placed_lie file tree t o.hands_out i) (track_is_placed file m tree o t i) h)) o.tracks

-- and of the track at a place
pub track_facts_at : (file : List ℕ) (m : MovieSeen) (tree : FileTree) (k : ℕ) (info : TrackInfo) (t : TrackTree) → IsOpenedAs file m tree
    → slice_get m.tracks k ≡ Some info → slice_get tree.movie.tracks k ≡ Some t → TrackFacts file tree info t
track_facts_at file m tree k info t o e f = get_zip (TrackFacts file tree) m.tracks tree.movie.tracks k info t (track_facts file m tree o) e f

-- the partner of what stands at a place
partner : {A B : Type 0} (R : A → B → Type 0) (xs : List A) (ys : List B) (k : ℕ) (x : A) → AllZip R xs ys → slice_get xs k ≡ Some x → (y : B) × (slice_get ys k ≡ Some y)
partner R [] ys k x z e = absurd cc
partner R (a ∷ xs) [] k x z e = absurd z
partner R (a ∷ xs) (b ∷ ys) zero x z e = (b, refl)
partner R (a ∷ xs) (b ∷ ys) (suc k) x z e = partner R xs ys k x z.1 e

-- A track of which this is kept stands at this place of the file's tracks, and its samples at this place of theirs.
pub record HasTrack (file : List ℕ) (tree : FileTree) (k : ℕ) (info : TrackInfo) : Type 0 where
  pub t : TrackTree
  pub is_there : slice_get tree.movie.tracks k ≡ Some t
  pub samples : slice_get (map (track_samples tree) tree.movie.tracks) k ≡ Some (track_samples tree t)
  pub facts : TrackFacts file tree info t

pub has_track : (file : List ℕ) (m : MovieSeen) (tree : FileTree) (k : ℕ) (info : TrackInfo) → IsOpenedAs file m tree → slice_get m.tracks k ≡ Some info → HasTrack file tree k info
has_track file m tree k info o e =
    let r = partner (TrackFacts file tree) m.tracks tree.movie.tracks k info (track_facts file m tree o) e in
    record { t = r.0; is_there = r.1; samples = get_map (track_samples tree) tree.movie.tracks k r.0 r.1; facts = track_facts_at file m tree k info r.0 o e r.1 }

-- ---- how many samples there are

-- as many as the presentation has
left_total : (file : List ℕ) (tree : FileTree) (trees : List TrackTree) → left_count (map (track_samples tree) trees) ≡ sum_of (λ (u : Track). length u.samples) (map (track_of file (file_parts tree)) trees)
left_total file tree [] = refl
left_total file tree (t ∷ trees) =
    let first = sum_by-cons (λ (left : List SampleAt). length left) (track_samples tree t) (map (track_samples tree) trees) in
    let more = left_total file tree trees in
    let same = samples_many file tree t in
    omega (arith, first, more, same)

-- and as are kept
kept_total : (file : List ℕ) (tree : FileTree) (trees : List TrackTree) (infos : List TrackInfo) → AllZip (IsInfoOf file tree) trees infos → sum_by (λ (i : TrackInfo). i.samples) infos ≡ left_count (map (track_samples tree) trees)
kept_total file tree [] [] z = refl
kept_total file tree [] (info ∷ infos) z = absurd z
kept_total file tree (t ∷ trees) [] z = absurd z
kept_total file tree (t ∷ trees) (info ∷ infos) z =
    let kept = sum_by-cons (λ (i : TrackInfo). i.samples) info infos in
    let left = sum_by-cons (λ (xs : List SampleAt). length xs) (track_samples tree t) (map (track_samples tree) trees) in
    let more = kept_total file tree trees infos z.1 in
    let own = z.0.samples in
    let same = samples_many file tree t in
    omega (arith, kept, left, more, own, same)

-- The samples that are kept of all tracks are those of the file, which are no more than the limit allows.
pub samples_left : (file : List ℕ) (m : MovieSeen) (tree : FileTree) → IsOpenedAs file m tree → sum_by (λ (i : TrackInfo). i.samples) m.tracks ≡ left_count (map (track_samples tree) tree.movie.tracks)
samples_left file m tree o = kept_total file tree tree.movie.tracks m.tracks o.tracks

pub few_left : (file : List ℕ) (m : MovieSeen) (tree : FileTree) → IsOpenedAs file m tree → left_count (map (track_samples tree) tree.movie.tracks) ≤ 2 ^ 24
few_left file m tree o = subst (λ n. n ≤ 2 ^ 24) (sym (left_total file tree tree.movie.tracks)) o.limits.samples

-- so what is counted of them is all
pub all_counted : (file : List ℕ) (m : MovieSeen) (tree : FileTree) (n : ℕ) → IsOpenedAs file m tree → n ≡ sum_by (λ (i : TrackInfo). i.samples) m.tracks → n ≡ left_count (map (track_samples tree) tree.movie.tracks)
all_counted file m tree n o e = e ∙ samples_left file m tree o
