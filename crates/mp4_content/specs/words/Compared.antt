-- Two opened files that are compared, track by track and sample by sample.
use Rattle.std.specs.Prelude.{◌≡◌, ◌<◌, ◌≤◌, ◌+◌, ℕ, Bool, IsTrue, List, [], ◌++◌, length, take, map, fold, if◌then◌else◌, Some, slice_get, Result, MatchResult, IfOk}
use Rattle.std.specs.List.{AllByRecursion}
use Rattle.mp4_tables.specs.words.Keys.{key_seen, keys_seen}
use Rattle.mp4_tables.specs.declared.sample.SampleAt.{SampleAt}
use Rattle.mp4_head.specs.format.Tree.{TrackTree}
use Rattle.mp4_head.specs.words.Seen.{track_seen}
use Rattle.mp4_head.specs.declared.heads.TrackHead.{TrackHead}
use Rattle.mp4_content.specs.format.Alignment.{listed_track, listed}
use Rattle.mp4_content.specs.format.Comparison.{with_key, sample_differences, differences}
use Rattle.mp4_present.specs.format.Denotes.{FileTree, file_parts, track_of, presentation_of}
use Rattle.mp4_content.specs.format.Differences.{each_differ}
use Rattle.mp4_content.specs.format.Remaining.{divided_samples, divided_track, remaining}
use Rattle.mp4_content.specs.words.Differing.{pair_differences}
use Rattle.mp4_present.specs.words.Joined.{IsBelow}
use Rattle.mp4_present.specs.words.Movies.{MovieSeen, IsWalkOf}
use Rattle.mp4_present.specs.words.NextSample.{TakesFirst}
use Rattle.mp4_present.specs.words.OpenedMovie.{IsOpenedAs}
use Rattle.mp4_present.specs.words.SamplesComing.{Comes}
use Rattle.mp4_present.specs.words.WalkSteps.{MayTake, walk_steps, walks_steps}
use Rattle.mp4_content.specs.words.Windows.{Shows}
use Rattle.mp4_store.specs.declared.store.Store.{Ghosts as Store}
use Rattle.mp4_content.specs.declared.comparing.pairing.Pairing.{Pairing}
use Rattle.mp4_content.specs.words.Scales.{AreScales, scaling_steps}
use Rattle.mp4_content.specs.declared.comparing.both_scales.BothScales.{BothScales}
use Rattle.mp4_content.specs.declared.comparing.samples.TrackSide.{TrackSide}
use Rattle.mp4_content.specs.declared.comparing.tracks.Divisors.{Divisors}
use Rattle.mp4_content.specs.declared.comparing.differences.Difference.{Difference}
use Rattle.mp4_content.specs.declared.reduced.Reduction.{Reduction}
use Rattle.mp4_content.specs.declared.without.Without.{Without}
use Rattle.mp4_present.specs.declared.track_info.TrackInfo.{TrackInfo}
use Rattle.mp4_present.specs.declared.walking.Walk.{Walk}

-- it is so of all trees that two movies were opened as, over honest stores of these files
abbrev pub WhereBothOpened : Bool → List ℕ → MovieSeen → Bool → List ℕ → MovieSeen
    → (FileTree → FileTree → Type 0) → Type 0
WhereBothOpened honest file m honest_right file_right n P = IsTrue honest → IsTrue honest_right
    → (tree other : FileTree) → IsOpenedAs file m tree → IsOpenedAs file_right n other
    → P tree other

-- The samples of these two tracks, at this place among the tracks of their movies, are compared by
-- the keys of both in their order.
pub record IsPairingOf (leaving : Without) (track : ℕ) (info other : TrackInfo) (by : Pairing)
    : Type 0 where
  pub number : by.track ≡ track + 1
  pub left_keys : by.left ≡ info.keys
  pub right_keys : by.right ≡ other.keys
  pub all_keys : map key_seen by.keys.items ≡ (if leaving.groups then []
      else fold with_key [] (keys_seen info.keys ++ keys_seen other.keys))

-- the same of the tracks at this place of two movies
abbrev pub IsPairingAt : Without → ℕ → MovieSeen → MovieSeen → Pairing → Type 0
IsPairingAt leaving track m n by = (info other : TrackInfo) → slice_get m.tracks track ≡ Some info
    → slice_get n.tracks track ≡ Some other → IsPairingOf leaving track info other by

-- the samples of the two tracks are left by these
pub record HasReductions (left right : Reduction) (by : Pairing) : Type 0 where
  pub left_by : by.left_reduction ≡ left
  pub right_by : by.right_reduction ≡ right

-- there is a sample, and all of them lie in the file
abbrev pub LieIn : List ℕ → List SampleAt → Type 0
LieIn file samples = (0 < length samples) × AllByRecursion (IsBelow (length file)) samples

-- Of so many steps some were taken, and two walks may take the others together.
abbrev pub BothTakeOn : List ℕ → FileTree → TrackTree → Walk → List ℕ → FileTree → TrackTree → Walk
    → ℕ → ℕ → ℕ → Type 0
BothTakeOn file tree t w file_right other u v n old new = (p q : ℕ) × MayTake file tree t w p
    × MayTake file_right other u v q × (new + (p + q) ≤ old + n)

-- it is so of the tracks at this place in both
abbrev pub AtTracks : ℕ → FileTree → FileTree → (TrackTree → TrackTree → Type 0) → Type 0
AtTracks track tree other P = (t u : TrackTree) → slice_get tree.movie.tracks track ≡ Some t
    → slice_get other.movie.tracks track ≡ Some u → P t u

-- what differs between the samples of two tracks with this number, behind what was left out, where
-- their times are divided by these
abbrev pub samples_differ : Without → Divisors → ℕ → List ℕ → FileTree → TrackTree → List ℕ
    → FileTree → TrackTree → List Difference
samples_differ l divisors number file tree t file_right other u =
    each_differ (sample_differences number) 1
    (divided_samples l divisors.left (track_of file (file_parts tree) t))
    (divided_samples l divisors.right (track_of file_right (file_parts other) u))

-- some of these were taken, from the first on
abbrev pub TakesFront : List Difference → List Difference → List Difference → Type 0
TakesFront before after differences = (n : ℕ) × (after ≡ before ++ take n differences)

-- What differs between two tracks with this number of whose heads these are left, behind what was
-- left out, where their times are divided by these, and whether tracks are aligned.
abbrev pub tracks_differ : Bool → Without → Divisors → ℕ → TrackHead → List ℕ → FileTree → TrackTree
    → TrackHead → List ℕ → FileTree → TrackTree → List Difference
tracks_differ aligned l divisors number head file tree t other_head file_right other u =
    listed_track aligned number
    (record (divided_track l 1 divisors.left (track_of file (file_parts tree) t)) {
      head = track_seen head;
    })
    (record (divided_track l 1 divisors.right (track_of file_right (file_parts other) u)) {
      head = track_seen other_head;
    })

-- what differs between two files, behind what was left out
abbrev pub files_differ : Without → List ℕ → FileTree → List ℕ → FileTree → List Difference
files_differ l file tree file_right other =
    differences (remaining l (presentation_of file tree))
    (remaining l (presentation_of file_right other))

-- the same where tracks are aligned, or are not
abbrev pub files_listed : Bool → Without → List ℕ → FileTree → List ℕ → FileTree → List Difference
files_listed aligned l file tree file_right other = listed aligned
    (remaining l (presentation_of file tree)) (remaining l (presentation_of file_right other))

-- ---- clauses of calls

-- over honest stores, of movies that were opened from them: this is true of what both files have
abbrev pub WhereOpenedBoth : {X Y : Type 0} → Store X → X → MovieSeen → Store Y → Y → MovieSeen
    → (FileTree → FileTree → Type 0) → Type 0
WhereOpenedBoth S a m T b n P =
    WhereBothOpened (S.is_honest a) (S.file a) m (T.is_honest b) (T.file b) n P

-- the same, of what differs between them, behind what is left out
abbrev pub OfFiles : {X Y : Type 0} → Store X → X → MovieSeen → Store Y → Y → MovieSeen → Without
    → (List Difference → Type 0) → Type 0
OfFiles S a m T b n l P = WhereOpenedBoth S a m T b n
    (λ tree other. P (files_differ l (S.file a) tree (T.file b) other))

-- the same where tracks are aligned, or are not
abbrev pub OfListed : {X Y : Type 0} → Store X → X → MovieSeen → Store Y → Y → MovieSeen → Bool
    → Without → (List Difference → Type 0) → Type 0
OfListed S a m T b n aligned l P = WhereOpenedBoth S a m T b n
    (λ tree other. P (files_listed aligned l (S.file a) tree (T.file b) other))

-- the same of movies of which these are the scales
abbrev pub WhereScaled : {X Y : Type 0} → Store X → X → MovieSeen → Store Y → Y → MovieSeen
    → Without → BothScales → (FileTree → FileTree → Type 0) → Type 0
WhereScaled S a m T b n l scales P = WhereOpenedBoth S a m T b n
    (λ tree other. AreScales l (S.file a) tree scales.left
    → AreScales l (T.file b) other scales.right → P tree other)

abbrev pub OfScaled : {X Y : Type 0} → Store X → X → MovieSeen → Store Y → Y → MovieSeen → Bool
    → Without → BothScales → (List Difference → Type 0) → Type 0
OfScaled S a m T b n aligned l scales P = WhereScaled S a m T b n l scales
    (λ tree other. P (files_listed aligned l (S.file a) tree (T.file b) other))

-- walks over all tracks of both, and where timescales are left out one more
abbrev pub comparing_steps : Without → FileTree → FileTree → ℕ
comparing_steps l tree other = (scaling_steps l tree + scaling_steps l other)
    + (walks_steps tree + walks_steps other)

-- both movies have a track at this place
pub record HaveTracks (track : ℕ) (m n : MovieSeen) : Type 0 where
  pub left : track < length m.tracks
  pub right : track < length n.tracks

-- of whatever file the movie was opened from, and its track at this place, it is so
abbrev pub WhereTrackOf : MovieSeen → ℕ → (List ℕ → FileTree → TrackTree → Type 0) → Type 0
WhereTrackOf m track P = (file : List ℕ) (tree : FileTree) (t : TrackTree) → IsOpenedAs file m tree
    → slice_get tree.movie.tracks track ≡ Some t → P file tree t

-- over honest stores, of the tracks at this place of two movies, it is so
abbrev pub WhereTracks : {X Y : Type 0} → Store X → X → MovieSeen → Store Y → Y → MovieSeen → ℕ
    → (FileTree → TrackTree → FileTree → TrackTree → Type 0) → Type 0
WhereTracks S a m T b n track P =
    WhereBothOpened (S.is_honest a) (S.file a) m (T.is_honest b) (T.file b) n
    (λ tree other. AtTracks track tree other (λ t u. P tree t other u))

-- the same, of what differs between their samples
abbrev pub OfSamples : {X Y : Type 0} → Store X → X → MovieSeen → Store Y → Y → MovieSeen → ℕ
    → Without → Divisors → (List Difference → Type 0) → Type 0
OfSamples S a m T b n track l divisors P = WhereTracks S a m T b n track (λ tree t other u.
    P (samples_differ l divisors (track + 1) (S.file a) tree t (T.file b) other u))

-- the same, of what differs between them, where these are left of their heads
abbrev pub OfTracks : {X Y : Type 0} → Store X → X → MovieSeen → TrackHead → Store Y → Y → MovieSeen
    → TrackHead → ℕ → Bool → Without → Divisors → (List Difference → Type 0) → Type 0
OfTracks S a m head T b n other_head track aligned l divisors P =
    WhereTracks S a m T b n track (λ tree t other u.
    P (tracks_differ aligned l divisors (track + 1) head (S.file a) tree t other_head (T.file b)
    other u))

-- walks over both take no more than these steps
abbrev pub TracksWork : {X Y : Type 0} → Store X → X → MovieSeen → Store Y → Y → MovieSeen → ℕ
    → ℕ → ℕ → Type 0
TracksWork S a m T b n track old new = WhereTracks S a m T b n track (λ tree t other u.
    new ≤ old + (walk_steps tree t + walk_steps other u))

-- A side walks over the movie, and its window shows the file of an honest store.
pub record StandsIn {X : Type 0} (S : Store X) (store : X) (m : MovieSeen) (side : TrackSide)
    : Type 0 where
  pub walk : IsWalkOf m side.walk
  pub shows : IsTrue (S.is_honest store) → Shows (S.file store) side.window

-- over honest stores, of the samples that come on both sides, it is so
abbrev pub BothCome : {X Y : Type 0} → Store X → X → MovieSeen → TrackSide → Store Y → Y
    → MovieSeen → TrackSide
    → (FileTree → TrackTree → List SampleAt → FileTree → TrackTree → List SampleAt → Type 0)
    → Type 0
BothCome S a m left T b n right P =
    WhereBothOpened (S.is_honest a) (S.file a) m (T.is_honest b) (T.file b) n
    (λ tree other. (t u : TrackTree) (xs ys : List SampleAt)
    → Comes (S.file a) tree t m left.walk xs → Comes (T.file b) other u n right.walk ys
    → P tree t xs other u ys)

-- The first samples of both were taken, and this differs between them. The lists are the samples
-- that came before, and the sides are those behind it.
abbrev pub PairTaken : Pairing → ℕ → List ℕ → FileTree → TrackTree → MovieSeen → TrackSide
    → List SampleAt → List ℕ → FileTree → TrackTree → MovieSeen → TrackSide → List SampleAt
    → List Difference → Type 0
PairTaken by number file tree t m left xs file_right other u n right ys found = (x y : SampleAt)
    × TakesFirst file tree t m left.walk xs x × TakesFirst file_right other u n right.walk ys y
    × (found ≡ pair_differences by file file_right number x y)

-- At Ok the first samples of both were taken, and what is answered are their differences.
abbrev pub PairFound : {X Y V E : Type 0} → Pairing → ℕ → Store X → X → MovieSeen → TrackSide
    → TrackSide → Store Y → Y → MovieSeen → TrackSide → TrackSide → (V → List Difference)
    → Result V E → Type 0
PairFound by number S a m left left_after T b n right right_after items result =
    BothCome S a m left T b n right (λ tree t xs other u ys. IfOk result (λ found.
    PairTaken by number (S.file a) tree t m left_after xs (T.file b) other u n right_after ys
    (items found)))

-- where the samples that come on both sides lie in their files, and are some, it is so
abbrev pub WhereBothLie : {X Y : Type 0} → Store X → X → MovieSeen → TrackSide → Store Y → Y
    → MovieSeen → TrackSide → Type 0 → Type 0
WhereBothLie S a m left T b n right P = BothCome S a m left T b n right
    (λ tree t xs other u ys. LieIn (S.file a) xs → LieIn (T.file b) ys → P)

-- At Ok both sides take on what steps are left; at Err no more were taken than both may take.
abbrev pub BothWork : {X Y T E : Type 0} → Store X → X → MovieSeen → TrackSide → TrackSide
    → Store Y → Y → MovieSeen → TrackSide → TrackSide → Result T E → ℕ → ℕ → Type 0
BothWork S a m left left_after T b n right right_after result old new =
    WhereBothOpened (S.is_honest a) (S.file a) m (T.is_honest b) (T.file b) n
    (λ tree other. (t u : TrackTree) (p q : ℕ) → MayTake (S.file a) tree t left.walk p
    → MayTake (T.file b) other u right.walk q → MatchResult result
    (λ _. BothTakeOn (S.file a) tree t left_after.walk (T.file b) other u right_after.walk (p + q)
    old new) (λ _. new ≤ old + (p + q)))
