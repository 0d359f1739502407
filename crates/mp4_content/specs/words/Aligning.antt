-- Two tracks that are aligned: what calls say of them, over honest stores.
use Rattle.std.specs.Prelude.{◌≡◌, ℕ, suc, ◌+◌, ◌-◌, ◌*◌, ◌≤◌, min, List, [], length, drop, Option, None, Some}
use Rattle.std.specs.List.{AllByRecursion}
use Rattle.mp4_tables.specs.declared.sample.SampleAt.{SampleAt}
use Rattle.mp4_head.specs.format.Tree.{TrackTree}
use Rattle.mp4_present.specs.format.Presentation.{Track}
use Rattle.mp4_present.specs.words.Joined.{IsBelow}
use Rattle.mp4_present.specs.words.Movies.{MovieSeen}
use Rattle.mp4_present.specs.format.Denotes.{FileTree, file_parts, track_of}
use Rattle.mp4_present.specs.words.WalkSteps.{MayTake, walk_steps, walks_steps}
use Rattle.mp4_store.specs.declared.store.Store.{Ghosts as Store}
use Rattle.mp4_content.specs.format.Alignment.{IsEnd, IsFront, time_behind}
use Rattle.mp4_content.specs.format.Differences.{each_differ}
use Rattle.mp4_content.specs.format.Remaining.{divided_samples}
use Rattle.mp4_content.specs.words.Compared.{WhereBothOpened, WhereTracks}
use Rattle.mp4_content.specs.words.Differing.{pair_differences}
use Rattle.mp4_content.specs.words.Scales.{scaling_steps}
use Rattle.mp4_content.specs.declared.aligning.SampleCounts.{SampleCounts}
use Rattle.mp4_content.specs.declared.common_ends.Ends.{Ends}
use Rattle.mp4_content.specs.declared.comparing.differences.Difference.{Difference}
use Rattle.mp4_content.specs.declared.comparing.differences.Subject.{Subject}
use Rattle.mp4_content.specs.declared.comparing.differences.Subject.TheVariants as subjects
use Rattle.mp4_content.specs.declared.comparing.pairing.Pairing.{Pairing}
use Rattle.mp4_content.specs.declared.comparing.samples.TrackSide.{TrackSide}
use Rattle.mp4_content.specs.declared.comparing.tracks.Divisors.{Divisors}
use Rattle.mp4_content.specs.declared.without.Without.{Without}

-- how many samples come before the one that this is said of, no more than so many
abbrev pub front_of : Subject → ℕ → ℕ
front_of (subjects.Sample track number) most = min (number - 1) most
front_of _ most = most

-- the same of the first difference, where there is one
abbrev pub front_before : Option Difference → ℕ → ℕ
front_before None most = most
front_before (Some d) most = front_of d.subject most

abbrev pub AreCounts : SampleCounts → Track → Track → Type 0
AreCounts counts t u = (counts.left ≡ length t.samples) × (counts.right ≡ length u.samples)

-- so much in front of what is left of two tracks is the same, and no more
abbrev pub IsFrontLeft : Without → Divisors → Track → Track → ℕ → Type 0
IsFrontLeft l divisors t u front =
    IsFront (divided_samples l divisors.left t) (divided_samples l divisors.right u) front

-- what there is behind so many samples in front: how many at the end are the same, and when the
-- first behind the front is decoded
pub record AreEnds (l : Without) (divisors : Divisors) (front : ℕ) (t u : Track) (ends : Ends)
    : Type 0 where
  pub end : IsEnd (drop front (divided_samples l divisors.left t))
      (drop front (divided_samples l divisors.right u)) ends.end
  pub time : ends.time ≡ time_behind front t
  pub other_time : ends.other_time ≡ time_behind front u

-- the decode time of the sample behind so many, 0 where there is none
abbrev pub due : Option SampleAt → ℕ
due None = 0
due (Some s) = s.dts

-- of the tracks at this place of two movies, over honest stores, it is so
abbrev pub OfPair : {X Y : Type 0} → Store X → X → MovieSeen → Store Y → Y → MovieSeen → ℕ
    → (Track → Track → Type 0) → Type 0
OfPair S a m T b n place P = WhereTracks S a m T b n place (λ tree t other u.
    P (track_of (S.file a) (file_parts tree) t) (track_of (T.file b) (file_parts other) u))

-- two walks over both take no more than these steps
abbrev pub TracksWorkTwice : {X Y : Type 0} → Store X → X → MovieSeen → Store Y → Y → MovieSeen
    → ℕ → ℕ → ℕ → Type 0
TracksWorkTwice S a m T b n place old new = WhereTracks S a m T b n place (λ tree t other u.
    new ≤ old + 2 * (walk_steps tree t + walk_steps other u))

-- two walks over all tracks, and where timescales are left out one more
abbrev pub aligning_steps : Without → FileTree → FileTree → ℕ
aligning_steps l tree other = (scaling_steps l tree + scaling_steps l other)
    + 2 * (walks_steps tree + walks_steps other)

-- ---- pairs of samples that come

-- what differs of two lists from a place on
abbrev pub differ_from : Pairing → List ℕ → List SampleAt → List ℕ → List SampleAt → ℕ
    → List Difference
differ_from by file xs other ys k =
    each_differ (pair_differences by file other) (k + 1) (drop k xs) (drop k ys)

-- Of the first pairs of two lists, so many, the last that differs is the one of this number, from
-- 1; it is 0 where none differs.
pub record IsLast (by : Pairing) (file : List ℕ) (xs : List SampleAt) (other : List ℕ)
    (ys : List SampleAt) (last count : ℕ) : Type 0 where
  pub within : last ≤ count
  pub same : differ_from by file xs other ys last ≡ differ_from by file xs other ys count
  pub differs : (k : ℕ) → last ≡ suc k → differ_from by file xs other ys k ≡ [] → ⊥

-- both lists have so many samples, and these lie in their files
pub record BothLie (file other : List ℕ) (count : ℕ) (xs ys : List SampleAt) : Type 0 where
  pub left : count ≤ length xs
  pub right : count ≤ length ys
  pub lie : AllByRecursion (IsBelow (length file)) xs
  pub lie_right : AllByRecursion (IsBelow (length other)) ys

-- no more steps were taken than both sides may take
abbrev pub BothWithin : {X Y : Type 0} → Store X → X → MovieSeen → TrackSide → Store Y → Y
    → MovieSeen → TrackSide → ℕ → ℕ → Type 0
BothWithin S a m left T b n right old new =
    WhereBothOpened (S.is_honest a) (S.file a) m (T.is_honest b) (T.file b) n
    (λ tree other. (t u : TrackTree) (p q : ℕ) → MayTake (S.file a) tree t left.walk p
    → MayTake (T.file b) other u right.walk q → new ≤ old + (p + q))
