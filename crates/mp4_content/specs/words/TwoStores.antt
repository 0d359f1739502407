-- Two files that are compared: what is left of their stores, and which differences are handed over.
-- `S`, `T` and `D` are what bounds say of the types of the stores and of who takes differences.
use Rattle.std.specs.Prelude.{◌≡◌, ℕ, ◌+◌, ◌≤◌, List, ◌++◌, Bool, true, Result, IfOk}
use Rattle.mp4_store.specs.declared.store.Store.{Ghosts as Store}
use Rattle.mp4_head.specs.format.Tree.{TrackTree}
use Rattle.mp4_present.specs.format.Denotes.{FileTree}
use Rattle.mp4_content.specs.words.ComingLess.{reduction_of}
use Rattle.mp4_content.specs.words.Compared.{BothTakeOn, HasReductions, StandsIn, TakesFront, WhereTrackOf}
use Rattle.mp4_present.specs.words.Movies.{MovieSeen, IsWalkOf}
use Rattle.mp4_present.specs.words.StoresRead.{OnlyReads}
use Rattle.mp4_present.specs.words.SamplesComing.{Comes, track_samples}
use Rattle.mp4_present.specs.words.WalkSteps.{MayTake, walk_steps}
use Rattle.mp4_content.specs.words.Windows.{Shows}
use Rattle.mp4_content.specs.declared.comparing.pairing.Pairing.{Pairing}
use Rattle.mp4_present.specs.declared.walking.Walk.{Walk}
use Rattle.mp4_content.specs.declared.without.Without.{Without}
use Rattle.mp4_content.specs.declared.comparing.samples.TrackSide.{TrackSide}
use Rattle.mp4_content.specs.declared.comparing.tracks.Divisors.{Divisors}
use Rattle.mp4_content.specs.declared.comparing.differences.Difference.{Difference}
use Rattle.mp4_content.specs.declared.comparing.differences.Differences.{Ghosts as Differences}

-- both stores are as they were, but for failed reads, and at Ok none failed
pub record OnlyReadsBoth {X Y V E : Type 0} (S : Store X) (a a_after : X) (T : Store Y)
    (b b_after : Y) (result : Result V E) : Type 0 where
  pub left : OnlyReads S a a_after result
  pub right : OnlyReads T b b_after result

-- each side walks over its movie, and its window shows the file of its store, where this is honest
pub record BothStand {X Y : Type 0} (S : Store X) (a : X) (m : MovieSeen) (one : TrackSide)
    (T : Store Y) (b : Y) (n : MovieSeen) (other : TrackSide) : Type 0 where
  pub left : StandsIn S a m one
  pub right : StandsIn T b n other

-- A side walks over this track of the movie, before its first sample, and its window is one on
-- whatever file.
pub record Begins (m : MovieSeen) (track : ℕ) (side : TrackSide) : Type 0 where
  pub walk : IsWalkOf m side.walk
  pub coming : WhereTrackOf m track (λ file tree t.
      Comes file tree t m side.walk (track_samples tree t))
  pub may : WhereTrackOf m track (λ file tree t.
      (n : ℕ) × MayTake file tree t side.walk n × (n ≤ walk_steps tree t))
  pub shows : (file : List ℕ) → Shows file side.window

-- Two tracks are compared by what their samples are left by, both walks stand before the first
-- samples, and some of the steps that they may take were taken.
pub record HaveBegun (l : Without) (divisors : Divisors) (by : Pairing) (file : List ℕ)
    (tree : FileTree) (t : TrackTree)
    (m : MovieSeen) (w : Walk) (file_right : List ℕ) (other : FileTree) (u : TrackTree)
    (n : MovieSeen) (v : Walk) (old new : ℕ) : Type 0 where
  pub reductions : HasReductions (reduction_of l divisors.left (track_samples tree t))
      (reduction_of l divisors.right (track_samples other u)) by
  pub comes : Comes file tree t m w (track_samples tree t)
  pub comes_right : Comes file_right other u n v (track_samples other u)
  pub takes : BothTakeOn file tree t w file_right other u v (walk_steps tree t + walk_steps other u)
      old new

-- A front of the differences was taken; where the answer is true, all of them; and the answer says
-- whether a further one is taken. `Of` says of which lists something is true.
pub record HandsOver {Z E : Type 0} (D : Differences Z) (seen seen_after : Z)
    (result : Result Bool E) (Of : (List Difference → Type 0) → Type 0) : Type 0 where
  pub goes : IfOk result (λ all. all ≡ D.is_open seen_after)
  pub all : IfOk result (λ all. all ≡ true
      → Of (λ ds. D.taken seen_after ≡ D.taken seen ++ ds))
  pub front : Of (TakesFront (D.taken seen) (D.taken seen_after))
