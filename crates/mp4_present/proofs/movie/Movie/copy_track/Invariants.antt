use Rattle.std.proofs.Common.{[], ◌≡◌, ◌-◌, ◌≤◌, Some}
use Rattle.std.specs.Prelude.{IsTrue, slice_get}
use Rattle.mp4_head.specs.format.Tree.{TrackTree}
use Rattle.mp4_present.specs.words.Carried.{waiting, GoOnBy}
use Rattle.mp4_present.specs.words.SamplesComing.{track_samples}
use Rattle.mp4_present.specs.format.Denotes.{FileTree}
use Rattle.mp4_present.specs.words.OpenedMovie.{IsOpenedAs}
use Rattle.mp4_present.proofs.WalkCopied.{TrackGoesOn}
use Rattle.mp4_present.specs.words.Movies.{IsWalkOf}
use Rattle.mp4_present.specs.words.WalkSteps.{walk_steps, TakesOn}
use Rattle.mp4_present.specs.declared.track_info.TrackInfo.{TrackInfo}
use Rattle.mp4_present.proofs.movie.Movie.copy_track.Given as goal

-- the walk goes on, and nothing failed
abbrev pub invariant-loop-carrier : goal.invariant-loop-carrier
invariant-loop-carrier g l =
    record {
      walk : IsWalkOf l.self l.walk;
      honesty : g.S.Store.is_honest l.store ≡ g.S.Store.is_honest l.fn.store;
      file : g.S.Store.file l.store ≡ g.S.Store.file l.fn.store;
      reads : g.S.Store.read_failures l.store ≡ g.S.Store.read_failures l.fn.store;
      puts : g.K.Sink.put_failures l.sink ≡ g.K.Sink.put_failures l.fn.sink;
      going : IsTrue (g.S.Store.is_honest l.fn.store) → (tree : FileTree) (t : TrackTree) → IsOpenedAs (g.S.Store.file l.fn.store) l.self tree → slice_get tree.movie.tracks l.track ≡ Some t
          → TrackGoesOn (g.S.Store.file l.fn.store) tree t (g.K.Sink.takes l.fn.sink l.sink) (waiting l.carrier) l.walk (track_samples tree t) l.left;
      many : (info : TrackInfo) → slice_get l.self.tracks l.track ≡ Some info → (l.left ≤ info.bytes) × GoOnBy (g.K.Sink.takes l.fn.sink l.sink) [] (waiting l.carrier) (info.bytes - l.left);
      grows : l.fn.steps.passed ≤ l.steps.passed;
      looks : l.steps.looks ≡ l.fn.steps.looks;
      takes : IsTrue (g.S.Store.is_honest l.fn.store) → (tree : FileTree) (t : TrackTree) → IsOpenedAs (g.S.Store.file l.fn.store) l.self tree → slice_get tree.movie.tracks l.track ≡ Some t
          → TakesOn (g.S.Store.file l.fn.store) tree t (walk_steps tree t) l.walk l.fn.steps.passed l.steps.passed;
    }

abbrev pub decreases-loop-carrier : goal.decreases-loop-carrier
decreases-loop-carrier g l = l.walk.left
