use Rattle.std.proofs.Common.{ℕ, ◌≡◌, ◌≤◌, List}
use Rattle.std.specs.Prelude.{IsTrue}
use Rattle.mp4_tables.specs.declared.sample.SampleAt.{SampleAt}
use Rattle.mp4_head.specs.format.Tree.{TrackTree}
use Rattle.mp4_present.specs.format.Denotes.{FileTree}
use Rattle.mp4_present.specs.words.SamplesComing.{Comes}
use Rattle.mp4_present.specs.words.Movies.{IsWalkOf}
use Rattle.mp4_present.specs.words.OpenedMovie.{IsOpenedAs}
use Rattle.mp4_present.specs.words.WalkSteps.{MayTake, TakesOn}
use Rattle.mp4_present.proofs.Folded.{HasAdded}
use Rattle.mp4_present.proofs.walking.folding.fold_samples.Given as goal

-- the walk goes on, nothing failed, and the samples so far were added
abbrev pub invariant-loop-into : goal.invariant-loop-into
invariant-loop-into g l =
    record {
      walk : IsWalkOf l.movie l.walk;
      honesty : g.S.Store.is_honest l.store ≡ g.S.Store.is_honest l.fn.store;
      file : g.S.Store.file l.store ≡ g.S.Store.file l.fn.store;
      reads : g.S.Store.read_failures l.store ≡ g.S.Store.read_failures l.fn.store;
      looks : l.steps.looks ≡ l.fn.steps.looks;
      grows : l.fn.steps.passed ≤ l.steps.passed;
      takes : IsTrue (g.S.Store.is_honest l.fn.store) → (tree : FileTree) (t : TrackTree) (n : ℕ) → IsOpenedAs (g.S.Store.file l.fn.store) l.movie tree → MayTake (g.S.Store.file l.fn.store) tree t l.fn.walk n
          → TakesOn (g.S.Store.file l.fn.store) tree t n l.walk l.fn.steps.passed l.steps.passed;
      added : IsTrue (g.S.Store.is_honest l.fn.store) → (tree : FileTree) (t : TrackTree) (samples : List SampleAt) → IsOpenedAs (g.S.Store.file l.fn.store) l.movie tree → Comes (g.S.Store.file l.fn.store) tree t l.movie l.fn.walk samples
          → HasAdded g.F.Fold.takes (g.S.Store.file l.fn.store) tree t l.fn.into l.into l.walk samples;
    }

abbrev pub decreases-loop-into : goal.decreases-loop-into
decreases-loop-into g l = l.walk.left
