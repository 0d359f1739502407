use Rattle.std.proofs.Common.{ℕ, ◌≡◌, ◌≤◌, List, [], length}
use Rattle.std.specs.Prelude.{IsTrue}
use Rattle.mp4_tables.specs.declared.sample.SampleAt.{SampleAt}
use Rattle.mp4_head.specs.format.Tree.{TrackTree}
use Rattle.mp4_present.specs.words.Carried.{waiting}
use Rattle.mp4_present.specs.format.Denotes.{FileTree}
use Rattle.mp4_present.specs.words.SamplesComing.{Comes}
use Rattle.mp4_present.specs.words.Movies.{IsWalkOf}
use Rattle.mp4_present.specs.words.OpenedMovie.{IsOpenedAs}
use Rattle.mp4_present.specs.words.WalkSteps.{MayTake, TakesOn}
use Rattle.mp4_answers.specs.words.PrintedTracks.{LieBelow}
use Rattle.mp4_answers.specs.words.ToldSamples.{told_sample}
use Rattle.mp4_answers.proofs.ToldWalks.{WalkTold}
use Rattle.mp4_answers.proofs.commands.print.put_walk.Given as goal

-- the walk goes on, nothing failed, and the lines of the samples so far are put or wait
abbrev pub invariant-loop-of : goal.invariant-loop-of
invariant-loop-of g l =
    record {
      walk : IsWalkOf l.of.movie.now l.walk;
      honesty : g.S.Store.is_honest l.store ≡ g.S.Store.is_honest l.fn.store;
      file : g.S.Store.file l.store ≡ g.S.Store.file l.fn.store;
      reads : g.S.Store.read_failures l.store ≡ g.S.Store.read_failures l.fn.store;
      looks : l.steps.looks ≡ l.fn.steps.looks;
      puts : g.K.Sink.put_failures l.sink ≡ g.K.Sink.put_failures l.fn.sink;
      empty : waiting l.desk.window ≡ [];
      grows : l.fn.steps.passed ≤ l.steps.passed;
      takes : IsTrue (g.S.Store.is_honest l.fn.store) → (tree : FileTree) (t : TrackTree) (n : ℕ) → IsOpenedAs (g.S.Store.file l.fn.store) l.of.movie.now tree → MayTake (g.S.Store.file l.fn.store) tree t l.fn.walk n
          → TakesOn (g.S.Store.file l.fn.store) tree t n l.walk l.fn.steps.passed l.steps.passed;
      told : IsTrue (g.S.Store.is_honest l.fn.store) → (tree : FileTree) (t : TrackTree) (samples : List SampleAt) → IsOpenedAs (g.S.Store.file l.fn.store) l.of.movie.now tree → Comes (g.S.Store.file l.fn.store) tree t l.of.movie.now l.fn.walk samples
          → LieBelow (length (g.S.Store.file l.fn.store)) samples
          → WalkTold (told_sample l.of.style.now (g.S.Store.file l.fn.store)) (g.S.Store.file l.fn.store) tree t (g.K.Sink.takes l.fn.sink l.sink) (waiting l.fn.desk.text) (waiting l.desk.text) l.walk samples;
    }

abbrev pub decreases-loop-of : goal.decreases-loop-of
decreases-loop-of g l = l.walk.left
