use Rattle.std.proofs.Common.{ℕ, ◌≡◌, ◌^◌, ◌<◌, ◌≤◌, List, length}
use Rattle.std.specs.Prelude.{IsTrue}
use Rattle.mp4_head.specs.format.Tree.{TrackTree}
use Rattle.mp4_tables.specs.declared.sample.SampleAt.{SampleAt}
use Rattle.mp4_present.specs.words.Carried.{waiting}
use Rattle.mp4_present.specs.words.SamplesComing.{Comes}
use Rattle.mp4_present.specs.format.Denotes.{FileTree}
use Rattle.mp4_present.specs.words.Movies.{IsWalkOf}
use Rattle.mp4_present.specs.words.OpenedMovie.{IsOpenedAs}
use Rattle.mp4_present.specs.words.WalkSteps.{MayTake, TakesOn}
use Rattle.mp4_answers.specs.words.ListedWalks.{numbers_of_last}
use Rattle.mp4_answers.proofs.WalkLines.{LinesGoOn}
use Rattle.mp4_answers.proofs.commands.samples.put_walk.Given as goal

-- the walk goes on, nothing failed, and the lines of the samples so far are put or wait
abbrev pub invariant-loop-text : goal.invariant-loop-text
invariant-loop-text g l =
    record {
      walk : IsWalkOf l.movie l.walk;
      form : l.text.form ≡ l.fn.text.form;
      honesty : g.S.Store.is_honest l.store ≡ g.S.Store.is_honest l.fn.store;
      file : g.S.Store.file l.store ≡ g.S.Store.file l.fn.store;
      reads : g.S.Store.read_failures l.store ≡ g.S.Store.read_failures l.fn.store;
      looks : l.steps.looks ≡ l.fn.steps.looks;
      puts : g.K.Sink.put_failures l.sink ≡ g.K.Sink.put_failures l.fn.sink;
      going : IsTrue (g.S.Store.is_honest l.fn.store) → (tree : FileTree) (t : TrackTree) (samples : List SampleAt) → IsOpenedAs (g.S.Store.file l.fn.store) l.movie tree → Comes (g.S.Store.file l.fn.store) tree t l.movie l.fn.walk samples → length samples < 2 ^ 32
          → LinesGoOn l.fn.text.form (g.S.Store.file l.fn.store) tree t (g.K.Sink.takes l.fn.sink l.sink) (waiting l.fn.text.carrier) (waiting l.text.carrier) l.number l.walk (numbers_of_last tree t (length samples)) samples;
      grows : l.fn.steps.passed ≤ l.steps.passed;
      takes : IsTrue (g.S.Store.is_honest l.fn.store) → (tree : FileTree) (t : TrackTree) (n : ℕ) → IsOpenedAs (g.S.Store.file l.fn.store) l.movie tree → MayTake (g.S.Store.file l.fn.store) tree t l.fn.walk n
          → TakesOn (g.S.Store.file l.fn.store) tree t n l.walk l.fn.steps.passed l.steps.passed;
    }

abbrev pub decreases-loop-text : goal.decreases-loop-text
decreases-loop-text g l = l.walk.left
