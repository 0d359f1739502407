use Rattle.std.proofs.Common.{◌≡◌, ◌≤◌, []}
use Rattle.std.specs.Prelude.{IsTrue}
use Rattle.mp4_present.specs.format.Denotes.{FileTree}
use Rattle.mp4_present.specs.words.Carried.{waiting}
use Rattle.mp4_present.specs.words.OpenedMovie.{IsOpenedAs}
use Rattle.mp4_answers.specs.words.PrintedTracks.{AreWalks, HeadsRemain}
use Rattle.mp4_answers.proofs.PrintedTracks.{TracksTold}
use Rattle.mp4_answers.proofs.commands.print.put_tracks.Given as goal

-- walks over the tracks that are left are there, nothing failed, and the text of the tracks so far is put or waits
abbrev pub invariant-loop-track : goal.invariant-loop-track
invariant-loop-track g l =
    record {
      walks : AreWalks l.of.movie.now l.track l.walks.items;
      empty : waiting l.desk.window ≡ [];
      grows : l.fn.steps.passed ≤ l.steps.passed;
      honesty : g.S.Store.is_honest l.store ≡ g.S.Store.is_honest l.fn.store;
      file : g.S.Store.file l.store ≡ g.S.Store.file l.fn.store;
      reads : g.S.Store.read_failures l.store ≡ g.S.Store.read_failures l.fn.store;
      looks : l.steps.looks ≡ l.fn.steps.looks;
      puts : g.K.Sink.put_failures l.sink ≡ g.K.Sink.put_failures l.fn.sink;
      told : IsTrue (g.S.Store.is_honest l.fn.store) → (tree : FileTree) → IsOpenedAs (g.S.Store.file l.fn.store) l.of.movie.now tree → HeadsRemain l.of.leaving (g.S.Store.file l.fn.store) tree l.of.scales.now l.of.heads.now
          → TracksTold l.of.leaving (g.S.Store.file l.fn.store) tree l.track (g.K.Sink.takes l.fn.sink l.sink) (waiting l.fn.desk.text) (waiting l.desk.text) l.fn.steps.passed l.steps.passed;
    }
