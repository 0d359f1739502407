use Rattle.std.proofs.Common.{◌≡◌, ℕ, [], flat_map, length}
use Rattle.std.specs.Prelude.{IsTrue}
use Rattle.mp4_present.specs.words.Carried.{waiting}
use Rattle.mp4_answers.specs.words.PrintedTracks.{LieBelow}
use Rattle.mp4_answers.specs.words.ToldSamples.{told_sample}
use Rattle.mp4_answers.proofs.Going.{Going}
use Rattle.mp4_answers.proofs.commands.print.put_some.Given as goal

-- nothing failed, and the lines of the first samples are put or wait
abbrev pub invariant-loop-rest : goal.invariant-loop-rest
invariant-loop-rest g l = record {
  honesty : g.S.Store.is_honest l.store ≡ g.S.Store.is_honest l.fn.store;
  file : g.S.Store.file l.store ≡ g.S.Store.file l.fn.store;
  reads : g.S.Store.read_failures l.store ≡ g.S.Store.read_failures l.fn.store;
  puts : g.K.Sink.put_failures l.sink ≡ g.K.Sink.put_failures l.fn.sink;
  empty : waiting l.desk.window ≡ [];
  lie : (n : ℕ) → LieBelow n l.samples → LieBelow n l.rest;
  told : IsTrue (g.S.Store.is_honest l.fn.store)
      → Going (g.K.Sink.takes l.fn.sink l.sink) (waiting l.fn.desk.text) (waiting l.desk.text) (flat_map (told_sample l.style (g.S.Store.file l.fn.store)) l.rest) (flat_map (told_sample l.style (g.S.Store.file l.fn.store)) l.samples);
}

abbrev pub decreases-loop-rest : goal.decreases-loop-rest
decreases-loop-rest g l = length l.rest
