use Rattle.std.specs.Prelude.{vec_len, IsTrue}
use Rattle.std.proofs.Common.{◌≡◌, ◌-◌, ◌≤◌, length}
use Rattle.mp4_present.specs.words.Carried.{GoOnBy, waiting}
use Rattle.mp4_present.specs.words.Movies.{IsWalkOf}
use Rattle.mp4_plan.proofs.PieceCarried.{CarriesOn}
use Rattle.mp4_present.proofs.WayThrough.{TakesBefore}
use Rattle.mp4_content.specs.words.GoneOn.{WentOn}
use Rattle.mp4_plan.proofs.carrying.carry_piece.Given as goal

-- the walk goes on, and the bytes of the samples before are taken along
abbrev pub invariant-loop-left : goal.invariant-loop-left
invariant-loop-left g l = record {
  walk : IsWalkOf l.movie l.walk;
  room : length l.walk.bytes.items ≡ length l.fn.walk.bytes.items;
  honesty : g.S.Store.is_honest l.store ≡ g.S.Store.is_honest l.fn.store;
  file : g.S.Store.file l.store ≡ g.S.Store.file l.fn.store;
  reads : g.S.Store.read_failures l.store ≡ g.S.Store.read_failures l.fn.store;
  looks : l.steps.looks ≡ l.fn.steps.looks;
  puts : g.K.Sink.put_failures l.sink ≡ g.K.Sink.put_failures l.fn.sink;
  buffer : vec_len l.carrier.buffer ≡ vec_len l.fn.carrier.buffer;
  few : l.left.bytes ≤ l.fn.load.bytes;
  many : GoOnBy (g.K.Sink.takes l.fn.sink l.sink) (waiting l.fn.carrier) (waiting l.carrier) (l.fn.load.bytes - l.left.bytes);
  carried : IsTrue (g.S.Store.is_honest l.fn.store)
      → CarriesOn (g.S.Store.file l.fn.store) l.movie l.fn.walk l.walk (g.K.Sink.takes l.fn.sink l.sink) (waiting l.fn.carrier) (waiting l.carrier) l.fn.load l.left;
  went : WentOn l.movie l.fn.walk l.walk l.fn.steps.passed l.steps.passed;
  takes : IsTrue (g.S.Store.is_honest l.fn.store) → TakesBefore (g.S.Store.file l.fn.store) l.movie l.fn.walk l.walk l.fn.steps.passed l.steps.passed;
}

abbrev pub decreases-loop-left : goal.decreases-loop-left
decreases-loop-left g l = l.walk.left
