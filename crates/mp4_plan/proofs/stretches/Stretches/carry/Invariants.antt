use Rattle.std.specs.Prelude.{vec_len, IsTrue}
use Rattle.std.proofs.Common.{◌≡◌, ◌-◌, ◌≤◌, ◌∷◌, ◌++◌, [], take, drop}
use Rattle.mp4_present.specs.words.Carried.{GoOnBy, waiting}
use Rattle.mp4_plan.specs.words.Stretches.{spans_of}
use Rattle.mp4_plan.proofs.Stretched.{SpansCarried}
use Rattle.mp4_plan.proofs.stretches.Stretches.carry.Given as goal

-- the bytes of the stretches before are taken along
abbrev pub invariant-loop-span : goal.invariant-loop-span
invariant-loop-span g l = record {
  items : l.span-items ≡ take l.self.used l.self.earlier;
  honesty : g.S.Store.is_honest l.store ≡ g.S.Store.is_honest l.fn.store;
  file : g.S.Store.file l.store ≡ g.S.Store.file l.fn.store;
  reads : g.S.Store.read_failures l.store ≡ g.S.Store.read_failures l.fn.store;
  puts : g.K.Sink.put_failures l.sink ≡ g.K.Sink.put_failures l.fn.sink;
  room : vec_len l.carrier.buffer ≡ vec_len l.fn.carrier.buffer;
  few : l.left ≤ l.bytes;
  many : GoOnBy (g.K.Sink.takes l.fn.sink l.sink) (waiting l.fn.carrier) (waiting l.carrier) (l.bytes - l.left);
  carried : SpansCarried (IsTrue (g.S.Store.is_honest l.fn.store)) (g.S.Store.file l.fn.store) (g.K.Sink.takes l.fn.sink l.sink) (waiting l.fn.carrier) (waiting l.carrier) (spans_of l.self) (drop l.span-index l.span-items ++ l.self.last ∷ []) l.bytes l.left;
}
