use Rattle.std.specs.Prelude.{vec_len, IsTrue}
use Rattle.std.proofs.Common.{◌≡◌, ◌-◌, ◌≤◌, length}
use Rattle.mp4_present.specs.words.Carried.{GoOnBy, waiting}
use Rattle.mp4_present.specs.words.InHand.{Follows, left_in_hand}
use Rattle.mp4_plan.specs.words.HandsFed.{BytesCarried}
use Rattle.mp4_plan.proofs.carrying.carry_hand.Given as goal

-- the same samples, later, and the bytes of those before are taken along
abbrev pub invariant-loop-stretch : goal.invariant-loop-stretch
invariant-loop-stretch g l =
    record {
      later : Follows l.fn.hand l.hand;
      honesty : g.S.Store.is_honest l.store ≡ g.S.Store.is_honest l.fn.store;
      file : g.S.Store.file l.store ≡ g.S.Store.file l.fn.store;
      reads : g.S.Store.read_failures l.store ≡ g.S.Store.read_failures l.fn.store;
      puts : g.K.Sink.put_failures l.sink ≡ g.K.Sink.put_failures l.fn.sink;
      room : vec_len l.carrier.buffer ≡ vec_len l.fn.carrier.buffer;
      few : l.left.bytes ≤ l.fn.load.bytes;
      many : GoOnBy (g.K.Sink.takes l.fn.sink l.sink) (waiting l.fn.carrier) (waiting l.carrier) (l.fn.load.bytes - l.left.bytes);
      bytes : IsTrue (g.S.Store.is_honest l.fn.store)
          → BytesCarried (g.S.Store.file l.fn.store) (g.K.Sink.takes l.fn.sink l.sink) (waiting l.fn.carrier) (waiting l.carrier) (left_in_hand l.fn.hand) (left_in_hand l.hand) l.fn.load l.left;
    }

abbrev pub decreases-loop-stretch : goal.decreases-loop-stretch
decreases-loop-stretch g l = length (left_in_hand l.hand)
