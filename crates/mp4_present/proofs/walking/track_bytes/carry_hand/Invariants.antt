use Rattle.std.proofs.Common.{ℕ, ◌≡◌, ◌-◌, ◌≤◌, length}
use Rattle.std.specs.List.{AllByRecursion}
use Rattle.std.specs.Prelude.{vec_len, IsTrue}
use Rattle.mp4_present.specs.words.Carried.{waiting, GoOnBy}
use Rattle.mp4_present.specs.words.InHand.{Follows, left_in_hand}
use Rattle.mp4_present.specs.words.Joined.{IsBelow}
use Rattle.mp4_present.specs.words.Movies.{InHandOf}
use Rattle.mp4_present.specs.declared.walking.in_hand.InHand.{InHand}
use Rattle.mp4_present.proofs.Hands.{HandGoesOn}
use Rattle.mp4_present.proofs.HandSizes.{SizesGoOn}
use Rattle.mp4_present.proofs.walking.track_bytes.carry_hand.Given as goal

-- the samples in hand are those of the walk, later, and the bytes of those before are taken along
abbrev pub invariant-loop-stretch : goal.invariant-loop-stretch
invariant-loop-stretch g l =
    record {
      honesty : g.S.Store.is_honest l.store ≡ g.S.Store.is_honest l.fn.store;
      file : g.S.Store.file l.store ≡ g.S.Store.file l.fn.store;
      reads : g.S.Store.read_failures l.store ≡ g.S.Store.read_failures l.fn.store;
      puts : g.K.Sink.put_failures l.sink ≡ g.K.Sink.put_failures l.fn.sink;
      room : vec_len l.carrier.buffer ≡ vec_len l.fn.carrier.buffer;
      first : InHand;
      is : InHandOf l.movie l.fn.walk first;
      later : Follows first l.hand;
      within : (n : ℕ) → AllByRecursion (IsBelow n) (left_in_hand first) → AllByRecursion (IsBelow n) (left_in_hand l.hand);
      few : l.left ≤ l.bytes;
      many : GoOnBy (g.K.Sink.takes l.fn.sink l.sink) (waiting l.fn.carrier) (waiting l.carrier) (l.bytes - l.left);
      sizes : SizesGoOn (left_in_hand first) (left_in_hand l.hand) l.bytes l.left;
      bytes : IsTrue (g.S.Store.is_honest l.fn.store) → HandGoesOn (g.S.Store.file l.fn.store) (g.K.Sink.takes l.fn.sink l.sink) (waiting l.fn.carrier) (waiting l.carrier) (left_in_hand first) (left_in_hand l.hand);
    }

abbrev pub decreases-loop-stretch : goal.decreases-loop-stretch
decreases-loop-stretch g l = length (left_in_hand l.hand)
