use Rattle.std.proofs.Common.{◌≡◌, ◌+◌, ◌≤◌, [], ◌++◌, length, take}
use Rattle.std.specs.Prelude.{IsTrue}
use Rattle.mp4_present.specs.words.Carried.{waiting}
use Rattle.mp4_present.specs.words.InHand.{Follows, left_in_hand}
use Rattle.mp4_present.specs.words.Movies.{InHandOf}
use Rattle.mp4_present.specs.declared.walking.in_hand.InHand.{InHand}
use Rattle.mp4_answers.specs.words.PrintedTracks.{LieBelow}
use Rattle.mp4_answers.specs.words.ToldSamples.{told_sample}
use Rattle.mp4_answers.proofs.ToldWalks.{HandTold}
use Rattle.mp4_answers.proofs.commands.print.put_hand.Given as goal

-- the samples in hand are those of the walk, later, nothing failed, and the lines of those before are put or wait
abbrev pub invariant-loop-count : goal.invariant-loop-count
invariant-loop-count g l =
    record {
      honesty : g.S.Store.is_honest l.store ≡ g.S.Store.is_honest l.fn.store;
      file : g.S.Store.file l.store ≡ g.S.Store.file l.fn.store;
      reads : g.S.Store.read_failures l.store ≡ g.S.Store.read_failures l.fn.store;
      puts : g.K.Sink.put_failures l.sink ≡ g.K.Sink.put_failures l.fn.sink;
      empty : waiting l.desk.window ≡ [];
      few : l.count ≤ 64;
      none : l.count ≡ 0 → left_in_hand l.hand ≡ [];
      first : InHand;
      is : InHandOf l.of.movie.now l.fn.walk first;
      later : Follows first l.hand;
      told : IsTrue (g.S.Store.is_honest l.fn.store) → LieBelow (length (g.S.Store.file l.fn.store)) (left_in_hand first)
          → HandTold (told_sample l.of.style.now (g.S.Store.file l.fn.store)) (length (g.S.Store.file l.fn.store)) (g.K.Sink.takes l.fn.sink l.sink) (waiting l.fn.desk.text) (waiting l.desk.text) (left_in_hand first) (take l.count l.samples ++ left_in_hand l.hand);
    }

abbrev pub decreases-loop-count : goal.decreases-loop-count
decreases-loop-count g l = l.count + length (left_in_hand l.hand)
