use Rattle.std.proofs.Common.{◌≡◌, ◌-◌, ◌≤◌, ℕ, List}
use Rattle.std.specs.Prelude.{IsTrue}
use Rattle.mp4_store.specs.words.Device.{range}
use Rattle.mp4_present.specs.words.Carried.{waiting}
use Rattle.mp4_answers.specs.format.BoxWalk.{height}
use Rattle.mp4_answers.specs.format.Strips.{Strips}
use Rattle.mp4_answers.proofs.StripCopies.{Copying}
use Rattle.mp4_answers.proofs.commands.strip.+carry_boxes.Given as goal

abbrev pub decreases-carry_boxes : goal.decreases-carry_boxes
decreases-carry_boxes g l = height l.span.rule

-- what stands for the boxes so far is put or waits
abbrev pub invariant-loop-at : goal.invariant-loop-at
invariant-loop-at g l =
    record {
      span : l.at ≤ l.span.end;
      honesty : g.S.Store.is_honest l.store ≡ g.S.Store.is_honest l.fn.store;
      file : g.S.Store.file l.store ≡ g.S.Store.file l.fn.store;
      reads : g.S.Store.read_failures l.store ≡ g.S.Store.read_failures l.fn.store;
      puts : g.K.Sink.put_failures l.sink ≡ g.K.Sink.put_failures l.fn.sink;
      goes : IsTrue (g.S.Store.is_honest l.fn.store) → (text : List ℕ) → Strips l.names l.span.rule (range (g.S.Store.file l.fn.store) l.span.from (l.span.end - l.span.from)) text
          → Copying l.names l.span.rule (g.S.Store.file l.fn.store) l.span.end l.at (g.K.Sink.takes l.fn.sink l.sink) (waiting l.fn.carrier) (waiting l.carrier) text;
    }

abbrev pub decreases-loop-at : goal.decreases-loop-at
decreases-loop-at g l = l.span.end - l.at
