use Rattle.std.proofs.Common.{◌≡◌, ◌-◌, ◌≤◌, Bool}
use Rattle.std.specs.Prelude.{IsTrue, codes}
use Rattle.mp4_boxes.specs.declared.fault.Fault.{Fault}
use Rattle.mp4_store.specs.words.Device.{range}
use Rattle.mp4_answers.specs.format.Losses.{HasBox}
use Rattle.mp4_answers.specs.format.Strips.{is_top, Halts}
use Rattle.mp4_answers.proofs.commands.freed_boxes.keeps_time.Given as goal

-- whether there is one from the place on says whether there is one at all, and a fault there is one of the container
abbrev pub invariant-loop-at : goal.invariant-loop-at
invariant-loop-at g l =
    record {
      span : l.at ≤ l.span.end;
      honesty : g.S.Store.is_honest l.store ≡ g.S.Store.is_honest l.fn.store;
      file : g.S.Store.file l.store ≡ g.S.Store.file l.fn.store;
      reads : g.S.Store.read_failures l.store ≡ g.S.Store.read_failures l.fn.store;
      halts : IsTrue (g.S.Store.is_honest l.fn.store) → (f : Fault) → Halts l.names f l.span.rule l.at (range (g.S.Store.file l.fn.store) l.at (l.span.end - l.at)) → Halts l.names f l.span.rule l.span.from (range (g.S.Store.file l.fn.store) l.span.from (l.span.end - l.span.from));
      goes : IsTrue (g.S.Store.is_honest l.fn.store) → (has : Bool) → HasBox (codes "tfdt") (is_top l.span.rule) (range (g.S.Store.file l.fn.store) l.at (l.span.end - l.at)) has
          → HasBox (codes "tfdt") (is_top l.span.rule) (range (g.S.Store.file l.fn.store) l.span.from (l.span.end - l.span.from)) has;
    }

abbrev pub decreases-loop-at : goal.decreases-loop-at
decreases-loop-at g l = l.span.end - l.at
