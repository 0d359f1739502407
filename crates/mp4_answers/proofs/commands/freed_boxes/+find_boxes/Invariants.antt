use Rattle.std.proofs.Common.{◌≡◌, ◌-◌, ◌≤◌, Option}
use Rattle.std.specs.Prelude.{IsTrue}
use Rattle.mp4_boxes.specs.declared.fault.Fault.{Fault}
use Rattle.mp4_store.specs.words.Device.{range}
use Rattle.mp4_answers.specs.declared.commands.freed_boxes.LostBox.{LostBox}
use Rattle.mp4_answers.specs.format.BoxWalk.{height}
use Rattle.mp4_answers.specs.format.Losses.{earlier, FirstLost}
use Rattle.mp4_answers.specs.format.Strips.{Halts}
use Rattle.mp4_answers.proofs.commands.freed_boxes.+find_boxes.Given as goal

abbrev pub decreases-find_boxes : goal.decreases-find_boxes
decreases-find_boxes g l = height l.span.rule

-- the first loss of the boxes from the place on, behind what was found, is that of all of them, and a fault there is one of the container
abbrev pub invariant-loop-at : goal.invariant-loop-at
invariant-loop-at g l =
    record {
      span : l.at ≤ l.span.end;
      honesty : g.S.Store.is_honest l.store ≡ g.S.Store.is_honest l.fn.store;
      file : g.S.Store.file l.store ≡ g.S.Store.file l.fn.store;
      reads : g.S.Store.read_failures l.store ≡ g.S.Store.read_failures l.fn.store;
      halts : IsTrue (g.S.Store.is_honest l.fn.store) → (f : Fault) → Halts l.names f l.span.rule l.at (range (g.S.Store.file l.fn.store) l.at (l.span.end - l.at)) → Halts l.names f l.span.rule l.span.from (range (g.S.Store.file l.fn.store) l.span.from (l.span.end - l.span.from));
      first : IsTrue (g.S.Store.is_honest l.fn.store) → (rest : Option LostBox) → FirstLost l.names l.span.rule l.within.has_time l.at (range (g.S.Store.file l.fn.store) l.at (l.span.end - l.at)) rest
          → (all : Option LostBox) × FirstLost l.names l.span.rule l.within.has_time l.span.from (range (g.S.Store.file l.fn.store) l.span.from (l.span.end - l.span.from)) all × (earlier l.found.first_loss rest ≡ earlier l.fn.found.first_loss all);
    }

abbrev pub decreases-loop-at : goal.decreases-loop-at
decreases-loop-at g l = l.span.end - l.at
