use Rattle.std.proofs.Common.{◌≡◌, ◌-◌, ◌≤◌, ◌++◌, ℕ, List}
use Rattle.std.specs.Prelude.{IsTrue}
use Rattle.mp4_boxes.specs.declared.fault.Fault.{Fault}
use Rattle.mp4_store.specs.words.Device.{range}
use Rattle.mp4_answers.specs.format.BoxWalk.{height}
use Rattle.mp4_answers.specs.format.Strips.{Halts}
use Rattle.mp4_answers.proofs.FreedPlaces.{Found}
use Rattle.mp4_answers.proofs.commands.stripped_store.+place_boxes.Given as goal

abbrev pub decreases-place_boxes : goal.decreases-place_boxes
decreases-place_boxes g l = height l.span.rule

-- what was added are the places of the boxes before the place, and a fault there is one of the container
abbrev pub invariant-loop-at : goal.invariant-loop-at
invariant-loop-at g l =
    record {
      begin : l.span.from ≤ l.at;
      span : l.at ≤ l.span.end;
      honesty : g.S.Store.is_honest l.store ≡ g.S.Store.is_honest l.fn.store;
      file : g.S.Store.file l.store ≡ g.S.Store.file l.fn.store;
      reads : g.S.Store.read_failures l.store ≡ g.S.Store.read_failures l.fn.store;
      halts : IsTrue (g.S.Store.is_honest l.fn.store) → (f : Fault) → Halts l.names f l.span.rule l.at (range (g.S.Store.file l.fn.store) l.at (l.span.end - l.at)) → Halts l.names f l.span.rule l.span.from (range (g.S.Store.file l.fn.store) l.span.from (l.span.end - l.span.from));
      found : (places : List ℕ) × (l.places.items ≡ l.fn.places.items ++ places) × Found l.names l.span.rule l.span.from l.at l.span.end (g.S.Store.is_honest l.fn.store) (g.S.Store.file l.fn.store) places;
    }

abbrev pub decreases-loop-at : goal.decreases-loop-at
decreases-loop-at g l = l.span.end - l.at
