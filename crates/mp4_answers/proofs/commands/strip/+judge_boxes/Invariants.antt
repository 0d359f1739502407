use Rattle.std.proofs.Common.{◌≡◌, ◌-◌, ◌≤◌, ℕ, List}
use Rattle.std.specs.Prelude.{IsTrue}
use Rattle.mp4_boxes.specs.declared.fault.Fault.{Fault}
use Rattle.mp4_store.specs.words.Device.{range}
use Rattle.mp4_answers.specs.format.BoxWalk.{height}
use Rattle.mp4_answers.specs.format.StripCounts.{Counts}
use Rattle.mp4_answers.specs.format.Strips.{Halts}
use Rattle.mp4_answers.specs.words.CountedBoxes.{counts_on}
use Rattle.mp4_answers.proofs.StripWalks.{HasText}
use Rattle.mp4_answers.proofs.commands.strip.+judge_boxes.Given as goal

abbrev pub decreases-judge_boxes : goal.decreases-judge_boxes
decreases-judge_boxes g l = height l.span.rule

-- what stands for the boxes from the place on is the end of what stands for all of them, and a fault there is one of the container
abbrev pub invariant-loop-at : goal.invariant-loop-at
invariant-loop-at g l =
    record {
      span : l.at ≤ l.span.end;
      honesty : g.S.Store.is_honest l.store ≡ g.S.Store.is_honest l.fn.store;
      file : g.S.Store.file l.store ≡ g.S.Store.file l.fn.store;
      reads : g.S.Store.read_failures l.store ≡ g.S.Store.read_failures l.fn.store;
      judged : IsTrue (g.S.Store.is_honest l.fn.store) → HasText l.names l.span.rule (g.S.Store.file l.fn.store) l.span.end l.at → HasText l.names l.span.rule (g.S.Store.file l.fn.store) l.span.end l.span.from;
      halts : IsTrue (g.S.Store.is_honest l.fn.store) → (f : Fault) → Halts l.names f l.span.rule l.at (range (g.S.Store.file l.fn.store) l.at (l.span.end - l.at)) → Halts l.names f l.span.rule l.span.from (range (g.S.Store.file l.fn.store) l.span.from (l.span.end - l.span.from));
      counted : IsTrue (g.S.Store.is_honest l.fn.store) → (ns : List ℕ) → Counts l.names l.span.rule (range (g.S.Store.file l.fn.store) l.at (l.span.end - l.at)) ns
          → (all : List ℕ) × Counts l.names l.span.rule (range (g.S.Store.file l.fn.store) l.span.from (l.span.end - l.span.from)) all × (counts_on l.counts ns ≡ counts_on l.fn.counts all);
    }

abbrev pub decreases-loop-at : goal.decreases-loop-at
decreases-loop-at g l = l.span.end - l.at
