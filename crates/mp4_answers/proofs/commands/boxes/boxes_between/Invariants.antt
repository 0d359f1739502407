use Rattle.std.proofs.Common.{◌≡◌, ◌-◌, ◌≤◌}
use Rattle.std.specs.Prelude.{IsTrue}
use Rattle.std.specs.List.{All}
use Rattle.mp4_answers.specs.format.BoxWalk.{tops_seen, IsWithin}
use Rattle.mp4_answers.proofs.BoxSpans.{SpanPassed}
use Rattle.mp4_answers.proofs.commands.boxes.boxes_between.Given as goal

-- boxes lie from the front of the container up to the place
abbrev pub invariant-loop-at : goal.invariant-loop-at
invariant-loop-at g l =
    record {
      span : l.at ≤ l.span.end;
      honesty : g.S.Store.is_honest l.store ≡ g.S.Store.is_honest l.fn.store;
      file : g.S.Store.file l.store ≡ g.S.Store.file l.fn.store;
      reads : g.S.Store.read_failures l.store ≡ g.S.Store.read_failures l.fn.store;
      passed : IsTrue (g.S.Store.is_honest l.fn.store) → SpanPassed (g.S.Store.file l.fn.store) l.span.rule l.span.from l.span.end (tops_seen (g.S.Store.file l.fn.store) l.boxes.items) l.at;
      within : All (IsWithin (g.S.Store.file l.fn.store)) l.boxes.items;
    }

abbrev pub decreases-loop-at : goal.decreases-loop-at
decreases-loop-at g l = l.span.end - l.at
