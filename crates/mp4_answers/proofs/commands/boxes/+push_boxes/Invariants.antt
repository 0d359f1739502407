use Rattle.std.proofs.Common.{◌≡◌, drop}
use Rattle.std.specs.Prelude.{IsTrue}
use Rattle.mp4_answers.specs.format.BoxWalk.{height, IsListed, tops_seen}
use Rattle.mp4_answers.proofs.BoxLists.{Listed}
use Rattle.mp4_answers.proofs.commands.boxes.+push_boxes.Given as goal

abbrev pub decreases-push_boxes : goal.decreases-push_boxes
decreases-push_boxes g l = height l.span.rule

-- the boxes so far have their lines
abbrev pub invariant-loop-found : goal.invariant-loop-found
invariant-loop-found g l =
    record {
      honesty : g.S.Store.is_honest l.store ≡ g.S.Store.is_honest l.fn.store;
      file : g.S.Store.file l.store ≡ g.S.Store.file l.fn.store;
      reads : g.S.Store.read_failures l.store ≡ g.S.Store.read_failures l.fn.store;
      listed : IsTrue (g.S.Store.is_honest l.fn.store)
          → Listed (IsListed l.form l.fn.span.rule l.depth) (tops_seen (g.S.Store.file l.fn.store) l.found-items) l.fn.text.items l.text.items (tops_seen (g.S.Store.file l.fn.store) (drop l.found-index l.found-items));
    }
