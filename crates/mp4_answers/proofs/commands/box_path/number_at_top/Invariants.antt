use Rattle.std.proofs.Common.{◌≡◌, ◌-◌}
use Rattle.mp4_answers.proofs.commands.box_path.number_at_top.Given as goal

abbrev pub invariant-loop-at : goal.invariant-loop-at
invariant-loop-at g l =
    (g.S.Store.is_honest l.store ≡ g.S.Store.is_honest l.fn.store)
    × (g.S.Store.file l.store ≡ g.S.Store.file l.fn.store)
    × (g.S.Store.read_failures l.store ≡ g.S.Store.read_failures l.fn.store)

abbrev pub decreases-loop-at : goal.decreases-loop-at
decreases-loop-at g l = l.len - l.at
