use Rattle.std.specs.Prelude.{IsTrue}
use Rattle.std.proofs.Common.{◌≡◌, ◌≤◌, length}
use Rattle.mp4_present.specs.words.Movies.{IsWalkOf}
use Rattle.mp4_plan.specs.words.Gathering.{count_of, piece_from}
use Rattle.mp4_plan.proofs.PieceFed.{FeedsOn}
use Rattle.mp4_present.proofs.WayThrough.{TakesBefore}
use Rattle.mp4_plan.proofs.track_pieces.plan_piece.Given as goal

-- the walk goes on, and the piece is fed
abbrev pub invariant-loop-planner : goal.invariant-loop-planner
invariant-loop-planner g l = record {
  walk : IsWalkOf l.movie l.walk;
  room : length l.walk.bytes.items ≡ length l.fn.walk.bytes.items;
  honesty : g.S.Store.is_honest l.store ≡ g.S.Store.is_honest l.fn.store;
  file : g.S.Store.file l.store ≡ g.S.Store.file l.fn.store;
  reads : g.S.Store.read_failures l.store ≡ g.S.Store.read_failures l.fn.store;
  looks : l.steps.looks ≡ l.fn.steps.looks;
  few : count_of l.planner.gathered ≤ 16777216;
  fed : IsTrue (g.S.Store.is_honest l.fn.store) → FeedsOn l.portion.reduction (g.S.Store.file l.fn.store) l.movie l.fn.walk l.walk (piece_from l.fn.portion.end) l.planner;
  takes : IsTrue (g.S.Store.is_honest l.fn.store) → TakesBefore (g.S.Store.file l.fn.store) l.movie l.fn.walk l.walk l.fn.steps.passed l.steps.passed;
  grows : l.fn.steps.passed ≤ l.steps.passed;
}

abbrev pub decreases-loop-planner : goal.decreases-loop-planner
decreases-loop-planner g l = l.walk.left
