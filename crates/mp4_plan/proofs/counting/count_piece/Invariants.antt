use Rattle.std.specs.Prelude.{IsTrue}
use Rattle.std.proofs.Common.{◌≡◌, ◌≤◌, length}
use Rattle.mp4_present.specs.words.Movies.{IsWalkOf}
use Rattle.mp4_present.proofs.WayThrough.{TakesBefore}
use Rattle.mp4_plan.specs.words.Ends.{goes_in}
use Rattle.mp4_plan.proofs.HandsCounted.{CountsOn}
use Rattle.mp4_plan.proofs.counting.count_piece.Given as goal

-- the walk goes on, and what was passed is counted
abbrev pub invariant-loop-sample : goal.invariant-loop-sample
invariant-loop-sample g l = record {
  walk : IsWalkOf l.movie l.walk;
  room : length l.walk.bytes.items ≡ length l.fn.walk.bytes.items;
  honesty : g.S.Store.is_honest l.store ≡ g.S.Store.is_honest l.fn.store;
  file : g.S.Store.file l.store ≡ g.S.Store.file l.fn.store;
  reads : g.S.Store.read_failures l.store ≡ g.S.Store.read_failures l.fn.store;
  looks : l.steps.looks ≡ l.fn.steps.looks;
  few : l.count ≤ 16777216;
  counts : IsTrue (g.S.Store.is_honest l.fn.store) → CountsOn l.portion.reduction (g.S.Store.file l.fn.store) l.movie l.fn.walk l.walk (goes_in l.portion.end l.description) l.count;
  takes : IsTrue (g.S.Store.is_honest l.fn.store) → TakesBefore (g.S.Store.file l.fn.store) l.movie l.fn.walk l.walk l.fn.steps.passed l.steps.passed;
  grows : l.fn.steps.passed ≤ l.steps.passed;
}

abbrev pub decreases-loop-sample : goal.decreases-loop-sample
decreases-loop-sample g l = l.walk.left
