use Rattle.std.proofs.Common.{◌-◌, ◌≡◌, ◌*◌, ◌<◌, ◌^◌, ℕ, ◌+◌, ◌≤◌}
use Rattle.mp4_plan.specs.words.DueTracks.{leaf}
use Rattle.mp4_plan.proofs.due_tracks.DueTracks.first_before.Given as goal

-- no leaf that was passed is before the cut, and the node has these leaves below it
abbrev pub invariant-loop-at : goal.invariant-loop-at
invariant-loop-at l = record {
  levels : (h : ℕ) × (l.width ≡ 2 ^ h);
  place : l.node * l.width ≡ l.self.leaves + l.at;
  some : 0 < l.node;
  from : l.from ≤ l.at;
  few : l.at ≤ 3 * l.self.leaves;
  wide : l.width ≤ 4 * l.self.leaves;
  high : l.node ≤ 4 * l.self.leaves;
  passed : (k : ℕ) → l.from ≤ k → k < l.at → k < l.self.leaves → l.cut ≤ leaf l.self k;
}

abbrev pub decreases-loop-at : goal.decreases-loop-at
decreases-loop-at l = 2 * (4 * l.self.leaves - l.at) + l.width
