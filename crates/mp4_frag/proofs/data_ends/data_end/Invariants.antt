use Rattle.std.proofs.Common.{◌≡◌, ◌-◌, ◌≤◌, length}
use Rattle.mp4_frag.specs.words.MoofWalks.{runs_end_held}
use Rattle.mp4_frag.specs.words.Walks.{boxes_from}
use Rattle.mp4_frag.proofs.data_ends.data_end.Given as goal

-- behind the runs passed, those left lead to the end of all
abbrev pub invariant-loop-at : goal.invariant-loop-at
invariant-loop-at l = record {
  within : l.at ≤ length l.payload;
  whole : runs_end_held l.inherited l.base l.end (boxes_from l.payload l.at) ≡ runs_end_held l.inherited l.base l.base (boxes_from l.payload 0);
}

abbrev pub decreases-loop-at : goal.decreases-loop-at
decreases-loop-at l = length l.payload - l.at
