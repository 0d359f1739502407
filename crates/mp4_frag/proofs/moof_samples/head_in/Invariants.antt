use Rattle.std.proofs.Common.{◌≡◌, ◌-◌, ◌≤◌, length, None}
use Rattle.std.specs.Prelude.{option_map}
use Rattle.mp4_frag.specs.words.MoofWalks.{head_among}
use Rattle.mp4_frag.specs.words.Reading.{as_traf}
use Rattle.mp4_frag.specs.words.Walks.{boxes_from}
use Rattle.mp4_frag.proofs.moof_samples.head_in.Given as goal

-- what was read and the boxes left say the whole
abbrev pub invariant-loop-at : goal.invariant-loop-at
invariant-loop-at l = record {
  within : l.at ≤ length l.payload;
  whole : head_among (option_map as_traf l.head) (boxes_from l.payload l.at) ≡ head_among None (boxes_from l.payload 0);
}

abbrev pub decreases-loop-at : goal.decreases-loop-at
decreases-loop-at l = length l.payload - l.at
