use Rattle.std.proofs.Common.{◌∙◌}
use Rattle.std.specs.Prelude.{option_map}
use Rattle.mp4_frag.specs.words.Reading.{as_traf}
use Rattle.mp4_frag.proofs.BoxPlaces.{box_end}
use Rattle.mp4_frag.proofs.MoofSteps.{head_done}
use Rattle.mp4_frag.proofs.moof_samples.head_in.Goals as goal

pub returns : goal.returns
returns c = head_done c.args.payload.now (option_map as_traf c.loop-at.head) c.loop-at.at (box_end c.args.payload.now c.loop-at.at _ c.loop-at-test.false) ∙ c.loop-at.invariant.whole
