use Rattle.std.proofs.Common.{refl}
use Rattle.mp4_plan.specs.words.Spelling.{head_bits}
use Rattle.mp4_plan.proofs.moof_front.head_bits.Goals as goal

pub returns : goal.returns
unfolding head_bits
returns c = rw (← c.bit_of-durations.ensures.is, ← c.bit_of-sizes.ensures.is, ← c.bit_of-flags.ensures.is) refl
