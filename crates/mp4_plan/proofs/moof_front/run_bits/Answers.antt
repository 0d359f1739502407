use Rattle.std.proofs.Common.{refl}
use Rattle.mp4_plan.specs.words.Spelling.{run_bits}
use Rattle.mp4_plan.proofs.moof_front.run_bits.Goals as goal

pub returns : goal.returns
unfolding run_bits
returns c = rw (← c.bit_without-durations.ensures.is, ← c.bit_without-sizes.ensures.is, ← c.bit_without-flags.ensures.is, ← c.bit_if-offsets.ensures.is) refl
