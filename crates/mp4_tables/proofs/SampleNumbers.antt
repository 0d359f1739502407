-- The numbers of samples that are handed out.
use Rattle.std.proofs.Common.{◌≡◌, ℕ, zero, suc, ◌+◌, List, [], ◌∷◌, Some, ap, arith}
use Rattle.std.specs.Prelude.{slice_get}
use Rattle.mp4_tables.specs.format.Groups.{GroupKey}
use Rattle.mp4_tables.specs.format.PlainSamples.{PlacedSample}
use Rattle.mp4_tables.specs.words.Timed.{sample_at, timed}
use Rattle.mp4_tables.specs.declared.sample.SampleAt.{SampleAt}

pub some_is : (x y : SampleAt) → Some x ≡ Some y → x ≡ y
some_is x y e = cc

-- each sample has the number of the first, and one more for each that stands before it
pub numbers_are : (keys : List GroupKey) (number dts : ℕ) (samples : List PlacedSample) (i : ℕ) (s : SampleAt) → slice_get (timed keys number dts samples) i ≡ Some s → s.number ≡ number + i
numbers_are keys number dts [] i s e = cc
numbers_are keys number dts (x ∷ samples) zero s e = let n = ap (λ (y : SampleAt). y.number) (some_is (sample_at keys number dts x) s e) in omega (arith, n)
numbers_are keys number dts (x ∷ samples) (suc i) s e = let n = numbers_are keys (number + 1) (dts + x.duration) samples i s e in omega (arith, n)
