-- What is left of the samples of a track.
use Rattle.std.proofs.Common.{◌≡◌, ℕ, suc, Bool, true, false, if◌then◌else◌, List, [], ◌∷◌, length, refl, sym, ap, ◌∙◌}
use Rattle.std.specs.Prelude.{map, slice_get, ℤ}
use Rattle.std.specs.List.{AllByRecursion}
use Rattle.std.proofs.lemmas.List.{length-map}
use Rattle.mp4_tables.specs.format.Groups.{GroupKey}
use Rattle.mp4_tables.specs.format.PlainSamples.{PlacedSample}
use Rattle.mp4_tables.specs.words.Timed.{timed}
use Rattle.mp4_tables.specs.declared.sample.SampleAt.{SampleAt}
use Rattle.mp4_tables.proofs.SampleLists.{timed_length}
use Rattle.mp4_present.specs.format.Denotes.{sample_of}
use Rattle.mp4_present.specs.format.Presentation.{Sample, Track}
use Rattle.mp4_content.specs.format.Remaining.{divided_samples}
use Rattle.mp4_content.specs.format.Reduced.{first_offset, reduce_sample, reduce_from, reduce_samples}
use Rattle.mp4_content.specs.format.Timescales.{divided, sample_by, samples_by}
use Rattle.mp4_content.specs.words.ComingLess.{asks_first, plain_reduction, reduction_by, reduction_of}
use Rattle.mp4_content.specs.declared.reduced.Reduction.{Reduction}
use Rattle.mp4_content.specs.declared.without.Without.{Without}
use Rattle.mp4_content.proofs.ReducedTaken.{all_remaining, any_remaining, remaining_from}

-- as many samples are left
pub reduced_length : (l : Without) (count : ℕ) (first : ℤ) (n : ℕ) (samples : List Sample) → length (reduce_from l count first n samples) ≡ length samples
reduced_length l count first n [] = refl
reduced_length l count first n (s ∷ samples) = ap suc (reduced_length l count first (suc n) samples)

-- what holds of what is left of each holds of all
pub reduced_each : (P Q : Sample → Type 0) (l : Without) (count : ℕ) (first : ℤ) → ((n : ℕ) (s : Sample) → P s → Q (reduce_sample l count first n s)) → (n : ℕ) (samples : List Sample) → AllByRecursion P samples → AllByRecursion Q (reduce_from l count first n samples)
reduced_each P Q l count first f n [] h = tt
reduced_each P Q l count first f n (s ∷ samples) h = (f n s h.0, reduced_each P Q l count first f (suc n) samples h.1)

-- the same of what remains
pub remaining_each : (P Q : Sample → Type 0) (l : Without) (divisor count : ℕ) (first : ℤ) → ((n : ℕ) (s : Sample) → P s → Q (sample_by l (divided divisor) count n (reduce_sample l count first n s))) → (n : ℕ) (samples : List Sample) → AllByRecursion P samples → AllByRecursion Q
    (remaining_from l divisor count first n samples)
remaining_each P Q l divisor count first f n [] h = tt
remaining_each P Q l divisor count first f n (s ∷ samples) h = (f n s h.0, remaining_each P Q l divisor count first f (suc n) samples h.1)

pub remaining_length : (l : Without) (divisor count : ℕ) (first : ℤ) (n : ℕ) (samples : List Sample) → length (remaining_from l divisor count first n samples) ≡ length samples
remaining_length l divisor count first n [] = refl
remaining_length l divisor count first n (s ∷ samples) = ap suc (remaining_length l divisor count first (suc n) samples)

-- as many are left of all samples of a track
pub divided_length : (l : Without) (d : ℕ) (t : Track) → length (divided_samples l d t) ≡ length t.samples
divided_length l d t = ap length (sym (all_remaining l d t.samples)) ∙ remaining_length l d (length t.samples) (first_offset t.samples) 0 t.samples

-- Samples of a track that are left by what those are left by that are handed out.
pub reduced_by : (l : Without) (divisor : ℕ) (r : Reduction) (file : List ℕ) (keys : List GroupKey) (n dts : ℕ) (placed : List PlacedSample) → r ≡ reduction_of l divisor (timed keys n dts placed)
    → remaining_from r.leaving r.divisor r.samples r.offset 0 (map (sample_of file) placed) ≡ samples_by l (divided divisor) (length (reduce_samples l (map (sample_of file) placed))) 0 (reduce_samples l (map (sample_of file) placed))
reduced_by l divisor r file keys n dts placed e = (λ i. remaining_from (e i).leaving (e i).divisor (e i).samples (e i).offset 0 (map (sample_of file) placed)) ∙ all placed ∙ all_remaining l divisor (map (sample_of file) placed)
  where
    all : (placed : List PlacedSample) → (let r = reduction_of l divisor (timed keys n dts placed) in let samples = map (sample_of file) placed in remaining_from r.leaving r.divisor r.samples r.offset 0 samples ≡ remaining_from l divisor (length samples) (first_offset samples) 0 samples)
    all [] = refl
    all (s ∷ placed) = by (asks_first l) refl
      where
        taken : List SampleAt
        taken = timed keys n dts (s ∷ placed)

        samples : List Sample
        samples = map (sample_of file) (s ∷ placed)

        count : length taken ≡ length samples
        count = timed_length keys n dts (s ∷ placed) ∙ sym (length-map (s ∷ placed) (sample_of file))

        by : (b : Bool) → asks_first l ≡ b → (let r = if b then reduction_by l divisor (length taken) (slice_get taken 0) else plain_reduction l divisor in remaining_from r.leaving r.divisor r.samples r.offset 0 samples) ≡ remaining_from l divisor (length samples) (first_offset samples) 0 samples
        by true e = λ i. remaining_from l divisor (count i) s.offset 0 samples
        by false e = any_remaining l divisor (length samples) s.offset 0 samples e
