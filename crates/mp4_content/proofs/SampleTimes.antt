-- The greatest common divisor of the times of a track's samples, as it is found in a walk over them.
use Rattle.std.proofs.Common.{◌≡◌, ℕ, ◌+◌, Bool, true, false, if◌then◌else◌, List, [], ◌∷◌, ◌++◌, length, refl, sym, ap, ◌∙◌}
use Rattle.std.specs.Prelude.{◌&&◌, ◌||◌, map, slice_get, ℤ, pos}
use Rattle.std.proofs.lemmas.List.{length-map}
use Rattle.mp4_boxes.proofs.Plain.{plus_one}
use Rattle.mp4_head.specs.format.Tree.{TrackTree}
use Rattle.mp4_head.specs.format.Head.{Edit}
use Rattle.mp4_tables.specs.format.Groups.{GroupKey}
use Rattle.mp4_tables.specs.format.PlainSamples.{PlacedSample}
use Rattle.mp4_tables.specs.words.Timed.{timed}
use Rattle.mp4_tables.specs.declared.sample.SampleAt.{SampleAt}
use Rattle.mp4_tables.proofs.SampleLists.{timed_length}
use Rattle.mp4_frag.specs.format.FragmentSamples.{start_of}
use Rattle.mp4_present.specs.format.Denotes.{FileTree, file_parts, parts_of_track, placed_of, plain_of, sample_of, track_of}
use Rattle.mp4_present.specs.format.Presentation.{Sample, Track}
use Rattle.mp4_present.specs.words.SamplesComing.{track_keys, track_samples}
use Rattle.mp4_content.specs.format.Reduced.{duration_left, is_at_end, offset_left, reduce_from, reduce_samples, reduce_track, start_left, timescale_left}
use Rattle.mp4_content.specs.format.Remaining.{track_divisor}
use Rattle.mp4_content.specs.format.Timescales.{counted_duration, counted_timescale, divisor_of, sample_times, track_times}
use Rattle.mp4_content.specs.words.ComingLess.{asks_first, plain_reduction, reduction_by, reduction_of}
use Rattle.mp4_present.specs.words.Folding.{Through}
use Rattle.mp4_content.specs.words.Scales.{divided_with, divisor_from, edits_left, head_times_left, media_times_of, sample_times_left}
use Rattle.mp4_content.specs.declared.reduced.Reduction.{Reduction}
use Rattle.mp4_content.specs.declared.scales.Dividing.{Dividing}
use Rattle.mp4_content.specs.declared.without.Without.{Without}
use Rattle.mp4_content.proofs.DivisorsFound.{from_append, from_none, one_stays}
use Rattle.mp4_content.proofs.ReducedTaken.{any_samples, any_times}
use Rattle.mp4_content.proofs.SamplesReduced.{reduced_length}

-- ---- in a walk

pub all_divided : (d n : Dividing) (samples : List SampleAt) → Through (λ (d : Dividing) s n. n ≡ divided_with d s) d samples n → n.divisor ≡ divisor_from d.divisor (sample_times_left d.reduction samples)
all_divided d n [] h = ap (λ (x : Dividing). x.divisor) h
all_divided d n (s ∷ samples) h = all_divided h.0 n samples h.1.1 ∙ ap (λ (x : Dividing). divisor_from x.divisor (sample_times_left x.reduction samples)) h.1.0

pub one_divides : (d : Dividing) (s : SampleAt) → d.divisor ≡ 1 → divided_with d s ≡ d
one_divides d s one =
    let times = sample_times_left d.reduction (s ∷ []) in
    let same : divisor_from d.divisor times ≡ d.divisor = ap (λ (n : ℕ). divisor_from n times) one ∙ one_stays times ∙ sym one in
    λ i. record d { divisor = same i }

-- ---- times that count

-- a duration counts where it is left
counted_same : (l : Without) (count n duration : ℕ) → counted_duration l count n duration ≡ counted_duration l count n (duration_left l count n duration)
counted_same l count n duration = by l.timing (l.ends && is_at_end count n)
  where
    by : (t e : Bool) → (if t || e then 0 else duration) ≡ (if t || e then 0 else if t then 1 else if e then 1 else duration)
    by true e = refl
    by false true = refl
    by false false = refl

pub scale_same : (l : Without) (timescale : ℕ) → counted_timescale l timescale ≡ counted_timescale l (timescale_left l timescale)
scale_same l timescale = by l.timing
  where
    by : (t : Bool) → (if t then 0 else timescale) ≡ (if t then 0 else if t then 1000 else timescale)
    by true = refl
    by false = refl

-- samples that are handed out have the times of those of the presentation
times_placed : (r : Reduction) (file : List ℕ) (keys : List GroupKey) (n dts : ℕ) (placed : List PlacedSample)
    → sample_times_left r (timed keys n dts placed) ≡ sample_times r.leaving r.samples n (reduce_from r.leaving r.samples r.offset n (map (sample_of file) placed))
times_placed r file keys n dts [] = refl
times_placed r file keys n dts (s ∷ placed) =
    let l = r.leaving in
    let more = times_placed r file keys (n + 1) (dts + s.duration) placed ∙ (λ i. sample_times l r.samples (plus_one n i) (reduce_from l r.samples r.offset (plus_one n i) (map (sample_of file) placed))) in
    λ i. pos (counted_same l r.samples n s.duration i) ∷ offset_left l r.offset s.offset ∷ more i

samples_link : (l : Without) (d : ℕ) (file : List ℕ) (keys : List GroupKey) (dts : ℕ) (placed : List PlacedSample)
    → sample_times_left (reduction_of l d (timed keys 0 dts placed)) (timed keys 0 dts placed) ≡ sample_times l (length (reduce_samples l (map (sample_of file) placed))) 0 (reduce_samples l (map (sample_of file) placed))
samples_link l d file keys dts [] = refl
samples_link l d file keys dts (s ∷ placed) = by (asks_first l) refl
  where
    taken : List SampleAt
    taken = timed keys 0 dts (s ∷ placed)

    samples : List Sample
    samples = map (sample_of file) (s ∷ placed)

    count : length taken ≡ length samples
    count = timed_length keys 0 dts (s ∷ placed) ∙ sym (length-map (s ∷ placed) (sample_of file))

    many : length samples ≡ length (reduce_samples l samples)
    many = sym (reduced_length l (length samples) s.offset 0 samples)

    by : (b : Bool) → asks_first l ≡ b → sample_times_left (if b then reduction_by l d (length taken) (slice_get taken 0) else plain_reduction l d) taken ≡ sample_times l (length (reduce_samples l samples)) 0 (reduce_samples l samples)
    by true e =
        times_placed (reduction_by l d (length taken) (slice_get taken 0)) file keys 0 dts (s ∷ placed)
        ∙ (λ i. sample_times l (count i) 0 (reduce_from l (count i) s.offset 0 samples)) ∙ (λ i. sample_times l (many i) 0 (reduce_samples l samples))
    by false e =
        times_placed (plain_reduction l d) file keys 0 dts (s ∷ placed) ∙ any_times l (length (reduce_samples l samples)) 0 (reduce_from l 0 (pos 0) 0 samples) e
        ∙ ap (sample_times l (length (reduce_samples l samples)) 0) (any_samples l (length samples) s.offset 0 samples e)

-- ---- a track

-- What is found of its head, and then of its samples, is its divisor.
pub track_found : (l : Without) (d : ℕ) (file : List ℕ) (tree : FileTree) (t : TrackTree) (timescale start : ℕ) (edits : List Edit) → l.timescales ≡ true → (let own = track_of file (file_parts tree) t in timescale ≡ own.head.media.timescale → start ≡ own.start → edits ≡ own.head.edits
    → divisor_from (divisor_from 0 (head_times_left l timescale start edits)) (sample_times_left (reduction_of l d (track_samples tree t)) (track_samples tree t)) ≡ track_divisor l own)
track_found l d file tree t timescale start edits left scale begins same =
    sym (from_append 0 (head_times_left l timescale start edits) found) ∙ from_none (head_times_left l timescale start edits ++ found) ∙ ap divisor_of times
    ∙ (λ i. if sym left i then divisor_of (track_times l (reduce_track l own)) else 1)
  where
    own : Track
    own = track_of file (file_parts tree) t

    found : List ℤ
    found = sample_times_left (reduction_of l d (track_samples tree t)) (track_samples tree t)

    counted : counted_timescale l timescale ≡ counted_timescale l (timescale_left l own.head.media.timescale)
    counted = ap (counted_timescale l) scale ∙ scale_same l own.head.media.timescale

    own_samples : found ≡ sample_times l (length (reduce_samples l own.samples)) 0 (reduce_samples l own.samples)
    own_samples = samples_link l d file (track_keys tree t) (start_of (plain_of t) (parts_of_track (file_parts tree) t)) (placed_of (file_parts tree) t)

    times : head_times_left l timescale start edits ++ found ≡ track_times l (reduce_track l own)
    times = λ i. pos (counted i) ∷ pos (start_left l (begins i)) ∷ (media_times_of (edits_left l (same i)) ++ own_samples i)
