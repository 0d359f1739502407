-- To leave out more behind times in lowest terms is to leave it out before them.
use Rattle.std.proofs.Common.{◌≡◌, ℕ, suc, ◌*◌, Bool, true, false, if◌then◌else◌, List, [], ◌∷◌, ◌++◌, length, map, refl, sym, ap, subst, ◌∙◌, ℤ, pos, unsigned_abs, ◌-ℤ◌}
use Rattle.std.specs.Prelude.{◌&&◌, ◌||◌}
use Rattle.std.specs.Int.{◌∣◌}
use Rattle.std.proofs.lemmas.Nat.Gcd.{dvd-zero}
use Rattle.std.proofs.Math.Nat.{zero-div, div-div-eq-div-mul}
use Rattle.mp4_boxes.proofs.Among.{all_append}
use Rattle.mp4_boxes.proofs.Plain.{false_true}
use Rattle.mp4_boxes.proofs.Joined.{all_first, all_last}
use Rattle.mp4_head.specs.format.Head.{Edit}
use Rattle.mp4_present.specs.format.Presentation.{Sample, Track, Presentation}
use Rattle.mp4_content.specs.format.Reduced.{is_at_end, duration_left, offset_left, start_left, timescale_left, first_offset, reduce_sample, reduce_from, reduce_samples, reduce_track, number_track, number_tracks, reduce}
use Rattle.mp4_content.specs.declared.without.Without.{Without}
use Rattle.mp4_content.specs.format.Timescales.{counted_timescale, leaves_duration, counted_duration, sample_times, track_times, segment_times, movie_times, sized, timescale_by, sample_by, samples_by, edit_by, track_by, divided, divisor_of, lowest_track, lowest}
use Rattle.mp4_content.proofs.ReducedSamples.{left_many}
use Rattle.mp4_content.proofs.TimescalesDivisors.{Divides, divides_minus, minus_divided, divisor_divides, divisor_of_divided}
use Rattle.mp4_content.proofs.TimescalesChanged.{media_times, many_stay, duration_twice, duration_by, lowest_of_divided, segment_times_by}

-- `l` leaves out ends and timing if `m` does
module _ (m l : Without) (ends : m.ends ≡ true → l.ends ≡ true) (timing : m.timing ≡ true → l.timing ≡ true) where
  module _ (g : ℕ) where
    abbrev f : ℕ → ℕ
    f = divided g

    -- ---- one sample

    duration_between : (n d : ℕ) (count : ℕ) → duration_left l count n (if leaves_duration m count n then d else f d)
        ≡ (if leaves_duration l count n then duration_left l count n d else f (duration_left l count n d))
    duration_between n d count = by l.timing m.timing l.ends m.ends (is_at_end count n) timing ends
      where
        by : (lt mt le me at : Bool) → (mt ≡ true → lt ≡ true) → (me ≡ true → le ≡ true)
            → (if lt then 1 else if le && at then 1 else if mt || (me && at) then d else f d)
            ≡ (if lt || (le && at) then (if lt then 1 else if le && at then 1 else d) else f (if lt then 1 else if le && at then 1 else d))
        by true mt le me at e h = refl
        by false true le me at e h = absurd (false_true (e refl))
        by false false true me true e h = refl
        by false false true true false e h = refl
        by false false true false false e h = refl
        by false false false true at e h = absurd (false_true (h refl))
        by false false false false at e h = refl

    offset_between : (first offset : ℤ) → g ∣ unsigned_abs first → g ∣ unsigned_abs offset → offset_left l (sized f first) (sized f offset) ≡ sized f (offset_left l first offset)
    offset_between first offset p q = by l.timing l.origins
      where
        by : (timing origins : Bool) → (if timing then pos 0 else if origins then sized f offset -ℤ sized f first else sized f offset) ≡ sized f (if timing then pos 0 else if origins then offset -ℤ first else offset)
        by true origins = ap pos (sym (zero-div g))
        by false true = minus_divided g offset first q p
        by false false = refl

    offset_divides : (first offset : ℤ) → g ∣ unsigned_abs first → g ∣ unsigned_abs offset → g ∣ unsigned_abs (offset_left l first offset)
    offset_divides first offset p q = by l.timing l.origins
      where
        by : (timing origins : Bool) → g ∣ unsigned_abs (if timing then pos 0 else if origins then offset -ℤ first else offset)
        by true origins = dvd-zero g
        by false true = divides_minus g offset first q p
        by false false = q

    duration_divides : (count n d : ℕ) → g ∣ counted_duration m count n d → g ∣ counted_duration l count n (duration_left l count n d)
    duration_divides count n d = by l.timing m.timing l.ends m.ends (is_at_end count n) timing ends
      where
        by : (lt mt le me at : Bool) → (mt ≡ true → lt ≡ true) → (me ≡ true → le ≡ true) → g ∣ (if mt || (me && at) then 0 else d)
            → g ∣ (if lt || (le && at) then 0 else if lt then 1 else if le && at then 1 else d)
        by true mt le me at e h q = dvd-zero g
        by false true le me at e h q = absurd (false_true (e refl))
        by false false true me true e h q = dvd-zero g
        by false false true true false e h q = q
        by false false true false false e h q = q
        by false false false true at e h q = absurd (false_true (h refl))
        by false false false false at e h q = q

    -- ---- samples

    sample_between : (count : ℕ) (first : ℤ) (n : ℕ) (s : Sample) → g ∣ unsigned_abs first → g ∣ unsigned_abs s.offset
        → reduce_sample l count (sized f first) n (sample_by m f count n s) ≡ sample_by l f count n (reduce_sample l count first n s)
    sample_between count first n s p q = λ i. record (reduce_sample l count first n s) { duration = duration_between n s.duration count i; offset = offset_between first s.offset p q i }

    from_between : (count : ℕ) (first : ℤ) (n : ℕ) (samples : List Sample) → g ∣ unsigned_abs first → Divides g (sample_times m count n samples)
        → reduce_from l count (sized f first) n (samples_by m f count n samples) ≡ samples_by l f count n (reduce_from l count first n samples)
    from_between count first n [] p h = refl
    from_between count first n (s ∷ samples) p h = λ i. sample_between count first n s p h.1.0 i ∷ from_between count first (suc n) samples p h.1.1 i

    from_divides : (count : ℕ) (first : ℤ) (n : ℕ) (samples : List Sample) → g ∣ unsigned_abs first → Divides g (sample_times m count n samples)
        → Divides g (sample_times l count n (reduce_from l count first n samples))
    from_divides count first n [] p h = tt
    from_divides count first n (s ∷ samples) p h = (duration_divides count n s.duration h.0, (offset_divides first s.offset p h.1.0, from_divides count first (suc n) samples p h.1.1))

    first_between : (count : ℕ) (samples : List Sample) → first_offset (samples_by m f count 0 samples) ≡ sized f (first_offset samples)
    first_between count [] = ap pos (sym (zero-div g))
    first_between count (s ∷ samples) = refl

    first_divides : (count : ℕ) (samples : List Sample) → Divides g (sample_times m count 0 samples) → g ∣ unsigned_abs (first_offset samples)
    first_divides count [] h = dvd-zero g
    first_divides count (s ∷ samples) h = h.1.0

    samples_between : (samples : List Sample) → Divides g (sample_times m (length samples) 0 samples)
        → reduce_samples l (samples_by m f (length samples) 0 samples) ≡ samples_by l f (length (reduce_samples l samples)) 0 (reduce_samples l samples)
    samples_between samples h =
        let count = length samples in
        let first = first_offset samples in
        (λ i. reduce_from l (many_stay m f count 0 samples i) (first_between count samples i) 0 (samples_by m f count 0 samples))
        ∙ from_between count first 0 samples (first_divides count samples h) h
        ∙ ap (λ n. samples_by l f n 0 (reduce_samples l samples)) (sym (left_many l count first 0 samples))

    samples_divide : (samples : List Sample) → Divides g (sample_times m (length samples) 0 samples) → Divides g (sample_times l (length (reduce_samples l samples)) 0 (reduce_samples l samples))
    samples_divide samples h =
        let count = length samples in
        let first = first_offset samples in
        subst (λ n. Divides g (sample_times l n 0 (reduce_samples l samples))) (sym (left_many l count first 0 samples)) (from_divides count first 0 samples (first_divides count samples h) h)

    -- ---- a track

    start_between : (start : ℕ) → start_left l (f start) ≡ f (start_left l start)
    start_between start = by l.timing l.origins
      where
        by : (timing origins : Bool) → (if timing then 0 else if origins then 0 else f start) ≡ f (if timing then 0 else if origins then 0 else start)
        by true origins = sym (zero-div g)
        by false true = sym (zero-div g)
        by false false = refl

    start_divides : (start : ℕ) → g ∣ start → g ∣ start_left l start
    start_divides start h = by l.timing l.origins
      where
        by : (timing origins : Bool) → g ∣ (if timing then 0 else if origins then 0 else start)
        by true origins = dvd-zero g
        by false true = dvd-zero g
        by false false = h

    edits_between : (a : ℕ → ℕ) (edits : List Edit) → (if l.edits then [] else map (edit_by a f) edits) ≡ map (edit_by a f) (if l.edits then [] else edits)
    edits_between a edits = by l.edits
      where
        by : (b : Bool) → (if b then [] else map (edit_by a f) edits) ≡ map (edit_by a f) (if b then [] else edits)
        by true = refl
        by false = refl

    edits_divide : (edits : List Edit) → Divides g (media_times edits) → Divides g (media_times (if l.edits then [] else edits))
    edits_divide edits h = by l.edits
      where
        by : (b : Bool) → Divides g (media_times (if b then [] else edits))
        by true = tt
        by false = h

    scale_between : (n : ℕ) → timescale_left l (timescale_by m f n) ≡ timescale_by l f (timescale_left l n)
    scale_between n = by l.timing m.timing timing
      where
        by : (lt mt : Bool) → (mt ≡ true → lt ≡ true) → (if lt then 1000 else if mt then n else f n) ≡ (if lt then (if lt then 1000 else n) else f (if lt then 1000 else n))
        by true mt e = refl
        by false true e = absurd (false_true (e refl))
        by false false e = refl

    scale_divides : (n : ℕ) → g ∣ counted_timescale m n → g ∣ counted_timescale l (timescale_left l n)
    scale_divides n = by l.timing m.timing timing
      where
        by : (lt mt : Bool) → (mt ≡ true → lt ≡ true) → g ∣ (if mt then 0 else n) → g ∣ (if lt then 0 else if lt then 1000 else n)
        by true mt e q = dvd-zero g
        by false true e q = absurd (false_true (e refl))
        by false false e q = q

    pub track_between : (a : ℕ → ℕ) (t : Track) → Divides g (track_times m t) → reduce_track l (track_by m a f t) ≡ track_by l a f (reduce_track l t)
    track_between a t h =
        let r = reduce_track l t in
        let same = samples_between t.samples (all_last (λ (time : ℤ). g ∣ unsigned_abs time) (media_times t.head.edits) (sample_times m (length t.samples) 0 t.samples) h.1.1) in
        λ i. record r {
          head = record r.head { edits = edits_between a t.head.edits i; media = record r.head.media { timescale = scale_between t.head.media.timescale i } };
          start = start_between t.start i;
          samples = same i;
        }

    pub track_divides : (t : Track) → Divides g (track_times m t) → Divides g (track_times l (reduce_track l t))
    track_divides t h =
        let edits = media_times t.head.edits in
        let times = sample_times m (length t.samples) 0 t.samples in (
          scale_divides t.head.media.timescale h.0,
          (
            start_divides t.start h.1.0,
            all_append (λ (time : ℤ). g ∣ unsigned_abs time) (media_times (if l.edits then [] else t.head.edits)) (sample_times l (length (reduce_samples l t.samples)) 0 (reduce_samples l t.samples))
                (edits_divide t.head.edits (all_first (λ (time : ℤ). g ∣ unsigned_abs time) edits times h.1.1))
                (samples_divide t.samples (all_last (λ (time : ℤ). g ∣ unsigned_abs time) edits times h.1.1)),
          ),
        )

  -- ---- a movie

  abbrev left_segments : List Track → List ℤ
  left_segments tracks = if l.edits then [] else segment_times tracks

  pub segments_left : (place : ℕ) (tracks : List Track) → segment_times (number_tracks l place (map (reduce_track l) tracks)) ≡ left_segments tracks
  segments_left place tracks = by l.edits refl place tracks
    where
      by : (b : Bool) → l.edits ≡ b → (place : ℕ) (tracks : List Track) → segment_times (number_tracks l place (map (reduce_track l) tracks)) ≡ (if b then [] else segment_times tracks)
      by true e place [] = refl
      by true e place (t ∷ tracks) = λ i. map (λ (x : Edit). pos x.segment_duration) (if e i then [] else t.head.edits) ++ by true e (suc place) tracks i
      by false e place [] = refl
      by false e place (t ∷ tracks) = λ i. map (λ (x : Edit). pos x.segment_duration) (if e i then [] else t.head.edits) ++ by false e (suc place) tracks i

  segments_between : (a : ℕ) (tracks : List Track) → left_segments (map (lowest_track m a) tracks) ≡ map (sized (divided a)) (left_segments tracks)
  segments_between a tracks = by l.edits
    where
      by : (b : Bool) → (if b then [] else segment_times (map (lowest_track m a) tracks)) ≡ map (sized (divided a)) (if b then [] else segment_times tracks)
      by true = refl
      by false = segment_times_by m (divided a) (λ t. divided (divisor_of (track_times m t))) tracks

  segments_divide : (a : ℕ) (tracks : List Track) → Divides a (segment_times tracks) → Divides a (left_segments tracks)
  segments_divide a tracks h = by l.edits
    where
      by : (b : Bool) → Divides a (if b then [] else segment_times tracks)
      by true = tt
      by false = h

  movie_between : (p : Presentation) → movie_times l (reduce l (lowest m p)) ≡ map (sized (divided (divisor_of (movie_times m p)))) (movie_times l (reduce l p))
  movie_between p =
      let a = divisor_of (movie_times m p) in
      let first = ap (counted_timescale l) (scale_between a p.movie.timescale) ∙ duration_by l (divided a) (zero-div a) l.timing (timescale_left l p.movie.timescale) in
      let rest = segments_left 1 (map (lowest_track m a) p.tracks) ∙ segments_between a p.tracks ∙ ap (map (sized (divided a))) (sym (segments_left 1 p.tracks)) in
      λ i. pos (first i) ∷ rest i

  movie_divides : (p : Presentation) → Divides (divisor_of (movie_times m p)) (movie_times l (reduce l p))
  movie_divides p =
      let a = divisor_of (movie_times m p) in
      let all = divisor_divides (movie_times m p) in
      (scale_divides a p.movie.timescale all.0, subst (Divides a) (sym (segments_left 1 p.tracks)) (segments_divide a p.tracks all.1))

  at_place : (a b place : ℕ) (t : Track) → lowest_track l a (number_track l place (reduce_track l (lowest_track m b t))) ≡ lowest_track l (b * a) (number_track l place (reduce_track l t))
  at_place a b place t =
      let g = divisor_of (track_times m t) in
      let all = divisor_divides (track_times m t) in
      ap (λ (r : Track). lowest_track l a (number_track l place r)) (track_between g (divided b) t all)
      ∙ lowest_of_divided l a b g (number_track l place (reduce_track l t)) (track_divides g t all)

  tracks_between : (a b place : ℕ) (tracks : List Track) → map (lowest_track l a) (number_tracks l place (map (reduce_track l) (map (lowest_track m b) tracks))) ≡ map (lowest_track l (b * a)) (number_tracks l place (map (reduce_track l) tracks))
  tracks_between a b place [] = refl
  tracks_between a b place (t ∷ tracks) = λ i. at_place a b place t i ∷ tracks_between a b (suc place) tracks i

  pub lowest_between : (p : Presentation) → lowest l (reduce l (lowest m p)) ≡ lowest l (reduce l p)
  lowest_between p =
      let b = divisor_of (movie_times m p) in
      let a = divisor_of (movie_times l (reduce l (lowest m p))) in
      let whole : b * a ≡ divisor_of (movie_times l (reduce l p)) = ap (λ times. b * divisor_of times) (movie_between p) ∙ divisor_of_divided b (movie_times l (reduce l p)) (movie_divides p) in
      let left = timescale_left l p.movie.timescale in
      let scale : timescale_by l (divided a) (timescale_left l (timescale_by m (divided b) p.movie.timescale)) ≡ timescale_by l (divided (b * a)) left =
      ap (timescale_by l (divided a)) (scale_between b p.movie.timescale) ∙ duration_twice l (divided a) (divided b) l.timing left ∙ (λ i. timescale_by l (λ n. div-div-eq-div-mul n b a i) left) in
      let once : lowest l (reduce l (lowest m p)) ≡ record (reduce l p) { movie = record (reduce l p).movie { timescale = timescale_by l (divided (b * a)) left }; tracks = map (lowest_track l (b * a)) (reduce l p).tracks } =
      λ i. record (reduce l p) { movie = record (reduce l p).movie { timescale = scale i }; tracks = tracks_between a b 1 p.tracks i } in
      once ∙ ap (λ k. record (reduce l p) { movie = record (reduce l p).movie { timescale = timescale_by l (divided k) left }; tracks = map (lowest_track l k) (reduce l p).tracks }) whole
