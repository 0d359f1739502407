-- In lowest terms no track is too long without its edits, where ends and origins stay.
use Rattle.std.proofs.Common.{◌≡◌, ℕ, suc, ◌+◌, ◌*◌, ◌<◌, ◌≤◌, Bool, true, false, if◌then◌else◌, List, [], ◌∷◌, ◌++◌, length, map, refl, ap, ◌∙◌, arith, mul-le-mul_left, div-le_self, lt_of_mul-lt-mul_right, inl, inr, pos}
use Rattle.std.specs.List.{AllByRecursion}
use Rattle.std.specs.Int.{div_ceil}
use Rattle.std.proofs.lemmas.Grind.{div_ceil_times}
use Rattle.std.proofs.Math.Nat.{div_self}
use Rattle.mp4_boxes.proofs.Each.{each_value}
use Rattle.mp4_head.specs.format.Head.{Edit}
use Rattle.mp4_present.specs.format.Presentation.{Track, Presentation, IsTrack, Valid, IsInTime, track_length, total_duration}
use Rattle.mp4_content.specs.format.Reduced.{timescale_left, reduce_samples, reduce_track, number_track, number_tracks, reduce, HasNearOffsets}
use Rattle.mp4_content.specs.declared.without.Without.{Without}
use Rattle.mp4_content.specs.format.Timescales.{counted_timescale, track_times, segment_times, movie_times, timescale_by, edit_by, divided, divisor_of, lowest_track, scaled}
use Rattle.mp4_content.specs.format.TimescalesLaws.{EditsHoldNoScaledTime, ScaledInLimits}
use Rattle.mp4_content.proofs.Numbered.{numbered_each}
use Rattle.mp4_content.proofs.ReducedValid.{all_near, durations_same, length_by, scale_some, start_less}
use Rattle.mp4_content.proofs.TimescalesDivisors.{divisor_divides}
use Rattle.mp4_content.proofs.TimescalesLengths.{near_tracks, total_less}
use Rattle.mp4_content.proofs.TimescalesValid.{scale_some_by, scaled_at, scaled_from, scaled_stays_valid}

ceil_short : (n m : ℕ) → 0 < m → div_ceil n m ≤ n
ceil_short n m some =
    let below = (div_ceil_times n m some).1 in
    let more = mul-le-mul_left n some in
    let lt : div_ceil n m < n + 1 = lt_of_mul-lt-mul_right m (omega (arith, below, more)) in
    omega (arith, lt)

module _ (l : Without) (counts : l.timing ≡ false) (edits : l.edits ≡ true) (ends : l.ends ≡ false) (origins : l.origins ≡ false) where
  no_segments : (place : ℕ) (tracks : List Track) → segment_times (number_tracks l place (map (reduce_track l) tracks)) ≡ []
  no_segments place [] = refl
  no_segments place (t ∷ tracks) = λ i. map (λ (e : Edit). pos e.segment_duration) (if edits i then [] else t.head.edits) ++ no_segments (suc place) tracks i

  scale_counts : (n : ℕ) → counted_timescale l n ≡ n
  scale_counts n = ap (λ (b : Bool). if b then 0 else n) counts

  abbrev scale_of : Presentation → ℕ
  scale_of p = timescale_left l p.movie.timescale

  abbrev divisor : Presentation → ℕ
  divisor p = divisor_of (movie_times l (reduce l p))

  divisor_is : (p : Presentation) → divisor p ≡ scale_of p
  divisor_is p = ap (λ times. divisor_of (pos (counted_timescale l (scale_of p)) ∷ times)) (no_segments 1 p.tracks) ∙ scale_counts (scale_of p)

  one_left : (p : Presentation) → 0 < p.movie.timescale → timescale_by l (divided (divisor p)) (scale_of p) ≡ 1
  one_left p some =
      ap (λ (b : Bool). if b then scale_of p else divided (divisor p) (scale_of p)) counts
      ∙ (λ i. divided (divisor_is p i) (scale_of p)) ∙ div_self (scale_some l p.movie.timescale some)

  in_time : (a scale own place : ℕ) (t : Track) → scale ≡ 1 → IsTrack t → IsInTime own t → IsInTime scale (scaled_at l a place t)
  in_time a scale own place t one good within =
      let u = number_track l place (reduce_track l t) in
      let g = divisor_of (track_times l u) in
      let left = reduce_samples l t.samples in
      let x = scaled_at l a place t in
      let total = total_duration x.samples in
      let media = x.head.media.timescale in
      let some : 0 < media = scale_some_by l g (timescale_left l t.head.media.timescale) (divisor_divides (track_times l u)).0 (scale_some l t.head.media.timescale good.head.media.timescale_not_0) in
      let none : (if l.edits then [] else t.head.edits) ≡ [] = ap (λ (b : Bool). if b then [] else t.head.edits) edits in
      let long : track_length scale x ≡ div_ceil (total * 1) media = λ i. length_by (one i) media (map (edit_by (divided a) (divided g)) (none i)) total in
      let short = ceil_short (total * 1) media some in
      let fewer = total_less l g (length left) 0 left in
      let same = durations_same l counts ends t.samples in
      let sooner = start_less l t.start in
      let divides = div-le_self u.start g in
      let before = within.0 in
      (omega (arith, fewer, same, sooner, divides, before), omega (arith, long, short, fewer, same, before))

  all_in_time : (a scale own place : ℕ) (tracks : List Track) → scale ≡ 1 → AllByRecursion IsTrack tracks → AllByRecursion (IsInTime own) tracks → AllByRecursion (IsInTime scale) (map (lowest_track l a) (number_tracks l place (map (reduce_track l) tracks)))
  all_in_time a scale own place [] one good within = tt
  all_in_time a scale own place (t ∷ tracks) one good within = (in_time a scale own place t one good.0 within.0, all_in_time a scale own (suc place) tracks one good.1 within.1)

  near_left : (p : Presentation) → Valid p → AllByRecursion HasNearOffsets (reduce l p).tracks
  near_left p v =
      numbered_each l HasNearOffsets HasNearOffsets (λ place t some h. h) 1 (map (reduce_track l) p.tracks) (omega arith)
      (each_value (λ (t : Track). HasNearOffsets (reduce_track l t)) HasNearOffsets (reduce_track l) (λ t h. h) p.tracks (all_near l p (inl origins) v.tracks))

  pub limits_without_edits : (p : Presentation) → Valid p → ScaledInLimits true l p
  limits_without_edits p v = record {
    in_time = all_in_time (divisor p) (timescale_by l (divided (divisor p)) (scale_of p)) p.movie.timescale 1 p.tracks (one_left p v.movie.timescale_not_0) v.tracks v.limits.times;
    in_range = near_tracks l (divisor p) (reduce l p).tracks (near_left p v);
  }

pub edits_hold_no_scaled_time : EditsHoldNoScaledTime
edits_hold_no_scaled_time l p v ends origins = by l.timing l.edits refl refl
  where
    by : (t e : Bool) → l.timing ≡ t → l.edits ≡ e → ScaledInLimits true l p × Valid (scaled true l p)
    by true e timing edits = scaled_stays_valid true l p v (inr timing)
    by false false timing edits = scaled_stays_valid true l p v (inl (edits, ends, origins))
    by false true timing edits = let limits = limits_without_edits l timing edits ends origins p v in (limits, scaled_from true l p v limits)
