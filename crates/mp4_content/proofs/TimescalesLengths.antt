-- In lowest terms a track whose ends stay is no longer, and offsets that fit do so still.
use Rattle.std.proofs.Common.{◌≡◌, ℕ, zero, suc, ◌+◌, ◌*◌, ◌/◌, ◌<◌, ◌≤◌, ◌==◌, Bool, true, false, if◌then◌else◌, List, [], ◌∷◌, length, map, refl, sym, ap, subst, ◌∙◌, arith, mul-add, mul-pos, mul_comm, mul_assoc, mul-le-mul_left, div-le_self, eq-zero-or-pos, ◌⊎◌, inl, inr, ⊎_elim, lt_of_mul-lt-mul_right, ℤ, pos, negsuc, neg_ℤ, unsigned_abs, FitsSigned}
use Rattle.std.specs.Prelude.{◌&&◌, ◌||◌, not}
use Rattle.std.specs.List.{AllByRecursion, list_any}
use Rattle.std.specs.Int.{◌∣◌, div_ceil, w32}
use Rattle.std.proofs.lemmas.Bool.Decides.{nat_tests}
use Rattle.std.proofs.lemmas.Grind.{div_ceil_times}
use Rattle.std.proofs.lemmas.Int.{ints}
use Rattle.std.proofs.Math.Nat.{mul-div_cancel', dvd-mul_left, zero-div, pos_of_dvd_of_pos, le_of_mul-le-mul_left}
use Rattle.mp4_boxes.specs.format.Bytes.{sum_of}
use Rattle.mp4_boxes.proofs.Joined.{all_first, all_last}
use Rattle.mp4_head.specs.format.Head.{Edit}
use Rattle.mp4_present.specs.format.Presentation.{Sample, Track, Presentation, IsInTime, says_all, total_duration}
use Rattle.mp4_content.specs.format.Reduced.{is_at_end, HasNearOffsets}
use Rattle.mp4_content.specs.declared.without.Without.{Without}
use Rattle.mp4_content.specs.format.Timescales.{leaves_duration, counted_duration, sample_times, track_times, segment_times, movie_times, sized, timescale_by, samples_by, edit_by, divided, divisor_of, lowest_track, lowest}
use Rattle.mp4_content.proofs.TimescalesDivisors.{Divides, divisor_divides}
use Rattle.mp4_content.proofs.TimescalesChanged.{media_times, lasting}

-- ---- numbers

-- what is above 0 is so still
pub some_divided : (g n : ℕ) → 0 < n → g ∣ n → 0 < divided g n
some_divided g n some h = pos_of_dvd_of_pos (subst (λ m. n / g ∣ m) (mul-div_cancel' g h) (dvd-mul_left (n / g) g)) some

ceil_less : (g m x y : ℕ) → 0 < g → 0 < m → x ≤ y → div_ceil x m ≤ div_ceil (g * y) (g * m)
ceil_less g m x y some other less =
    let k = div_ceil (g * y) (g * m) in
    let above = (div_ceil_times (g * y) (g * m) (mul-pos some other)).0 in
    let turned : k * (g * m) ≡ g * (k * m) = sym (mul_assoc k g m) ∙ ap (λ n. n * m) (mul_comm k g) ∙ mul_assoc g k m in
    let whole : y ≤ k * m = le_of_mul-le-mul_left (omega (arith, above, turned)) some in
    let below = (div_ceil_times x m other).1 in
    let next : (k + 1) * m ≡ k * m + m = omega arith in
    let lt : div_ceil x m < k + 1 = lt_of_mul-lt-mul_right m (omega (arith, below, next, whole, less)) in
    omega (arith, lt)

zero_same : (h s : ℕ) → h ∣ s → (divided h s == 0) ≡ (s == 0)
zero_same h s p = ⊎_elim none some (eq-zero-or-pos s)
  where
    none : s ≡ 0 → (divided h s == 0) ≡ (s == 0)
    none e = (λ i. divided h (e i) == 0) ∙ ap (λ n. n == 0) (zero-div h) ∙ ap (λ n. n == 0) (sym e)

    some : 0 < s → (divided h s == 0) ≡ (s == 0)
    some more =
        let above = some_divided h s more p in
        let yes : (divided h s == 0) ≡ false = grind (arith, nat_tests) in
        let no : (s == 0) ≡ false = grind (arith, nat_tests) in
        yes ∙ sym no

-- ---- edits

abbrev is_open : Edit → Bool
is_open e = e.segment_duration == 0

module _ (h : ℕ) (f : ℕ → ℕ) where
  open_same : (edits : List Edit) → Divides h (lasting edits) → list_any is_open (map (edit_by (divided h) f) edits) ≡ list_any is_open edits
  open_same [] p = refl
  open_same (e ∷ edits) p = λ i. zero_same h e.segment_duration p.0 i || open_same edits p.1 i

  says_same : (edits : List Edit) → Divides h (lasting edits) → says_all (map (edit_by (divided h) f) edits) ≡ says_all edits
  says_same [] p = refl
  says_same (e ∷ edits) p = ap not (open_same (e ∷ edits) p)

  segments_less : (edits : List Edit) → sum_of (λ (e : Edit). e.segment_duration) (map (edit_by (divided h) f) edits) ≤ sum_of (λ (e : Edit). e.segment_duration) edits
  segments_less [] = omega arith
  segments_less (e ∷ edits) = let one = div-le_self e.segment_duration h in let rest = segments_less edits in omega (arith, one, rest)

-- ---- samples

pick : (a b : Bool) (x y z w : ℕ) → a ≡ b → x ≤ z → y ≤ w → (if a then x else y) ≤ (if b then z else w)
pick true true x y z w e p q = p
pick true false x y z w e p q = absurd cc
pick false true x y z w e p q = absurd cc
pick false false x y z w e p q = q

module _ (l : Without) where
  pub duration_less : (g count n d : ℕ) → (if leaves_duration l count n then d else divided g d) ≤ d
  duration_less g count n d = by (leaves_duration l count n)
    where
      by : (b : Bool) → (if b then d else divided g d) ≤ d
      by true = omega arith
      by false = div-le_self d g

  pub total_less : (g count n : ℕ) (samples : List Sample) → total_duration (samples_by l (divided g) count n samples) ≤ total_duration samples
  total_less g count n [] = omega arith
  total_less g count n (s ∷ samples) = let one = duration_less g count n s.duration in let rest = total_less g count (suc n) samples in omega (arith, one, rest)

  -- how long a track is by its samples, over the timescales of the movie and of its media
  abbrev by_samples : ℕ → ℕ → ℕ → ℕ
  by_samples total scale media = div_ceil (total * scale) media

  -- The first of these is no longer than the second.
  abbrev IsLess : ℕ → ℕ → Track → Type 0
  IsLess scale h t =
      let g = divisor_of (track_times l t) in
      by_samples (total_duration (samples_by l (divided g) (length t.samples) 0 t.samples)) (timescale_by l (divided h) scale) (timescale_by l (divided g) t.head.media.timescale)
      ≤ by_samples (total_duration t.samples) scale t.head.media.timescale

  in_time_by : (scale h : ℕ) (t : Track) → Divides h (lasting t.head.edits) → IsLess scale h t → IsInTime scale t → IsInTime (timescale_by l (divided h) scale) (lowest_track l h t)
  in_time_by scale h t q less within =
      let g = divisor_of (track_times l t) in
      let shorter = total_less g (length t.samples) 0 t.samples in
      let sooner = div-le_self t.start g in
      let edits = map (edit_by (divided h) (divided g)) t.head.edits in
      let longest = pick (says_all edits) (says_all t.head.edits) _ _ _ _ (says_same h (divided g) t.head.edits q) (segments_less h (divided g) t.head.edits) less in
      let before = within.0 in
      let whole = within.1 in
      (omega (arith, shorter, sooner, before), omega (arith, longest, whole))

  -- ---- where timing doesn't count

  untimed_duration : l.timing ≡ true → (f : ℕ → ℕ) (count n d : ℕ) → (if leaves_duration l count n then d else f d) ≡ d
  untimed_duration e f count n d = ap (λ (b : Bool). if b || (l.ends && is_at_end count n) then d else f d) e

  pub untimed_total : l.timing ≡ true → (f : ℕ → ℕ) (count n : ℕ) (samples : List Sample) → total_duration (samples_by l f count n samples) ≡ total_duration samples
  untimed_total e f count n [] = refl
  untimed_total e f count n (s ∷ samples) = λ i. untimed_duration e f count n s.duration i + untimed_total e f count (suc n) samples i

  less_untimed : l.timing ≡ true → (scale h : ℕ) (t : Track) → IsLess scale h t
  less_untimed e scale h t =
      let g = divisor_of (track_times l t) in
      subst (λ n. by_samples n (timescale_by l (divided h) scale) (timescale_by l (divided g) t.head.media.timescale) ≤ by_samples (total_duration t.samples) scale t.head.media.timescale) (sym (untimed_total e (divided g) (length t.samples) 0 t.samples))
      (subst (λ (b : Bool). by_samples (total_duration t.samples) (if b then scale else divided h scale) (if b then t.head.media.timescale else divided g t.head.media.timescale) ≤ by_samples (total_duration t.samples) scale t.head.media.timescale) (sym e) (omega arith))

  -- ---- where it does, and ends stay

  module _ (counts : l.timing ≡ false) (ends : l.ends ≡ false) where
    duration_divides : (g count n d : ℕ) → g ∣ counted_duration l count n d → g * (if leaves_duration l count n then d else divided g d) ≡ d
    duration_divides g count n d h = by l.timing l.ends counts ends h
      where
        by : (a b : Bool) → a ≡ false → b ≡ false → g ∣ (if a || (b && is_at_end count n) then 0 else d) → g * (if a || (b && is_at_end count n) then d else divided g d) ≡ d
        by true b e k p = absurd cc
        by false true e k p = absurd cc
        by false false e k p = mul-div_cancel' g p

    total_divided : (g count n : ℕ) (samples : List Sample) → Divides g (sample_times l count n samples) → g * total_duration (samples_by l (divided g) count n samples) ≡ total_duration samples
    total_divided g count n [] h = omega arith
    total_divided g count n (s ∷ samples) h =
        mul-add g (if leaves_duration l count n then s.duration else divided g s.duration) (total_duration (samples_by l (divided g) count (suc n) samples))
        ∙ (λ i. duration_divides g count n s.duration h.0 i + total_divided g count (suc n) samples h.1.1 i)

    less_timed : (scale h : ℕ) (t : Track) → 0 < t.head.media.timescale → IsLess scale h t
    less_timed scale h t other =
        let g = divisor_of (track_times l t) in
        let all = divisor_divides (track_times l t) in
        let media = t.head.media.timescale in
        let divides : g ∣ media = subst (λ (b : Bool). g ∣ (if b then 0 else media)) counts all.0 in
        let above : 0 < g = pos_of_dvd_of_pos divides other in
        let a = total_duration (samples_by l (divided g) (length t.samples) 0 t.samples) in
        let total : g * a ≡ total_duration t.samples = total_divided g (length t.samples) 0 t.samples (all_last (λ (time : ℤ). g ∣ unsigned_abs time) (media_times t.head.edits) (sample_times l (length t.samples) 0 t.samples) all.1.1) in
        let product : g * (a * scale) ≡ total_duration t.samples * scale = sym (mul_assoc g a scale) ∙ ap (λ n. n * scale) total in
        let ceil : by_samples a (divided h scale) (divided g media) ≤ by_samples (total_duration t.samples) scale media =
        subst (λ n. by_samples a (divided h scale) (divided g media) ≤ div_ceil n media) product (subst (λ n. by_samples a (divided h scale) (divided g media) ≤ div_ceil (g * (a * scale)) n) (mul-div_cancel' g divides)
        (ceil_less g (divided g media) (a * divided h scale) (a * scale) above (some_divided g media other divides) (mul-le-mul_left a (div-le_self scale h)))) in
        subst (λ (b : Bool). by_samples a (if b then scale else divided h scale) (if b then media else divided g media) ≤ by_samples (total_duration t.samples) scale media) (sym counts) ceil

  -- ---- all tracks

  abbrev HasScale : Track → Type 0
  HasScale t = 0 < t.head.media.timescale

  all_in_time : ((scale h : ℕ) (t : Track) → HasScale t → IsLess scale h t) → (scale h : ℕ) (tracks : List Track) → Divides h (segment_times tracks) → AllByRecursion HasScale tracks → AllByRecursion (IsInTime scale) tracks
      → AllByRecursion (IsInTime (timescale_by l (divided h) scale)) (map (lowest_track l h) tracks)
  all_in_time less scale h [] q r within = tt
  all_in_time less scale h (t ∷ tracks) q r within =
      let divides = λ (time : ℤ). h ∣ unsigned_abs time in (
        in_time_by scale h t (all_first divides (lasting t.head.edits) (segment_times tracks) q) (less scale h t r.0) within.0,
        all_in_time less scale h tracks (all_last divides (lasting t.head.edits) (segment_times tracks) q) r.1 within.1,
      )

  -- no track is longer
  pub lowest_in_time : (l.ends ≡ false) ⊎ (l.timing ≡ true) → (p : Presentation) → AllByRecursion HasScale p.tracks → AllByRecursion (IsInTime p.movie.timescale) p.tracks → AllByRecursion (IsInTime (lowest l p).movie.timescale) (lowest l p).tracks
  lowest_in_time either p h within = all_in_time (less_by l.timing refl either) p.movie.timescale (divisor_of (movie_times l p)) p.tracks (divisor_divides (movie_times l p)).1 h within
    where
      less_by : (b : Bool) → l.timing ≡ b → (l.ends ≡ false) ⊎ (l.timing ≡ true) → (scale h : ℕ) (t : Track) → HasScale t → IsLess scale h t
      less_by true e k scale h t some = less_untimed e scale h t
      less_by false e (inl ends) scale h t some = less_timed e ends scale h t some
      less_by false e (inr timed) scale h t some = absurd cc

-- ---- offsets

pub near_divided : (g : ℕ) (z : ℤ) → FitsSigned w32 z → FitsSigned w32 (sized (divided g) z)
near_divided g (pos n) h = let less = div-le_self n g in omega (arith, ints, less, h)
near_divided g (negsuc n) h = below (divided g (suc n)) (div-le_self (suc n) g)
  where
    below : (k : ℕ) → k ≤ suc n → FitsSigned w32 (neg_ℤ (pos k))
    below zero less = omega (arith, ints)
    below (suc k) less = omega (arith, ints, less, h)

module _ (l : Without) where
  pub near_samples : (g count n : ℕ) (samples : List Sample) → AllByRecursion (λ (s : Sample). FitsSigned w32 s.offset) samples → AllByRecursion (λ (s : Sample). FitsSigned w32 s.offset) (samples_by l (divided g) count n samples)
  near_samples g count n [] h = tt
  near_samples g count n (s ∷ samples) h = (near_divided g s.offset h.0, near_samples g count (suc n) samples h.1)

  pub near_tracks : (a : ℕ) (tracks : List Track) → AllByRecursion HasNearOffsets tracks → AllByRecursion HasNearOffsets (map (lowest_track l a) tracks)
  near_tracks a [] h = tt
  near_tracks a (t ∷ tracks) h = (near_samples (divisor_of (track_times l t)) (length t.samples) 0 t.samples h.0, near_tracks a tracks h.1)
