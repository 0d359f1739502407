-- How tracks begin is left out of times in lowest terms as it is of the times before them.
use Rattle.std.proofs.Common.{◌≡◌, ℕ, zero, suc, ◌+◌, ◌*◌, ◌/◌, ◌<◌, ◌==◌, Bool, true, false, if◌then◌else◌, List, [], ◌∷◌, ◌++◌, length, map, refl, sym, ap, subst, ◌∙◌, arith, mul-pos, mul_comm, mul-add, ℤ, pos, negsuc, neg_ℤ, unsigned_abs, ◌+ℤ◌, ◌-ℤ◌, ◌*ℤ◌}
use Rattle.std.specs.Prelude.{not, ◌&&◌, ◌||◌}
use Rattle.std.specs.Int.{◌∣◌}
use Rattle.std.specs.List.{AllByRecursion, AllZip, list_any}
use Rattle.std.proofs.lemmas.Int.{ints}
use Rattle.std.proofs.lemmas.Nat.Gcd.{dvd-zero}
use Rattle.std.proofs.Math.Nat.{zero-div, div-one, mul-div_cancel'}
use borrow.Author.Differences.{up, down, same_in}
use Rattle.mp4_boxes.proofs.Among.{all_append}
use Rattle.mp4_boxes.proofs.Joined.{all_first, all_last}
use Rattle.mp4_boxes.proofs.Plain.{false_true, not_is_true, not_is_false, and_is_true, or_is_false, or_true}
use Rattle.mp4_head.specs.format.Head.{Edit, MovieHead}
use Rattle.mp4_present.specs.format.Presentation.{Sample, Track, Presentation}
use Rattle.mp4_present.specs.format.Waiting.{waiting, waiting_movie, waiting_track, waiting_tracks}
use Rattle.mp4_content.specs.format.Reduced.{first_offset, reduce_track, number_track, number_tracks, reduce}
use Rattle.mp4_content.specs.format.ReducedLaws.{both}
use Rattle.mp4_content.specs.declared.without.Without.{Without}
use Rattle.mp4_content.specs.format.Timescales.{counted_timescale, sample_times, counted_media_time, track_times, segment_times, movie_times, sized, timescale_by, samples_by, media_time_by, edit_by, track_by, divided, divisor_of, lowest_track, lowest}
use Rattle.mp4_content.specs.format.TimescalesLaws.{only_origins}
use Rattle.mp4_content.specs.format.LeadIns.{marks_empty, is_empty, is_number, is_from_0, is_plain, is_last, is_lead_in, waits, shown_from, some_sample, has_samples, begins_simply, says_more, says_beginnings, Moment, first_shown, first_moments, delay, wait_of, told, waited}
use Rattle.mp4_content.specs.format.LeadInsLaws.{HasTimescales, BeginsLater}
use Rattle.mp4_content.proofs.TimescalesDivisors.{Divides, divisor_divides, back_again}
use Rattle.mp4_content.proofs.TimescalesChanged.{media_times, lasting, lowest_of_divided}
use Rattle.mp4_content.proofs.TimescalesReduced.{track_between, track_divides, lowest_between}
use Rattle.mp4_content.proofs.TimescalesLengths.{some_divided}
use Rattle.mp4_content.proofs.LeadInsMoments.{parts}
use Rattle.mp4_content.proofs.LeadInsSteps.{one_step}
use Rattle.mp4_content.proofs.LeadInsTracks.{HasTimescale, moments_have_scales, waiting_if, any_same, wait_of_some, wait_of_none, moments_of_some, moments_of_none, waiting_each, where_told, where_more}
use Rattle.mp4_content.proofs.LeadInsTold.{begun_scaled}

-- ---- numbers

sized_is : (g : ℕ) (z : ℤ) → sized (λ n. g * n) z ≡ z *ℤ pos g
sized_is g (pos n) = ap pos (mul_comm g n)
sized_is g (negsuc n) = ap (λ k. neg_ℤ (pos k)) (mul_comm g (suc n))

many_times : (g : ℕ) (z : ℤ) → g ∣ unsigned_abs z → z ≡ sized (divided g) z *ℤ pos g
many_times g z h = sym (back_again g z h) ∙ sized_is g (sized (divided g) z)

as_late : (k scale : ℕ) (x u : ℤ) → up x + k * down u ≡ down x + k * up u → BeginsLater (pos 0) 1 (record { ticks = x; scale = k * scale }) (record { ticks = u; scale = scale })
as_late k scale x u h =
    let same : x *ℤ pos 1 +ℤ pos 0 *ℤ pos (k * scale) ≡ x = omega (arith, ints) in
    let whole : (up x + k * down u) * scale ≡ (down x + k * up u) * scale = ap (λ z. z * scale) h in
    let left = parts u (k * scale * 1) in
    let right = parts x scale in
    let is : u *ℤ pos (k * scale * 1) ≡ x *ℤ pos scale = same_in _ _ (omega (arith, whole, left, right)) in
    is ∙ ap (λ z. z *ℤ pos scale) (sym same)

-- times of a track and of its movie that are both so many times as many over timescales that are too
same_moment : (a g n s start scale : ℕ) (first shown : ℤ)
    → BeginsLater (pos 0) 1 (record { ticks = pos (a * n * (g * s)) +ℤ ((pos (g * start) +ℤ first *ℤ pos g) -ℤ shown *ℤ pos g) *ℤ pos (a * scale); scale = a * scale * (g * s) }) (record { ticks = pos (n * s) +ℤ ((pos start +ℤ first) -ℤ shown) *ℤ pos scale; scale = scale * s })
same_moment a g n s start scale first shown =
    let b = (pos start +ℤ first) -ℤ shown in
    let c = (pos (g * start) +ℤ first *ℤ pos g) -ℤ shown *ℤ pos g in
    let u = pos (n * s) +ℤ b *ℤ pos scale in
    let x = pos (a * n * (g * s)) +ℤ c *ℤ pos (a * scale) in
    let k = a * scale * (g * s) in
    let b_is : up b + down first + up shown ≡ down b + start + up first + down shown = omega (arith, ints) in
    let b_many : g * (up b + down first + up shown) ≡ g * (down b + start + up first + down shown) = ap (λ z. g * z) b_is in
    let c_is : up c + g * down b ≡ down c + g * up b = omega (arith, ints, b_many) in
    let c_many : (up c + g * down b) * (a * scale) ≡ (down c + g * up b) * (a * scale) = ap (λ z. z * (a * scale)) c_is in
    let u_is : up u + down b * scale ≡ down u + n * s + up b * scale = omega (arith, ints) in
    let u_many : a * g * (up u + down b * scale) ≡ a * g * (down u + n * s + up b * scale) = ap (λ z. a * g * z) u_is in
    let x_is : up x + down c * (a * scale) ≡ down x + a * n * (g * s) + up c * (a * scale) = omega (arith, ints) in
    let both : up x + a * g * down u ≡ down x + a * g * up u = omega (arith, c_many, u_many, x_is) in
    subst (λ z. BeginsLater (pos 0) 1 (record { ticks = x; scale = z }) (record { ticks = u; scale = scale * s })) (omega arith) (as_late (a * g) (scale * s) x u both)

-- ---- edits

marks_stay : (f : ℕ → ℕ) (z : ℤ) → marks_empty (media_time_by f z) ≡ marks_empty z
marks_stay f (pos n) = refl
marks_stay f (negsuc zero) = refl
marks_stay f (negsuc (suc n)) = refl

from_0_stays : (f : ℕ → ℕ) (z : ℤ) → is_from_0 (media_time_by f z) ≡ is_from_0 z
from_0_stays f (pos n) = refl
from_0_stays f (negsuc n) = refl

module _ (a f : ℕ → ℕ) where
  empty_stays : (e : Edit) → is_empty (edit_by a f e) ≡ is_empty e
  empty_stays e = marks_stay f e.media_time

  plain_stays : (e : Edit) → is_plain (edit_by a f e) ≡ is_plain e
  plain_stays e = λ i. from_0_stays f e.media_time i && is_number 1 e.rate_integer && is_number 0 e.rate_fraction

module _ (f : Edit → Edit) (empty : (e : Edit) → is_empty (f e) ≡ is_empty e) (plain : (e : Edit) → is_plain (f e) ≡ is_plain e) where
  last_same : (edits : List Edit) → is_last (map f edits) ≡ is_last edits
  last_same [] = refl
  last_same (e ∷ edits) = refl

  lead_in_same : (edits : List Edit) → is_lead_in (map f edits) ≡ is_lead_in edits
  lead_in_same [] = refl
  lead_in_same (e ∷ edits) = λ i. if empty e i then lead_in_same edits i else plain e i && last_same edits i

waits_divided : (a : ℕ) (f : ℕ → ℕ) (edits : List Edit) → Divides a (lasting edits) → waits edits ≡ a * waits (map (edit_by (divided a) f) edits)
waits_divided a f [] h = omega arith
waits_divided a f (e ∷ edits) h =
    let one = by (is_empty e) e.segment_duration h.0 ∙ (λ i. a * (if sym (empty_stays (divided a) f e) i then divided a e.segment_duration else 0)) in
    (λ i. one i + waits_divided a f edits h.1 i) ∙ sym (mul-add a _ _)
  where
    by : (b : Bool) (n : ℕ) → a ∣ n → (if b then n else 0) ≡ a * (if b then divided a n else 0)
    by true n k = sym (mul-div_cancel' a k)
    by false n k = omega arith

shown_empty : (e : Edit) (edits : List Edit) → is_empty e ≡ true → shown_from (e ∷ edits) ≡ shown_from edits
shown_empty e edits k = rw k refl

shown_other : (e : Edit) (edits : List Edit) → is_empty e ≡ false → shown_from (e ∷ edits) ≡ e.media_time
shown_other e edits k = rw k refl

time_many : (g : ℕ) (z : ℤ) → is_from_0 z ≡ true → g ∣ unsigned_abs (counted_media_time z) → z ≡ media_time_by (divided g) z *ℤ pos g
time_many g (pos n) e h = ap pos (sym (mul-div_cancel' g h) ∙ mul_comm g (n / g))
time_many g (negsuc n) e h = absurd (false_true e)

-- the media time of edits that say no more than when a track begins
shown_divided : (a : ℕ → ℕ) (g : ℕ) (edits : List Edit) → (is_last edits || is_lead_in edits) ≡ true → Divides g (media_times edits) → shown_from edits ≡ shown_from (map (edit_by a (divided g)) edits) *ℤ pos g
shown_divided a g [] e h = ap pos (omega arith)
shown_divided a g (x ∷ edits) e h = by (is_empty x) refl (shown_divided a g edits)
  where
    after : List Edit
    after = map (edit_by a (divided g)) edits

    by : (b : Bool) → is_empty x ≡ b → ((is_last edits || is_lead_in edits) ≡ true → Divides g (media_times edits) → shown_from edits ≡ shown_from (map (edit_by a (divided g)) edits) *ℤ pos g)
        → shown_from (x ∷ edits) ≡ shown_from (map (edit_by a (divided g)) (x ∷ edits)) *ℤ pos g
    by true k rest =
        let leads : is_lead_in edits ≡ true = sym (ap (λ b. if b then is_lead_in edits else is_plain x && is_last edits) k) ∙ e in
        shown_empty x edits k
        ∙ rest (ap (λ b. is_last edits || b) leads ∙ or_true (is_last edits)) h.1
        ∙ ap (λ z. z *ℤ pos g) (sym (shown_empty (edit_by a (divided g) x) (map (edit_by a (divided g)) edits) (empty_stays a (divided g) x ∙ k)))
    by false k rest =
        let plain : is_plain x ≡ true = (and_is_true (is_plain x) (is_last edits) (sym (ap (λ b. if b then is_lead_in edits else is_plain x && is_last edits) k) ∙ e)).0 in
        let from : is_from_0 x.media_time ≡ true = (and_is_true (is_from_0 x.media_time) (is_number 1 x.rate_integer) (and_is_true (is_from_0 x.media_time && is_number 1 x.rate_integer) (is_number 0 x.rate_fraction) plain).0).0 in
        shown_other x edits k
        ∙ time_many g x.media_time from h.0
        ∙ ap (λ z. z *ℤ pos g) (sym (shown_other (edit_by a (divided g) x) (map (edit_by a (divided g)) edits) (empty_stays a (divided g) x ∙ k)))

-- ---- a track

module _ (words : Without) where
  -- the same words, but timing stays
  abbrev pub m : Without
  m = record words { timing = false }

  abbrev times_of : Track → List ℤ
  times_of t = sample_times m (length t.samples) 0 t.samples

  first_divides : (g count : ℕ) (samples : List Sample) → Divides g (sample_times m count 0 samples) → g ∣ unsigned_abs (first_offset samples)
  first_divides g count [] h = dvd-zero g
  first_divides g count (s ∷ samples) h = h.1.0

  first_divided : (g count : ℕ) (samples : List Sample) → first_offset (samples_by m (divided g) count 0 samples) ≡ sized (divided g) (first_offset samples)
  first_divided g count [] = ap pos (sym (zero-div g))
  first_divided g count (s ∷ samples) = refl

  some_stay : (g count n : ℕ) (samples : List Sample) → some_sample (samples_by m (divided g) count n samples) ≡ some_sample samples
  some_stay g count n [] = refl
  some_stay g count n (s ∷ samples) = refl

  module _ (a g : ℕ) where
    abbrev after : Track → Track
    after t = track_by m (divided a) (divided g) t

    has_after : (t : Track) → has_samples (after t) ≡ has_samples t
    has_after t = some_stay g (length t.samples) 0 t.samples

    says_after : (t : Track) → says_more (after t) ≡ says_more t
    says_after t =
        let f = edit_by (divided a) (divided g) in
        let empty = empty_stays (divided a) (divided g) in
        let plain = plain_stays (divided a) (divided g) in
        λ i. has_after t i && not (last_same f empty plain t.head.edits i || lead_in_same f empty plain t.head.edits i)

    begins_then : (scale : ℕ) (t : Track) → begins_simply t ≡ true → a ∣ scale → Divides a (lasting t.head.edits) → Divides g (track_times m t) → BeginsLater (pos 0) 1 (first_shown scale t) (first_shown (divided a scale) (after t))
    begins_then scale t simply whole lasts all =
        let edits = media_times t.head.edits in
        let of_edits = all_first (λ (time : ℤ). g ∣ unsigned_abs time) edits (times_of t) all.1.1 in
        let of_samples = all_last (λ (time : ℤ). g ∣ unsigned_abs time) edits (times_of t) all.1.1 in
        let u = after t in
        let n = waits_divided a (divided g) t.head.edits lasts in
        let s = sym (mul-div_cancel' g all.0) in
        let start = sym (mul-div_cancel' g all.1.0) in
        let movie = sym (mul-div_cancel' a whole) in
        let first = many_times g (first_offset t.samples) (first_divides g (length t.samples) t.samples of_samples) ∙ ap (λ z. z *ℤ pos g) (sym (first_divided g (length t.samples) t.samples)) in
        let shown = shown_divided (divided a) g t.head.edits simply of_edits in
        let is : first_shown scale t ≡ record {
          ticks = pos (a * waits u.head.edits * (g * u.head.media.timescale)) +ℤ ((pos (g * u.start) +ℤ first_offset u.samples *ℤ pos g) -ℤ shown_from u.head.edits *ℤ pos g) *ℤ pos (a * divided a scale);
          scale = a * divided a scale * (g * u.head.media.timescale);
        } = λ i. record { ticks = pos (n i * s i) +ℤ ((pos (start i) +ℤ first i) -ℤ shown i) *ℤ pos (movie i); scale = movie i * s i } in
        subst (λ (x : Moment). BeginsLater (pos 0) 1 x (first_shown (divided a scale) (after t))) (sym is)
        (same_moment a g (waits u.head.edits) u.head.media.timescale u.start (divided a scale) (first_offset u.samples) (shown_from u.head.edits))

    -- ---- edits that say how long it waits

    edits_said : (wait : ℕ) → waiting wait ≡ map (edit_by (λ n. n) (divided g)) (waiting wait)
    edits_said wait = by (wait == 0)
      where
        by : (b : Bool) → waiting_if b wait ≡ map (edit_by (λ n. n) (divided g)) (waiting_if b wait)
        by true = refl
        by false = λ i. record { segment_duration = wait; media_time = negsuc 0; rate_integer = pos 1; rate_fraction = pos 0 } ∷ record { segment_duration = 0; media_time = pos (sym (zero-div g) i); rate_integer = pos 1; rate_fraction = pos 0 } ∷ []

    waiting_said : (wait : ℕ) (t : Track) → waiting_track wait (after t) ≡ track_by m (λ n. n) (divided g) (waiting_track wait t)
    waiting_said wait t = λ i. record (after t) { head = record (after t).head { edits = edits_said wait i } }

    said_divides : (wait : ℕ) → Divides g (media_times (waiting wait))
    said_divides wait = by (wait == 0)
      where
        by : (b : Bool) → Divides g (media_times (waiting_if b wait))
        by true = tt
        by false = (dvd-zero g, (dvd-zero g, tt))

    waiting_divides : (wait : ℕ) (t : Track) → Divides g (track_times m t) → Divides g (track_times m (waiting_track wait t))
    waiting_divides wait t all =
        let divides = λ (time : ℤ). g ∣ unsigned_abs time in
        let of_samples = all_last divides (media_times t.head.edits) (times_of t) all.1.1 in
        (all.0, (all.1.0, all_append divides (media_times (waiting wait)) (times_of t) (said_divides wait) of_samples))

-- ---- a movie

-- what edits don't say more they say simply
simply : (t : Track) → says_more t ≡ false → has_samples t ≡ true → begins_simply t ≡ true
simply t e has = not_is_false (begins_simply t) (sym (ap (λ b. b && not (begins_simply t)) has) ∙ e)

module _ (words : Without) (scale a : ℕ) (some : 0 < scale) (whole : a ∣ scale) where
  -- each by the divisor of its own times
  abbrev lowest_one : Track → Track
  lowest_one t = lowest_track (m words) a t

  abbrev own : Track → ℕ
  own t = divisor_of (track_times (m words) t)

  one_has : (t : Track) → has_samples (lowest_one t) ≡ has_samples t
  one_has t = has_after words a (own t) t

  one_says : (t : Track) → says_more (lowest_one t) ≡ says_more t
  one_says t = says_after words a (own t) t

  lowest_says : (tracks : List Track) → not (list_any says_more (map lowest_one tracks)) ≡ not (list_any says_more tracks)
  lowest_says tracks = λ i. not (any_same says_more lowest_one one_says tracks i)

  abbrev AllLast : List Track → Type 0
  AllLast tracks = Divides a (segment_times tracks)

  first_last : (t : Track) (tracks : List Track) → AllLast (t ∷ tracks) → Divides a (lasting t.head.edits)
  first_last t tracks h = all_first (λ (time : ℤ). a ∣ unsigned_abs time) (lasting t.head.edits) (segment_times tracks) h

  others_last : (t : Track) (tracks : List Track) → AllLast (t ∷ tracks) → AllLast tracks
  others_last t tracks h = all_last (λ (time : ℤ). a ∣ unsigned_abs time) (lasting t.head.edits) (segment_times tracks) h

  one_begins : (t : Track) → says_more t ≡ false → has_samples t ≡ true → Divides a (lasting t.head.edits) → BeginsLater (pos 0) 1 (first_shown scale t) (first_shown (divided a scale) (lowest_one t))
  one_begins t none e h = begins_then words a (own t) scale t (simply t none e) whole h (divisor_divides (track_times (m words) t))

  all_begin : (tracks : List Track) → list_any says_more tracks ≡ false → AllLast tracks → AllZip (BeginsLater (pos 0) 1) (first_moments scale tracks) (first_moments (divided a scale) (map lowest_one tracks))
  all_begin [] none h = tt
  all_begin (t ∷ tracks) none h = by (has_samples t) refl (all_begin tracks (or_is_false (says_more t) (list_any says_more tracks) none).1 (others_last t tracks h))
    where
      both : (xs us vs ws : List Moment) → xs ≡ us → vs ≡ ws → AllZip (BeginsLater (pos 0) 1) us ws → AllZip (BeginsLater (pos 0) 1) xs vs
      both xs us vs ws e k all = subst (λ (ys : List Moment). AllZip (BeginsLater (pos 0) 1) xs ys) (sym k) (subst (λ (ys : List Moment). AllZip (BeginsLater (pos 0) 1) ys ws) (sym e) all)

      by : (b : Bool) → has_samples t ≡ b → AllZip (BeginsLater (pos 0) 1) (first_moments scale tracks) (first_moments (divided a scale) (map lowest_one tracks)) → AllZip (BeginsLater (pos 0) 1) (first_moments scale (t ∷ tracks)) (first_moments (divided a scale) (map lowest_one (t ∷ tracks)))
      by true e rest =
          both (first_moments scale (t ∷ tracks)) (first_shown scale t ∷ first_moments scale tracks) (first_moments (divided a scale) (map lowest_one (t ∷ tracks))) (first_shown (divided a scale) (lowest_one t) ∷ first_moments (divided a scale) (map lowest_one tracks))
          (moments_of_some scale t tracks e) (moments_of_some (divided a scale) (lowest_one t) (map lowest_one tracks) (one_has t ∙ e))
          (one_begins t (or_is_false (says_more t) (list_any says_more tracks) none).0 e (first_last t tracks h), rest)
      by false e rest =
          both (first_moments scale (t ∷ tracks)) (first_moments scale tracks) (first_moments (divided a scale) (map lowest_one (t ∷ tracks))) (first_moments (divided a scale) (map lowest_one tracks))
          (moments_of_none scale t tracks e) (moments_of_none (divided a scale) (lowest_one t) (map lowest_one tracks) (one_has t ∙ e)) rest

  one_scale : (t : Track) → HasTimescale t → HasTimescale (lowest_one t)
  one_scale t h = some_divided (own t) t.head.media.timescale h (divisor_divides (track_times (m words) t)).0

  all_scales : (tracks : List Track) → AllByRecursion HasTimescale tracks → AllByRecursion HasTimescale (map lowest_one tracks)
  all_scales [] h = tt
  all_scales (t ∷ tracks) h = (one_scale t h.0, all_scales tracks h.1)

  -- a track that waits, but how long its edits last
  abbrev parted : (Moment → ℕ) → Track → Track
  parted wait t = track_by (m words) (λ n. n) (divided (own t)) (waiting_track (wait_of scale wait t) t)

  module _ (all : List Track) (h : AllByRecursion HasTimescale all) (none : list_any says_more all ≡ false) (k : AllLast all) where
    abbrev wait : Moment → ℕ
    wait = delay (first_moments scale all)

    abbrev again : Moment → ℕ
    again = delay (first_moments (divided a scale) (map lowest_one all))

    less : 0 < divided a scale
    less = some_divided a scale some whole

    same_wait : (t : Track) → HasTimescale t → says_more t ≡ false → Divides a (lasting t.head.edits) → wait_of (divided a scale) again (lowest_one t) ≡ wait_of scale wait t
    same_wait t above simple lasts = by (has_samples t) refl
      where
        by : (b : Bool) → has_samples t ≡ b → wait_of (divided a scale) again (lowest_one t) ≡ wait_of scale wait t
        by true e =
            wait_of_some (divided a scale) again (lowest_one t) (one_has t ∙ e)
            ∙ sym (one_step (pos 0) 1 (omega arith) (first_shown scale t) (first_shown (divided a scale) (lowest_one t)) (mul-pos some above) (mul-pos less (one_scale t above)) (one_begins t simple e lasts)
            (first_moments scale all) (first_moments (divided a scale) (map lowest_one all)) (moments_have_scales scale some all h) (moments_have_scales (divided a scale) less (map lowest_one all) (all_scales all h)) (all_begin all none k))
            ∙ sym (wait_of_some scale wait t e)
        by false e = wait_of_none (divided a scale) again (lowest_one t) (one_has t ∙ e) ∙ sym (wait_of_none scale wait t e)

    all_parted : (tracks : List Track) → AllByRecursion HasTimescale tracks → list_any says_more tracks ≡ false → AllLast tracks
        → waiting_tracks (map (wait_of (divided a scale) again) (map lowest_one tracks)) (map lowest_one tracks) ≡ map (parted wait) tracks
    all_parted [] above simple lasts = refl
    all_parted (t ∷ tracks) above simple lasts =
        let simply = or_is_false (says_more t) (list_any says_more tracks) simple in
        let one = (λ i. waiting_track (same_wait t above.0 simply.0 (first_last t tracks lasts) i) (lowest_one t)) ∙ waiting_said words a (own t) (wait_of scale wait t) t in
        λ i. one i ∷ all_parted tracks above.1 simply.1 (others_last t tracks lasts) i

-- ---- in lowest terms again

-- `l` leaves out ends and timing if the others do
module _ (words l : Without) (ends : words.ends ≡ true → l.ends ≡ true) where
  timing : false ≡ true → l.timing ≡ true
  timing e = absurd (false_true e)

  lowest_parted : (a place g : ℕ) (u : Track) → Divides g (track_times (m words) u) → lowest_track l a (number_track l place (reduce_track l (track_by (m words) (λ n. n) (divided g) u))) ≡ lowest_track l a (number_track l place (reduce_track l u))
  lowest_parted a place g u h =
      let r = number_track l place (reduce_track l u) in
      ap (λ (t : Track). lowest_track l a (number_track l place t)) (track_between (m words) l ends timing g (λ n. n) u h)
      ∙ (λ i. lowest_track l a (track_by l (λ n. sym (div-one n) i) (divided g) r))
      ∙ lowest_of_divided l a 1 g r (track_divides (m words) l ends timing g u h)
      ∙ (let one : 1 * a ≡ a = omega arith in ap (λ k. lowest_track l k r) one)

  lasting_stays : (f : ℕ → ℕ) (edits : List Edit) → lasting (map (edit_by (λ n. n) f) edits) ≡ lasting edits
  lasting_stays f [] = refl
  lasting_stays f (e ∷ edits) = ap (λ times. pos e.segment_duration ∷ times) (lasting_stays f edits)

  lasting_left : (f : ℕ → ℕ) (edits : List Edit) → lasting (if l.edits then [] else map (edit_by (λ n. n) f) edits) ≡ lasting (if l.edits then [] else edits)
  lasting_left f edits = by l.edits
    where
      by : (b : Bool) → lasting (if b then [] else map (edit_by (λ n. n) f) edits) ≡ lasting (if b then [] else edits)
      by true = refl
      by false = lasting_stays f edits

  module _ (scale a : ℕ) (some : 0 < scale) (whole : a ∣ scale) (wait : Moment → ℕ) where
    abbrev part : Track → Track
    part = parted words scale a some whole wait

    -- a track that waits
    abbrev told_one : Track → Track
    told_one t = waiting_track (wait_of scale wait t) t

    segments_stay : (place : ℕ) (tracks : List Track) → segment_times (number_tracks l place (map (reduce_track l) (map part tracks))) ≡ segment_times (number_tracks l place (map (reduce_track l) (map told_one tracks)))
    segments_stay place [] = refl
    segments_stay place (t ∷ tracks) = λ i. lasting_left (divided (divisor_of (track_times (m words) t))) (told_one t).head.edits i ++ segments_stay (suc place) tracks i

    tracks_stay : (b place : ℕ) (tracks : List Track) → map (lowest_track l b) (number_tracks l place (map (reduce_track l) (map part tracks))) ≡ map (lowest_track l b) (number_tracks l place (map (reduce_track l) (map told_one tracks)))
    tracks_stay b place [] = refl
    tracks_stay b place (t ∷ tracks) =
        let g = divisor_of (track_times (m words) t) in
        let one = lowest_parted b place g (told_one t) (waiting_divides words a g (wait_of scale wait t) t (divisor_divides (track_times (m words) t))) in
        λ i. one i ∷ tracks_stay b (suc place) tracks i

    whole_stays : (movie : MovieHead) (tracks : List Track) → lowest l (reduce l (record { movie = movie; tracks = map part tracks })) ≡ lowest l (reduce l (record { movie = movie; tracks = map told_one tracks }))
    whole_stays movie tracks =
        let p : Presentation = record { movie = movie; tracks = map part tracks } in
        let r = reduce l p in
        let q = reduce l (record { movie = movie; tracks = map told_one tracks }) in
        let times : movie_times l r ≡ movie_times l q = ap (λ ts. pos (counted_timescale l r.movie.timescale) ∷ ts) (segments_stay 1 tracks) in
        (λ i. record { movie = record r.movie { timescale = timescale_by l (divided (divisor_of (times i))) r.movie.timescale }; tracks = map (lowest_track l (divisor_of (times i))) r.tracks })
        ∙ (λ i. record { movie = record r.movie { timescale = timescale_by l (divided (divisor_of (movie_times l q))) r.movie.timescale }; tracks = tracks_stay (divisor_of (movie_times l q)) 1 tracks i })

  -- ---- of edits that say how long tracks wait

  told_between : (r : Presentation) → HasTimescales r → lowest l (reduce l (told true (lowest (m words) r))) ≡ lowest l (reduce l (told true r))
  told_between r h = by (says_beginnings r) refl
    where
      whole : Divides (divisor_of (movie_times (m words) r)) (movie_times (m words) r)
      whole = divisor_divides (movie_times (m words) r)

      by : (b : Bool) → says_beginnings r ≡ b → lowest l (reduce l (told true (lowest (m words) r))) ≡ lowest l (reduce l (told true r))
      by true e =
          let a = divisor_of (movie_times (m words) r) in
          let q = lowest (m words) r in
          let wait = delay (first_moments r.movie.timescale r.tracks) in
          let none = not_is_true (list_any says_more r.tracks) e in
          let is : told true q ≡ record { movie = waiting_movie r.movie; tracks = map (parted words r.movie.timescale a h.0 whole.0 wait) r.tracks } =
          where_told (delay (first_moments q.movie.timescale q.tracks)) q (lowest_says words r.movie.timescale a h.0 whole.0 r.tracks ∙ e)
          ∙ (λ i. record { movie = waiting_movie r.movie; tracks = all_parted words r.movie.timescale a h.0 whole.0 r.tracks h.1 none whole.1 r.tracks h.1 none whole.1 i }) in
          let back : record { movie = waiting_movie r.movie; tracks = map (λ (t : Track). waiting_track (wait_of r.movie.timescale wait t) t) r.tracks } ≡ told true r =
          (λ i. record { movie = waiting_movie r.movie; tracks = sym (waiting_each (wait_of r.movie.timescale wait) r.tracks) i }) ∙ sym (where_told wait r e) in
          (λ i. lowest l (reduce l (is i)))
          ∙ whole_stays r.movie.timescale a h.0 whole.0 wait (waiting_movie r.movie) r.tracks
          ∙ (λ i. lowest l (reduce l (back i)))
      by false e =
          let a = divisor_of (movie_times (m words) r) in
          let q = lowest (m words) r in
          (λ i. lowest l (reduce l (where_more (delay (first_moments q.movie.timescale q.tracks)) q (lowest_says words r.movie.timescale a h.0 whole.0 r.tracks ∙ e) i)))
          ∙ lowest_between (m words) l ends timing r
          ∙ (λ i. lowest l (reduce l (sym (where_more (delay (first_moments r.movie.timescale r.tracks)) r e) i)))

-- What is left where it doesn't count how tracks begin is the same of times in lowest terms.
pub waited_lowest : (words l : Without) → (words.ends ≡ true → l.ends ≡ true) → (r : Presentation) → HasTimescales r → lowest l (reduce l (waited true (lowest (m words) r))) ≡ lowest l (reduce l (waited true r))
waited_lowest words l ends r h =
    let more = both l only_origins in
    begun_scaled true l (told true (lowest (m words) r))
    ∙ told_between words more (λ e. ap (λ b. b || false) (ends e)) r h
    ∙ sym (begun_scaled true l (told true r))
