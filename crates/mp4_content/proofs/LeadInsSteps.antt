-- What is left says how long each track waits, and nothing else of how it begins; and one step of all of them isn't left.
use Rattle.std.proofs.Common.{◌≡◌, ℕ, ◌+◌, ◌*◌, ◌<◌, max, Bool, true, false, if◌then◌else◌, List, [], ◌∷◌, map, refl, sym, ap, subst, ◌∙◌, arith, mul-one, ℤ, pos, ◌+ℤ◌, ◌-ℤ◌, ◌*ℤ◌}
use Rattle.std.specs.Prelude.{not}
use Rattle.std.specs.List.{AllByRecursion, AllZip}
use Rattle.std.proofs.lemmas.Int.{ints}
use borrow.Author.Differences.{up, down}
use Rattle.mp4_present.specs.format.Presentation.{Track, Presentation}
use Rattle.mp4_present.specs.format.Waiting.{microseconds, waiting_movie, waiting_tracks}
use Rattle.mp4_content.specs.format.Reduced.{first_offset}
use Rattle.mp4_content.specs.format.LeadIns.{waits, shown_from, has_samples, says_more, says_beginnings, Moment, first_shown, first_moments, delay, wait_of, delays_of, begun, all_begun, waited}
use Rattle.mp4_content.specs.format.LeadInsLaws.{delays, unwaited, WaitedIsExact, BeginsLater, StepCountsNot, start_later, all_later, SecondsCountNot}
use Rattle.mp4_content.proofs.LeadInsMoments.{HasScale, same_step}
use Rattle.mp4_content.proofs.LeadInsTracks.{HasTimescale, waits_said, begun_has, all_twice, begin_after, after_again, wait_track, wait_of_some, wait_of_none, still_has, any_same, moments_of_some, moments_of_none, moments_have_scales, by_waits, where_some, where_none, says_still}

-- ---- tracks

abbrev none : Moment → ℕ
none x = 0

-- how long each track waits, as it says itself
abbrev said : List Track → List ℕ
said tracks = map (λ (t : Track). waits t.head.edits) tracks

module _ (scale : ℕ) (wait : Moment → ℕ) where
  waits_put : (tracks : List Track) → map (wait_track scale wait) tracks ≡ waiting_tracks (map (wait_of scale wait) tracks) (map (wait_track scale none) tracks)
  waits_put [] = refl
  waits_put (t ∷ tracks) = λ i. wait_track scale wait t ∷ waits_put tracks i

  waits_read : (tracks : List Track) → said (map (wait_track scale wait) tracks) ≡ map (wait_of scale wait) tracks
  waits_read [] = refl
  waits_read (t ∷ tracks) = λ i. waits_said (wait_of scale wait t) i ∷ waits_read tracks i

  none_wait : (tracks : List Track) → map (wait_track microseconds none) (map (wait_track scale wait) tracks) ≡ map (wait_track scale none) tracks
  none_wait [] = refl
  none_wait (t ∷ tracks) =
      let w = wait_of scale wait t in
      let one = (λ i. begin_after (if still_has scale wait t i then 0 else 0) (begin_after w t)) ∙ after_again (wait_of scale none t) w t in
      λ i. one i ∷ none_wait tracks i

  have_still : (tracks : List Track) → map has_samples (map (wait_track scale wait) tracks) ≡ map has_samples tracks
  have_still [] = refl
  have_still (t ∷ tracks) = λ i. still_has scale wait t i ∷ have_still tracks i

begun_have : (tracks : List Track) → map has_samples (map begun tracks) ≡ map has_samples tracks
begun_have [] = refl
begun_have (t ∷ tracks) = λ i. begun_has t i ∷ begun_have tracks i

-- ---- what is left

abbrev put_all : List ℕ → Presentation → Presentation
put_all ns p = if says_beginnings p then record p { tracks = waiting_tracks ns p.tracks } else p

abbrev all_said : Presentation → List ℕ
all_said p = if says_beginnings p then said p.tracks else []

abbrev all_have : Presentation → List Bool
all_have p = map has_samples p.tracks

module _ (p : Presentation) where
  abbrev wait : Moment → ℕ
  wait = delay (first_moments p.movie.timescale p.tracks)

  says_unwaited : says_beginnings (unwaited p) ≡ says_beginnings p
  says_unwaited = says_still none p

  is_put : waited true p ≡ put_all (delays p) (unwaited p)
  is_put = by (says_beginnings p) refl
    where
      by : (b : Bool) → says_beginnings p ≡ b → waited true p ≡ put_all (delays p) (unwaited p)
      by true e =
          where_some wait p e
          ∙ (λ i. record { movie = waiting_movie p.movie; tracks = waits_put p.movie.timescale wait p.tracks i })
          ∙ (λ i. record (sym (where_some none p e) i) { tracks = waiting_tracks (if sym e i then delays_of p else []) (sym (where_some none p e) i).tracks })
          ∙ (λ i. if sym (says_unwaited ∙ e) i then record (unwaited p) { tracks = waiting_tracks (delays p) (unwaited p).tracks } else unwaited p)
      by false e = where_none wait p e ∙ sym (where_none none p e) ∙ (λ i. if sym (says_unwaited ∙ e) i then record (unwaited p) { tracks = waiting_tracks (delays p) (unwaited p).tracks } else unwaited p)

  is_read : all_said (waited true p) ≡ delays p
  is_read = by (says_beginnings p) refl
    where
      by : (b : Bool) → says_beginnings p ≡ b → all_said (waited true p) ≡ delays p
      by true e =
          (λ i. if (says_still wait p ∙ e) i then said (waited true p).tracks else [])
          ∙ ap (λ (q : Presentation). said q.tracks) (where_some wait p e)
          ∙ waits_read p.movie.timescale wait p.tracks
          ∙ (λ i. if sym e i then delays_of p else [])
      by false e = (λ i. if (says_still wait p ∙ e) i then said (waited true p).tracks else []) ∙ (λ i. if sym e i then delays_of p else [])

  is_unwaited : unwaited (waited true p) ≡ unwaited p
  is_unwaited = by (says_beginnings p) refl
    where
      by : (b : Bool) → says_beginnings p ≡ b → unwaited (waited true p) ≡ unwaited p
      by true e =
          where_some none (waited true p) (says_still wait p ∙ e)
          ∙ ap (by_waits none) (where_some wait p e)
          ∙ (λ i. record { movie = waiting_movie p.movie; tracks = none_wait p.movie.timescale wait p.tracks i })
          ∙ sym (where_some none p e)
      by false e =
          where_none none (waited true p) (says_still wait p ∙ e)
          ∙ ap all_begun (where_none wait p e)
          ∙ (λ i. record p { tracks = all_twice p.tracks i })
          ∙ sym (where_none none p e)

  have_unwaited : all_have (unwaited p) ≡ all_have p
  have_unwaited = by (says_beginnings p) refl
    where
      by : (b : Bool) → says_beginnings p ≡ b → all_have (unwaited p) ≡ all_have p
      by true e = ap all_have (where_some none p e) ∙ have_still p.movie.timescale none p.tracks
      by false e = ap all_have (where_none none p e) ∙ begun_have p.tracks

pub waited_is_exact : WaitedIsExact
waited_is_exact p q = (
  λ e. (sym (is_unwaited p) ∙ ap unwaited e ∙ is_unwaited q, sym (is_read p) ∙ ap all_said e ∙ is_read q),
  λ h. is_put p ∙ (λ i. put_all (h.1 i) (h.0 i)) ∙ sym (is_put q),
)

-- ---- one step of all

module _ (step : ℤ) (scale : ℕ) (some : 0 < scale) where
  pub one_step : (x u : Moment) → HasScale x → HasScale u → BeginsLater step scale x u → (xs us : List Moment) → AllByRecursion HasScale xs → AllByRecursion HasScale us → AllZip (BeginsLater step scale) xs us → delay xs x ≡ delay us u
  one_step x u a b h [] [] xa ub all = refl
  one_step x u a b h [] (v ∷ us) xa ub all = absurd all
  one_step x u a b h (y ∷ xs) [] xa ub all = absurd all
  one_step x u a b h (y ∷ xs) (v ∷ us) xa ub all = λ i. max (same_step step scale some x y u v a xa.0 b ub.0 h all.0 i) (one_step x u a b h xs us xa.1 ub.1 all.1 i)

  each_step : (ys vs : List Moment) → AllByRecursion HasScale ys → AllByRecursion HasScale vs → AllZip (BeginsLater step scale) ys vs → (xs us : List Moment) → AllByRecursion HasScale xs → AllByRecursion HasScale us → AllZip (BeginsLater step scale) xs us → map (delay ys) xs ≡ map (delay vs) us
  each_step ys vs ya vb all [] [] xa ub h = refl
  each_step ys vs ya vb all [] (u ∷ us) xa ub h = absurd h
  each_step ys vs ya vb all (x ∷ xs) [] xa ub h = absurd h
  each_step ys vs ya vb all (x ∷ xs) (u ∷ us) xa ub h = λ i. one_step x u xa.0 ub.0 h.0 ys vs ya vb all i ∷ each_step ys vs ya vb all xs us xa.1 ub.1 h.1 i

abbrev first_or_0 : List ℕ → ℕ
first_or_0 [] = 0
first_or_0 (n ∷ ns) = n

abbrev rest_of : List ℕ → List ℕ
rest_of [] = []
rest_of (n ∷ ns) = ns

-- the next of these where there are samples, and 0 where there are none
abbrev spread : List Bool → List ℕ → List ℕ
spread [] ns = []
spread (true ∷ bs) ns = first_or_0 ns ∷ spread bs (rest_of ns)
spread (false ∷ bs) ns = 0 ∷ spread bs ns

waits_spread : (scale : ℕ) (wait : Moment → ℕ) (tracks : List Track) → map (wait_of scale wait) tracks ≡ spread (map has_samples tracks) (map wait (first_moments scale tracks))
waits_spread scale wait [] = refl
waits_spread scale wait (t ∷ tracks) = by (has_samples t) refl (waits_spread scale wait tracks)
  where
    by : (b : Bool) → has_samples t ≡ b → map (wait_of scale wait) tracks ≡ spread (map has_samples tracks) (map wait (first_moments scale tracks))
        → map (wait_of scale wait) (t ∷ tracks) ≡ spread (map has_samples (t ∷ tracks)) (map wait (first_moments scale (t ∷ tracks)))
    by true e rest = (λ i. wait_of_some scale wait t e i ∷ rest i) ∙ (λ i. spread (sym e i ∷ map has_samples tracks) (map wait (sym (moments_of_some scale t tracks e) i)))
    by false e rest = (λ i. wait_of_none scale wait t e i ∷ rest i) ∙ (λ i. spread (sym e i ∷ map has_samples tracks) (map wait (sym (moments_of_none scale t tracks e) i)))

pub step_counts_not : StepCountsNot
step_counts_not p q step scale h k some same all =
    let xs = first_moments p.movie.timescale p.tracks in
    let us = first_moments q.movie.timescale q.tracks in
    let a = moments_have_scales p.movie.timescale h.0 p.tracks h.1 in
    let b = moments_have_scales q.movie.timescale k.0 q.tracks k.1 in
    let says = sym (says_unwaited p) ∙ ap says_beginnings same ∙ says_unwaited q in
    let have = sym (have_unwaited p) ∙ ap all_have same ∙ have_unwaited q in
    let each = each_step step scale some xs us a b all xs us a b all in
    (waited_is_exact p q).1 (
      same,
      (λ i. if says_beginnings p then waits_spread p.movie.timescale (delay xs) p.tracks i else [])
          ∙ (λ i. if says i then spread (have i) (each i) else [])
          ∙ (λ i. if says_beginnings q then sym (waits_spread q.movie.timescale (delay us) q.tracks) i else []),
    )

-- ---- some seconds

later_by : (m a b : ℤ) (scale r seconds : ℕ) → b ≡ a +ℤ pos (seconds * r) → (m +ℤ b *ℤ pos scale) *ℤ pos (scale * r * 1) ≡ ((m +ℤ a *ℤ pos scale) *ℤ pos 1 +ℤ pos seconds *ℤ pos (scale * r)) *ℤ pos (scale * r)
later_by m a b scale r seconds e =
    let one : up b + down a ≡ down b + up a + seconds * r = omega (arith, ints, e) in
    let many : (up b + down a) * scale ≡ (down b + up a + seconds * r) * scale = ap (λ n. n * scale) one in
    let same : m +ℤ b *ℤ pos scale ≡ (m +ℤ a *ℤ pos scale) *ℤ pos 1 +ℤ pos seconds *ℤ pos (scale * r) = omega (arith, ints, many) in
    λ i. same i *ℤ pos (mul-one (scale * r) i)

module _ (seconds : ℕ) where
  -- a track with samples
  abbrev moved : Track → Track
  moved t = record t { start = t.start + seconds * t.head.media.timescale }

  start_moved : (t : Track) → has_samples t ≡ true → start_later seconds t ≡ moved t
  start_moved t e = λ i. record t { start = if e i then t.start + seconds * t.head.media.timescale else t.start }

  begins : (scale : ℕ) (t : Track) → BeginsLater (pos seconds) 1 (first_shown scale t) (first_shown scale (moved t))
  begins scale t =
      let r = t.head.media.timescale in
      let first = first_offset t.samples in
      let shown = shown_from t.head.edits in
      later_by (pos (waits t.head.edits * r)) ((pos t.start +ℤ first) -ℤ shown) ((pos (t.start + seconds * r) +ℤ first) -ℤ shown) scale r seconds (omega (arith, ints))

  all_begin : (scale : ℕ) (tracks : List Track) → AllZip (BeginsLater (pos seconds) 1) (first_moments scale tracks) (first_moments scale (map (start_later seconds) tracks))
  all_begin scale [] = tt
  all_begin scale (t ∷ tracks) = by (has_samples t) refl (all_begin scale tracks)
    where
      left : List Track
      left = map (start_later seconds) tracks

      both : (xs us vs ws : List Moment) → xs ≡ us → vs ≡ ws → AllZip (BeginsLater (pos seconds) 1) us ws → AllZip (BeginsLater (pos seconds) 1) xs vs
      both xs us vs ws e k h = subst (λ (ys : List Moment). AllZip (BeginsLater (pos seconds) 1) xs ys) (sym k) (subst (λ (ys : List Moment). AllZip (BeginsLater (pos seconds) 1) ys ws) (sym e) h)

      by : (b : Bool) → has_samples t ≡ b → AllZip (BeginsLater (pos seconds) 1) (first_moments scale tracks) (first_moments scale left) → AllZip (BeginsLater (pos seconds) 1) (first_moments scale (t ∷ tracks)) (first_moments scale (start_later seconds t ∷ left))
      by true e rest =
          let second = moments_of_some scale (start_later seconds t) left e ∙ (λ i. first_shown scale (start_moved t e i) ∷ first_moments scale left) in
          both (first_moments scale (t ∷ tracks)) (first_shown scale t ∷ first_moments scale tracks) (first_moments scale (start_later seconds t ∷ left)) (first_shown scale (moved t) ∷ first_moments scale left)
          (moments_of_some scale t tracks e) second (begins scale t, rest)
      by false e rest =
          both (first_moments scale (t ∷ tracks)) (first_moments scale tracks) (first_moments scale (start_later seconds t ∷ left)) (first_moments scale left)
          (moments_of_none scale t tracks e) (moments_of_none scale (start_later seconds t) left e) rest

  scales_stay : (tracks : List Track) → AllByRecursion HasTimescale tracks → AllByRecursion HasTimescale (map (start_later seconds) tracks)
  scales_stay [] h = tt
  scales_stay (t ∷ tracks) h = (h.0, scales_stay tracks h.1)

  says_later : (p : Presentation) → says_beginnings (all_later seconds p) ≡ says_beginnings p
  says_later p = λ i. not (any_same says_more (start_later seconds) (λ t. refl) p.tracks i)

  none_later : (scale : ℕ) (tracks : List Track) → map (wait_track scale none) tracks ≡ map (wait_track scale none) (map (start_later seconds) tracks)
  none_later scale [] = refl
  none_later scale (t ∷ tracks) = λ i. wait_track scale none t ∷ none_later scale tracks i

  begun_later : (tracks : List Track) → map begun tracks ≡ map begun (map (start_later seconds) tracks)
  begun_later [] = refl
  begun_later (t ∷ tracks) = λ i. begun t ∷ begun_later tracks i

  same_unwaited : (p : Presentation) → unwaited p ≡ unwaited (all_later seconds p)
  same_unwaited p = by (says_beginnings p) refl
    where
      by : (b : Bool) → says_beginnings p ≡ b → unwaited p ≡ unwaited (all_later seconds p)
      by true e =
          where_some none p e
          ∙ (λ i. record { movie = waiting_movie p.movie; tracks = none_later p.movie.timescale p.tracks i })
          ∙ sym (where_some none (all_later seconds p) (says_later p ∙ e))
      by false e = where_none none p e ∙ (λ i. record p { tracks = begun_later p.tracks i }) ∙ sym (where_none none (all_later seconds p) (says_later p ∙ e))

pub seconds_count_not : SecondsCountNot
seconds_count_not seconds p h =
    sym (step_counts_not p (all_later seconds p) (pos seconds) 1 h (h.0, scales_stay seconds p.tracks h.1) (omega arith) (same_unwaited seconds p) (all_begin seconds p.movie.timescale p.tracks))
