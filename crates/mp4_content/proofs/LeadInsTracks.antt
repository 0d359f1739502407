-- Tracks of which each waits as long as something says and begins at 0: their edits say no more then, and twice is once.
use Rattle.std.proofs.Common.{◌≡◌, inl, inr, max, ℕ, ◌*◌, ◌<◌, ◌≤◌, ◌==◌, Bool, true, false, if◌then◌else◌, List, [], ◌∷◌, map, refl, sym, ap, subst, ◌∙◌, arith, mul-pos, ℤ, pos, negsuc, ◌+ℤ◌, ◌-ℤ◌, ◌*ℤ◌}
use Rattle.std.specs.Prelude.{not, ◌&&◌, ◌||◌}
use Rattle.std.specs.List.{AllByRecursion, list_any}
use Rattle.std.proofs.lemmas.Bool.Decides.{nat_tests}
use Rattle.std.proofs.lemmas.Int.{ints}
use Rattle.mp4_boxes.proofs.Plain.{false_true, or_is_false}
use Rattle.mp4_head.specs.format.Head.{Edit}
use Rattle.mp4_present.specs.format.Presentation.{Sample, Track, Presentation}
use Rattle.mp4_present.specs.format.Waiting.{microseconds, waiting, waiting_movie, waiting_track, waiting_tracks, waiting_all}
use Rattle.mp4_content.specs.format.Reduced.{first_offset}
use Rattle.mp4_content.specs.format.LeadIns.{is_last, is_lead_in, waits, shown_from, some_sample, has_samples, begins_simply, says_more, says_beginnings, Moment, first_shown, first_moments, max_duration, delay, wait_of, waits_by, told_by, offset_less, begun, all_begun, wait_each, waited}
use Rattle.mp4_content.specs.format.LeadInsLaws.{WaitedIsFixed}
use Rattle.mp4_content.proofs.LeadInsMoments.{AnyOf, HasScale, some_at_once, delay_fits, most_more, all_more, settled, later_settled}

-- ---- edits that say how long a track waits

-- by whether that is 0
abbrev pub waiting_if : Bool → ℕ → List Edit
waiting_if b wait = if b then [] else record { segment_duration = wait; media_time = negsuc 0; rate_integer = pos 1; rate_fraction = pos 0 } ∷ record { segment_duration = 0; media_time = pos 0; rate_integer = pos 1; rate_fraction = pos 0 } ∷ []

waiting_leads : (wait : ℕ) → (is_last (waiting wait) || is_lead_in (waiting wait)) ≡ true
waiting_leads wait = by (wait == 0)
  where
    by : (b : Bool) → (is_last (waiting_if b wait) || is_lead_in (waiting_if b wait)) ≡ true
    by true = refl
    by false = refl

pub waits_said : (wait : ℕ) → waits (waiting wait) ≡ wait
waits_said wait = by (wait == 0) refl
  where
    by : (b : Bool) → (wait == 0) ≡ b → waits (waiting_if b wait) ≡ wait
    by true e = grind (arith, nat_tests)
    by false e = omega arith

shown_at_0 : (wait : ℕ) → shown_from (waiting wait) ≡ pos 0
shown_at_0 wait = by (wait == 0)
  where
    by : (b : Bool) → shown_from (waiting_if b wait) ≡ pos 0
    by true = refl
    by false = refl

-- ---- a track that begins at 0

mapped_has : (f : Sample → Sample) (samples : List Sample) → some_sample (map f samples) ≡ some_sample samples
mapped_has f [] = refl
mapped_has f (s ∷ samples) = refl

pub begun_has : (t : Track) → has_samples (begun t) ≡ has_samples t
begun_has t = mapped_has (offset_less (first_offset t.samples)) t.samples

pub less_itself : (z : ℤ) → z -ℤ z ≡ pos 0
less_itself z = omega (arith, ints)

pub first_at_0 : (samples : List Sample) → first_offset (map (offset_less (first_offset samples)) samples) ≡ pos 0
first_at_0 [] = refl
first_at_0 (s ∷ samples) = less_itself s.offset

less_0 : (z : ℤ) → z -ℤ pos 0 ≡ z
less_0 z = omega (arith, ints)

offsets_twice : (first : ℤ) (samples : List Sample) → map (offset_less (pos 0)) (map (offset_less first) samples) ≡ map (offset_less first) samples
offsets_twice first [] = refl
offsets_twice first (s ∷ samples) = λ i. record s { offset = less_0 (s.offset -ℤ first) i } ∷ offsets_twice first samples i

begun_twice : (t : Track) → begun (begun t) ≡ begun t
begun_twice t =
    let first = first_offset t.samples in
    let same = (λ i. map (offset_less (first_at_0 t.samples i)) (map (offset_less first) t.samples)) ∙ offsets_twice first t.samples in
    λ i. record t { start = 0; samples = same i }

pub all_twice : (tracks : List Track) → map begun (map begun tracks) ≡ map begun tracks
all_twice [] = refl
all_twice (t ∷ tracks) = λ i. begun_twice t i ∷ all_twice tracks i

-- ---- and waits

abbrev pub begin_after : ℕ → Track → Track
begin_after wait t = begun (waiting_track wait t)

-- how long it waited before doesn't matter
pub after_again : (w v : ℕ) (t : Track) → begin_after w (begin_after v t) ≡ begin_after w t
after_again w v t = begun_twice (waiting_track w t)

-- when it begins
begun_shown : (wait : ℕ) (t : Track) → first_shown microseconds (begin_after wait t) ≡ settled wait t.head.media.timescale
begun_shown wait t =
    let nothing : pos (wait * t.head.media.timescale) +ℤ pos 0 *ℤ pos microseconds ≡ pos (wait * t.head.media.timescale) = omega (arith, ints) in
    (λ i. record { ticks = pos (waits_said wait i * t.head.media.timescale) +ℤ ((pos 0 +ℤ first_at_0 t.samples i) -ℤ shown_at_0 wait i) *ℤ pos microseconds; scale = microseconds * t.head.media.timescale })
    ∙ (λ i. record { ticks = nothing i; scale = microseconds * t.head.media.timescale })

-- ---- what edits say then

and_false : (b : Bool) → (b && false) ≡ false
and_false true = refl
and_false false = refl

begun_more : (t : Track) → says_more (begun t) ≡ says_more t
begun_more t = λ i. begun_has t i && not (begins_simply t)

waiting_no_more : (wait : ℕ) (t : Track) → says_more (begin_after wait t) ≡ false
waiting_no_more wait t =
    let has = has_samples (begin_after wait t) in
    (λ i. has && not (waiting_leads wait i)) ∙ and_false has

pub any_same : (is_so : Track → Bool) (f : Track → Track) → ((t : Track) → is_so (f t) ≡ is_so t) → (tracks : List Track) → list_any is_so (map f tracks) ≡ list_any is_so tracks
any_same is_so f same [] = refl
any_same is_so f same (t ∷ tracks) = λ i. same t i || any_same is_so f same tracks i

none_more : (f : Track → ℕ) (tracks : List Track) → list_any says_more (map (λ (t : Track). begin_after (f t) t) tracks) ≡ false
none_more f [] = refl
none_more f (t ∷ tracks) = λ i. waiting_no_more (f t) t i || none_more f tracks i

-- ---- by when tracks begin

module _ (scale : ℕ) (wait : Moment → ℕ) where
  abbrev pub wait_track : Track → Track
  wait_track t = begin_after (wait_of scale wait t) t

  pub wait_of_some : (t : Track) → has_samples t ≡ true → wait_of scale wait t ≡ wait (first_shown scale t)
  wait_of_some t e = λ i. if e i then wait (first_shown scale t) else 0

  pub wait_of_none : (t : Track) → has_samples t ≡ false → wait_of scale wait t ≡ 0
  wait_of_none t e = λ i. if e i then wait (first_shown scale t) else 0

  pub still_has : (t : Track) → has_samples (wait_track t) ≡ has_samples t
  still_has t = begun_has (waiting_track (wait_of scale wait t) t)

pub moments_of_some : (scale : ℕ) (t : Track) (tracks : List Track) → has_samples t ≡ true → first_moments scale (t ∷ tracks) ≡ first_shown scale t ∷ first_moments scale tracks
moments_of_some scale t tracks e = rw e refl

pub moments_of_none : (scale : ℕ) (t : Track) (tracks : List Track) → has_samples t ≡ false → first_moments scale (t ∷ tracks) ≡ first_moments scale tracks
moments_of_none scale t tracks e = rw e refl

abbrev pub HasTimescale : Track → Type 0
HasTimescale t = 0 < t.head.media.timescale

pub moments_have_scales : (scale : ℕ) → 0 < scale → (tracks : List Track) → AllByRecursion HasTimescale tracks → AllByRecursion HasScale (first_moments scale tracks)
moments_have_scales scale some [] h = tt
moments_have_scales scale some (t ∷ tracks) h = by (has_samples t) refl (moments_have_scales scale some tracks h.1)
  where
    by : (b : Bool) → has_samples t ≡ b → AllByRecursion HasScale (first_moments scale tracks) → AllByRecursion HasScale (first_moments scale (t ∷ tracks))
    by true e rest = subst (AllByRecursion HasScale) (sym (moments_of_some scale t tracks e)) (mul-pos some h.0, rest)
    by false e rest = subst (AllByRecursion HasScale) (sym (moments_of_none scale t tracks e)) rest

-- ---- tracks again

module _ (scale : ℕ) (wait : Moment → ℕ) where
  -- how much later one is that waits so long
  delays_said : (w s : ℕ) → w ≤ max_duration → 0 < s → (tracks : List Track) → AllByRecursion HasTimescale tracks → delay (first_moments microseconds (map (wait_track scale wait) tracks)) (settled w s) ≡ most_more w (map wait (first_moments scale tracks))
  delays_said w s fits some [] h = refl
  delays_said w s fits some (t ∷ tracks) h = by (has_samples t) refl (delays_said w s fits some tracks h.1)
    where
      rest : List Track
      rest = map (wait_track scale wait) tracks

      by : (b : Bool) → has_samples t ≡ b → delay (first_moments microseconds rest) (settled w s) ≡ most_more w (map wait (first_moments scale tracks)) → delay (first_moments microseconds (wait_track scale wait t ∷ rest)) (settled w s) ≡ most_more w (map wait (first_moments scale (t ∷ tracks)))
      by true e behind =
          let v = wait (first_shown scale t) in
          let r = t.head.media.timescale in
          let moment = begun_shown (wait_of scale wait t) t ∙ (λ i. settled (wait_of_some scale wait t e i) r) in
          let list = moments_of_some microseconds (wait_track scale wait t) rest (still_has scale wait t ∙ e) ∙ ap (λ (m : Moment). m ∷ first_moments microseconds rest) moment in
          ap (λ (ms : List Moment). delay ms (settled w s)) list
          ∙ (λ i. max (later_settled w v s r fits some h.0 i) (behind i))
          ∙ ap (λ (ms : List Moment). most_more w (map wait ms)) (sym (moments_of_some scale t tracks e))
      by false e behind =
          ap (λ (ms : List Moment). delay ms (settled w s)) (moments_of_none microseconds (wait_track scale wait t) rest (still_has scale wait t ∙ e))
          ∙ behind
          ∙ ap (λ (ms : List Moment). most_more w (map wait ms)) (sym (moments_of_none scale t tracks e))

  -- Where one of them doesn't wait, each waits as long again.
  module _ (fits : (x : Moment) → wait x ≤ max_duration) (all : List Track) (h : AllByRecursion HasTimescale all) (first : AnyOf (λ v. v ≡ 0) (map wait (first_moments scale all))) where
    abbrev again : Moment → ℕ
    again = delay (first_moments microseconds (map (wait_track scale wait) all))

    wait_again : (t : Track) → HasTimescale t → wait_of microseconds again (wait_track scale wait t) ≡ wait_of scale wait t
    wait_again t some = by (has_samples t) refl
      where
        by : (b : Bool) → has_samples t ≡ b → wait_of microseconds again (wait_track scale wait t) ≡ wait_of scale wait t
        by true e =
            let w = wait (first_shown scale t) in
            let r = t.head.media.timescale in
            let is = wait_of_some scale wait t e in
            wait_of_some microseconds again (wait_track scale wait t) (still_has scale wait t ∙ e)
            ∙ ap again (begun_shown (wait_of scale wait t) t ∙ (λ i. settled (is i) r))
            ∙ delays_said w r (fits (first_shown scale t)) some all h
            ∙ all_more w (map wait (first_moments scale all)) first
            ∙ sym is
        by false e = wait_of_none microseconds again (wait_track scale wait t) (still_has scale wait t ∙ e) ∙ sym (wait_of_none scale wait t e)

    tracks_again : (tracks : List Track) → AllByRecursion HasTimescale tracks → map (wait_track microseconds again) (map (wait_track scale wait) tracks) ≡ map (wait_track scale wait) tracks
    tracks_again [] k = refl
    tracks_again (t ∷ tracks) k =
        let w = wait_of scale wait t in
        let one = (λ i. begin_after (wait_again t k.0 i) (wait_track scale wait t)) ∙ after_again w w t in
        λ i. one i ∷ tracks_again tracks k.1 i

-- ---- the whole

pub waiting_each : (f : Track → ℕ) (tracks : List Track) → waiting_tracks (map f tracks) tracks ≡ map (λ (t : Track). waiting_track (f t) t) tracks
waiting_each f [] = refl
waiting_each f (t ∷ tracks) = λ i. waiting_track (f t) t ∷ waiting_each f tracks i

begun_each : (f : Track → ℕ) (tracks : List Track) → map begun (map (λ (t : Track). waiting_track (f t) t) tracks) ≡ map (λ (t : Track). begin_after (f t) t) tracks
begun_each f [] = refl
begun_each f (t ∷ tracks) = λ i. begin_after (f t) t ∷ begun_each f tracks i

module _ (wait : Moment → ℕ) (p : Presentation) where
  pub where_told : says_beginnings p ≡ true → told_by wait p ≡ waiting_all (waits_by wait p) p
  where_told e = λ i. if e i then waiting_all (waits_by wait p) p else p

  pub where_more : says_beginnings p ≡ false → told_by wait p ≡ p
  where_more e = λ i. if e i then waiting_all (waits_by wait p) p else p

  -- each track waits
  abbrev pub by_waits : Presentation
  by_waits = record { movie = waiting_movie p.movie; tracks = map (wait_track p.movie.timescale wait) p.tracks }

  pub where_some : says_beginnings p ≡ true → wait_each wait p ≡ by_waits
  where_some e =
      let f = wait_of p.movie.timescale wait in
      ap all_begun (where_told e) ∙ (λ i. record { movie = waiting_movie p.movie; tracks = (ap (map begun) (waiting_each f p.tracks) ∙ begun_each f p.tracks) i })

  pub where_none : says_beginnings p ≡ false → wait_each wait p ≡ all_begun p
  where_none e = ap all_begun (where_more e)

  says_waiting : says_beginnings p ≡ true → says_beginnings by_waits ≡ true
  says_waiting e =
      let scale = p.movie.timescale in
      λ i. not (none_more (wait_of scale wait) p.tracks i)

  says_begun : says_beginnings (all_begun p) ≡ says_beginnings p
  says_begun = λ i. not (any_same says_more begun begun_more p.tracks i)

  pub says_still : says_beginnings (wait_each wait p) ≡ says_beginnings p
  says_still = by (says_beginnings p) refl
    where
      by : (b : Bool) → says_beginnings p ≡ b → says_beginnings (wait_each wait p) ≡ says_beginnings p
      by true e = ap says_beginnings (where_some e) ∙ says_waiting e ∙ sym e
      by false e = ap says_beginnings (where_none e) ∙ says_begun

mapped_any : {A : Type 0} (f : A → ℕ) (xs : List A) → AnyOf (λ x. f x ≡ 0) xs → AnyOf (λ v. v ≡ 0) (map f xs)
mapped_any f [] h = h
mapped_any f (x ∷ xs) (inl h) = inl h
mapped_any f (x ∷ xs) (inr h) = inr (mapped_any f xs h)

abbrev is_some : List Moment → Bool
is_some [] = false
is_some (x ∷ xs) = true

moments_are_some : (scale : ℕ) (tracks : List Track) → list_any has_samples tracks ≡ true → is_some (first_moments scale tracks) ≡ true
moments_are_some scale [] e = e
moments_are_some scale (t ∷ tracks) e = by (has_samples t) refl (moments_are_some scale tracks)
  where
    by : (b : Bool) → has_samples t ≡ b → (list_any has_samples tracks ≡ true → is_some (first_moments scale tracks) ≡ true) → is_some (first_moments scale (t ∷ tracks)) ≡ true
    by true k rest = ap is_some (moments_of_some scale t tracks k)
    by false k rest = ap is_some (moments_of_none scale t tracks k) ∙ rest (sym (ap (λ b. b || list_any has_samples tracks) k) ∙ e)

at_once : (xs : List Moment) → AllByRecursion HasScale xs → is_some xs ≡ true → AnyOf (λ x. delay xs x ≡ 0) xs
at_once [] h e = absurd (false_true e)
at_once (x ∷ xs) h e = some_at_once x xs h

-- where none has samples
none_again : (scale : ℕ) (wait again : Moment → ℕ) (tracks : List Track) → list_any has_samples tracks ≡ false → map (wait_track microseconds again) (map (wait_track scale wait) tracks) ≡ map (wait_track scale wait) tracks
none_again scale wait again [] e = refl
none_again scale wait again (t ∷ tracks) e =
    let parts = or_is_false (has_samples t) (list_any has_samples tracks) e in
    let w = wait_of_none scale wait t parts.0 in
    let v = wait_of_none microseconds again (wait_track scale wait t) (still_has scale wait t ∙ parts.0) in
    let one = (λ i. begin_after (v i) (wait_track scale wait t)) ∙ after_again 0 (wait_of scale wait t) t ∙ (λ i. begin_after (sym w i) t) in
    λ i. one i ∷ none_again scale wait again tracks parts.1 i

pub waited_is_fixed : WaitedIsFixed
waited_is_fixed p h = by (says_beginnings p) refl
  where
    scale : ℕ
    scale = p.movie.timescale

    moments : List Moment
    moments = first_moments scale p.tracks

    wait_once : Moment → ℕ
    wait_once = delay moments

    same : (b : Bool) → list_any has_samples p.tracks ≡ b
        → map (wait_track microseconds (delay (first_moments microseconds (map (wait_track scale wait_once) p.tracks)))) (map (wait_track scale wait_once) p.tracks) ≡ map (wait_track scale wait_once) p.tracks
    same true k =
        let first = mapped_any wait_once moments (at_once moments (moments_have_scales scale h.0 p.tracks h.1) (moments_are_some scale p.tracks k)) in
        tracks_again scale wait_once (delay_fits moments) p.tracks h.1 first p.tracks h.1
    same false k = none_again scale wait_once (delay (first_moments microseconds (map (wait_track scale wait_once) p.tracks))) p.tracks k

    by : (b : Bool) → says_beginnings p ≡ b → waited true (waited true p) ≡ waited true p
    by true e =
        let wait = delay moments in
        let q = by_waits wait p in
        ap (waited true) (where_some wait p e)
        ∙ where_some (delay (first_moments microseconds q.tracks)) q (says_waiting wait p e)
        ∙ (λ i. record { movie = q.movie; tracks = same (list_any has_samples p.tracks) refl i })
        ∙ sym (where_some wait p e)
    by false e =
        let wait = delay moments in
        let q = all_begun p in
        ap (waited true) (where_none wait p e)
        ∙ where_none (delay (first_moments scale q.tracks)) q (says_begun wait p ∙ e)
        ∙ (λ i. record p { tracks = all_twice p.tracks i })
        ∙ sym (where_none wait p e)
