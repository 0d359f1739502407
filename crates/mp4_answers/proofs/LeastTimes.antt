-- The least words with which two presentations are the same, where timescales may be among them: what remains the same without some things, and without others, does so without those that are among both, if timing and timescales are among both or neither.
use Rattle.std.proofs.Common.{◌≡◌, ℕ, suc, ◌<◌, Bool, true, false, ◌&&◌, ◌||◌, if◌then◌else◌, List, [], ◌∷◌, ◌++◌, length, refl, sym, ap, subst, ◌∙◌, arith, ℤ, pos, negsuc, ◌-ℤ◌}
use Rattle.std.specs.Prelude.{map}
use Rattle.std.specs.List.{AllByRecursion, AllZip}
use Rattle.mp4_head.specs.format.Head.{Edit}
use Rattle.mp4_head.proofs.Distinct.{map_twice}
use Rattle.mp4_present.specs.format.Presentation.{Sample, Track, Presentation, IsTrack, Valid}
use Rattle.mp4_content.specs.format.CoveringLaws.{Covers}
use Rattle.mp4_content.specs.format.Reduced.{duration_left, first_offset, is_at_end, number_track, number_tracks, offset_left, reduce, reduce_from, reduce_sample, reduce_samples, reduce_track, start_left, timescale_left}
use Rattle.mp4_content.specs.format.ReducedLaws.{nothing}
use Rattle.mp4_content.specs.format.Remaining.{remaining}
use Rattle.mp4_content.specs.format.Timescales.{counted_duration, counted_media_time, counted_timescale, edit_by, movie_times, sample_times, samples_by, segment_times, sized, timescale_by, track_by, track_times}
use Rattle.mp4_content.specs.format.TimescalesLaws.{SameButTimescales, SameTime, SameTimes, untimed}
use Rattle.mp4_content.specs.declared.without.Without.{Without}
use Rattle.mp4_content.proofs.RemainingWords.{remaining_is_exact}
use Rattle.mp4_content.proofs.SamplesReduced.{reduced_length}
use Rattle.mp4_content.proofs.TimescalesChanged.{many_stay}
use Rattle.mp4_content.proofs.TimescalesFractions.{timescales_are_theirs}
use Rattle.mp4_content.proofs.TimescalesReduced.{segments_left}
use Rattle.mp4_boxes.proofs.Plain.{and_is_true, head_is, length_mapped, tail_is}
use Rattle.mp4_answers.specs.format.CompareHeadline.{descriptions_in}
use Rattle.mp4_answers.proofs.LeastWords.{false_in_both, same_in_common}
use Rattle.mp4_answers.proofs.WordSets.{common, common_first, common_second, covers_common}

abbrev none : ℕ → ℕ
none n = 0

unsized : (z : ℤ) → sized none z ≡ pos 0
unsized (pos n) = refl
unsized (negsuc n) = refl

-- ---- what is left apart from its times is left of what has none

module _ (l : Without) where
  duration_none : (count n d : ℕ) → (if l.timing || (l.ends && is_at_end count n) then duration_left l count n d else 0) ≡ duration_left l count n 0
  duration_none count n d = by l.timing (l.ends && is_at_end count n)
    where
      by : (t e : Bool) → (if t || e then (if t then 1 else if e then 1 else d) else 0) ≡ (if t then 1 else if e then 1 else 0)
      by true e = refl
      by false true = refl
      by false false = refl

  no_offset : (z : ℤ) → z ≡ pos 0 → offset_left l (pos 0) z ≡ pos 0
  no_offset z e = ap (offset_left l (pos 0)) e ∙ by l.timing l.origins
    where
      by : (t o : Bool) → (if t then pos 0 else if o then pos 0 -ℤ pos 0 else pos 0) ≡ pos 0
      by true o = refl
      by false true = refl
      by false false = refl

  samples_none : (count : ℕ) (first : ℤ) (m n : ℕ) (samples : List Sample) → samples_by l none count n (reduce_from l count first n samples) ≡ reduce_from l count (pos 0) n (samples_by nothing none m n samples)
  samples_none count first m n [] = refl
  samples_none count first m n (s ∷ samples) =
      let offset = unsized (offset_left l first s.offset) ∙ sym (no_offset (sized none s.offset) (unsized s.offset)) in
      λ i. record (reduce_sample l count first n s) { duration = duration_none count n s.duration i; offset = offset i } ∷ samples_none count first m (suc n) samples i

  first_none : (m : ℕ) (samples : List Sample) → first_offset (samples_by nothing none m 0 samples) ≡ pos 0
  first_none m [] = refl
  first_none m (s ∷ samples) = unsized s.offset

  all_none : (samples : List Sample) → samples_by l none (length (reduce_samples l samples)) 0 (reduce_samples l samples) ≡ reduce_samples l (samples_by nothing none (length samples) 0 samples)
  all_none samples =
      let count = length samples in
      ap (λ n. samples_by l none n 0 (reduce_samples l samples)) (reduced_length l count (first_offset samples) 0 samples)
      ∙ samples_none count (first_offset samples) count 0 samples
      ∙ (λ i. reduce_from l (sym (many_stay nothing none count 0 samples) i) (sym (first_none count samples) i) 0 (samples_by nothing none count 0 samples))

  edits_none : (edits : List Edit) → map (edit_by none none) (if l.edits then [] else edits) ≡ (if l.edits then [] else map (edit_by none none) edits)
  edits_none edits = by l.edits
    where
      by : (b : Bool) → map (edit_by none none) (if b then [] else edits) ≡ (if b then [] else map (edit_by none none) edits)
      by true = refl
      by false = refl

  scale_none : (n : ℕ) → timescale_by l none (timescale_left l n) ≡ timescale_left l 0
  scale_none n = by l.timing
    where
      by : (b : Bool) → (if b then (if b then 1000 else n) else 0) ≡ (if b then 1000 else 0)
      by true = refl
      by false = refl

  start_none : ◌≡◌ {A = ℕ} (start_left l 0) 0
  start_none = by l.timing l.origins
    where
      by : (t o : Bool) → ◌≡◌ {A = ℕ} (if t then 0 else if o then 0 else 0) 0
      by true o = refl
      by false true = refl
      by false false = refl

  track_none : (t : Track) → track_by l none none (reduce_track l t) ≡ reduce_track l (track_by nothing none none t)
  track_none t =
      let r = reduce_track l t in
      λ i. record r {
        head = record r.head { edits = edits_none t.head.edits i; media = record r.head.media { timescale = scale_none t.head.media.timescale i } };
        start = sym start_none i;
        samples = all_none t.samples i;
      }

  tracks_none : (place : ℕ) (tracks : List Track) → map (track_by l none none) (number_tracks l place (map (reduce_track l) tracks)) ≡ number_tracks l place (map (reduce_track l) (map (track_by nothing none none) tracks))
  tracks_none place [] = refl
  tracks_none place (t ∷ tracks) = λ i. number_track l place (track_none t i) ∷ tracks_none (suc place) tracks i

  untimed_left : (p : Presentation) → untimed l (reduce l p) ≡ reduce l (untimed nothing p)
  untimed_left p = λ i. record (untimed l (reduce l p)) { movie = record (reduce l p).movie { timescale = scale_none p.movie.timescale i }; tracks = tracks_none 1 p.tracks i }

  -- ---- where timing doesn't count

  abbrev zeros : List Sample → List ℤ
  zeros [] = []
  zeros (s ∷ samples) = pos 0 ∷ pos 0 ∷ zeros samples

  module _ (timing : l.timing ≡ true) where
    no_duration : (count n d : ℕ) → counted_duration l count n d ≡ 0
    no_duration count n d = by l.timing timing
      where
        by : (b : Bool) → b ≡ true → (if b || (l.ends && is_at_end count n) then 0 else d) ≡ 0
        by true e = refl
        by false e = absurd cc

    nothing_left : (first z : ℤ) → offset_left l first z ≡ pos 0
    nothing_left first z = by l.timing timing
      where
        by : (b : Bool) → b ≡ true → (if b then pos 0 else if l.origins then z -ℤ first else z) ≡ pos 0
        by true e = refl
        by false e = absurd cc

    zero_samples : (count many : ℕ) (first : ℤ) (n : ℕ) (samples : List Sample) → sample_times l count n (reduce_from l many first n samples) ≡ zeros samples
    zero_samples count many first n [] = refl
    zero_samples count many first n (s ∷ samples) = λ i. pos (no_duration count n (duration_left l many n s.duration) i) ∷ nothing_left first s.offset i ∷ zero_samples count many first (suc n) samples i

    zero_scale : (n : ℕ) → counted_timescale l n ≡ 0
    zero_scale n = by l.timing timing
      where
        by : (b : Bool) → b ≡ true → (if b then 0 else n) ≡ 0
        by true e = refl
        by false e = absurd cc

    zero_start : (n : ℕ) → start_left l n ≡ 0
    zero_start n = by l.timing timing
      where
        by : (b : Bool) → b ≡ true → (if b then 0 else if l.origins then 0 else n) ≡ 0
        by true e = refl
        by false e = absurd cc

    -- the media times of edits are left
    only_edits : (t : Track) → track_times l (reduce_track l t) ≡ pos 0 ∷ pos 0 ∷ (map (λ (e : Edit). counted_media_time e.media_time) (if l.edits then [] else t.head.edits) ++ zeros t.samples)
    only_edits t =
        let r = reduce_track l t in
        λ i. pos (zero_scale r.head.media.timescale i) ∷ pos (zero_start t.start i) ∷ (map (λ (e : Edit). counted_media_time e.media_time) r.head.edits ++ zero_samples (length r.samples) (length t.samples) (first_offset t.samples) 0 t.samples i)

  -- ---- where it does

  theirs : l.timing ≡ false → (s r : ℕ) (xs ys : List ℤ) → 0 < s → 0 < r → SameTimes (pos (counted_timescale l (timescale_left l s)) ∷ xs) (pos (counted_timescale l (timescale_left l r)) ∷ ys)
      → AllZip (SameTime s r) (pos (counted_timescale l (timescale_left l s)) ∷ xs) (pos (counted_timescale l (timescale_left l r)) ∷ ys)
  theirs timing s r xs ys some other = by l.timing timing
    where
      by : (b : Bool) → b ≡ false → SameTimes (pos (if b then 0 else if b then 1000 else s) ∷ xs) (pos (if b then 0 else if b then 1000 else r) ∷ ys)
          → AllZip (SameTime s r) (pos (if b then 0 else if b then 1000 else s) ∷ xs) (pos (if b then 0 else if b then 1000 else r) ∷ ys)
      by true e h = absurd cc
      by false e h = (timescales_are_theirs s r xs ys some other).0 h

  -- ---- how many edits are left

  abbrev edits_of : Track → List Edit
  edits_of t = if l.edits then [] else t.head.edits

  abbrev bare : Track → Track
  bare t = track_by l none none (reduce_track l t)

  as_many : (place : ℕ) (t u : Track) → number_track l place (bare t) ≡ number_track l place (bare u) → length (map (λ (e : Edit). counted_media_time e.media_time) (edits_of t)) ≡ length (map (λ (e : Edit). counted_media_time e.media_time) (edits_of u))
  as_many place t u e =
      length_mapped (λ (x : Edit). counted_media_time x.media_time) (edits_of t) ∙ sym (length_mapped (edit_by none none) (edits_of t))
      ∙ ap (λ (x : Track). length x.head.edits) e
      ∙ length_mapped (edit_by none none) (edits_of u) ∙ sym (length_mapped (λ (x : Edit). counted_media_time x.media_time) (edits_of u))

-- ---- lists beside each other

zip_apart : {A B : Type 0} (R : A → B → Type 0) (xs zs : List A) (ys ws : List B) → length xs ≡ length ys → AllZip R (xs ++ zs) (ys ++ ws) → AllZip R xs ys × AllZip R zs ws
zip_apart R [] zs [] ws n h = (tt, h)
zip_apart R [] zs (y ∷ ys) ws n h = absurd (omega (arith, n))
zip_apart R (x ∷ xs) zs [] ws n h = absurd (omega (arith, n))
zip_apart R (x ∷ xs) zs (y ∷ ys) ws n h = let more = zip_apart R xs zs ys ws (omega (arith, n)) h.1 in ((h.0, more.0), more.1)

zip_joined : {A B : Type 0} (R : A → B → Type 0) (xs zs : List A) (ys ws : List B) → AllZip R xs ys → AllZip R zs ws → AllZip R (xs ++ zs) (ys ++ ws)
zip_joined R [] zs [] ws g h = h
zip_joined R [] zs (y ∷ ys) ws g h = absurd g
zip_joined R (x ∷ xs) zs [] ws g h = absurd g
zip_joined R (x ∷ xs) zs (y ∷ ys) ws g h = (g.0, zip_joined R xs zs ys ws g.1 h)

-- ---- in common

-- the media times of the edits that are left
abbrev media_of : Without → Track → List ℤ
media_of l t = map (λ (e : Edit). counted_media_time e.media_time) (if l.edits then [] else t.head.edits)

-- the times of the samples, which are as many as before
abbrev rest_of : Without → Track → List ℤ
rest_of l t = sample_times l (length (reduce_samples l t.samples)) 0 (reduce_samples l t.samples)

abbrev own_samples : Without → Track → List ℤ
own_samples l t = sample_times l (length t.samples) 0 (reduce_samples l t.samples)

module _ (k m : Without) (timed : k.timing ≡ m.timing) where
  -- what is so of a word of each is so of it where both have it
  pick : (P : Bool → Bool → Type 0) (a b : Bool) → P k.timing a → P m.timing b → P (k.timing && m.timing) (a && b)
  pick P = by k.timing m.timing timed
    where
      by : (t u : Bool) → t ≡ u → (a b : Bool) → P t a → P u b → P (t && u) (a && b)
      by true true e true b g h = h
      by true true e false b g h = g
      by true false e a b g h = absurd cc
      by false true e a b g h = absurd cc
      by false false e true b g h = h
      by false false e false b g h = g

  module _ (s r : ℕ) where
    samples_common : (count many : ℕ) (first other : ℤ) (n : ℕ) (xs ys : List Sample) → AllZip (SameTime s r) (sample_times k count n (reduce_from k count first n xs)) (sample_times k many n (reduce_from k many other n ys))
        → AllZip (SameTime s r) (sample_times m count n (reduce_from m count first n xs)) (sample_times m many n (reduce_from m many other n ys))
        → AllZip (SameTime s r) (sample_times (common k m) count n (reduce_from (common k m) count first n xs)) (sample_times (common k m) many n (reduce_from (common k m) many other n ys))
    samples_common count many first other n [] [] g h = tt
    samples_common count many first other n [] (y ∷ ys) g h = absurd g
    samples_common count many first other n (x ∷ xs) [] g h = absurd g
    samples_common count many first other n (x ∷ xs) (y ∷ ys) g h = (
      pick (λ t e. SameTime s r (pos (if t || (e && is_at_end count n) then 0 else if t then 1 else if e && is_at_end count n then 1 else x.duration)) (pos (if t || (e && is_at_end many n) then 0 else if t then 1 else if e && is_at_end many n then 1 else y.duration))) k.ends m.ends g.0 h.0,
      (
        pick (λ t o. SameTime s r (if t then pos 0 else if o then x.offset -ℤ first else x.offset) (if t then pos 0 else if o then y.offset -ℤ other else y.offset)) k.origins m.origins g.1.0 h.1.0,
        samples_common count many first other (suc n) xs ys g.1.1 h.1.1,
      ),
    )

    -- counted by what is left
    to_own : (l : Without) (t u : Track) → AllZip (SameTime s r) (sample_times l (length (reduce_samples l t.samples)) 0 (reduce_samples l t.samples)) (sample_times l (length (reduce_samples l u.samples)) 0 (reduce_samples l u.samples))
        → AllZip (SameTime s r) (own_samples l t) (own_samples l u)
    to_own l t u h =
        let left = reduced_length l (length t.samples) (first_offset t.samples) 0 t.samples in
        let right = reduced_length l (length u.samples) (first_offset u.samples) 0 u.samples in
        subst (λ n. AllZip (SameTime s r) (own_samples l t) (sample_times l n 0 (reduce_samples l u.samples))) right (subst (λ n. AllZip (SameTime s r) (sample_times l n 0 (reduce_samples l t.samples)) (sample_times l (length (reduce_samples l u.samples)) 0 (reduce_samples l u.samples))) left h)

    from_own : (l : Without) (t u : Track) → AllZip (SameTime s r) (own_samples l t) (own_samples l u)
        → AllZip (SameTime s r) (sample_times l (length (reduce_samples l t.samples)) 0 (reduce_samples l t.samples)) (sample_times l (length (reduce_samples l u.samples)) 0 (reduce_samples l u.samples))
    from_own l t u h =
        let left = reduced_length l (length t.samples) (first_offset t.samples) 0 t.samples in
        let right = reduced_length l (length u.samples) (first_offset u.samples) 0 u.samples in
        subst (λ n. AllZip (SameTime s r) (sample_times l (length (reduce_samples l t.samples)) 0 (reduce_samples l t.samples)) (sample_times l n 0 (reduce_samples l u.samples))) (sym right)
        (subst (λ n. AllZip (SameTime s r) (sample_times l n 0 (reduce_samples l t.samples)) (own_samples l u)) (sym left) h)

    times_common : (t u : Track) → length (media_of k t) ≡ length (media_of k u) → length (media_of m t) ≡ length (media_of m u) → AllZip (SameTime s r) (track_times k (reduce_track k t)) (track_times k (reduce_track k u)) → AllZip (SameTime s r) (track_times m (reduce_track m t))
        (track_times m (reduce_track m u))
        → AllZip (SameTime s r) (track_times (common k m) (reduce_track (common k m) t)) (track_times (common k m) (reduce_track (common k m) u))
    times_common t u many other g h =
        let gs = zip_apart (SameTime s r) (media_of k t) (rest_of k t) (media_of k u) (rest_of k u) many g.1.1 in
        let hs = zip_apart (SameTime s r) (media_of m t) (rest_of m t) (media_of m u) (rest_of m u) other h.1.1 in (
          pick (λ b e. SameTime s r (pos (if b then 0 else if b then 1000 else t.head.media.timescale)) (pos (if b then 0 else if b then 1000 else u.head.media.timescale))) false false g.0 h.0,
          (
            pick (λ b o. SameTime s r (pos (if b then 0 else if o then 0 else t.start)) (pos (if b then 0 else if o then 0 else u.start))) k.origins m.origins g.1.0 h.1.0,
            zip_joined (SameTime s r) (media_of (common k m) t) (rest_of (common k m) t) (media_of (common k m) u) (rest_of (common k m) u)
                (pick (λ b e. AllZip (SameTime s r) (map (λ (x : Edit). counted_media_time x.media_time) (if e then [] else t.head.edits)) (map (λ (x : Edit). counted_media_time x.media_time) (if e then [] else u.head.edits))) k.edits m.edits gs.0 hs.0)
                (from_own (common k m) t u (samples_common (length t.samples) (length u.samples) (first_offset t.samples) (first_offset u.samples) 0 t.samples u.samples (to_own k t u gs.1) (to_own m t u hs.1))),
          ),
        )

  -- where timing doesn't count, the edits that are left are those of one of them
  both_timed : k.timing ≡ true → (k.timing && m.timing) ≡ true
  both_timed e = (λ i. e i && (sym timed ∙ e) i)

  edits_second : k.edits ≡ true → (k.edits && m.edits) ≡ m.edits
  edits_second e = ap (λ b. b && m.edits) e

  edits_first : k.edits ≡ false → (k.edits && m.edits) ≡ k.edits
  edits_first e = ap (λ b. b && m.edits) e ∙ sym e

  edits_same : (l n : Without) → l.timing ≡ true → n.timing ≡ true → l.edits ≡ n.edits → (t : Track) → track_times l (reduce_track l t) ≡ track_times n (reduce_track n t)
  edits_same l n e f same t = only_edits l e t ∙ (λ i. pos 0 ∷ pos 0 ∷ (map (λ (x : Edit). counted_media_time x.media_time) (if same i then [] else t.head.edits) ++ zeros l t.samples)) ∙ sym (only_edits n f t)

  one_track : (t u : Track) → 0 < t.head.media.timescale → 0 < u.head.media.timescale → length (media_of k t) ≡ length (media_of k u) → length (media_of m t) ≡ length (media_of m u)
      → SameTimes (track_times k (reduce_track k t)) (track_times k (reduce_track k u)) → SameTimes (track_times m (reduce_track m t)) (track_times m (reduce_track m u))
      → SameTimes (track_times (common k m) (reduce_track (common k m) t)) (track_times (common k m) (reduce_track (common k m) u))
  one_track t u some above many other g h = by k.timing refl k.edits refl
    where
      by : (b : Bool) → k.timing ≡ b → (c : Bool) → k.edits ≡ c → SameTimes (track_times (common k m) (reduce_track (common k m) t)) (track_times (common k m) (reduce_track (common k m) u))
      by true e true f =
          let same = edits_same (common k m) m (both_timed e) (sym timed ∙ e) (edits_second f) in
          subst (λ xs. SameTimes xs (track_times (common k m) (reduce_track (common k m) u))) (sym (same t)) (subst (SameTimes (track_times m (reduce_track m t))) (sym (same u)) h)
      by true e false f =
          let same = edits_same (common k m) k (both_timed e) e (edits_first f) in
          subst (λ xs. SameTimes xs (track_times (common k m) (reduce_track (common k m) u))) (sym (same t)) (subst (SameTimes (track_times k (reduce_track k t))) (sym (same u)) g)
      by false e c f =
          let s = t.head.media.timescale in
          let r = u.head.media.timescale in
          record {
            s = s;
            r = r;
            above = some;
            other_above = above;
            each = times_common s r t u many other (theirs k e s r _ _ some above g) (theirs m (sym timed ∙ e) s r _ _ some above h);
          }

  abbrev SameLeft : Without → Track → Track → Type 0
  SameLeft l t u = SameTimes (track_times l t) (track_times l u)

  abbrev left_from : Without → ℕ → List Track → List Track
  left_from l place tracks = number_tracks l place (map (reduce_track l) tracks)

  all_tracks : (place : ℕ) (ts us : List Track) → AllByRecursion IsTrack ts → AllByRecursion IsTrack us → map (track_by k none none) (left_from k place ts) ≡ map (track_by k none none) (left_from k place us) → map (track_by m none none) (left_from m place ts) ≡ map (track_by m none none)
      (left_from m place us)
      → AllZip (SameLeft k) (left_from k place ts) (left_from k place us) → AllZip (SameLeft m) (left_from m place ts) (left_from m place us) → AllZip (SameLeft (common k m)) (left_from (common k m) place ts) (left_from (common k m) place us)
  all_tracks place [] [] v w e f g h = tt
  all_tracks place [] (u ∷ us) v w e f g h = absurd g
  all_tracks place (t ∷ ts) [] v w e f g h = absurd g
  all_tracks place (t ∷ ts) (u ∷ us) v w e f g h = (
    one_track t u v.0.head.media.timescale_not_0 w.0.head.media.timescale_not_0
        (as_many k place t u (head_is _ _ (map (track_by k none none) (left_from k (suc place) ts)) (map (track_by k none none) (left_from k (suc place) us)) e))
        (as_many m place t u (head_is _ _ (map (track_by m none none) (left_from m (suc place) ts)) (map (track_by m none none) (left_from m (suc place) us)) f)) g.0 h.0,
    all_tracks (suc place) ts us v.1 w.1 (tail_is (number_track k place (bare k t)) (number_track k place (bare k u)) _ _ e) (tail_is (number_track m place (bare m t)) (number_track m place (bare m u)) _ _ f) g.1 h.1,
  )

  -- ---- of a movie

  abbrev segments : Without → Presentation → List ℤ
  segments l p = if l.edits then [] else segment_times p.tracks

  lasting : (l : Without) (p : Presentation) → segment_times (reduce l p).tracks ≡ segments l p
  lasting l p = segments_left l l (λ e. e) (λ e. e) 1 p.tracks

  movie_is : (l : Without) (p : Presentation) → movie_times l (reduce l p) ≡ pos (counted_timescale l (timescale_left l p.movie.timescale)) ∷ segments l p
  movie_is l p = ap (λ (xs : List ℤ). pos (counted_timescale l (timescale_left l p.movie.timescale)) ∷ xs) (lasting l p)

  segments_same : (l n : Without) → l.timing ≡ true → n.timing ≡ true → l.edits ≡ n.edits → (p : Presentation) → movie_times l (reduce l p) ≡ movie_times n (reduce n p)
  segments_same l n e f same p =
      movie_is l p ∙ (λ i. pos ((zero_scale l e (timescale_left l p.movie.timescale) ∙ sym (zero_scale n f (timescale_left n p.movie.timescale))) i) ∷ (if same i then [] else segment_times p.tracks)) ∙ sym (movie_is n p)

  module _ (p q : Presentation) (v : Valid p) (w : Valid q) where
    movie_common : SameTimes (movie_times k (reduce k p)) (movie_times k (reduce k q)) → SameTimes (movie_times m (reduce m p)) (movie_times m (reduce m q)) → SameTimes (movie_times (common k m) (reduce (common k m) p)) (movie_times (common k m) (reduce (common k m) q))
    movie_common g h = by k.timing refl k.edits refl
      where
        by : (b : Bool) → k.timing ≡ b → (c : Bool) → k.edits ≡ c → SameTimes (movie_times (common k m) (reduce (common k m) p)) (movie_times (common k m) (reduce (common k m) q))
        by true e true f =
            let same = segments_same (common k m) m (both_timed e) (sym timed ∙ e) (edits_second f) in
            subst (λ xs. SameTimes xs (movie_times (common k m) (reduce (common k m) q))) (sym (same p)) (subst (SameTimes (movie_times m (reduce m p))) (sym (same q)) h)
        by true e false f =
            let same = segments_same (common k m) k (both_timed e) e (edits_first f) in
            subst (λ xs. SameTimes xs (movie_times (common k m) (reduce (common k m) q))) (sym (same p)) (subst (SameTimes (movie_times k (reduce k p))) (sym (same q)) g)
        by false e c f =
            let s = p.movie.timescale in
            let r = q.movie.timescale in
            let some = v.movie.timescale_not_0 in
            let above = w.movie.timescale_not_0 in
            let first = theirs k e s r (segments k p) (segments k q) some above (subst (λ xs. SameTimes xs (pos (counted_timescale k (timescale_left k r)) ∷ segments k q)) (movie_is k p) (subst (SameTimes (movie_times k (reduce k p))) (movie_is k q) g)) in
            let second = theirs m (sym timed ∙ e) s r (segments m p) (segments m q) some above (subst (λ xs. SameTimes xs (pos (counted_timescale m (timescale_left m r)) ∷ segments m q)) (movie_is m p) (subst (SameTimes (movie_times m (reduce m p))) (movie_is m q) h)) in
            let each : AllZip (SameTime s r) (pos (counted_timescale (common k m) (timescale_left (common k m) s)) ∷ segments (common k m) p) (pos (counted_timescale (common k m) (timescale_left (common k m) r)) ∷ segments (common k m) q) = (
              pick (λ b x. SameTime s r (pos (if b then 0 else if b then 1000 else s)) (pos (if b then 0 else if b then 1000 else r))) false false first.0 second.0,
              pick (λ b x. AllZip (SameTime s r) (if x then [] else segment_times p.tracks) (if x then [] else segment_times q.tracks)) k.edits m.edits first.1 second.1,
            ) in
            subst (λ xs. SameTimes xs (movie_times (common k m) (reduce (common k m) q))) (sym (movie_is (common k m) p))
            (subst (SameTimes (pos (counted_timescale (common k m) (timescale_left (common k m) s)) ∷ segments (common k m) p)) (sym (movie_is (common k m) q))
            (record { s = s; r = r; above = some; other_above = above; each = each }))

    -- ---- the whole

    module _ (same : descriptions_in p ≡ descriptions_in q) where
      bare_descriptions : (x : Presentation) → descriptions_in (untimed nothing x) ≡ descriptions_in x
      bare_descriptions x = map_twice (track_by nothing none none) (λ (t : Track). t.head.media.descriptions) x.tracks

      but_common : SameButTimescales k (reduce k p) (reduce k q) → SameButTimescales m (reduce m p) (reduce m q) → SameButTimescales (common k m) (reduce (common k m) p) (reduce (common k m) q)
      but_common g h = record {
        rest = untimed_left (common k m) p
            ∙ same_in_common k m timed (untimed nothing p) (untimed nothing q) (bare_descriptions p ∙ same ∙ sym (bare_descriptions q)) (sym (untimed_left k p) ∙ g.rest ∙ untimed_left k q) (sym (untimed_left m p) ∙ h.rest ∙ untimed_left m q)
            ∙ sym (untimed_left (common k m) q);
        movie = movie_common g.movie h.movie;
        tracks = all_tracks 1 p.tracks q.tracks v.tracks w.tracks (ap (λ (x : Presentation). x.tracks) g.rest) (ap (λ (x : Presentation). x.tracks) h.rest) g.tracks h.tracks;
      }

      remains_in_common : k.timescales ≡ m.timescales → remaining k p ≡ remaining k q → remaining m p ≡ remaining m q → remaining (common k m) p ≡ remaining (common k m) q
      remains_in_common scaled e f =
          let g = (remaining_is_exact k p q).0 e in
          let h = (remaining_is_exact m p q).0 f in
          (remaining_is_exact (common k m) p q).1 (record {
            counted = λ off. let offs = false_in_both k.timescales m.timescales scaled off in same_in_common k m timed p q same (g.counted offs.0) (h.counted offs.1);
            others = λ on. let ons = and_is_true k.timescales m.timescales on in but_common (g.others ons.0) (h.others ons.1);
          })

-- words of which none can be taken away are among any others
pub among_others : (k m l : Without) (p q : Presentation) → Valid p → Valid q → k.timing ≡ m.timing → k.timescales ≡ m.timescales → descriptions_in p ≡ descriptions_in q → remaining k p ≡ remaining k q → remaining m p ≡ remaining m q → Covers l k → Covers l m
    → ((j : Without) → Covers l j → Covers j m → remaining j p ≡ remaining j q → j ≡ m) → Covers m k
among_others k m l p q v w timed scaled same e f c d least =
    subst (λ (j : Without). Covers j k) (least (common k m) (covers_common k m l c d) (common_second k m) (remains_in_common k m timed p q v w same scaled e f)) (common_first k m)
