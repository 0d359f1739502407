-- What is left of samples that are handed out.
use Rattle.std.proofs.Common.{◌≡◌, ℕ, zero, suc, ◌+◌, ◌-◌, ◌^◌, ◌<◌, ◌≤◌, min, Bool, true, false, if◌then◌else◌, List, [], ◌∷◌, ◌++◌, length, take, drop, refl, sym, ap, subst, ◌∙◌, arith, ne_eqb, ◌⊎◌, inl, inr, ⊎_elim, eq-zero-or-pos, div-le_self}
use Rattle.std.proofs.lemmas.Bool.{cond-false, eqb-true}
use Rattle.std.proofs.lemmas.List.{map-append}
use Rattle.std.proofs.Math.Nat.{add-mul-div_left, div-one, div-zero, mul-div_cancel', one-dvd, zero-div}
use Rattle.mp4_boxes.specs.format.Bytes.{sum_of}
use Rattle.mp4_boxes.proofs.Joined.{all_last}
use Rattle.mp4_boxes.proofs.Plain.{both_ways}
use Rattle.std.specs.Prelude.{map, ◌&&◌, ◌||◌, ◌==◌, not, Option, Some, None, slice_get, ℤ, pos, negsuc, neg_ℤ, unsigned_abs, ◌-ℤ◌, FitsSigned}
use Rattle.std.specs.Int.{w32, ◌∣◌}
use Rattle.std.specs.List.{AllByRecursion, list_any}
use Rattle.mp4_head.specs.format.Head.{Edit}
use Rattle.mp4_store.specs.words.Device.{range}
use Rattle.mp4_tables.specs.format.Groups.{GroupKey, Groups, same_key}
use Rattle.mp4_tables.specs.format.PlainSamples.{PlacedSample}
use Rattle.mp4_tables.specs.words.Timed.{indexes}
use Rattle.mp4_tables.specs.words.Timed as given
use Rattle.mp4_tables.specs.declared.sample.SampleAt.{SampleAt}
use Rattle.mp4_present.specs.words.Joined.{IsBelow, sample_bytes}
use Rattle.mp4_present.specs.format.Presentation.{Sample, Track, IsGroup, end_time, max_time, total_duration}
use Rattle.mp4_content.specs.format.TimedSamples.{TimedSample, timed_from, timed}
use Rattle.mp4_content.specs.format.Reduced.{HasNearOffsets, duration_left, first_offset, is_at_end, offset_left, start_left, sync_flag, reduce_from, reduce_sample, reduce_samples, reduce_track}
use Rattle.mp4_content.specs.format.Remaining.{divisor_left, remaining_track, track_divisor}
use Rattle.mp4_content.specs.format.Timescales.{counted_duration, counted_media_time, divided, divisor_of, leaves_duration, sample_by, sample_times, samples_by, sized, track_times}
use Rattle.mp4_content.specs.declared.without.Without.{Without}
use Rattle.mp4_content.specs.words.ComingLess.{asks_first, begun_time, cto_left, keeps_all, lasts_left, less, moved_time, near_offset, offset_near, plain_reduction, reduce_at, reduction_by, reduction_of}
use Rattle.mp4_content.specs.words.TakenSamples.{IsTaken, AreTaken}
use Rattle.mp4_content.specs.declared.reduced.Reduction.{Reduction}
use Rattle.mp4_content.proofs.TimedSamples.{length-timed_from}
use Rattle.mp4_content.proofs.ReducedSamples.{by_case, left_many}
use Rattle.mp4_content.proofs.TimescalesDivisors.{Divides, divisor_divides}

no_indexes : (keys : List GroupKey) → indexes keys [] ≡ 0 ∷ 0 ∷ 0 ∷ 0 ∷ []
no_indexes [] = refl
no_indexes (a ∷ []) = refl
no_indexes (a ∷ b ∷ []) = refl
no_indexes (a ∷ b ∷ c ∷ []) = refl
no_indexes (a ∷ b ∷ c ∷ d ∷ keys) = refl

groups_less : (b : Bool) (keys : List GroupKey) (taken : List ℕ) (groups : Groups) → taken ≡ indexes keys groups → (if b then 0 ∷ 0 ∷ 0 ∷ 0 ∷ [] else taken) ≡ indexes keys (if b then [] else groups)
groups_less true keys taken groups e = sym (no_indexes keys)
groups_less false keys taken groups e = e

-- what remains of samples of so many from this number on, where the first has this offset and times are divided by this
abbrev pub remaining_from : Without → ℕ → ℕ → ℤ → ℕ → List Sample → List Sample
remaining_from l g count first n samples = samples_by l (divided g) count n (reduce_from l count first n samples)

-- what remains of one of them, at this time
abbrev pub remaining_timed : Without → ℕ → ℕ → ℤ → ℕ → ℕ → TimedSample → TimedSample
remaining_timed l g count first n time s = record { sample = sample_by l (divided g) count n (reduce_sample l count first n s.sample); number = s.number; time = time }

-- the samples have the numbers from this one on
abbrev pub AreNumbered : ℕ → List SampleAt → Type 0
AreNumbered n [] = Unit {0}
AreNumbered n (s ∷ samples) = (s.number ≡ n) × AreNumbered (n + 1) samples

pub timed_numbered : (keys : List GroupKey) (number dts : ℕ) (placed : List PlacedSample) → AreNumbered number (given.timed keys number dts placed)
timed_numbered keys number dts [] = tt
timed_numbered keys number dts (s ∷ placed) = (refl, timed_numbered keys (number + 1) (dts + s.duration) placed)

-- an offset that fits is left as it is
pub near_is : (z : ℤ) → FitsSigned w32 z → near_offset z ≡ z
near_is (pos n) h = ap pos (let few : n < 2 ^ 31 = omega (arith, h) in omega (arith, few))
near_is (negsuc n) h = ap negsuc (let few : n < 2 ^ 31 = omega (arith, h) in omega (arith, few))

-- what is divided by 1
pub by_one : (n : ℕ) → divided 1 n ≡ n
by_one n = div-one n

pub offset_by_one : (z : ℤ) → sized (divided 1) z ≡ z
offset_by_one (pos n) = ap pos (by_one n)
offset_by_one (negsuc n) = ap (λ m. neg_ℤ (pos m)) (by_one (suc n))

-- an offset that is left is near, where it fits
pub near_same : (r : Reduction) (offset : ℤ) → FitsSigned w32 (cto_left r offset) → offset_near r offset ≡ cto_left r offset
near_same r offset h = by r.leaving.timing r.leaving.origins (r.divisor == 1) refl h
  where
    by : (t o v : Bool) → (r.divisor == 1) ≡ v → (let left = sized (divided r.divisor) (if t then pos 0 else if o then offset -ℤ r.offset else offset) in FitsSigned w32 left → (if t then pos 0 else if o || not v then near_offset left else offset) ≡ left)
    by true o v e h = ap pos (sym (zero-div r.divisor))
    by false true v e h = near_is (sized (divided r.divisor) (offset -ℤ r.offset)) h
    by false false false e h = near_is (sized (divided r.divisor) offset) h
    by false false true e h = sym (offset_by_one offset) ∙ ap (λ g. sized (divided g) offset) (sym (eqb-true r.divisor 1 e))

-- it is brought near, where the offset fits
pub near_left_is : (r : Reduction) (offset : ℤ) → FitsSigned w32 offset → near_offset (cto_left r offset) ≡ offset_near r offset
near_left_is r offset h = by r.leaving.timing r.leaving.origins (r.divisor == 1) refl
  where
    by : (t o v : Bool) → (r.divisor == 1) ≡ v → (let left = sized (divided r.divisor) (if t then pos 0 else if o then offset -ℤ r.offset else offset) in near_offset left ≡ (if t then pos 0 else if o || not v then near_offset left else offset))
    by true o v e = ap (λ n. pos (min n (2 ^ 31 - 1))) (zero-div r.divisor)
    by false true v e = refl
    by false false false e = refl
    by false false true e = ap (λ g. near_offset (sized (divided g) offset)) (eqb-true r.divisor 1 e) ∙ ap near_offset (offset_by_one offset) ∙ near_is offset h

-- ---- when what is left of samples is due

-- a multiple can be added before or after
over_sum : (g n d : ℕ) → g ∣ d → divided g n + divided g d ≡ divided g (n + d)
over_sum g n d h = ⊎_elim none some (eq-zero-or-pos g)
  where
    none : g ≡ 0 → divided g n + divided g d ≡ divided g (n + d)
    none e = subst (λ k. divided k n + divided k d ≡ divided k (n + d)) (sym e) (let x = div-zero n in let y = div-zero d in let z = div-zero (n + d) in omega (arith, x, y, z))

    some : 0 < g → divided g n + divided g d ≡ divided g (n + d)
    some above = sym (add-mul-div_left n (divided g d) above) ∙ ap (λ k. divided g (n + k)) (mul-div_cancel' g h)

-- by whether timing, ends and origins are left out, whether the sample is the first, and by what times are divided
abbrev moved_by : ℕ → Bool → Bool → Bool → Bool → ℕ → ℕ → ℕ → ℕ → ℕ
moved_by g t e o later start duration place time =
    if t then place else (if e && later then min (divided g ((if o then time - start else time) - duration) + 1) (2 ^ 64 - 1) else divided g (if o then time - start else time))

-- how long what remains of a sample lasts
abbrev lasts_by : ℕ → Bool → Bool → ℕ → ℕ
lasts_by g t ending d = if t || ending then (if t then 1 else if ending then 1 else d) else divided g (if t then 1 else if ending then 1 else d)

-- one sample later
next_by : (g : ℕ) (t e o last : Bool) (start duration place time d due : ℕ) → due ≡ moved_by g t e o true start duration place time → (t ≡ false → o ≡ true → start ≤ time)
    → (t ≡ false → e ≡ true → (last ≡ false) × (duration ≤ (if o then time - start else time))) → (t ≡ false → (e && last) ≡ false → g ∣ d) → time + d < 2 ^ 64 - 1
    → due + lasts_by g t (e && last) d ≡ moved_by g t e o true start duration (place + 1) (time + d)
next_by g true e o last start duration place time d due is h k v few = ap (λ n. n + 1) is
next_by g false false true last start duration place time d due is h k v few =
    let le = h refl refl in
    let same : time - start + d ≡ time + d - start = omega (arith, le) in
    ap (λ n. n + divided g d) is ∙ over_sum g (time - start) d (v refl refl) ∙ ap (divided g) same
next_by g false false false last start duration place time d due is h k v few = ap (λ n. n + divided g d) is ∙ over_sum g time d (v refl refl)
next_by g false true o true start duration place time d due is h k v few = let no = (k refl refl).0 in absurd cc
next_by g false true true false start duration place time d due is h k v few =
    let le = h refl refl in
    let less = (k refl refl).1 in
    let same : time - start - duration + d ≡ time + d - start - duration = omega (arith, le, less) in
    let sum = over_sum g (time - start - duration) d (v refl refl) ∙ ap (divided g) same in
    let small = div-le_self (time + d - start - duration) g in
    omega (arith, is, sum, small, few)
next_by g false true false false start duration place time d due is h k v few =
    let less = (k refl refl).1 in
    let same : time - duration + d ≡ time + d - duration = omega (arith, less) in
    let sum = over_sum g (time - duration) d (v refl refl) ∙ ap (divided g) same in
    let small = div-le_self (time + d - duration) g in
    omega (arith, is, sum, small, few)

-- behind the first
second_by : (g : ℕ) (t e o : Bool) (start duration time d : ℕ) → (t ≡ false → o ≡ true → start ≡ time) → (t ≡ false → e ≡ true → duration ≡ d) → (t ≡ false → (e && true) ≡ false → g ∣ d) → time + d < 2 ^ 64 - 1
    → divided g (if t then 0 else if o then 0 else time) + lasts_by g t (e && true) d ≡ moved_by g t e o true start duration 1 (time + d)
second_by g true e o start duration time d h k v few = ap (λ n. n + 1) (zero-div g)
second_by g false false true start duration time d h k v few =
    let same = h refl refl in
    let more : 0 + d ≡ time + d - start = omega (arith, same) in
    over_sum g 0 d (v refl refl) ∙ ap (divided g) more
second_by g false false false start duration time d h k v few = over_sum g time d (v refl refl)
second_by g false true true start duration time d h k v few =
    let same = h refl refl in
    let long = k refl refl in
    let more : time + d - start - duration ≡ 0 = omega (arith, same, long) in
    let is = ap (divided g) more in
    let none = zero-div g in
    omega (arith, is, none)
second_by g false true false start duration time d h k v few =
    let long = k refl refl in
    let more : time + d - duration ≡ time = omega (arith, long) in
    let is = ap (divided g) more in
    let small = div-le_self time g in
    omega (arith, is, small, few)

-- the first itself
first_by : (g : ℕ) (t e o : Bool) (start duration time : ℕ) → (t ≡ false → o ≡ true → start ≡ time) → moved_by g t e o false start duration 0 time ≡ divided g (if t then 0 else if o then 0 else time)
first_by g true e o start duration time h = sym (zero-div g)
first_by g false false true start duration time h = let same = h refl refl in let none : time - start ≡ 0 = omega (arith, same) in ap (divided g) none
first_by g false false false start duration time h = refl
first_by g false true true start duration time h = let same = h refl refl in let none : time - start ≡ 0 = omega (arith, same) in ap (divided g) none
first_by g false true false start duration time h = refl

-- a duration that counts is divided
counted_is : (g : ℕ) (t x : Bool) (d : ℕ) → g ∣ (if t || x then 0 else if t then 1 else if x then 1 else d) → t ≡ false → x ≡ false → g ∣ d
counted_is g true x d h e f = absurd cc
counted_is g false true d h e f = absurd cc
counted_is g false false d h e f = h

module _ (r : Reduction) where
  abbrev l : Without
  l = r.leaving

  one_taken : (file : List ℕ) (keys : List GroupKey) (place time : ℕ) (a : SampleAt) (s : TimedSample) → a.number ≡ place → (reduce_at r a).dts ≡ time → FitsSigned w32 (cto_left r s.sample.offset) → IsTaken file keys a s
      → IsTaken file keys (reduce_at r a) (remaining_timed l r.divisor r.samples r.offset place time s)
  one_taken file keys place time a s n e near h = record {
    time = e;
    duration = (λ i. lasts_left r (n i) (h.duration i));
    offset = ap (offset_near r) h.offset ∙ near_same r s.sample.offset near;
    flags = ap (λ flags. if l.flags then sync_flag flags else flags) h.flags;
    description = h.description;
    size = h.size;
    bytes = h.bytes;
    groups = groups_less l.groups keys a.groups s.sample.groups h.groups;
    named = by_case (AllByRecursion (λ (group : GroupKey × ℕ). list_any (same_key group.0) keys ≡ true)) l.groups [] s.sample.groups tt h.named;
    are_groups = by_case (AllByRecursion IsGroup) l.groups [] s.sample.groups tt h.are_groups;
  }

  -- offsets that are left fit
  abbrev AreNear : List Sample → Type 0
  AreNear samples = AllByRecursion (λ (s : Sample). FitsSigned w32 (cto_left r s.offset)) samples

  -- durations that count are divided, of samples from this number on
  abbrev AreDivided : ℕ → List Sample → Type 0
  AreDivided n [] = Unit {0}
  AreDivided n (s ∷ samples) = (r.divisor ∣ counted_duration l r.samples n (duration_left l r.samples n s.duration)) × AreDivided (suc n) samples

  -- what is known of samples that are to come, behind the first
  record IsMoved (place time : ℕ) (samples : List Sample) : Type 0 where
    start : l.timing ≡ false → l.origins ≡ true → r.start ≤ time
    many : l.timing ≡ false → l.ends ≡ true → r.samples ≡ place + length samples
    long : l.timing ≡ false → l.ends ≡ true → r.duration ≤ begun_time r time
    few : time + total_duration samples < 2 ^ 64 - 1

  later : (n : ℕ) → not (suc n == 0) ≡ true
  later n = ap not (ne_eqb (suc n) 0 (λ e. omega (arith, e)))

  not_last : (n count more : ℕ) → count ≡ suc n + suc (suc more) → is_at_end count (suc n) ≡ false
  not_last n count more e =
      let first : (suc n == 0) ≡ false = ne_eqb (suc n) 0 (λ q. omega (arith, q)) in
      let last : (suc (suc n) == count) ≡ false = ne_eqb (suc (suc n)) count (λ q. omega (arith, q, e)) in
      λ i. first i || last i

  begun_more : (o : Bool) (start time d duration : ℕ) → duration ≤ (if o then time - start else time) → duration ≤ (if o then time + d - start else time + d)
  begun_more true start time d duration h = omega (arith, h)
  begun_more false start time d duration h = omega (arith, h)

  moved_on : (place time : ℕ) (s x : Sample) (samples : List Sample) → IsMoved (suc place) time (s ∷ x ∷ samples) → IsMoved (suc (suc place)) (time + s.duration) (x ∷ samples)
  moved_on place time s x samples m =
      let few = m.few in
      record {
        start = λ t o. let le = m.start t o in omega (arith, le);
        many = λ t o. let many = m.many t o in omega (arith, many);
        long = λ t o. begun_more l.origins r.start time s.duration r.duration (m.long t o);
        few = omega (arith, few);
      }

  due_next : (place time due : ℕ) (s x : Sample) (samples : List Sample) → due ≡ moved_by r.divisor l.timing l.ends l.origins true r.start r.duration (suc place) time → IsMoved (suc place) time (s ∷ x ∷ samples) → AreDivided (suc place) (s ∷ x ∷ samples)
      → due + lasts_left r (suc place) s.duration ≡ moved_by r.divisor l.timing l.ends l.origins true r.start r.duration (suc (suc place)) (time + s.duration)
  due_next place time due s x samples e m v =
      let few = m.few in
      let next : suc place + 1 ≡ suc (suc place) = omega arith in
      next_by r.divisor l.timing l.ends l.origins (is_at_end r.samples (suc place)) r.start r.duration (suc place) time s.duration due e m.start
      (λ t o. let many = m.many t o in (not_last place r.samples (length samples) (omega (arith, many)), m.long t o))
      (counted_is r.divisor l.timing (l.ends && is_at_end r.samples (suc place)) s.duration v.0) (omega (arith, few))
      ∙ ap (λ k. moved_by r.divisor l.timing l.ends l.origins true r.start r.duration k (time + s.duration)) next

  due_here : (place time due : ℕ) (a : SampleAt) → a.number ≡ suc place → a.dts ≡ time → due ≡ moved_by r.divisor l.timing l.ends l.origins true r.start r.duration (suc place) time → (reduce_at r a).dts ≡ due
  due_here place time due a n t e = (λ i. moved_by r.divisor l.timing l.ends l.origins (not (n i == 0)) r.start r.duration (n i) (t i)) ∙ ap (λ b. moved_by r.divisor l.timing l.ends l.origins b r.start r.duration (suc place) time) (later place) ∙ sym e

  rest_taken : (file : List ℕ) (keys : List GroupKey) (number time due place : ℕ) (taken : List SampleAt) (samples : List Sample) → due ≡ moved_by r.divisor l.timing l.ends l.origins true r.start r.duration (suc place) time → IsMoved (suc place) time samples → AreNear samples → AreDivided
      (suc place) samples
      → AreNumbered (suc place) taken → AreTaken file keys taken (timed_from number time samples) → AreTaken file keys (less r taken) (timed_from number due (remaining_from l r.divisor r.samples r.offset (suc place) samples))
  rest_taken file keys number time due place [] [] e m near v n h = h
  rest_taken file keys number time due place [] (s ∷ samples) e m near v n h = absurd h
  rest_taken file keys number time due place (a ∷ taken) [] e m near v n h = absurd h
  rest_taken file keys number time due place (a ∷ []) (s ∷ []) e m near v n h = (one_taken file keys (suc place) due a (record { sample = s; number = number; time = time }) n.0 (due_here place time due a n.0 h.0.time e) near.0 h.0, tt)
  rest_taken file keys number time due place (a ∷ b ∷ taken) (s ∷ []) e m near v n h = absurd h.1
  rest_taken file keys number time due place (a ∷ []) (s ∷ x ∷ samples) e m near v n h = absurd h.1
  rest_taken file keys number time due place (a ∷ b ∷ taken) (s ∷ x ∷ samples) e m near v n h =
      let next : suc place + 1 ≡ suc (suc place) = omega arith in (
        one_taken file keys (suc place) due a (record { sample = s; number = number; time = time }) n.0 (due_here place time due a n.0 h.0.time e) near.0 h.0,
        rest_taken file keys (number + 1) (time + s.duration) (due + lasts_left r (suc place) s.duration) (suc place) (b ∷ taken) (x ∷ samples) (due_next place time due s x samples e m v) (moved_on place time s x samples m) near.1 v.1
            (subst (λ k. AreNumbered k (b ∷ taken)) next n.1) h.1,
      )

  -- what is known of all samples of a track
  record IsFor (start : ℕ) (s : Sample) (samples : List Sample) : Type 0 where
    begins : l.timing ≡ false → l.origins ≡ true → r.start ≡ start
    many : l.timing ≡ false → l.ends ≡ true → r.samples ≡ suc (length samples)
    long : l.timing ≡ false → l.ends ≡ true → r.duration ≡ s.duration
    few : start + total_duration (s ∷ samples) < 2 ^ 64 - 1

  begun_first : (o : Bool) (start time d duration : ℕ) → (o ≡ true → start ≡ time) → duration ≡ d → duration ≤ (if o then time + d - start else time + d)
  begun_first true start time d duration h is = let same = h refl in omega (arith, same, is)
  begun_first false start time d duration h is = omega (arith, is)

  whole_taken : (file : List ℕ) (keys : List GroupKey) (start : ℕ) (a : SampleAt) (taken : List SampleAt) (s : Sample) (samples : List Sample) → IsFor start s samples → AreNear (s ∷ samples) → AreDivided 0 (s ∷ samples) → AreNumbered 0 (a ∷ taken)
      → AreTaken file keys (a ∷ taken) (timed_from 1 start (s ∷ samples)) → AreTaken file keys (less r (a ∷ taken)) (timed_from 1 (divided r.divisor (start_left l start)) (remaining_from l r.divisor r.samples r.offset 0 (s ∷ samples)))
  whole_taken file keys start a taken s samples f near v n h =
      let few = f.few in
      let here = (λ i. moved_by r.divisor l.timing l.ends l.origins (not (n.0 i == 0)) r.start r.duration (n.0 i) (h.0.time i)) ∙ first_by r.divisor l.timing l.ends l.origins r.start r.duration start f.begins in
      let due = second_by r.divisor l.timing l.ends l.origins r.start r.duration start s.duration f.begins f.long (counted_is r.divisor l.timing (l.ends && true) s.duration v.0) (omega (arith, few)) in (
        one_taken file keys 0 (divided r.divisor (start_left l start)) a (record { sample = s; number = 1; time = start }) n.0 here near.0 h.0,
        rest_taken file keys 2 (start + s.duration) (divided r.divisor (start_left l start) + lasts_left r 0 s.duration) 0 taken samples due
            (record {
              start = λ t o. let same = f.begins t o in omega (arith, same);
              many = λ t o. let many = f.many t o in omega (arith, many);
              long = λ t o. begun_first l.origins r.start start s.duration r.duration (f.begins t) (f.long t o);
              few = omega (arith, few);
            }) near.1 v.1 n.1 h.1,
      )

  -- their bytes are the same
  pub bytes_stay : (file : List ℕ) (taken : List SampleAt) → sample_bytes file (less r taken) ≡ sample_bytes file taken
  bytes_stay file [] = refl
  bytes_stay file (a ∷ taken) = ap (λ bytes. range file a.at a.size ++ bytes) (bytes_stay file taken)

-- ---- all samples of a track

pub as_many_taken : (file : List ℕ) (keys : List GroupKey) (taken : List SampleAt) (samples : List TimedSample) → AreTaken file keys taken samples → length samples ≡ length taken
as_many_taken file keys [] [] z = refl
as_many_taken file keys [] (s ∷ samples) z = absurd z
as_many_taken file keys (a ∷ taken) [] z = absurd z
as_many_taken file keys (a ∷ taken) (s ∷ samples) z = ap suc (as_many_taken file keys taken samples z.1)

-- where what is left doesn't depend on the first sample, it is the same whatever that is
any_duration : (l : Without) (count n duration : ℕ) → asks_first l ≡ false → duration_left l 0 n duration ≡ duration_left l count n duration
any_duration l count n duration none = by l.timing l.ends l.origins none
  where
    by : (t e o : Bool) → ((e || o) && not t) ≡ false → (if t then 1 else if e && is_at_end 0 n then 1 else duration) ≡ (if t then 1 else if e && is_at_end count n then 1 else duration)
    by true e o h = refl
    by false true o h = absurd cc
    by false false o h = refl

any_offset : (l : Without) (first offset : ℤ) → asks_first l ≡ false → offset_left l (pos 0) offset ≡ offset_left l first offset
any_offset l first offset none = by l.timing l.ends l.origins none
  where
    by : (t e o : Bool) → ((e || o) && not t) ≡ false → (if t then pos 0 else if o then offset -ℤ pos 0 else offset) ≡ (if t then pos 0 else if o then offset -ℤ first else offset)
    by true e o h = refl
    by false true o h = absurd cc
    by false false true h = absurd cc
    by false false false h = refl

pub any_samples : (l : Without) (count : ℕ) (first : ℤ) (n : ℕ) (samples : List Sample) → asks_first l ≡ false → reduce_from l 0 (pos 0) n samples ≡ reduce_from l count first n samples
any_samples l count first n [] none = refl
any_samples l count first n (s ∷ samples) none = λ i. record s {
  duration = any_duration l count n s.duration none i;
  offset = any_offset l first s.offset none i;
  flags = if l.flags then sync_flag s.flags else s.flags;
  groups = if l.groups then [] else s.groups;
} ∷ any_samples l count first (suc n) samples none i

any_leaves : (l : Without) (count n : ℕ) → asks_first l ≡ false → leaves_duration l 0 n ≡ leaves_duration l count n
any_leaves l count n none = by l.timing l.ends l.origins none
  where
    by : (t e o : Bool) → ((e || o) && not t) ≡ false → (t || (e && is_at_end 0 n)) ≡ (t || (e && is_at_end count n))
    by true e o h = refl
    by false true o h = absurd cc
    by false false o h = refl

any_scaled : (l : Without) (f : ℕ → ℕ) (count n : ℕ) (samples : List Sample) → asks_first l ≡ false → samples_by l f 0 n samples ≡ samples_by l f count n samples
any_scaled l f count n [] none = refl
any_scaled l f count n (s ∷ samples) none = λ i. record s {
  duration = if any_leaves l count n none i then s.duration else f s.duration;
  offset = sized f s.offset;
} ∷ any_scaled l f count (suc n) samples none i

pub any_times : (l : Without) (count n : ℕ) (samples : List Sample) → asks_first l ≡ false → sample_times l 0 n samples ≡ sample_times l count n samples
any_times l count n [] none = refl
any_times l count n (s ∷ samples) none = λ i. pos (if any_leaves l count n none i then 0 else s.duration) ∷ s.offset ∷ any_times l count (suc n) samples none i

pub any_remaining : (l : Without) (g count : ℕ) (first : ℤ) (n : ℕ) (samples : List Sample) → asks_first l ≡ false → remaining_from l g 0 (pos 0) n samples ≡ remaining_from l g count first n samples
any_remaining l g count first n samples none = any_scaled l (divided g) count n (reduce_from l 0 (pos 0) n samples) none ∙ ap (samples_by l (divided g) count n) (any_samples l count first n samples none)

-- all samples of a track
pub all_remaining : (l : Without) (g : ℕ) (samples : List Sample) → remaining_from l g (length samples) (first_offset samples) 0 samples ≡ samples_by l (divided g) (length (reduce_samples l samples)) 0 (reduce_samples l samples)
all_remaining l g samples = ap (λ count. samples_by l (divided g) count 0 (reduce_samples l samples)) (sym (left_many l (length samples) (first_offset samples) 0 samples))

-- the offsets that are left of samples
pub near_left : (l : Without) (g count : ℕ) (first : ℤ) (n : ℕ) (samples : List Sample) → AllByRecursion (λ (s : Sample). FitsSigned w32 s.offset) (remaining_from l g count first n samples) → AllByRecursion (λ (s : Sample). FitsSigned w32 (sized (divided g) (offset_left l first s.offset))) samples
near_left l g count first n [] h = tt
near_left l g count first n (s ∷ samples) h = (h.0, near_left l g count first (suc n) samples h.1)

pub left_near : (l : Without) (g count : ℕ) (first : ℤ) (n : ℕ) (samples : List Sample) → AllByRecursion (λ (s : Sample). FitsSigned w32 (sized (divided g) (offset_left l first s.offset))) samples → AllByRecursion (λ (s : Sample). FitsSigned w32 s.offset) (remaining_from l g count first n samples)
left_near l g count first n [] h = tt
left_near l g count first n (s ∷ samples) h = (h.0, left_near l g count first (suc n) samples h.1)

-- what divides all times of a track
one_divides : (times : List ℤ) → Divides 1 times
one_divides [] = tt
one_divides (time ∷ times) = (one-dvd (unsigned_abs time), one_divides times)

pub divisor_left_divides : (l : Without) (times : List ℤ) → Divides (divisor_left l (divisor_of times)) times
divisor_left_divides l times = by_case (λ (g : ℕ). Divides g times) l.timescales (divisor_of times) 1 (divisor_divides times) (one_divides times)

pub track_divided : (l : Without) (t : Track) → Divides (track_divisor l t) (sample_times l (length (reduce_samples l t.samples)) 0 (reduce_samples l t.samples))
track_divided l t =
    let u = reduce_track l t in
    let all = divisor_left_divides l (track_times l u) in
    all_last (λ (time : ℤ). track_divisor l t ∣ unsigned_abs time) (map (λ (e : Edit). counted_media_time e.media_time) u.head.edits) (sample_times l (length u.samples) 0 u.samples) all.1.1

divided_from : (r : Reduction) (first : ℤ) (n : ℕ) (samples : List Sample) → Divides r.divisor (sample_times r.leaving r.samples n (reduce_from r.leaving r.samples first n samples)) → AreDivided r n samples
divided_from r first n [] h = tt
divided_from r first n (s ∷ samples) h = (h.0, divided_from r first (suc n) samples h.1.1)

asked : (l : Without) → l.timing ≡ false → (l.ends ≡ true) ⊎ (l.origins ≡ true) → asks_first l ≡ true
asked l t (inl e) = λ i. (e i || l.origins) && not (t i)
asked l t (inr o) = by l.ends
  where
    by : (b : Bool) → ((b || l.origins) && not l.timing) ≡ true
    by true = λ i. true && not (t i)
    by false = λ i. o i && not (t i)

-- What remains of samples that are handed out is what remains of those of the presentation.
pub remaining_are_taken : (l : Without) (file : List ℕ) (keys : List GroupKey) (taken : List SampleAt) (a : ℕ) (t : Track) → AreNumbered 0 taken → end_time t ≤ max_time → HasNearOffsets (remaining_track l a t) → AreTaken file keys taken (timed t)
    → AreTaken file keys (less (reduction_of l (track_divisor l t) taken) taken) (timed (remaining_track l a t))
remaining_are_taken l file keys taken a t n few near h = by taken t.samples n few near (track_divided l t) h
  where
    g : ℕ
    g = track_divisor l t

    remain : List Sample → List Sample
    remain samples = samples_by l (divided g) (length (reduce_samples l samples)) 0 (reduce_samples l samples)

    by : (ts : List SampleAt) (samples : List Sample) → AreNumbered 0 ts → t.start + total_duration samples ≤ max_time → AllByRecursion (λ (s : Sample). FitsSigned w32 s.offset) (remain samples)
        → Divides g (sample_times l (length (reduce_samples l samples)) 0 (reduce_samples l samples)) → AreTaken file keys ts (timed_from 1 t.start samples)
        → AreTaken file keys (less (reduction_of l g ts) ts) (timed_from 1 (divided g (start_left l t.start)) (remain samples))
    by [] [] n few near v h = tt
    by [] (s ∷ samples) n few near v h = absurd h
    by (a ∷ ts) [] n few near v h = absurd h
    by (a ∷ ts) (s ∷ samples) n few near v h = at (asks_first l) refl
      where
        many : length ts ≡ length samples
        many = sym (as_many_taken file keys ts (timed_from 2 (t.start + s.duration) samples) h.1) ∙ length-timed_from 2 (t.start + s.duration) samples

        count : length (a ∷ ts) ≡ length (s ∷ samples)
        count = ap suc many

        left : length (reduce_samples l (s ∷ samples)) ≡ length (s ∷ samples)
        left = left_many l (length (s ∷ samples)) s.offset 0 (s ∷ samples)

        at : (b : Bool) → asks_first l ≡ b → AreTaken file keys (less (if b then reduction_by l g (length (a ∷ ts)) (Some a) else plain_reduction l g) (a ∷ ts)) (timed_from 1 (divided g (start_left l t.start)) (remain (s ∷ samples)))
        at true e =
            let r = reduction_by l g (length (a ∷ ts)) (Some a) in
            let same : remaining_from l g (length (a ∷ ts)) a.cto 0 (s ∷ samples) ≡ remain (s ∷ samples) = (λ i. remaining_from l g (count i) (h.0.offset i) 0 (s ∷ samples)) ∙ all_remaining l g (s ∷ samples) in
            subst (λ (ss : List Sample). AreTaken file keys (less r (a ∷ ts)) (timed_from 1 (divided g (start_left l t.start)) ss)) same
            (whole_taken r file keys t.start a ts s samples
            (record { begins = λ _ _. h.0.time; many = λ _ _. count; long = λ _ _. h.0.duration; few = omega (arith, few) })
            (near_left l g (length (a ∷ ts)) a.cto 0 (s ∷ samples) (subst (AllByRecursion (λ (s : Sample). FitsSigned w32 s.offset)) (sym same) near))
            (divided_from r s.offset 0 (s ∷ samples) (subst (λ k. Divides g (sample_times l k 0 (reduce_from l k s.offset 0 (s ∷ samples)))) (sym count)
            (subst (λ k. Divides g (sample_times l k 0 (reduce_samples l (s ∷ samples)))) left v)))
            n h)
        at false e =
            let r = plain_reduction l g in
            let same = any_remaining l g (length (s ∷ samples)) s.offset 0 (s ∷ samples) e ∙ all_remaining l g (s ∷ samples) in
            subst (λ (ss : List Sample). AreTaken file keys (less r (a ∷ ts)) (timed_from 1 (divided g (start_left l t.start)) ss)) same
            (whole_taken r file keys t.start a ts s samples
            (record {
              begins = λ t o. both_ways (asks_first l) (asked l t (inr o)) e;
              many = λ t o. both_ways (asks_first l) (asked l t (inl o)) e;
              long = λ t o. both_ways (asks_first l) (asked l t (inl o)) e;
              few = omega (arith, few);
            })
            (near_left l g 0 (pos 0) 0 (s ∷ samples) (subst (AllByRecursion (λ (s : Sample). FitsSigned w32 s.offset)) (sym same) near))
            (divided_from r (pos 0) 0 (s ∷ samples) (subst (Divides g)
            (sym (any_times l (length (reduce_samples l (s ∷ samples))) 0 (reduce_from l 0 (pos 0) 0 (s ∷ samples)) e ∙ ap (sample_times l (length (reduce_samples l (s ∷ samples))) 0) (any_samples l (length (s ∷ samples)) s.offset 0 (s ∷ samples) e))) v))
            n h)

-- by what they are left
pub left_by : (l : Without) (g : ℕ) (taken : List SampleAt) → (reduction_of l g taken).leaving ≡ l
left_by l g taken = by (asks_first l) (slice_get taken 0)
  where
    by : (b : Bool) (first : Option SampleAt) → (if b then reduction_by l g (length taken) first else plain_reduction l g).leaving ≡ l
    by true None = refl
    by true (Some s) = refl
    by false first = refl

pub divided_by : (l : Without) (g : ℕ) (taken : List SampleAt) → (reduction_of l g taken).divisor ≡ g
divided_by l g taken = by (asks_first l) (slice_get taken 0)
  where
    by : (b : Bool) (first : Option SampleAt) → (if b then reduction_by l g (length taken) first else plain_reduction l g).divisor ≡ g
    by true None = refl
    by true (Some s) = refl
    by false first = refl

pub taken_remain : (l : Without) (g : ℕ) (file : List ℕ) (keys : List GroupKey) (time : ℕ) (taken : List SampleAt) (samples : List Sample) → AreTaken file keys taken (timed_from 1 time samples)
    → remaining_from l g (reduction_of l g taken).samples (reduction_of l g taken).offset 0 samples ≡ samples_by l (divided g) (length (reduce_samples l samples)) 0 (reduce_samples l samples)
taken_remain l g file keys time [] [] h = refl
taken_remain l g file keys time [] (s ∷ samples) h = absurd h
taken_remain l g file keys time (a ∷ taken) [] h = absurd h
taken_remain l g file keys time (a ∷ taken) (s ∷ samples) h = by (asks_first l) refl ∙ all_remaining l g (s ∷ samples)
  where
    many : length taken ≡ length samples
    many = sym (as_many_taken file keys taken (timed_from 2 (time + s.duration) samples) h.1) ∙ length-timed_from 2 (time + s.duration) samples

    by : (b : Bool) → asks_first l ≡ b → (let r = if b then reduction_by l g (length (a ∷ taken)) (Some a) else plain_reduction l g in remaining_from l g r.samples r.offset 0 (s ∷ samples)) ≡ remaining_from l g (length (s ∷ samples)) s.offset 0 (s ∷ samples)
    by true e = λ i. remaining_from l g (suc (many i)) (h.0.offset i) 0 (s ∷ samples)
    by false e = any_remaining l g (length (s ∷ samples)) s.offset 0 (s ∷ samples) e

-- what is left of the first
pub first_less : (r : Reduction) (s : SampleAt) (samples : List SampleAt) → Some s ≡ slice_get samples 0 → Some (reduce_at r s) ≡ slice_get (less r samples) 0
first_less r s [] e = absurd cc
first_less r s (x ∷ samples) e = let same : s ≡ x = cc in ap (λ (y : SampleAt). Some (reduce_at r y)) same

pub none_less : (r : Reduction) (samples : List SampleAt) → ◌≡◌ {A = Option SampleAt} None (slice_get samples 0) → ◌≡◌ {A = Option SampleAt} None (slice_get (less r samples) 0)
none_less r [] e = refl
none_less r (x ∷ samples) e = absurd cc

-- ---- samples that stay

none_kept : (a b c d e f : Bool) → ((not a && not b && not c && not d && not e) && f) ≡ true → (a ≡ false) × (b ≡ false) × (c ≡ false) × (d ≡ false) × (e ≡ false) × (f ≡ true)
none_kept true b c d e f h = absurd cc
none_kept false true c d e f h = absurd cc
none_kept false false true d e f h = absurd cc
none_kept false false false true e f h = absurd cc
none_kept false false false false true f h = absurd cc
none_kept false false false false false true h = (refl, refl, refl, refl, refl, refl)
none_kept false false false false false false h = absurd cc

pub all_kept : (r : Reduction) → keeps_all r ≡ true → (samples : List SampleAt) → less r samples ≡ samples
all_kept r e [] = refl
all_kept r e (s ∷ samples) = λ i. one i ∷ all_kept r e samples i
  where
    one : reduce_at r s ≡ s
    one =
        let l = r.leaving in
        let none = none_kept l.flags l.groups l.ends l.origins l.timing (r.divisor == 1) e in
        let once : r.divisor ≡ 1 = eqb-true r.divisor 1 none.5 in
        let moved : moved_time r s.number s.dts ≡ s.dts = (λ i. if none.2 i && not (s.number == 0) then min (divided r.divisor (begun_time r s.dts - r.duration) + 1) (2 ^ 64 - 1) else divided (once i) (if none.3 i then s.dts - r.start else s.dts)) ∙ by_one s.dts in
        let far : (l.origins || not (r.divisor == 1)) ≡ false = λ i. none.3 i || not (none.5 i) in
        let offset : offset_near r s.cto ≡ s.cto = cond-false l.timing (pos 0) (if l.origins || not (r.divisor == 1) then near_offset (cto_left r s.cto) else s.cto) none.4 ∙ cond-false (l.origins || not (r.divisor == 1)) (near_offset (cto_left r s.cto)) s.cto far in
        let duration : lasts_left r s.number s.duration ≡ s.duration =
        (λ i. if none.4 i || (none.2 i && is_at_end r.samples s.number) then duration_left l r.samples s.number s.duration else divided (once i) (if none.4 i then 1 else if none.2 i && is_at_end r.samples s.number then 1 else s.duration)) ∙ by_one s.duration in
        λ i. record s {
          dts = (cond-false l.timing s.number (moved_time r s.number s.dts) none.4 ∙ moved) i;
          duration = duration i;
          cto = offset i;
          flags = cond-false l.flags (sync_flag s.flags) s.flags none.0 i;
          groups = cond-false l.groups (0 ∷ 0 ∷ 0 ∷ 0 ∷ []) s.groups none.1 i;
        }

module _ (r : Reduction) where
  -- they are as many
  pub less_length : (samples : List SampleAt) → length (less r samples) ≡ length samples
  less_length [] = refl
  less_length (s ∷ samples) = let more = less_length samples in omega (arith, more)

  -- as long
  pub less_sizes : (samples : List SampleAt) → sum_of (λ (s : SampleAt). s.size) (less r samples) ≡ sum_of (λ (s : SampleAt). s.size) samples
  less_sizes [] = refl
  less_sizes (s ∷ samples) = ap (λ n. s.size + n) (less_sizes samples)

  -- and lie where those do of which they are left
  pub less_below : (n : ℕ) (samples : List SampleAt) → AllByRecursion (IsBelow n) samples → AllByRecursion (IsBelow n) (less r samples)
  less_below n [] h = tt
  less_below n (s ∷ samples) h = (h.0, less_below n samples h.1)

  pub above_less : (n : ℕ) (samples : List SampleAt) → AllByRecursion (IsBelow n) (less r samples) → AllByRecursion (IsBelow n) samples
  above_less n [] h = tt
  above_less n (s ∷ samples) h = (h.0, above_less n samples h.1)

  pub less_append : (xs ys : List SampleAt) → less r (xs ++ ys) ≡ less r xs ++ less r ys
  less_append xs ys = map-append (reduce_at r) xs ys

  pub less_drop : (n : ℕ) (samples : List SampleAt) → drop n (less r samples) ≡ less r (drop n samples)
  less_drop zero samples = refl
  less_drop (suc n) [] = refl
  less_drop (suc n) (s ∷ samples) = less_drop n samples

  pub less_take : (n : ℕ) (samples : List SampleAt) → take n (less r samples) ≡ less r (take n samples)
  less_take zero samples = refl
  less_take (suc n) [] = refl
  less_take (suc n) (s ∷ samples) = ap (λ xs. reduce_at r s ∷ xs) (less_take n samples)
