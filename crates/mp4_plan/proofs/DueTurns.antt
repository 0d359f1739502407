-- Turns of tracks that are due alone: how many there are, and that what lies between them takes nothing.
use Rattle.std.proofs.Common.{◌≡◌, ℕ, zero, suc, ◌+◌, ◌-◌, ◌*◌, ◌/◌, ◌^◌, ◌<◌, ◌≤◌, ◌==◌, nat_le, min, max, Bool, true, false, cond, List, [], ◌∷◌, length, Some, None, refl, sym, ap, subst, ◌∙◌, true≢false, arith, slice_get, slice_set, eq-eqb, eqb-true, ne_eqb, le-leb, leb-true, le-div_iff_mul-le}
use Rattle.std.specs.Prelude.{Option, if◌then◌else◌, option_map}
use Rattle.mp4_tables.specs.declared.sample.SampleAt.{SampleAt}
use Rattle.mp4_content.specs.declared.tracks_left.TrackLeft.{TrackLeft}
use Rattle.mp4_plan.specs.words.DueTracks.{leaf, cut_at, AreTimes, IsDue, Skips}
use Rattle.mp4_plan.specs.words.DueTracks.Skips.{none, one}
use Rattle.mp4_plan.specs.words.Turns.{turns_left, begins_more, track_passed, turned, wrapped, is_over}
use Rattle.mp4_plan.specs.declared.due_tracks.DueTracks.{DueTracks}
use Rattle.mp4_plan.specs.declared.ends.End.{End}
use Rattle.mp4_plan.specs.declared.ends.End.TheVariants.{Before}
use Rattle.mp4_plan.specs.declared.schedule.Schedule.{Schedule}

-- ---- how many turns are left

begins_few : (next : Option ℕ) → begins_more next ≤ 1
begins_few None = omega arith
begins_few (Some cut) = omega arith

pub at_first : (s : Schedule) → s.track ≡ 0 → turns_left s ≡ s.left + min s.tracks 1
unfolding turns_left
at_first s z = ap (λ v. s.left + cond v (min s.tracks 1) (begins_more s.next)) (eq-eqb s.track 0 z)

pub at_other : (s : Schedule) → 0 < s.track → turns_left s ≡ s.left + begins_more s.next
unfolding turns_left
at_other s some = ap (λ v. s.left + cond v (min s.tracks 1) (begins_more s.next)) (ne_eqb s.track 0 (λ z. omega (arith, some, z)))

-- behind the last track the next fragment begins
wrapped_few : (s : Schedule) (next : Option ℕ) → s.next ≡ next → 0 < s.track → turns_left (wrapped s next) ≤ s.left + begins_more next
wrapped_few s None e some = let a = at_other s some in let b = ap begins_more e in omega (arith, a, b)
wrapped_few s (Some cut) e some = by (s.track == s.tracks)
  where
    by : (v : Bool) → turns_left (if◌then◌else◌ v (record s { from = cut; next = None; track = 0 }) s) ≤ s.left + 1
    by true = let a = at_first (record s { from = cut; next = None; track = 0 }) refl in omega (arith, a)
    by false = let a = at_other s some in let b = begins_few s.next in omega (arith, a, b)

passed_first : (s : Schedule) (time : Option ℕ) → s.track ≡ 0 → track_passed s time ≡ wrapped (record s { next = time; track = 1 }) time
passed_first s time e = ap (λ v. cond v (wrapped (record s { next = time; track = 1 }) time) (wrapped (record s { track = s.track + 1 }) s.next)) (eq-eqb s.track 0 e)

pub passed_other : (s : Schedule) (time : Option ℕ) → 0 < s.track → track_passed s time ≡ wrapped (record s { track = s.track + 1 }) s.next
passed_other s time some = ap (λ v. cond v (wrapped (record s { next = time; track = 1 }) time) (wrapped (record s { track = s.track + 1 }) s.next)) (ne_eqb s.track 0 (λ z. omega (arith, some, z)))

-- a track has passed, and took samples but at the end of the first
pub less_passed : (s : Schedule) (count : ℕ) (time : Option ℕ) → count ≤ s.left → s.track < s.tracks → (count ≡ 0 → (s.track ≡ 0) × (time ≡ None))
    → turns_left (track_passed (record s { left = s.left - count }) time) < turns_left s
less_passed s count time le lt last = by_track s.track refl
  where
    rest : Schedule
    rest = record s { left = s.left - count }

    by_time : (x : Option ℕ) → s.track ≡ 0 → time ≡ x → turns_left (wrapped (record rest { next = time; track = 1 }) time) < turns_left s
    by_time None z e =
        let a = wrapped_few (record rest { next = time; track = 1 }) time refl (omega arith) in
        let b = ap begins_more e in
        let c = at_first s z in
        omega (arith, a, b, c, lt, le)
    by_time (Some cut) z e =
        let a = wrapped_few (record rest { next = time; track = 1 }) time refl (omega arith) in
        let b = begins_few time in
        let c = at_first s z in
        let some : 0 < count = some_or count (λ n. no_time (sym (last n).1 ∙ e)) in
        omega (arith, a, b, c, lt, le, some)
      where
        no_time : None ≡ Some cut → ⊥
        no_time f = cc

        some_or : (m : ℕ) → (m ≡ 0 → ⊥) → 0 < m
        some_or zero h = absurd (h refl)
        some_or (suc m) h = omega arith

    by_track : (k : ℕ) → s.track ≡ k → turns_left (track_passed rest time) < turns_left s
    by_track zero z = subst (λ p. turns_left p < turns_left s) (sym (passed_first rest time z)) (by_time time z refl)
    by_track (suc k) z =
        let there : 0 < s.track = omega (arith, z) in
        let a = wrapped_few (record rest { track = s.track + 1 }) s.next refl (omega arith) in
        let c = at_other s there in
        let some : 0 < count = some_or count (λ n. (let f = (last n).0 in omega (arith, f, z))) in
        subst (λ p. turns_left p < turns_left s) (sym (passed_other rest time there)) (omega (arith, a, c, le, some))
      where
        some_or : (m : ℕ) → (m ≡ 0 → ⊥) → 0 < m
        some_or zero h = absurd (h refl)
        some_or (suc m) h = omega arith

-- it goes on
pub less_going : (s : Schedule) (count : ℕ) → count ≤ s.left → 0 < count → turns_left (record s { left = s.left - count }) < turns_left s
unfolding turns_left
less_going s count le some = by (s.track == 0)
  where
    by : (v : Bool) → (s.left - count) + cond v (min s.tracks 1) (begins_more s.next) < s.left + cond v (min s.tracks 1) (begins_more s.next)
    by true = omega (arith, le, some)
    by false = omega (arith, le, some)

-- a turn that took none was the last of the first track
pub stuck_last : (track count : ℕ) (sample : Option SampleAt) (passed : Bool) → (passed ≡ true → ((track == 0) ≡ true) × (sample ≡ None)) → (passed ≡ false → 0 < count) → count ≡ 0
    → (track ≡ 0) × (option_map (λ (s : SampleAt). s.dts) sample ≡ None)
stuck_last track count sample true end some _ = (eqb-true track 0 (end refl).0, ap (option_map (λ (s : SampleAt). s.dts)) (end refl).1)
stuck_last track count sample false end some z = let lt = some refl in absurd (omega (arith, lt, z))

-- where the next sample stays, it took some
pub going_some : (track count : ℕ) (sample : Option SampleAt) (passed : Bool) → (passed ≡ true → ((track == 0) ≡ true) × (sample ≡ None)) → (passed ≡ false → 0 < count) → (sample ≡ None → ⊥) → 0 < count
going_some track count sample true end some there = absurd (there (end refl).1)
going_some track count sample false end some there = some refl

-- ---- where tracks are skipped

-- what a schedule keeps where a track passes
pub record KeepsOn (s later : Schedule) : Type 0 where
  pub tracks : later.tracks ≡ s.tracks
  pub first : later.first ≡ s.first
  pub left : later.left ≡ s.left
  pub turns : turns_left later ≤ turns_left s

wrapped_keeps : (s : Schedule) (next : Option ℕ) → ((wrapped s next).tracks ≡ s.tracks) × ((wrapped s next).first ≡ s.first) × ((wrapped s next).left ≡ s.left)
wrapped_keeps s None = (refl, refl, refl)
wrapped_keeps s (Some cut) = by (s.track == s.tracks)
  where
    by : (v : Bool) → let r = if◌then◌else◌ v (record s { from = cut; next = None; track = 0 }) s in (r.tracks ≡ s.tracks) × (r.first ≡ s.first) × (r.left ≡ s.left)
    by true = (refl, refl, refl)
    by false = (refl, refl, refl)

pub other_keeps : (s : Schedule) (time : Option ℕ) → 0 < s.track → KeepsOn s (track_passed s time)
other_keeps s time some =
    let k = wrapped_keeps (record s { track = s.track + 1 }) s.next in
    let a = wrapped_few (record s { track = s.track + 1 }) s.next refl (omega arith) in
    let b = at_other s some in
    subst (λ p. KeepsOn s p) (sym (passed_other s time some)) (record { tracks = k.0; first = k.1; left = k.2; turns = omega (arith, a, b) })

pub skips_keep : (d : DueTracks) (s later : Schedule) → Skips d s later → KeepsOn s later
skips_keep d s later (none _) = record { tracks = refl; first = refl; left = refl; turns = omega arith }
skips_keep d s later (one _ _ some lt late more) =
    let a = other_keeps s None some in
    let b = skips_keep d (track_passed s None) later more in
    let c = a.turns in
    let e = b.turns in
    record { tracks = b.tracks ∙ a.tracks; first = b.first ∙ a.first; left = b.left ∙ a.left; turns = omega (arith, c, e) }

-- ---- tracks that are skipped

-- it comes to a track further on
wrapped_not : (s : Schedule) (next : Option ℕ) → s.track < s.tracks → wrapped s next ≡ s
wrapped_not s None lt = refl
wrapped_not s (Some cut) lt = ap (λ v. cond v (record s { from = cut; next = None; track = 0 }) s) (ne_eqb s.track s.tracks (λ e. omega (arith, e, lt)))

pub skips_to : (d : DueTracks) (n track : ℕ) (s : Schedule) → s.track + n ≡ track → track < s.tracks → 0 < s.track → ((k : ℕ) → s.track ≤ k → k < track → cut_at s.next ≤ leaf d k) → Skips d s (record s { track = track })
skips_to d zero track s e lt some late =
    let same : s.track ≡ track = omega (arith, e) in
    subst (λ k. Skips d s (record s { track = k })) same (none s)
skips_to d (suc n) track s e lt some late =
    let on : Schedule = record s { track = s.track + 1 } in
    let is : track_passed s None ≡ on = passed_other s None some ∙ wrapped_not on s.next (omega (arith, e, lt)) in
    let more = skips_to d n track on (omega (arith, e)) lt (omega arith) (λ k from few. late k (omega (arith, from)) few) in
    one s (record s { track = track }) some (omega (arith, e, lt)) (late s.track (omega arith) (omega (arith, e))) (subst (λ p. Skips d p (record s { track = track })) (sym is) more)

-- it comes behind the last
pub skips_all : (d : DueTracks) (n : ℕ) (s : Schedule) → s.track + suc n ≡ s.tracks → 0 < s.track → ((k : ℕ) → s.track ≤ k → k < s.tracks → cut_at s.next ≤ leaf d k) → Skips d s (wrapped (record s { track = s.tracks }) s.next)
skips_all d zero s e some late =
    let last : s.track + 1 ≡ s.tracks = omega (arith, e) in
    let is : track_passed s None ≡ wrapped (record s { track = s.tracks }) s.next = passed_other s None some ∙ ap (λ k. wrapped (record s { track = k }) s.next) last in
    one s (wrapped (record s { track = s.tracks }) s.next) some (omega (arith, e)) (late s.track (omega arith) (omega (arith, e))) (subst (λ p. Skips d p (wrapped (record s { track = s.tracks }) s.next)) (sym is) (none (wrapped (record s { track = s.tracks }) s.next)))
skips_all d (suc n) s e some late =
    let on : Schedule = record s { track = s.track + 1 } in
    let is : track_passed s None ≡ on = passed_other s None some ∙ wrapped_not on s.next (omega (arith, e)) in
    let more = skips_all d n on (omega (arith, e)) (omega arith) (λ k from few. late k (omega (arith, from)) few) in
    one s (wrapped (record s { track = s.tracks }) s.next) some (omega (arith, e)) (late s.track (omega arith) (omega (arith, e))) (subst (λ p. Skips d p (wrapped (record s { track = s.tracks }) s.next)) (sym is) more)

-- the next fragment begins
pub skips_around : (d : DueTracks) (cut : ℕ) (s : Schedule) → s.track < s.tracks → 0 < s.track → s.next ≡ Some cut → ((k : ℕ) → s.track ≤ k → k < s.tracks → cut_at s.next ≤ leaf d k) → Skips d s (record s { from = cut; next = None; track = 0 })
skips_around d cut s lt some e late =
    let is : wrapped (record s { track = s.tracks }) s.next ≡ record s { from = cut; next = None; track = 0 } = ap (wrapped (record s { track = s.tracks })) e ∙ ap (λ v. cond v (record s { from = cut; next = None; track = 0 }) (record s { track = s.tracks })) (eq-eqb s.tracks s.tracks refl) in
    subst (λ p. Skips d s p) is (skips_all d (s.tracks - s.track - 1) s (omega (arith, lt)) some late)

-- or none does
pub skips_over : (d : DueTracks) (s : Schedule) → s.track < s.tracks → 0 < s.track → s.next ≡ None → ((k : ℕ) → s.track ≤ k → k < s.tracks → cut_at s.next ≤ leaf d k) → Skips d s (record s { track = s.tracks })
skips_over d s lt some e late = subst (λ p. Skips d s p) (ap (wrapped (record s { track = s.tracks })) e) (skips_all d (s.tracks - s.track - 1) s (omega (arith, lt)) some late)

-- ---- behind a turn

passed_keeps : (s : Schedule) (time : Option ℕ) → ((track_passed s time).tracks ≡ s.tracks) × ((track_passed s time).first ≡ s.first) × ((track_passed s time).left ≡ s.left)
passed_keeps s time = by (s.track == 0)
  where
    by : (v : Bool) → let r = if◌then◌else◌ v (wrapped (record s { next = time; track = 1 }) time) (wrapped (record s { track = s.track + 1 }) s.next) in (r.tracks ≡ s.tracks) × (r.first ≡ s.first) × (r.left ≡ s.left)
    by true = wrapped_keeps (record s { next = time; track = 1 }) time
    by false = wrapped_keeps (record s { track = s.track + 1 }) s.next

pub turned_keeps : (s : Schedule) (end : End) (n : ℕ) (x : Option SampleAt) → ((turned s end n x).tracks ≡ s.tracks) × ((turned s end n x).first ≡ s.first) × ((turned s end n x).left ≡ s.left - n)
turned_keeps s end n x = by (is_over end x)
  where
    rest : Schedule
    rest = record s { left = s.left - n }

    by : (v : Bool) → let r = if◌then◌else◌ v (track_passed rest (option_map (λ (a : SampleAt). a.dts) x)) rest in (r.tracks ≡ s.tracks) × (r.first ≡ s.first) × (r.left ≡ s.left - n)
    by true = passed_keeps rest (option_map (λ (a : SampleAt). a.dts) x)
    by false = (refl, refl, refl)

-- a turn, and the tracks that are skipped behind it
pub turn_keeps : (d : DueTracks) (s taken later : Schedule) (end : End) (n : ℕ) (x : Option SampleAt) → taken ≡ turned s end n x → Skips d taken later → (later.tracks ≡ s.tracks) × (later.first ≡ s.first) × (later.left ≡ s.left - n)
turn_keeps d s taken later end n x e skips =
    let k = turned_keeps s end n x in
    let a = skips_keep d taken later skips in
    (a.tracks ∙ ap (λ (p : Schedule). p.tracks) e ∙ k.0, a.first ∙ ap (λ (p : Schedule). p.first) e ∙ k.1, a.left ∙ ap (λ (p : Schedule). p.left) e ∙ k.2)

-- ---- the leaves behind a turn

pub there_before : {A : Type 0} (xs : List A) (k : ℕ) (x : A) → slice_get xs k ≡ Some x → k < length xs
there_before [] k x e = absurd cc
there_before (y ∷ xs) zero x e = omega arith
there_before (y ∷ xs) (suc k) x e = let a = there_before xs k x e in omega (arith, a)

get_set_other : {A : Type 0} (xs : List A) (k at : ℕ) (x y : A) → (k ≡ at → ⊥) → slice_get (slice_set xs at y) k ≡ Some x → slice_get xs k ≡ Some x
get_set_other [] k at x y other e = absurd cc
get_set_other (z ∷ xs) zero zero x y other e = absurd (other refl)
get_set_other (z ∷ xs) zero (suc at) x y other e = e
get_set_other (z ∷ xs) (suc k) zero x y other e = e
get_set_other (z ∷ xs) (suc k) (suc at) x y other e = get_set_other xs k at x y (λ f. other (ap suc f)) e

get_set_same : {A : Type 0} (xs : List A) (k : ℕ) (x y : A) → slice_get (slice_set xs k y) k ≡ Some x → y ≡ x
get_set_same [] k x y e = absurd cc
get_set_same (z ∷ xs) zero x y e = cc
get_set_same (z ∷ xs) (suc k) x y e = get_set_same xs k x y e

-- that of the track whose turn it was says when its next sample is due
pub times_set : (infos : List TrackLeft) (nexts : List (Option SampleAt)) (first : ℕ) (d e : DueTracks) (track : ℕ) (sample : Option SampleAt) (time : ℕ) → AreTimes infos nexts first d → d.leaves ≡ length infos
    → ((k : ℕ) → k < d.leaves → (k ≡ track → ⊥) → leaf e k ≡ leaf d k) → leaf e track ≡ time → ((info : TrackLeft) → slice_get infos track ≡ Some info → IsDue first info.timescale sample time)
    → AreTimes infos (slice_set nexts track sample) first e
times_set infos nexts first d e track sample time times many others own due k info next some is_info is_next = by (k == track) refl
  where
    by : (v : Bool) → (k == track) ≡ v → IsDue first info.timescale next (leaf e k)
    by true f =
        let same : k ≡ track = eqb-true k track f in
        let x : sample ≡ next = get_set_same nexts track next sample (subst (λ j. slice_get (slice_set nexts track sample) j ≡ Some next) same is_next) in
        let it = due info (subst (λ j. slice_get infos j ≡ Some info) same is_info) in
        let is : time ≡ leaf e k = sym own ∙ ap (leaf e) (sym same) in
        subst (λ (y : Option SampleAt). IsDue first info.timescale y (leaf e k)) x (subst (λ t. IsDue first info.timescale sample t) is it)
    by false f =
        let other : k ≡ track → ⊥ = λ h. true≢false (sym (eq-eqb k track h) ∙ f) in
        let old = times k info next some is_info (get_set_other nexts k track next sample other is_next) in
        let inside = there_before infos k info is_info in
        subst (λ t. IsDue first info.timescale next t) (sym (others k (omega (arith, inside, many)) other)) old

-- the first track has none
pub times_first : (infos : List TrackLeft) (nexts : List (Option SampleAt)) (first : ℕ) (d : DueTracks) (track : ℕ) (sample : Option SampleAt) → AreTimes infos nexts first d → track ≡ 0 → AreTimes infos (slice_set nexts track sample) first d
times_first infos nexts first d track sample times z k info next some is_info is_next = times k info next some is_info (get_set_other nexts k track next sample (λ h. omega (arith, h, some, z)) is_next)

-- ---- when a sample is due

scale_one : (scale : ℕ) → 0 < scale → max scale 1 ≡ scale
scale_one scale some = omega (arith, some)

-- where the leaf of a track is not before the cut, its pieces of this fragment are over
pub late_over : (next : Option ℕ) (first scale : ℕ) (x : Option SampleAt) (time : ℕ) → 0 < scale → IsDue first scale x time → cut_at next ≤ time → is_over (Before next first scale) x ≡ true
late_over next first scale None time some due late = refl
late_over None first scale (Some s) time some due late = let a = due.1 in absurd (omega (arith, a, late))
late_over (Some cut) first scale (Some s) time some due late =
    let is : time ≡ s.dts * first / scale = due.0 ∙ ap (λ k. s.dts * first / k) (scale_one scale some) in
    let own : cut ≤ s.dts * first / scale = subst (λ k. cut ≤ k) is late in
    le-leb (cut * scale) (s.dts * first) ((le-div_iff_mul-le {k = scale} {x = cut} {y = s.dts * first} some).0 own)

-- where it is, its next sample goes into a piece
pub due_goes : (next : Option ℕ) (first scale : ℕ) (x : Option SampleAt) (time : ℕ) → 0 < scale → IsDue first scale x time → (time < cut_at next) × (cut_at next < 2 ^ 128) → is_over (Before next first scale) x ≡ false
due_goes None first scale None time some due lt = let a = lt.0 in absurd (omega (arith, a, due))
due_goes (Some cut) first scale None time some due lt = let a = lt.0 in let b = lt.1 in absurd (omega (arith, a, b, due))
due_goes None first scale (Some s) time some due lt = refl
due_goes (Some cut) first scale (Some s) time some due lt = by (nat_le (cut * scale) (s.dts * first)) refl
  where
    is : time ≡ s.dts * first / scale
    is = due.0 ∙ ap (λ k. s.dts * first / k) (scale_one scale some)

    by : (v : Bool) → nat_le (cut * scale) (s.dts * first) ≡ v → nat_le (cut * scale) (s.dts * first) ≡ false
    by false e = e
    by true e =
        let le : cut * scale ≤ s.dts * first = leb-true (cut * scale) (s.dts * first) e in
        let own = subst (λ k. cut ≤ k) (sym is) ((le-div_iff_mul-le {k = scale} {x = cut} {y = s.dts * first} some).1 le) in
        let a = lt.0 in
        absurd (omega (arith, own, a))
