-- Laws of what is left where it doesn't count how tracks begin, but how long each of them waits
-- (`waited`). Whether that counts is a value beside the other words here.
use Rattle.std.specs.Prelude.{◌≡◌, ◌↔◌, ◌⊎◌, ℕ, ◌+◌, ◌*◌, ◌<◌, ◌≤◌, Bool, false, true, if◌then◌else◌, List, [], ◌∷◌, map, ℤ, pos, ◌+ℤ◌, ◌*ℤ◌}
use Rattle.std.specs.List.{AllByRecursion, AllZip}
use Rattle.mp4_present.specs.format.Presentation.{Track, Presentation, Valid, IsInTime, IsWithinLimits, normal_moov_length, max_moov}
use Rattle.mp4_content.specs.format.LeadIns.{has_samples, says_beginnings, Moment, first_moments, later, delay, delays_of, wait_each, waited, kept, left_of, with_origins, words_told, told}
use Rattle.mp4_content.specs.format.Reduced.{reduce, HasNearOffsets}
use Rattle.mp4_content.specs.format.ReducedLaws.{nothing}
use Rattle.mp4_content.specs.format.CoveringLaws.{Covers}
use Rattle.mp4_content.specs.format.Remaining.{remaining}
use Rattle.mp4_content.specs.format.Timescales.{scaled}
use Rattle.mp4_content.specs.format.TimescalesLaws.{Implies, only_origins}
use Rattle.mp4_content.specs.declared.without.Without.{Without}

-- all timescales are above 0, as in what is valid
abbrev pub HasTimescales : Presentation → Type 0
HasTimescales p = (0 < p.movie.timescale)
    × AllByRecursion (λ (t : Track). 0 < t.head.media.timescale) p.tracks

-- Twice is once.
abbrev pub WaitedIsFixed : Type 0
WaitedIsFixed = (p : Presentation) → HasTimescales p → waited true (waited true p) ≡ waited true p

-- ---- delays

abbrev pub Among : Moment → List Moment → Type 0
Among x [] = ⊥
Among x (y ∷ moments) = (x ≡ y) ⊎ Among x moments

-- one of these moments, which is no later than any of them, and how much later each moment is than
-- it
pub record First (moments : List Moment) : Type 0 where
  pub x : Moment
  pub among : Among x moments
  pub not_later : AllByRecursion (λ y. later x y ≡ 0) moments
  pub from : (y : Moment) → 0 < y.scale → delay moments y ≡ later y x

-- The most by which a moment is later than any of these is how much later it is than the first.
abbrev pub DelayIsFromFirst : Type 0
DelayIsFromFirst = (y : Moment) (moments : List Moment)
    → AllByRecursion (λ (x : Moment). 0 < x.scale) (y ∷ moments) → First (y ∷ moments)

-- ---- what counts

-- how many microseconds each track waits, where edits say no more than when tracks begin
abbrev pub delays : Presentation → List ℕ
delays p = if says_beginnings p then delays_of p else []

-- What is left apart from how long tracks wait: none waits, and none is cut off. Where edits say
-- more it is all that is left.
abbrev pub unwaited : Presentation → Presentation
unwaited p = wait_each (λ x. 0) p

-- The same is left exactly if what is left apart from that is the same, and each track waits as
-- long. (So it is never the same where the edits of one say more, and those of the other don't.)
abbrev pub WaitedIsExact : Type 0
WaitedIsExact = (p q : Presentation) → (waited true p ≡ waited true q)
    ↔ ((unwaited p ≡ unwaited q) × (delays p ≡ delays q))

-- ---- one step of all

-- The second moment is later than the first by so many ticks, of which so many are a second: as
-- fractions, the second is the first and this.
abbrev pub BeginsLater : ℤ → ℕ → Moment → Moment → Type 0
BeginsLater step scale x y =
    y.ticks *ℤ pos (x.scale * scale) ≡ (x.ticks *ℤ pos scale +ℤ step *ℤ pos x.scale) *ℤ pos y.scale

-- Where each track with samples begins by the same step later in one than in the other, and all
-- else is the same, the same is left: also where it isn't a whole number of microseconds.
abbrev pub StepCountsNot : Type 0
StepCountsNot = (p q : Presentation) (step : ℤ) (scale : ℕ) → HasTimescales p → HasTimescales q
    → 0 < scale → unwaited p ≡ unwaited q
    → AllZip (BeginsLater step scale) (first_moments p.movie.timescale p.tracks)
    (first_moments q.movie.timescale q.tracks)
    → waited true p ≡ waited true q

-- a presentation whose tracks begin so many seconds later: those with samples
abbrev pub start_later : ℕ → Track → Track
start_later seconds t = record t {
  start = if has_samples t then t.start + seconds * t.head.media.timescale else t.start;
}

abbrev pub all_later : ℕ → Presentation → Presentation
all_later seconds p = record p { tracks = map (start_later seconds) p.tracks }

-- So it is if each begins some seconds later.
abbrev pub SecondsCountNot : Type 0
SecondsCountNot = (seconds : ℕ) (p : Presentation) → HasTimescales p
    → waited true (all_later seconds p) ≡ waited true p

-- ---- more left out

-- Words that leave what says how tracks begin: edits and timing stay, and so do origins, but where
-- it was left out how tracks begin.
abbrev pub KeepsBeginnings : Bool → Without → Type 0
KeepsBeginnings b m = (m.edits ≡ false) × (m.timing ≡ false) × ((m.origins ≡ false) ⊎ (b ≡ true))

-- To leave out more of what is left of less is to leave out more at once, if what is left of less
-- says how tracks begin.
abbrev pub KeepsMore : Type 0
KeepsMore = (b c d e : Bool) (m l : Without) (p : Presentation) → HasTimescales p → Implies b d
    → Implies c e → Covers m l → KeepsBeginnings b m → kept d e l (kept b c m p) ≡ kept d e l p

-- Where it is left out how tracks begin, or isn't, what is the same without some things is the same
-- without these and more.
abbrev pub SameKeptWithoutMore : Type 0
SameKeptWithoutMore = (b c e : Bool) (l m : Without) (p q : Presentation) → Implies c e
    → Covers l m → kept b c l p ≡ kept b c l q → kept b e m p ≡ kept b e m q

-- It is so too if how tracks begin is left out with more, where what is left says it.
abbrev pub SameKeptWithoutBeginnings : Type 0
SameKeptWithoutBeginnings = (c e : Bool) (l m : Without) (p q : Presentation) → HasTimescales p
    → HasTimescales q → Implies c e → Covers l m → KeepsBeginnings false l
    → kept false c l p ≡ kept false c l q → kept true e m p ≡ kept true e m q

-- Where neither edits nor timing count either, it doesn't matter whether it counts how tracks
-- begin.
abbrev pub KeptWithoutTimes : Type 0
KeptWithoutTimes = (b c : Bool) (l : Without) (p : Presentation) → l.edits ≡ true
    → l.timing ≡ true → kept b c l p ≡ scaled c l p

-- So to leave out these and more of what is left of less is to leave out all at once, whatever the
-- less is.
abbrev pub KeepsMoreWithoutTimes : Type 0
KeepsMoreWithoutTimes = (b c d e : Bool) (m l : Without) (p : Presentation) → Implies c e
    → Covers m l → l.edits ≡ true → l.timing ≡ true → kept d e l (kept b c m p) ≡ kept d e l p

-- Twice by the same words is once, where they leave what says how tracks begin.
abbrev pub KeptIsFixed : Type 0
KeptIsFixed = (b c : Bool) (l : Without) (p : Presentation) → HasTimescales p → KeepsBeginnings b l
    → kept b c l (kept b c l p) ≡ kept b c l p

-- ---- where order matters

abbrev pub only_edits : Without
only_edits = record nothing { edits = true }

abbrev pub only_timing : Without
only_timing = record nothing { timing = true }

-- Two presentations are the same without some things, and not without these and how tracks begin.
abbrev pub HidesBeginnings : Without → Type 0
HidesBeginnings l = (p : Presentation) × (q : Presentation) × Valid p × Valid q
    × (reduce l p ≡ reduce l q) × (kept true false l p ≡ kept true false l q → ⊥)

-- Origins hide when samples begin, of which how long a track waits is made. So does timing. Edits
-- hide that they say more: then the movie's timescale stays, and else it becomes that of
-- microseconds.
abbrev pub OriginsHideBeginnings : Type 0
OriginsHideBeginnings = HidesBeginnings only_origins

abbrev pub TimingHidesBeginnings : Type 0
TimingHidesBeginnings = HidesBeginnings only_timing

abbrev pub EditsHideBeginnings : Type 0
EditsHideBeginnings = HidesBeginnings only_edits

-- Twice by these words isn't once.
abbrev pub ChangesAgain : Without → Type 0
ChangesAgain l = (p : Presentation) × Valid p
    × (kept true false l (kept true false l p) ≡ kept true false l p → ⊥)

-- Without timing the edits of tracks that wait are in microseconds, and the movie's timescale is
-- 1,000.
abbrev pub TimingChangesAgain : Type 0
TimingChangesAgain = ChangesAgain only_timing

-- Edits that say more are gone the second time: so the movie's timescale becomes that of
-- microseconds.
abbrev pub EditsChangeAgain : Type 0
EditsChangeAgain = ChangesAgain only_edits

-- ---- by words

-- What is left is what is left without origins of a presentation whose edits say how long tracks
-- wait.
abbrev pub KeptIsTold : Type 0
KeptIsTold = (b c : Bool) (l : Without) (p : Presentation)
    → kept b c l p ≡ scaled c (with_origins b l) (told b p)

-- So what is left is what remains of a presentation that may be told so.
abbrev pub LeftIsTold : Type 0
LeftIsTold = (l : Without) (p : Presentation)
    → left_of l p ≡ remaining (words_told l) (told l.lead_ins p)

-- ---- valid

-- What is valid and told so is valid exactly if it is within the limits.
abbrev pub ToldIsValid : Type 0
ToldIsValid = (b : Bool) (p : Presentation) → Valid p → Valid (told b p) ↔ IsWithinLimits (told b p)

-- Its tracks are not too long; their composition offsets fit; and the `moov` isn't too long, since
-- tracks that wait have two edits, which may be more than they had.
pub record KeptInLimits (b c : Bool) (l : Without) (p : Presentation) : Type 0 where
  pub in_time : AllByRecursion (IsInTime (kept b c l p).movie.timescale) (kept b c l p).tracks
  pub in_range : AllByRecursion HasNearOffsets (kept b c l p).tracks
  pub moov : normal_moov_length (kept b c l p) ≤ max_moov

-- What is left of what is valid is valid exactly if it is within these limits.
abbrev pub KeptIsValid : Type 0
KeptIsValid = (b c : Bool) (l : Without) (p : Presentation) → Valid p
    → Valid (kept b c l p) ↔ KeptInLimits b c l p
