-- Laws of what is left where it doesn't count in which timescale times are said (`scaled`). Whether
-- that counts is a value beside the other words here.
use Rattle.std.specs.Prelude.{◌≡◌, ◌↔◌, ◌⊎◌, ℕ, ◌<◌, Bool, false, true, List, ◌∷◌, map, ℤ, pos, ◌*ℤ◌}
use Rattle.std.specs.Int.{IsGcd}
use Rattle.std.specs.List.{AllByRecursion, AllZip}
use Rattle.mp4_present.specs.format.Presentation.{Track, Presentation, Valid, IsInTime}
use Rattle.mp4_content.specs.format.Reduced.{HasNearOffsets, reduce}
use Rattle.mp4_content.specs.format.ReducedLaws.{KeepsLimits, both, nothing}
use Rattle.mp4_content.specs.format.CoveringLaws.{Covers}
use Rattle.mp4_content.specs.format.Timescales.{common_divisor, track_times, movie_times, movie_by, track_by, scaled}
use Rattle.mp4_content.specs.declared.without.Without.{Without}

-- What is found divides both numbers, and whatever divides both divides it.
abbrev pub DivisorIsGreatest : Type 0
DivisorIsGreatest = (a b : ℕ) → IsGcd a b (common_divisor a b)

-- ---- twice

-- where the first is left out the second is too
abbrev pub Implies : Bool → Bool → Type 0
Implies b c = b ≡ true → c ≡ true

-- of ends and timing, which say what times count, all that `m` leaves out `l` leaves out
abbrev pub CoversTimes : Without → Without → Type 0
CoversTimes m l = Implies m.ends l.ends × Implies m.timing l.timing

-- Twice is once, by the words of both, if the times that count the second time counted the first.
abbrev pub ScalesOnce : Type 0
ScalesOnce = (b c : Bool) (m l : Without) (p : Presentation) → Implies b c → CoversTimes m l
    → scaled c l (scaled b m p) ≡ scaled c (both l m) p

-- To leave out more of what is left of less is to leave out more at once.
abbrev pub ScalesMore : Type 0
ScalesMore = (b c : Bool) (m l : Without) (p : Presentation) → Implies b c → Covers m l
    → scaled c l (scaled b m p) ≡ scaled c l p

-- Twice by the same words is once.
abbrev pub ScaledIsFixed : Type 0
ScaledIsFixed = (b : Bool) (l : Without) (p : Presentation)
    → scaled b l (scaled b l p) ≡ scaled b l p

-- The order of two sets of words doesn't matter where both have timescales or neither has, and so
-- of ends and of timing.
abbrev pub ScalesInAnyOrder : Type 0
ScalesInAnyOrder = (b : Bool) (l m : Without) (p : Presentation) → l.ends ≡ m.ends
    → l.timing ≡ m.timing → scaled b l (scaled b m p) ≡ scaled b m (scaled b l p)

-- What is the same without some things is the same without these and more.
abbrev pub SameScaledWithoutMore : Type 0
SameScaledWithoutMore = (b c : Bool) (l m : Without) (p q : Presentation) → Implies b c
    → Covers l m → scaled b l p ≡ scaled b l q → scaled c m p ≡ scaled c m q

-- ---- where order matters

abbrev pub only_ends : Without
only_ends = record nothing { ends = true }

abbrev pub only_origins : Without
only_origins = record nothing { origins = true }

-- Ends that are left out behind times in lowest terms aren't left out with them: their durations
-- may have kept the others from being divided.
abbrev pub ScaledFirstIsOther : Type 0
ScaledFirstIsOther = (p : Presentation) × Valid p
    × (reduce only_ends (scaled true nothing p) ≡ scaled true only_ends p → ⊥)

-- Nor does it hold of all sets that both have timescales: durations that are 1 in place of those of
-- the ends count where these stay.
abbrev pub ScaledTwiceIsOther : Type 0
ScaledTwiceIsOther = (p : Presentation) × Valid p
    × (scaled true only_origins (scaled true only_ends p)
    ≡ scaled true (both only_origins only_ends) p → ⊥)

-- ---- exact

-- a time over the timescale `s` is as long as the other over `r`
abbrev pub SameTime : ℕ → ℕ → ℤ → ℤ → Type 0
SameTime s r x y = x *ℤ pos r ≡ y *ℤ pos s

-- There are two timescales over which each time of one list is as long as that of the other.
pub record SameTimes (xs ys : List ℤ) : Type 0 where
  pub s : ℕ
  pub r : ℕ
  pub above : 0 < s
  pub other_above : 0 < r
  pub each : AllZip (SameTime s r) xs ys

-- Where timing counts the times of a track begin with its timescale, and those of a movie with the
-- movie's: if these are above 0, as in what is valid, they are such timescales.
abbrev pub TimescalesAreTheirs : Type 0
TimescalesAreTheirs = (s r : ℕ) (xs ys : List ℤ) → 0 < s → 0 < r
    → SameTimes (pos s ∷ xs) (pos r ∷ ys) ↔ AllZip (SameTime s r) (pos s ∷ xs) (pos r ∷ ys)

-- a presentation apart from its times: each that counts is 0
abbrev pub untimed : Without → Presentation → Presentation
untimed l p = record {
  movie = movie_by l (λ n. 0) p.movie;
  tracks = map (track_by l (λ n. 0) (λ n. 0)) p.tracks;
}

-- Two presentations differ in nothing but the timescales in which they say their times.
pub record SameButTimescales (l : Without) (p q : Presentation) : Type 0 where
  pub rest : untimed l p ≡ untimed l q
  pub movie : SameTimes (movie_times l p) (movie_times l q)
  pub tracks : AllZip (λ (t u : Track). SameTimes (track_times l t) (track_times l u)) p.tracks
      q.tracks

-- The same is left exactly if what is left otherwise differs in nothing else.
abbrev pub ScaledIsExact : Type 0
ScaledIsExact = (l : Without) (p q : Presentation)
    → (scaled true l p ≡ scaled true l q) ↔ SameButTimescales l (reduce l p) (reduce l q)

-- ---- valid

-- its tracks are not too long, and their composition offsets fit
pub record ScaledInLimits (b : Bool) (l : Without) (p : Presentation) : Type 0 where
  pub in_time : AllByRecursion (IsInTime (scaled b l p).movie.timescale) (scaled b l p).tracks
  pub in_range : AllByRecursion HasNearOffsets (scaled b l p).tracks

-- What is left of what is valid is valid exactly if its tracks are not too long and their offsets
-- fit.
abbrev pub ScaledIsValid : Type 0
ScaledIsValid = (b : Bool) (l : Without) (p : Presentation) → Valid p
    → Valid (scaled b l p) ↔ ScaledInLimits b l p

-- Where edits, ends and origins stay it is so, and where timing doesn't count.
abbrev pub ScaledStaysValid : Type 0
ScaledStaysValid = (b : Bool) (l : Without) (p : Presentation) → Valid p
    → KeepsLimits l ⊎ (l.timing ≡ true) → ScaledInLimits b l p × Valid (scaled b l p)

-- Where timescales don't count it is so too if ends and origins stay, whether edits do or not:
-- where no track has edits the movie's timescale is 1.
abbrev pub EditsHoldNoScaledTime : Type 0
EditsHoldNoScaledTime = (l : Without) (p : Presentation) → Valid p → l.ends ≡ false
    → l.origins ≡ false → ScaledInLimits true l p × Valid (scaled true l p)
