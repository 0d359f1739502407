-- How the samples of two tracks that are not the same lie beside each other: the longest front that
-- both have, and of the rest the longest end that both have.
use Rattle.std.specs.Prelude.{◌≡◌, ℕ, ◌+◌, ◌-◌, ◌==◌, ◌≤◌, Bool, not, ◌&&◌, if◌then◌else◌, List, [], ◌∷◌, ◌++◌, length, take, drop, slice_get, Option, None, Some}
use Rattle.mp4_present.specs.format.Presentation.{Sample, Track, Presentation}
use Rattle.mp4_content.specs.format.Comparison.{sample_differences}
use Rattle.mp4_content.specs.format.Differences.{numbers_differ, each_differ, head_differences, movie_differences}
use Rattle.mp4_content.specs.format.Remaining.{remaining_samples}
use Rattle.mp4_content.specs.format.TimedSamples.{TimedSample, timed}
use Rattle.mp4_content.specs.declared.aligning.Alignment.{Alignment}
use Rattle.mp4_content.specs.declared.aligning.Between.{Between}
use Rattle.mp4_content.specs.declared.comparing.differences.Subject.TheVariants as subjects
use Rattle.mp4_content.specs.declared.comparing.differences.Field.TheVariants as fields
use Rattle.mp4_content.specs.declared.comparing.differences.Difference.{Difference}
use Rattle.mp4_content.specs.declared.without.Without.{Without}

-- ---- what two lists of samples have in common

-- so many entries at the end of a list
abbrev pub last : {A : Type 0} → ℕ → List A → List A
last n xs = drop (length xs - n) xs

abbrev pub BothHave : ℕ → List Sample → List Sample → Type 0
BothHave n xs ys = (n ≤ length xs) × (n ≤ length ys)

-- So many samples in front are the same in both, and no more.
pub record IsFront (xs ys : List Sample) (n : ℕ) : Type 0 where
  pub within : BothHave n xs ys
  pub same : take n xs ≡ take n ys
  pub longest : (k : ℕ) → BothHave k xs ys → take k xs ≡ take k ys → k ≤ n

-- So many samples at the end are the same in both, and no more.
pub record IsEnd (xs ys : List Sample) (n : ℕ) : Type 0 where
  pub within : BothHave n xs ys
  pub same : last n xs ≡ last n ys
  pub longest : (k : ℕ) → BothHave k xs ys → last k xs ≡ last k ys → k ≤ n

-- ---- two tracks

-- the decode time of the sample behind so many, 0 where there is none
abbrev pub time_of : Option TimedSample → ℕ
time_of None = 0
time_of (Some s) = s.time

abbrev pub time_behind : ℕ → Track → ℕ
time_behind n t = time_of (slice_get (timed t) n)

-- what a track has between so many samples in front and so many at the end; its time is that of the
-- file, whatever is left out
abbrev pub between : ℕ → ℕ → Track → Between
between front end t = record {
  samples = length t.samples - (front + end);
  time = time_behind front t;
  timescale = t.head.media.timescale;
}

-- Of the tracks of this number, of whose samples these are left, so much in front is the same, and
-- of the rest so much at the end.
pub record IsAlignment (number : ℕ) (t u : Track) (xs ys : List Sample) (a : Alignment)
    : Type 0 where
  pub track : a.track ≡ number
  pub is_front : IsFront xs ys a.front
  pub is_end : IsEnd (drop a.front xs) (drop a.front ys) a.end
  pub left : a.left ≡ between a.front a.end t
  pub right : a.right ≡ between a.front a.end u

-- none where what is left of all samples is the same
abbrev pub ArePairAligned : ℕ → Track → Track → List Sample → List Sample → Option Alignment
    → Type 0
ArePairAligned number t u xs ys None = xs ≡ ys
ArePairAligned number t u xs ys (Some a) = (xs ≡ ys → ⊥) × IsAlignment number t u xs ys a

abbrev pub IsPairAligned : Without → ℕ → Track → Track → Option Alignment → Type 0
IsPairAligned l number t u found =
    ArePairAligned number t u (remaining_samples l t) (remaining_samples l u) found

-- ---- two presentations

abbrev pub if_there : Option Alignment → List Alignment
if_there None = []
if_there (Some a) = a ∷ []

-- those of the tracks that both have, in order, the first of which has this number
abbrev pub AreAligned : Without → ℕ → List Track → List Track → List Alignment → Type 0
AreAligned l number (t ∷ ts) (u ∷ us) found = (first : Option Alignment) × (more : List Alignment)
    × IsPairAligned l number t u first × AreAligned l (number + 1) ts us more
    × (found ≡ if_there first ++ more)
AreAligned l number _ _ found = found ≡ []

-- ---- what differs beside that

-- of the samples of two tracks, which are compared one by one; not where tracks are aligned and
-- they are not as many
abbrev pub listed_samples : Bool → ℕ → List Sample → List Sample → List Difference
listed_samples aligned number xs ys = if aligned && not (length xs == length ys) then []
    else each_differ (sample_differences number) 1 xs ys

abbrev pub listed_track : Bool → ℕ → Track → Track → List Difference
listed_track aligned number t u = head_differences (subjects.Track number) t.head u.head
    ++ numbers_differ (subjects.Track number) fields.Start t.start u.start
    ++ numbers_differ (subjects.Track number) fields.Samples (length t.samples) (length u.samples)
    ++ listed_samples aligned number t.samples u.samples

-- all of it, in order
abbrev pub listed : Bool → Presentation → Presentation → List Difference
listed aligned p q = movie_differences p.movie q.movie
    ++ numbers_differ subjects.Movie fields.Tracks (length p.tracks) (length q.tracks)
    ++ each_differ (listed_track aligned) 1 p.tracks q.tracks
