-- Where fragments begin, and which samples go into one `moof` and `mdat` (this project's own rule).
use Rattle.std.specs.Prelude.{ℕ, ◌+◌, ◌*◌, ◌/◌, ◌%◌, ◌^◌, max, nat_le, ◌&&◌, ◌==◌, Bool, cond, List, [], ◌∷◌, ◌++◌, length, map, filter, flat_map, if◌then◌else◌}
use Rattle.std.specs.List.{range_with_len}
use Rattle.mp4_present.specs.format.Presentation.{Sample, Track, Presentation}
use Rattle.mp4_content.specs.format.TimedSamples.{TimedSample, timed}

-- sample_is_non_sync_sample is not set (8.8.3.1)
abbrev pub is_sync : Sample → Bool
is_sync s = s.flags / 2 ^ 16 % 2 == 0

-- From each cut on, the next is the first sync sample that is at least one second behind it.
abbrev pub cuts_after : ℕ → ℕ → List TimedSample → List TimedSample
cuts_after second last [] = []
cuts_after second last (s ∷ samples) =
    if is_sync s.sample && nat_le (last + second) s.time then s ∷ cuts_after second s.time samples
    else cuts_after second last samples

-- the samples of the first track at which fragments begin: the first one, and the cuts behind it
abbrev pub cuts_in : ℕ → List TimedSample → List TimedSample
cuts_in second [] = []
cuts_in second (s ∷ samples) = s ∷ cuts_after second s.time samples

abbrev pub cuts : Presentation → List TimedSample
cuts p = first_cuts p.tracks
  where
    first_cuts : List Track → List TimedSample
    first_cuts [] = []
    first_cuts (t ∷ tracks) = cuts_in t.head.media.timescale (timed t)

-- the last place, from k on, at which the test passes; else the place given
abbrev pub last_place : {A : Type 0} → (A → Bool) → ℕ → ℕ → List A → ℕ
last_place test k found [] = found
last_place test k found (x ∷ xs) = last_place test (k + 1) (cond (test x) k found) xs

-- The fragment of a sample: in the first track by number, in another by time, both in seconds; the
-- first one if none has begun.
abbrev pub fragment_by_number : List TimedSample → TimedSample → ℕ
fragment_by_number cuts s = last_place (λ (c : TimedSample). nat_le c.number s.number) 0 0 cuts

abbrev pub fragment_by_time : List TimedSample → ℕ → ℕ → TimedSample → ℕ
fragment_by_time cuts first_timescale timescale s =
    last_place (λ (c : TimedSample). nat_le (c.time * timescale) (s.time * first_timescale))
    0 0 cuts

-- a piece: samples of one track, one after the other, of one fragment and one description
pub record Piece : Type 0 where
  pub id : ℕ
  pub samples : List TimedSample

-- a sample in front of lists of neighbours, in the first of them if it has its description
abbrev pub put_before : TimedSample → List (List TimedSample) → List (List TimedSample)
put_before s [] = (s ∷ []) ∷ []
put_before s ([] ∷ more) = (s ∷ []) ∷ more
put_before s ((t ∷ ts) ∷ more) =
    if s.sample.description == t.sample.description then (s ∷ t ∷ ts) ∷ more
    else (s ∷ []) ∷ (t ∷ ts) ∷ more

-- split exactly where neighbours differ in description
abbrev pub by_description : List TimedSample → List (List TimedSample)
by_description [] = []
by_description (s ∷ samples) = put_before s (by_description samples)

-- the pieces of one track in a fragment, by the fragment of each sample
abbrev pub track_pieces : (TimedSample → ℕ) → Track → ℕ → List Piece
track_pieces fragment t k = map (λ samples. record { id = t.head.id; samples = samples })
    (by_description (filter (λ s. fragment s == k) (timed t)))

-- the pieces of all tracks in a fragment
abbrev pub fragment_pieces : List Track → List TimedSample → ℕ → List Piece
fragment_pieces [] cuts k = []
fragment_pieces (first ∷ others) cuts k =
    track_pieces (fragment_by_number cuts) first k
    ++ flat_map (λ (t : Track).
    track_pieces (fragment_by_time cuts first.head.media.timescale t.head.media.timescale) t k)
    others

-- in order of fragment, then track, then sample; without a cut there is one fragment
abbrev pub pieces : Presentation → List Piece
pieces p = flat_map (fragment_pieces p.tracks (cuts p)) (range_with_len 0 (max 1 (length (cuts p))))
