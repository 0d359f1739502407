-- Laws of cuts and pieces: which samples begin fragments, and that the pieces of a track are its
-- samples in order.
use Rattle.std.specs.Prelude.{◌≡◌, ◌≢◌, ◌⊎◌, ℕ, ◌+◌, ◌*◌, ◌<◌, ◌≤◌, ◌==◌, nat_le, Bool, true, false, List, [], ◌∷◌, ◌++◌, length, map, filter, flat_map}
use Rattle.std.specs.List.{AllByRecursion}
use Rattle.mp4_boxes.specs.format.Bytes.{sum_of}
use Rattle.mp4_head.specs.format.Head.{TrackHead}
use Rattle.mp4_head.specs.format.Tree.{are_distinct}
use Rattle.mp4_present.specs.format.Presentation.{Track, Presentation, heads}
use Rattle.mp4_content.specs.format.TimedSamples.{TimedSample, timed}
use Rattle.mp4_plan.specs.format.Pieces.{is_sync, cuts, fragment_by_number, fragment_by_time, Piece, track_pieces, pieces}
use Rattle.mp4_plan.specs.format.Normal.{first_time, first_description}

-- ---- numbers that rise

-- from a number on, along the list, a number of each member never falls
abbrev pub NeverFalls : {A : Type 0} → (A → ℕ) → ℕ → List A → Type 0
NeverFalls f low [] = Unit {0}
NeverFalls f low (x ∷ xs) = (low ≤ f x) × NeverFalls f (f x) xs

-- ---- cuts

-- a sync sample that is at least one second behind the cut before it
abbrev pub MayCut : ℕ → ℕ → TimedSample → Type 0
MayCut second last s = (is_sync s.sample ≡ true) × (last + second ≤ s.time)

-- Each cut is such a sample behind the cut before it, and no sample between the two is one, nor any
-- behind the last cut.
abbrev pub AreCutsAfter : ℕ → ℕ → List TimedSample → List TimedSample → Type 0
AreCutsAfter second last samples [] = AllByRecursion (λ s. MayCut second last s → ⊥) samples
AreCutsAfter second last samples (cut ∷ cuts) =
    (between : List TimedSample) × (after : List TimedSample) × (samples ≡ between ++ cut ∷ after)
    × AllByRecursion (λ s. MayCut second last s → ⊥) between × MayCut second last cut
    × AreCutsAfter second cut.time after cuts

-- The first cut is the first sample, and the others are as above.
abbrev pub AreCuts : ℕ → List TimedSample → List TimedSample → Type 0
AreCuts second [] cuts = cuts ≡ []
AreCuts second (s ∷ samples) [] = ⊥
AreCuts second (s ∷ samples) (cut ∷ cuts) = (cut ≡ s) × AreCutsAfter second cut.time samples cuts

-- Cuts are of the first track.
abbrev pub AreCutsIn : List Track → List TimedSample → Type 0
AreCutsIn [] cuts = cuts ≡ []
AreCutsIn (first ∷ others) cuts = AreCuts first.head.media.timescale (timed first) cuts

-- The cuts are those of the first track: its first sample, and from each cut on the least sync
-- sample at least a second behind.
abbrev pub CutsAreLeast : Type 0
CutsAreLeast = (p : Presentation) → AreCutsIn p.tracks (cuts p)

-- ---- pieces

-- the pieces of the track with an ID
abbrev pub pieces_for : ℕ → List Piece → List Piece
pieces_for id pieces = filter (λ (piece : Piece). piece.id == id) pieces

-- their samples
abbrev pub samples_for : ℕ → List Piece → List TimedSample
samples_for id pieces = flat_map (λ (piece : Piece). piece.samples) (pieces_for id pieces)

-- The pieces of each track hold its samples in order, each once.
abbrev pub PiecesJoin : Type 0
PiecesJoin = (p : Presentation) → are_distinct (map (λ (h : TrackHead). h.id) (heads p)) ≡ true
    → AllByRecursion (λ (t : Track). samples_for t.head.id (pieces p) ≡ timed t) p.tracks

abbrev pub lasting : List TimedSample → ℕ
lasting samples = sum_of (λ (s : TimedSample). s.sample.duration) samples

-- Each piece begins when those before it end.
abbrev pub AreDue : ℕ → List Piece → Type 0
AreDue due [] = Unit {0}
AreDue due (piece ∷ more) = (first_time piece.samples ≡ due)
    × AreDue (due + lasting piece.samples) more

-- The pieces of each track follow one another in time, from its start on.
abbrev pub PiecesAreDue : Type 0
PiecesAreDue = (p : Presentation) → are_distinct (map (λ (h : TrackHead). h.id) (heads p)) ≡ true
    → AllByRecursion (λ (t : Track). AreDue t.start (pieces_for t.head.id (pieces p))) p.tracks

-- all samples of the list have one description
abbrev pub IsOnePiece : List TimedSample → Type 0
IsOnePiece samples = AllByRecursion (λ (s : TimedSample). s.sample.description
    ≡ first_description samples) samples

abbrev pub StartsOther : List TimedSample → List (List TimedSample) → Type 0
StartsOther samples [] = Unit {0}
StartsOther samples (next ∷ more) = first_description samples ≢ first_description next

-- each list has another description than the next
abbrev pub Alternate : List (List TimedSample) → Type 0
Alternate [] = Unit {0}
Alternate (samples ∷ more) = StartsOther samples more × Alternate more

-- the longest runs of samples with one description: joined they are the list, none is empty, and
-- neighbours differ
pub record AreLongestRuns (samples : List TimedSample) (runs : List (List TimedSample))
    : Type 0 where
  pub joined : flat_map (λ (run : List TimedSample). run) runs ≡ samples
  pub some : AllByRecursion (λ (run : List TimedSample). 0 < length run) runs
  pub one : AllByRecursion IsOnePiece runs
  pub longest : Alternate runs

-- The pieces of a track in a fragment are the longest runs of one description among its samples
-- there.
abbrev pub PiecesAreLongest : Type 0
PiecesAreLongest = (fragment : TimedSample → ℕ) (t : Track) (k : ℕ)
    → AreLongestRuns (filter (λ s. fragment s == k) (timed t))
    (map (λ (piece : Piece). piece.samples) (track_pieces fragment t k))

-- ---- fragments

-- Behind the place nothing passes the test, and what stands there does; or nothing passes, and the
-- place is 0.
abbrev pub IsLastPlace : {A : Type 0} → (A → Bool) → List A → ℕ → Type 0
IsLastPlace {A} test xs place =
    ((before : List A) × (x : A) × (after : List A) × (xs ≡ before ++ x ∷ after)
    × (place ≡ length before) × (test x ≡ true) × AllByRecursion (λ y. test y ≡ false) after)
    ⊎ ((place ≡ 0) × AllByRecursion (λ y. test y ≡ false) xs)

-- The fragment of a sample is that of the last cut that has begun, by number or by time; the first
-- one if none has.
abbrev pub FragmentsAreLast : Type 0
FragmentsAreLast = (cuts : List TimedSample) (s : TimedSample) (first_timescale timescale : ℕ)
    → IsLastPlace (λ (c : TimedSample). nat_le c.number s.number) cuts (fragment_by_number cuts s)
    × IsLastPlace (λ (c : TimedSample). nat_le (c.time * timescale) (s.time * first_timescale)) cuts
    (fragment_by_time cuts first_timescale timescale s)
