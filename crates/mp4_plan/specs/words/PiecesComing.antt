-- The samples of tracks that are still to come, and the pieces that they make from a place in the
-- order of pieces on.
use Rattle.std.specs.Prelude.{◌≡◌, ◌<◌, ℕ, zero, suc, ◌+◌, ◌*◌, nat_le, ◌&&◌, Bool, false, if◌then◌else◌, List, [], ◌∷◌, ◌++◌, map, flat_map, drop, Option, Some, None}
use Rattle.mp4_present.specs.format.Presentation.{Track, Presentation}
use Rattle.mp4_content.specs.format.TimedSamples.{TimedSample, timed}
use Rattle.mp4_plan.specs.format.Pieces.{is_sync, cuts_after, Piece, by_description, pieces}
use Rattle.mp4_plan.specs.declared.ends.End.{End}
use Rattle.mp4_plan.specs.declared.ends.End.TheVariants.{Sync, Before}
use Rattle.mp4_plan.specs.declared.schedule.Schedule.{Schedule}

-- a track of which these samples are to come
pub record Coming : Type 0 where
  pub id : ℕ
  pub timescale : ℕ
  pub samples : List TimedSample

abbrev pub coming_of : Track → Coming
coming_of t = record { id = t.head.id; timescale = t.head.media.timescale; samples = timed t }

-- a piece with this end has ended where the sample comes
abbrev pub stops : End → TimedSample → Bool
stops (Sync from scale) s = is_sync s.sample && nat_le (from + scale) s.time
stops (Before None first scale) s = false
stops (Before (Some cut) first scale) s = nat_le (cut * scale) (s.time * first)

-- those before the first that passes a test, and those from it on
abbrev pub front : {A : Type 0} → (A → Bool) → List A → List A
front test [] = []
front test (x ∷ xs) = if test x then [] else x ∷ front test xs

abbrev pub rest : {A : Type 0} → (A → Bool) → List A → List A
rest test [] = []
rest test (x ∷ xs) = if test x then x ∷ xs else rest test xs

-- the pieces of a track up to an end, and what is to come behind it
abbrev pub pieces_before : End → Coming → List Piece
pieces_before end t = map (λ samples. record { id = t.id; samples = samples })
    (by_description (front (stops end) t.samples))

abbrev pub left_behind : End → Coming → Coming
left_behind end t = record {
  id = t.id;
  timescale = t.timescale;
  samples = rest (stops end) t.samples;
}

-- the ends of this fragment: in the first track, and in another one
abbrev pub end_of_first : ℕ → Coming → End
end_of_first from t = Sync from t.timescale

abbrev pub end_of_other : Option ℕ → ℕ → Coming → End
end_of_other next first t = Before next first t.timescale

abbrev pub others_before : Option ℕ → ℕ → List Coming → List Piece
others_before next first others =
    flat_map (λ (t : Coming). pieces_before (end_of_other next first t) t) others

abbrev pub others_behind : Option ℕ → ℕ → List Coming → List Coming
others_behind next first others = map (λ (t : Coming). left_behind (end_of_other next first t) t)
    others

-- all pieces from a fragment on that began at this time, with the cuts behind it
abbrev pub fragments_left : ℕ → List TimedSample → Coming → List Coming → List Piece
fragments_left from [] first others = pieces_before (end_of_first from first) first
    ++ others_before None first.timescale others
fragments_left from (cut ∷ cuts) first others =
    pieces_before (end_of_first from first) first
    ++ others_before (Some cut.time) first.timescale others
    ++ fragments_left cut.time cuts (left_behind (end_of_first from first) first)
    (others_behind (Some cut.time) first.timescale others)

abbrev pub all_left : ℕ → Coming → List Coming → List Piece
all_left from first others = fragments_left from (cuts_after first.timescale from first.samples)
    first others

-- those of the fragment that follows, where one does
abbrev pub next_left : Option ℕ → Coming → List Coming → List Piece
next_left None first others = []
next_left (Some cut) first others =
    all_left cut first (others_behind (Some cut) first.timescale others)

-- all pieces from the turn of a track on
abbrev pub pieces_left : Schedule → Coming → List Coming → List Piece
pieces_left s first others = by_track s.track
  where
    by_track : ℕ → List Piece
    by_track zero = all_left s.from first others
    by_track (suc i) = others_before s.next first.timescale (drop i others)
        ++ next_left s.next first others

-- the first track of some, and the others
abbrev pub BeginsWithAll : List Track → Presentation → Type 0
BeginsWithAll [] p = pieces p ≡ []
BeginsWithAll (first ∷ others) p = 0 < first.head.media.timescale
    → pieces p ≡ all_left first.start (coming_of first) (map coming_of others)

-- From the first turn on, the pieces that are left are all pieces.
abbrev pub TurnsBeginWithAll : Type 0
TurnsBeginWithAll = (p : Presentation) → BeginsWithAll p.tracks p
