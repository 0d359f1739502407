-- How many steps and looks a whole run may take. A step is a row, a `traf`, a run or a sample that
-- a check or a cursor passes. A look passes none of these: it finds the track of a `traf` by its
-- ID, or is a turn.
use Rattle.std.specs.Prelude.{ℕ, ◌+◌, ◌*◌, ◌/◌, ◌≤◌, ◌||◌, ◌&&◌, max, not, if◌then◌else◌, List, length, Result, Ok, Err}
use Rattle.mp4_boxes.specs.format.Bytes.{sum_of}
use Rattle.mp4_boxes.specs.declared.refusal.Refusal.{Refusal}
use Rattle.mp4_boxes.specs.declared.refusal.Refusal.TheVariants as refusals
use Rattle.mp4_tables.specs.format.Tables.{tables_of}
use Rattle.mp4_tables.specs.format.TableRows.{table_rows}
use Rattle.mp4_frag.specs.format.Fragments.{FragmentTree, fragment_of}
use Rattle.mp4_frag.specs.format.FragmentRows.{fragment_rows}
use Rattle.mp4_head.specs.format.Tree.{TrackTree}
use Rattle.mp4_present.specs.format.ByBytes.{OpensWithin, LooksByBytes}
use Rattle.mp4_present.specs.format.Denotes.{FileTree, Denotes}
use Rattle.mp4_present.specs.format.Presentation.{Presentation, sample_total}
use Rattle.mp4_content.specs.declared.without.Without.{Without}
use Rattle.mp4_plan.specs.format.TurnCount.{most_turns}
use Rattle.mp4_answers.specs.format.Headline.{DenotesNothing}

-- the rows of all tables of a file, and the `traf`s, runs and rows of `sbgp` of all its `moof`s
abbrev pub row_total : FileTree → ℕ
row_total tree = sum_of (λ (t : TrackTree). table_rows (tables_of t.table)) tree.movie.tracks
    + sum_of (λ (f : FragmentTree). fragment_rows (fragment_of f)) tree.fragments

-- One more walk where timescales are left out: to find by what times are divided.
abbrev pub scaling_walks : Without → ℕ
scaling_walks l = if l.timescales then 1 else 0

-- and one where it is left out how tracks begin: to find how long they wait
abbrev pub telling_walks : Without → ℕ
telling_walks l = if l.lead_ins then 1 else 0

-- both
abbrev pub more_walks : Without → ℕ
more_walks l = telling_walks l + scaling_walks l

-- The steps for each sample and each row where this is left out. Where it is ends, timescales or
-- where tracks begin, each track is walked over once more: what remains of all its samples has to
-- be known first.
abbrev pub steps_each : Without → ℕ
steps_each l = 12 + 3 * more_walks l
    + (if (l.ends || l.origins || l.lead_ins || l.timescales) && not l.timing then 3 else 0)

-- The steps taken over a file to write the normal form of what is left of it. Where it denotes a
-- presentation: 12, 15, 18 or 21 for each sample and each row, however many tracks there are. Where
-- it denotes nothing: by its bytes.
pub record WorksWithin (l : Without) (file : List ℕ) (old new : ℕ) : Type 0 where
  pub few : (p : Presentation) → (d : Denotes file p)
      → new ≤ old + steps_each l * (sample_total p + row_total d.tree)
  pub refused : DenotesNothing file → OpensWithin file old new

-- A law of it: by the tracks, of which one is counted where there is none, 8 times one more than
-- they are, for each sample and each row; 9 times with one walk more, and 11 times with two.
abbrev pub StepsByTracks : Type 0
StepsByTracks = (l : Without) (file : List ℕ) (old new : ℕ) → WorksWithin l file old new
    → (p : Presentation) (d : Denotes file p) → new ≤ old + (16 + 3 * more_walks l) / 2
    * ((max 1 (length p.tracks) + 1) * (sample_total p + row_total d.tree))

-- The steps of looking at a file, and of a walk over one of its tracks: 8 for each sample and each
-- row, however many tracks there are.
pub record WalksWithin (file : List ℕ) (old new : ℕ) : Type 0 where
  pub denoted : (p : Presentation) → (d : Denotes file p)
      → new ≤ old + 8 * (sample_total p + row_total d.tree)
  pub refused : DenotesNothing file → OpensWithin file old new

-- The steps for each sample and each row, of opening a file and of so many walks over each of its
-- tracks: 3 for opening it and 3 for each walk, and 8 for a single one, since opening takes 7 for a
-- row of the tables.
abbrev pub walked_each : ℕ → ℕ
walked_each walks = max 8 (3 * (walks + 1))

-- The steps of looking at a file, and of printing what is left of it: those of one walk, and of
-- more.
pub record PrintsWithin (l : Without) (file : List ℕ) (old new : ℕ) : Type 0 where
  pub denoted : (p : Presentation) → (d : Denotes file p)
      → new ≤ old + walked_each (1 + more_walks l) * (sample_total p + row_total d.tree)
  pub refused : DenotesNothing file → OpensWithin file old new

-- where it denotes a presentation, at least one for each of its samples, and one for each row
abbrev pub TakesEach : List ℕ → ℕ → ℕ → Type 0
TakesEach file old new = (p : Presentation) → (d : Denotes file p)
    → old + (sample_total p + row_total d.tree) ≤ new

-- The whole file was looked at before this answer: there is one, or no track has the ID, or a put
-- failed, since nothing is put before. Any other refusal may come sooner.
abbrev pub OnJudged : {A : Type 0} → Result A Refusal → Type 0 → Type 0
OnJudged (Ok done) P = P
OnJudged (Err refusals.NoSuchTrack) P = P
OnJudged (Err refusals.WriteFailed) P = P
OnJudged (Err _) P = Unit {0}

-- and of two files, for each of both
abbrev pub TakesEachOfBoth : List ℕ → List ℕ → ℕ → ℕ → Type 0
TakesEachOfBoth file other old new = (p q : Presentation) → (d : Denotes file p)
    → (e : Denotes other q)
    → old + (sample_total p + row_total d.tree + (sample_total q + row_total e.tree)) ≤ new

-- ---- looks

-- at how many places of a file a track is looked for by its ID: each `traf`
abbrev pub place_total : FileTree → ℕ
place_total tree = sum_of (λ (f : FragmentTree). length (fragment_of f).trafs) tree.fragments

-- The looks at a file: at most one for each `traf`, however many tracks there are. Where it denotes
-- nothing: by its bytes.
pub record FindsWithin (file : List ℕ) (old new : ℕ) : Type 0 where
  pub denoted : (p : Presentation) → (d : Denotes file p)
      → new ≤ old + place_total d.tree
  pub refused : DenotesNothing file → LooksByBytes file old new

-- The looks taken to write a file's normal form: those at the file, and the turns of two ways over
-- all pieces, to plan and to write; a turn takes samples of a track.
pub record TurnsWithin (file : List ℕ) (old new : ℕ) : Type 0 where
  pub denoted : (p : Presentation) → (d : Denotes file p) → new ≤ old
      + (place_total d.tree + 2 * most_turns (sample_total p) (length p.tracks))
  pub refused : DenotesNothing file → LooksByBytes file old new
