-- A walk of which something is left out, said of the store that it reads. `S` is what a bound says
-- of the store's type.
use Rattle.std.specs.Prelude.{◌≡◌, ◌<◌, ◌≤◌, ℕ, ◌*◌, ◌^◌, List, length, map, take, slice_index, IsTrue}
use Rattle.mp4_store.specs.declared.store.Store.{Ghosts as Store}
use Rattle.mp4_tables.specs.declared.sample.SampleAt.{SampleAt}
use Rattle.mp4_head.specs.format.Tree.{TrackTree}
use Rattle.mp4_present.specs.format.Denotes.{FileTree}
use Rattle.mp4_present.specs.words.Movies.{MovieSeen, IsWalkOf}
use Rattle.mp4_present.specs.words.OpenedMovie.{IsOpenedAs}
use Rattle.mp4_content.specs.declared.reduced.Reduction.{Reduction}
use Rattle.mp4_present.specs.declared.walking.Walk.{Walk}
use Rattle.mp4_content.specs.words.ComingLess.{ComesLess}
use Rattle.mp4_plan.specs.words.Stretches.{JoinsOn}
use Rattle.mp4_plan.specs.words.Taken.{row_seen}
use Rattle.mp4_plan.specs.words.WriterSteps.{MayWrite}
use Rattle.mp4_plan.specs.declared.stretches.Stretches.{Stretches}
use Rattle.mp4_plan.specs.declared.planner.Planned.{Planned}
use Rattle.mp4_plan.specs.declared.noted_rows.Row.{Row}

-- over an honest store that has the file from which the movie was opened: it is so of what is left
-- of the samples that the walk has still to come
abbrev pub WhereLess : {X : Type 0} → Store X → X → MovieSeen → Reduction → Walk
    → (List ℕ → FileTree → TrackTree → List SampleAt → Type 0) → Type 0
WhereLess S store m l w P = IsTrue (S.is_honest store) → (tree : FileTree) (t : TrackTree)
    (samples : List SampleAt) → IsOpenedAs (S.file store) m tree
    → ComesLess l (S.file store) tree t m w samples → P (S.file store) tree t samples

-- the same of the steps that it may take to write
abbrev pub WhereMayWrite : {X : Type 0} → Store X → X → MovieSeen → Walk
    → (List ℕ → FileTree → TrackTree → ℕ → Type 0) → Type 0
WhereMayWrite S store m w P = IsTrue (S.is_honest store) → (tree : FileTree) (t : TrackTree)
    (n : ℕ) → IsOpenedAs (S.file store) m tree → MayWrite (S.file store) tree m t w n
    → P (S.file store) tree t n

-- ---- a piece

-- its numbers are bounded by that of its samples, which is at most so many
pub record HasBounds (most : ℕ) (p : Planned) : Type 0 where
  pub few : p.count ≤ most
  pub rows : (j : ℕ) → slice_index p.group_rows j ≤ p.count
  pub bytes : p.bytes ≤ p.count * 4294967295

-- a walk of this movie may be noted in these rows
pub record MayNote (m : MovieSeen) (w : Walk) (rows : List Row) : Type 0 where
  pub few : length rows < 2 ^ 32
  pub walk : IsWalkOf m w

-- so many of these samples are noted in the first rows, and where their bytes lie
pub record HasRows (n : ℕ) (samples : List SampleAt) (rows : List Row) (told told_after : Stretches)
    : Type 0 where
  pub seen : take n rows ≡ map row_seen (take n samples)
  pub joined : JoinsOn told told_after (take n samples)
