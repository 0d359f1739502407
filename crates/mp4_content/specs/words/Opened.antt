-- What is true over an opened file, and why a movie is not planned. `S` is what a bound says of the
-- store's type.
use Rattle.std.specs.Prelude.{ℕ, List, IsTrue}
use Rattle.mp4_boxes.specs.declared.refusal.Refusal.{Refusal}
use Rattle.mp4_boxes.specs.declared.refusal.Refusal.TheVariants as refusals
use Rattle.mp4_store.specs.words.Device.{HasRisen}
use Rattle.mp4_store.specs.declared.store.Store.{Ghosts as Store}
use Rattle.mp4_present.specs.format.Denotes.{FileTree}
use Rattle.mp4_present.specs.words.Movies.{MovieSeen}
use Rattle.mp4_present.specs.words.OpenedMovie.{IsOpenedAs}

-- over an honest store that has the file from which the movie was opened: this is true of it
abbrev pub OverOpened : {X : Type 0} → Store X → X → MovieSeen → (List ℕ → FileTree → Type 0)
    → Type 0
OverOpened S store m P = IsTrue (S.is_honest store) → (tree : FileTree)
    → IsOpenedAs (S.file store) m tree → P (S.file store) tree

-- Why a movie is not planned. The numbers are counts of failed reads, before and after.
abbrev pub RefusesPlan : ℕ → ℕ → Refusal → Type 0
RefusesPlan reads reads_after refusals.Memory = Unit {0}
RefusesPlan reads reads_after refusals.StoreFailed = HasRisen reads reads_after
RefusesPlan reads reads_after refusals.StoreChanged = Unit {0}
RefusesPlan reads reads_after _ = ⊥
