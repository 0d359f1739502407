-- Laws of what it says of a file that it was opened.
use Rattle.std.specs.Prelude.{ℕ, List, Bool, IsTrue}
use Rattle.mp4_boxes.specs.declared.refusal.Refusal.{Refusal}
use Rattle.mp4_present.specs.format.Denotes.{Denotes, FileTree}
use Rattle.mp4_present.specs.format.Presentation.{Presentation}
use Rattle.mp4_present.specs.words.Movies.{MovieSeen}
use Rattle.mp4_present.specs.words.OpenedMovie.{IsOpenedAs, IsOpenedOwn, OpensAs}
use Rattle.mp4_present.specs.words.Opening.{IsOpened, RefusesDenoted, RefusesOpen}

-- A file that was opened denotes a presentation, and the movie shows that one where its tracks are
-- not told to wait.
abbrev pub OpenedDenotes : Type 0
OpenedDenotes = (file : List ℕ) (m : MovieSeen) (tree : FileTree) → IsOpenedOwn file m tree
    → OpensAs file m

-- A movie keeps the length of its file, its one `moov`, and how long the longest `moof` is.
abbrev pub OpenedKeeps : Type 0
OpenedKeeps = (file : List ℕ) (m : MovieSeen) (tree : FileTree) → IsOpenedAs file m tree
    → IsOpened file m

-- A file that denotes a presentation is opened, unless memory lacks or a read failed.
abbrev pub DenotedOpens : Type 0
DenotedOpens = (honest : Bool) (file : List ℕ) (p : Presentation) (reads reads_after : ℕ)
    (r : Refusal) → IsTrue honest → Denotes file p
    → RefusesOpen honest file reads reads_after r → RefusesDenoted reads reads_after r
