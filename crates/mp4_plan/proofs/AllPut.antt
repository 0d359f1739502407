-- What is so of an opened file, of a store that is still as honest and still of that file.
use Rattle.std.proofs.Common.{◌≡◌, ℕ, List, subst}
use Rattle.std.specs.Prelude.{Bool, IsTrue}
use Rattle.mp4_present.specs.format.Denotes.{FileTree}
use Rattle.mp4_present.specs.words.Movies.{MovieSeen}
use Rattle.mp4_present.specs.words.OpenedMovie.{IsOpenedAs}

pub still_opened : (told honest : Bool) (held file : List ℕ) (m : MovieSeen) (P : List ℕ → FileTree → Type 0) → told ≡ honest → held ≡ file → (IsTrue told → (tree : FileTree) → IsOpenedAs held m tree → P held tree)
    → IsTrue honest → (tree : FileTree) → IsOpenedAs file m tree → P file tree
still_opened told honest held file m P e same w =
    subst (λ (h : Bool). IsTrue h → (tree : FileTree) → IsOpenedAs file m tree → P file tree) e (subst (λ (f : List ℕ). IsTrue told → (tree : FileTree) → IsOpenedAs f m tree → P f tree) same w)
