-- What is known of a file while it is opened, and why it is not opened.
use Rattle.std.specs.Prelude.{◌≡◌, ℕ, List, [], ◌∷◌, length, Bool, true, IsTrue, Err, codes}
use Rattle.mp4_store.specs.words.Device.{HasRisen}
use Rattle.mp4_boxes.specs.format.Box.{Box, file_container}
use Rattle.mp4_boxes.specs.format.Children.{Holds, of_kind}
use Rattle.mp4_boxes.specs.declared.rule.Rule.TheVariants.{File}
use Rattle.mp4_boxes.specs.declared.refusal.Refusal.{Refusal}
use Rattle.mp4_boxes.specs.declared.refusal.Refusal.TheVariants as refusals
use Rattle.mp4_present.specs.format.Denotes.{begins_with_movie}
use Rattle.mp4_present.specs.format.Judge.{judge}
use Rattle.mp4_present.specs.words.Movies.{MovieSeen, moov_box}
use Rattle.mp4_present.specs.words.Outline.{IsOutline, longest}
use Rattle.mp4_present.specs.declared.opening.outline.Outline.{Outline}

-- the file of an honest store has the boxes of the table, with this outline
abbrev pub HasOutline : Bool → List ℕ → Outline → Type 0
HasOutline honest file o = IsTrue honest → (boxes : List Box)
    × Holds File (file_container file) boxes × (begins_with_movie boxes ≡ true)
    × IsOutline file boxes o

-- What is kept of the file: its length, its `moov`, and how long its longest `moof` is.
pub record IsOpened (file : List ℕ) (m : MovieSeen) : Type 0 where
  pub boxes : List Box
  pub holds : Holds File (file_container file) boxes
  pub order : begins_with_movie boxes ≡ true
  pub whole : m.file_len ≡ length file
  pub moov : of_kind (codes "moov") boxes ≡ moov_box m ∷ []
  pub longest_is : m.longest ≡ longest (of_kind (codes "moof") boxes)

-- Why a file is not opened: so, and the fault is its first.
abbrev pub RefusesOpen : Bool → List ℕ → ℕ → ℕ → Refusal → Type 0
RefusesOpen honest file reads reads_after (refusals.Fault f) = IsTrue honest → judge file ≡ Err f
RefusesOpen honest file reads reads_after refusals.Memory = Unit {0}
RefusesOpen honest file reads reads_after refusals.StoreFailed = HasRisen reads reads_after
RefusesOpen honest file reads reads_after refusals.StoreChanged = IsTrue honest → ⊥
RefusesOpen honest file reads reads_after _ = ⊥

-- Why a file that denotes a presentation is not opened: there is no memory, or a read failed.
abbrev pub RefusesDenoted : ℕ → ℕ → Refusal → Type 0
RefusesDenoted reads reads_after refusals.Memory = Unit {0}
RefusesDenoted reads reads_after refusals.StoreFailed = HasRisen reads reads_after
RefusesDenoted reads reads_after _ = ⊥
