-- Places of the types of boxes that become free space.
use Rattle.std.specs.Prelude.{◌≡◌, ℕ, ◌+◌, ◌-◌, ◌≤◌, List, [], ◌++◌, Bool, None, IsTrue, codes}
use Rattle.std.specs.List.{All}
use Rattle.std.specs.List.Sorted.{IsNonDecreasing}
use Rattle.mp4_boxes.specs.declared.rule.Rule.{Rule}
use Rattle.mp4_store.specs.words.Device.{range}
use Rattle.mp4_store.specs.words.LaidWords.{laid}
use Rattle.mp4_answers.specs.declared.box_names.Name.{Name}
use Rattle.mp4_answers.specs.format.Losses.{FirstLost}
use Rattle.mp4_answers.specs.format.Strips.{Strips}

-- the type of a box that lies between two places
abbrev pub IsTypeBetween : ℕ → ℕ → ℕ → Type 0
IsTypeBetween from end place = (from + 4 ≤ place) × (place + 4 ≤ end)

-- Such places rise. Where all reads are of the file, what is read between the two, with `free` laid
-- at these places, is the boxes there with the named ones free space; and nothing is lost where
-- there are none.
pub record AreFreed (names : List Name) (rule : Rule) (from end : ℕ) (honest : Bool)
    (file places : List ℕ) : Type 0 where
  pub rise : IsNonDecreasing places
  pub between : All (IsTypeBetween from end) places
  pub copy : IsTrue honest → Strips names rule (range file from (end - from))
      (range (laid (codes "free") places file) from (end - from))
  pub lost : IsTrue honest → places ≡ [] → (has : Bool)
      → FirstLost names rule has from (range file from (end - from)) None

-- they were added
abbrev pub AddsFreed : List Name → Rule → ℕ → ℕ → Bool → List ℕ → List ℕ → List ℕ → Type 0
AddsFreed names rule from end honest file before after = (places : List ℕ)
    × (after ≡ before ++ places) × AreFreed names rule from end honest file places
