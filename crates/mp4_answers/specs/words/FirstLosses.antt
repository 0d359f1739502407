-- The first box with which something is lost, of boxes between two places of a file.
use Rattle.std.specs.Prelude.{◌≡◌, ℕ, ◌-◌, List, Bool, true, false, Option, None}
use Rattle.mp4_boxes.specs.declared.rule.Rule.{Rule}
use Rattle.mp4_store.specs.words.Device.{range}
use Rattle.mp4_answers.specs.declared.box_names.Name.{Name}
use Rattle.mp4_answers.specs.declared.commands.freed_boxes.LostBox.{LostBox}
use Rattle.mp4_answers.specs.format.Losses.{earlier, FirstLost, IsFirstLost, KeepsTime}

-- the boxes keep a time
abbrev pub KeepsTimeAt : List Name → Rule → ℕ → ℕ → Bool → List ℕ → Type 0
KeepsTimeAt names rule from end has file = KeepsTime names rule (range file from (end - from)) has

-- the first that was found before stays, else it is the first of these boxes
abbrev pub FindsFirst : List Name → Rule → ℕ → ℕ → Option LostBox → Option LostBox → List ℕ → Type 0
FindsFirst names rule from end before after file = (has : Bool) × (lost : Option LostBox)
    × KeepsTimeAt names rule from end has file
    × FirstLost names rule has from (range file from (end - from)) lost
    × (after ≡ earlier before lost)

-- it is found where that is asked for
abbrev pub FindsIf : Bool → List Name → List ℕ → Option LostBox → Type 0
FindsIf true names file lost = IsFirstLost names file lost
FindsIf false names file lost = lost ≡ None
