-- The laws of the lists of boxes.
use Rattle.std.specs.Prelude.{ℕ, ◌≤◌, ◌↔◌, List}
use Rattle.mp4_boxes.specs.format.Box.{file_container}
use Rattle.mp4_boxes.specs.declared.rule.Rule.TheVariants.{File}
use Rattle.mp4_boxes.specs.declared.fault.Fault.{Fault}
use Rattle.mp4_answers.specs.declared.jobs.BoxForm.{BoxForm}
use Rattle.mp4_answers.specs.format.BoxTexts.{AreBoxLines, FormLines}
use Rattle.mp4_answers.specs.format.BoxWalk.{under, FaultSeen}

-- Where a header that is looked at can't be read, no text is the list of the file's boxes.
abbrev pub FaultListsNothing : Type 0
FaultListsNothing = (form : BoxForm) (file text : List ℕ) (f : Fault)
    → FaultSeen (under File (file_container file)) f → FormLines form file text → ⊥

-- The list has the boxes of all levels: with more than six levels it would be the same.
abbrev pub SixLevelsAreAll : Type 0
SixLevelsAreAll = (form : BoxForm) (file text : List ℕ) (levels : ℕ) → 6 ≤ levels
    → AreBoxLines form levels 0 File (file_container file) text ↔ FormLines form file text
