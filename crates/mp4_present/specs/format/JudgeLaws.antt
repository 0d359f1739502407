-- Laws of what a file is judged to be.
use Rattle.std.specs.Prelude.{◌≡◌, ℕ, List, Ok, Err}
use Rattle.mp4_boxes.specs.declared.fault.Fault.{Fault}
use Rattle.mp4_present.specs.format.Presentation.{Presentation}
use Rattle.mp4_present.specs.format.Denotes.{Denotes}
use Rattle.mp4_present.specs.format.Stands.{Stands}
use Rattle.mp4_present.specs.format.Judge.{judge}

-- A file denotes the presentation that it is judged to be.
abbrev pub JudgedDenotes : Type 0
JudgedDenotes = (file : List ℕ) (p : Presentation) → judge file ≡ Ok p → Denotes file p

-- The fault that a file is judged by stands in it.
abbrev pub FirstFaultStands : Type 0
FirstFaultStands = (file : List ℕ) (f : Fault) → judge file ≡ Err f → Stands file f
