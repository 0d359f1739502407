-- Laws of the first fault of a container's list of boxes.
use Rattle.std.specs.Prelude.{◌≡◌, ◌↔◌, List, Ok, Err}
use Rattle.mp4_boxes.specs.format.Box.{Box, Container}
use Rattle.mp4_boxes.specs.format.BoxFaults.{IsChildFault}
use Rattle.mp4_boxes.specs.format.Children.{Holds}
use Rattle.mp4_boxes.specs.format.FirstFault.{children_or_fault}
use Rattle.mp4_boxes.specs.declared.rule.Rule.{Rule}
use Rattle.mp4_boxes.specs.declared.fault.Fault.{Fault}

-- No fault is named exactly where the container holds boxes under the rule, and then those are
-- they.
abbrev pub JudgedAreHeld : Type 0
JudgedAreHeld = (rule : Rule) (c : Container) (boxes : List Box)
    → (children_or_fault rule c ≡ Ok boxes) ↔ Holds rule c boxes

-- The fault that is named is one of its list.
abbrev pub JudgedFaultStands : Type 0
JudgedFaultStands = (rule : Rule) (c : Container) (f : Fault) → children_or_fault rule c ≡ Err f
    → IsChildFault rule c f
