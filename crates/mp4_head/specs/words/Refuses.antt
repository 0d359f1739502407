-- Why a reader refuses: by a fault that stands, or for want of memory.
use Rattle.mp4_boxes.specs.format.Box.{Box}
use Rattle.mp4_boxes.specs.format.Places.{Place, Scope, as_container}
use Rattle.mp4_boxes.specs.declared.fault.Fault.{Fault}
use Rattle.mp4_boxes.specs.declared.refusal.Refusal.{Refusal}
use Rattle.mp4_boxes.specs.declared.refusal.Refusal.TheVariants as refusals
use Rattle.mp4_head.specs.format.HeadFaults.{HeadStands}

-- a box as the place of the boxes in it
abbrev pub place_of : Scope → Box → Place
place_of scope b = record { scope = scope; container = as_container scope b }

-- a fault stands in the box, or no memory was to be had
abbrev pub RefusesIn : Place → Refusal → Type 0
RefusesIn place (refusals.Fault f) = HeadStands place f
RefusesIn place refusals.Memory = Unit {0}
RefusesIn place _ = ⊥
