-- Which fault a reader of containers names: the first by the definition.
use Rattle.std.specs.Prelude.{◌≡◌, ℕ, cond, nat_eq, List, Option, Some, None, Result, MatchResult}
use Rattle.std.specs.List.{list_any}
use Rattle.mp4_boxes.specs.format.Box.{Box}
use Rattle.mp4_boxes.specs.format.BoxFaults.{fault_of}
use Rattle.mp4_boxes.specs.format.Layout.{Leaf}
use Rattle.mp4_boxes.specs.format.FirstFault.{leaf_fault}
use Rattle.mp4_boxes.specs.declared.fault.Kind.TheVariants.{BadValue}
use Rattle.mp4_head.specs.format.FirstFault.{id_in, or_else}
use Rattle.mp4_boxes.specs.declared.fault.Fault.{Fault}
use Rattle.mp4_boxes.specs.declared.refusal.Refusal.{Refusal}
use Rattle.mp4_boxes.specs.declared.refusal.Refusal.TheVariants as refusals

-- it refuses by this fault, or for want of memory
abbrev pub RefusesFirst : Option Fault → Refusal → Type 0
RefusesFirst first (refusals.Fault f) = first ≡ Some f
RefusesFirst first refusals.Memory = Unit {0}
RefusesFirst first _ = ⊥

-- An answer names this fault, and is Ok where there is none.
pub record NamesFault {T : Type 0} (first : Option Fault) (result : Result T Fault) : Type 0 where
  pub names : MatchResult result (λ _. first ≡ None) (λ f. first ≡ Some f)

-- the same of an answer that may want memory
pub record NamesRefused {T : Type 0} (first : Option Fault) (result : Result T Refusal) : Type 0
  where
    pub names : MatchResult result (λ _. first ≡ None) (RefusesFirst first)

-- the first fault of a leaf with an ID, as one of these numbers: behind its own, that the ID is
-- taken
abbrev pub taken_fault : Leaf → ℕ → List ℕ → Box → Option Fault
taken_fault leaf number numbers b = or_else (leaf_fault leaf b) (λ u.
    cond (list_any (nat_eq (id_in leaf number b)) numbers) (Some (fault_of BadValue b)) None)
