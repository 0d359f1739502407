-- The normal form of what is left of a file, where one track alone is looked at, or some of what it
-- says is left out.
use Rattle.std.specs.Prelude.{◌≡◌, ℕ, List}
use Rattle.mp4_boxes.specs.declared.fault.Fault.{Fault}
use Rattle.mp4_present.specs.format.Denotes.{Denotes}
use Rattle.mp4_present.specs.format.Presentation.{IsWithinLimits, Presentation}
use Rattle.mp4_plan.specs.format.Normal.{normal}
use Rattle.mp4_content.specs.format.LeadIns.{left_of, told, words_told}
use Rattle.mp4_content.specs.format.ReducedTimes.{FailsLeft}
use Rattle.mp4_answers.specs.format.Selected.{HasNamed, Shows, alone, alone_tree}
use Rattle.mp4_answers.specs.format.Told.{IsLeftInLimits}
use Rattle.mp4_answers.specs.declared.selection.Selection.{Selection}

-- what is looked at of the file is within the limits as it is told how long its tracks wait, and so
-- is what is left of it; these bytes are the normal form of that
abbrev pub HasReducedForm : Selection → List ℕ → List ℕ → Type 0
HasReducedForm s file bytes = (p : Presentation) × Shows s.track file p
    × IsLeftInLimits s.leaving p × (bytes ≡ normal (left_of s.leaving p))

-- one of these is not: it is too long, or the `moov` is, or an offset doesn't fit
abbrev pub PassesLimits : Selection → List ℕ → Type 0
PassesLimits s file = (p : Presentation) × Shows s.track file p
    × (IsLeftInLimits s.leaving p → ⊥)

-- What is left of what is looked at of the presentation that the file denotes has no normal form,
-- though it is within the limits as it is told how long its tracks wait: the fault names the first
-- track of which that is so, by the file's own `tkhd`.
pub record LeftFaultStands (s : Selection) (file : List ℕ) (f : Fault) : Type 0 where
  pub whole : Presentation
  pub denotes : Denotes file whole
  pub has : HasNamed s.track whole
  pub p : Presentation
  pub is : p ≡ alone s.track whole
  pub shown : IsWithinLimits (told s.leaving.lead_ins p)
  pub fails : FailsLeft (words_told s.leaving) (told s.leaving.lead_ins p)
      (told s.leaving.lead_ins p).tracks (alone_tree s.track denotes.tree).movie.tracks f
