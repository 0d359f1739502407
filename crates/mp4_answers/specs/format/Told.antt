-- What a file is judged to be where one track alone is looked at, or all, and how tracks begin may
-- not count.
use Rattle.std.specs.Prelude.{◌≡◌, ℕ, Bool, List, Option, Result, Ok, Err}
use Rattle.mp4_boxes.specs.declared.fault.Fault.{Fault}
use Rattle.mp4_boxes.specs.format.FirstFault.{and_then, first_failed, unless_failed}
use Rattle.mp4_present.specs.format.Denotes.{FileTree, presentation_of}
use Rattle.mp4_present.specs.format.Judge.{limit_tests, tree_or_fault}
use Rattle.mp4_present.specs.format.Presentation.{Presentation, IsWithinLimits}
use Rattle.mp4_content.specs.format.LeadIns.{told, words_told}
use Rattle.mp4_content.specs.format.Remaining.{RemainsInLimits}
use Rattle.mp4_content.specs.declared.without.Without.{Without}
use Rattle.mp4_answers.specs.format.Selected.{alone, alone_tree}
use Rattle.mp4_answers.specs.declared.selection.Selection.{Selection}

-- A presentation whose edits say how long its tracks wait, if this is true; or the first limit that
-- it passes then.
abbrev pub told_or_fault : Bool → FileTree → Presentation → Result Presentation Fault
told_or_fault b tree p =
    unless_failed (first_failed (limit_tests tree (told b p))) (λ u. Ok (told b p))

-- The first fault of the file; or that of what is looked at of it.
abbrev pub judge_told : Option ℕ → Bool → List ℕ → Result Presentation Fault
judge_told track b file = and_then (tree_or_fault file) (λ tree.
    let p = presentation_of file tree in
    unless_failed (first_failed (limit_tests tree p))
    (λ u. told_or_fault b (alone_tree track tree) (alone track p)))

-- a fault of the file as it is judged where this is looked at
abbrev pub IsFaultTold : Selection → List ℕ → Fault → Type 0
IsFaultTold s file f = judge_told s.track s.leaving.lead_ins file ≡ Err f

-- What is left of a presentation has a normal form: told how long its tracks wait it is within the
-- limits, and so is what remains of that.
pub record IsLeftInLimits (l : Without) (p : Presentation) : Type 0 where
  pub shown : IsWithinLimits (told l.lead_ins p)
  pub left : RemainsInLimits (words_told l) (told l.lead_ins p)
