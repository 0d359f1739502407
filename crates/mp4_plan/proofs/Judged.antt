-- A file is judged to be the presentation that it denotes, and no other is judged.
use Rattle.std.proofs.Common.{◌≡◌, ℕ, List, Result, Ok, Err, refl, sym, ap, ◌∙◌}
use Rattle.mp4_boxes.specs.declared.fault.Fault.{Fault}
use Rattle.mp4_present.specs.format.Presentation.{Presentation, Valid}
use Rattle.mp4_present.specs.format.Denotes.{Denotes}
use Rattle.mp4_present.specs.format.Judge.{judge}
use Rattle.mp4_present.proofs.JudgedTrees.{judged_denotes, judged_fault_stands}
use Rattle.mp4_plan.specs.format.Normal.{normal}
use Rattle.mp4_plan.proofs.FromTwo.{one}
use Rattle.mp4_plan.proofs.NormalDenotes.{normal_denotes}
use Rattle.mp4_plan.proofs.Refuses.{refuses}

-- a file is judged to be one presentation
pub judged_one : (file : List ℕ) (p q : Presentation) → judge file ≡ Ok p → judge file ≡ Ok q → p ≡ q
judged_one file p q e f = by (sym e ∙ f)
  where
    by : ◌≡◌ {A = Result Presentation Fault} (Ok p) (Ok q) → p ≡ q
    by same = cc

-- what has a first fault denotes nothing
pub first_fault_refuses : (file : List ℕ) (f : Fault) (p : Presentation) → judge file ≡ Err f → Denotes file p → ⊥
first_fault_refuses file f p e d = let s = judged_fault_stands file f e in refuses s.0 file f p s.1 d

-- what is denoted is judged
pub denoted_judged : (file : List ℕ) (p : Presentation) → Denotes file p → judge file ≡ Ok p
denoted_judged file p d = by (judge file) refl
  where
    by : (r : Result Presentation Fault) → judge file ≡ r → judge file ≡ Ok p
    by (Ok q) e = e ∙ ap (λ (x : Presentation). Ok x) (one file q p (judged_denotes file q e) d)
    by (Err f) e = absurd (first_fault_refuses file f p e d)

-- a normal form is judged to be what it is of
pub normal_judged : (p : Presentation) → Valid p → judge (normal p) ≡ Ok p
normal_judged p v = denoted_judged (normal p) p (normal_denotes p v)
