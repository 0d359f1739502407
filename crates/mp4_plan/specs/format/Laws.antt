-- The laws of what files denote, of the faults that stand in them, and of the normal form.
use Rattle.std.specs.Prelude.{◌≡◌, ◌↔◌, ℕ, List, Ok, Err}
use Rattle.mp4_boxes.specs.format.Bytes.{AreBytes}
use Rattle.mp4_boxes.specs.declared.fault.Fault.{Fault}
use Rattle.mp4_present.specs.format.Presentation.{Presentation, Valid}
use Rattle.mp4_present.specs.format.Denotes.{Denotes}
use Rattle.mp4_present.specs.format.Judge.{judge}
use Rattle.mp4_present.specs.format.Stands.{Reason, StandsBy}
use Rattle.mp4_plan.specs.format.Normal.{normal}

-- A file denotes at most one presentation.
abbrev pub DenotesOne : Type 0
DenotesOne = (file : List ℕ) (p q : Presentation) → Denotes file p → Denotes file q → p ≡ q

-- What bytes denote is valid.
abbrev pub DenotedIsValid : Type 0
DenotedIsValid = (file : List ℕ) (p : Presentation) → AreBytes file → Denotes file p → Valid p

-- The normal form of what is valid denotes it.
abbrev pub NormalDenotes : Type 0
NormalDenotes = (p : Presentation) → Valid p → Denotes (normal p) p

-- Where a fault stands for a reason, nothing is denoted.
abbrev pub FaultRefuses : Reason → Type 0
FaultRefuses reason = (file : List ℕ) (f : Fault) (p : Presentation) → StandsBy reason file f
    → Denotes file p → ⊥

-- Normal forms are equal exactly if what they are made of is.
abbrev pub NormalIsExact : Type 0
NormalIsExact = (p q : Presentation) → Valid p → Valid q → (normal p ≡ normal q) ↔ (p ≡ q)

-- What a normal form denotes has this normal form: to normalise twice gives the bytes of once.
abbrev pub NormalIsFixed : Type 0
NormalIsFixed = (p q : Presentation) → Valid p → Denotes (normal p) q → normal q ≡ normal p

-- A file denotes a presentation exactly if it is judged to be that one.
abbrev pub JudgedIsDenoted : Type 0
JudgedIsDenoted = (file : List ℕ) (p : Presentation) → (judge file ≡ Ok p) ↔ Denotes file p

-- The normal form of what is valid is judged to be it.
abbrev pub NormalIsJudged : Type 0
NormalIsJudged = (p : Presentation) → Valid p → judge (normal p) ≡ Ok p

-- What has a first fault denotes nothing.
abbrev pub FirstFaultRefuses : Type 0
FirstFaultRefuses = (file : List ℕ) (f : Fault) (p : Presentation) → judge file ≡ Err f
    → Denotes file p → ⊥
