-- Laws of what remains of presentations (`remaining`).
use Rattle.std.specs.Prelude.{◌≡◌, ◌↔◌, ◌⊎◌, false, true}
use Rattle.mp4_present.specs.format.Presentation.{Presentation, Valid}
use Rattle.mp4_content.specs.format.Reduced.{reduce}
use Rattle.mp4_content.specs.format.ReducedLaws.{KeepsLimits, nothing}
use Rattle.mp4_content.specs.format.CoveringLaws.{Covers}
use Rattle.mp4_content.specs.format.Timescales.{scaled}
use Rattle.mp4_content.specs.format.TimescalesLaws.{SameButTimescales}
use Rattle.mp4_content.specs.format.Remaining.{RemainsInLimits, remaining}
use Rattle.mp4_content.specs.declared.without.Without.{Without}

-- It is what is left, in lowest terms where timescales don't count.
abbrev pub RemainingIsScaled : Type 0
RemainingIsScaled = (l : Without) (p : Presentation) → remaining l p ≡ scaled l.timescales l p

-- Where timescales count it is what is left without the other words.
abbrev pub OnlyTimescalesDiffer : Type 0
OnlyTimescalesDiffer = (l : Without) (p : Presentation) → l.timescales ≡ false
    → remaining l p ≡ reduce l p

-- Where nothing is left out, all remains.
abbrev pub NothingGoes : Type 0
NothingGoes = (p : Presentation) → remaining nothing p ≡ p

-- ---- twice

-- Twice by the same words is once.
abbrev pub RemainingIsFixed : Type 0
RemainingIsFixed = (l : Without) (p : Presentation) → remaining l (remaining l p) ≡ remaining l p

-- To leave out more of what remains of less is to leave out more at once.
abbrev pub RemainingMore : Type 0
RemainingMore = (l m : Without) (p : Presentation) → Covers l m
    → remaining m (remaining l p) ≡ remaining m p

-- What is the same without some things is the same without these and more.
abbrev pub SameRemainsWithoutMore : Type 0
SameRemainsWithoutMore = (l m : Without) (p q : Presentation) → Covers l m
    → remaining l p ≡ remaining l q → remaining m p ≡ remaining m q

-- ---- exact

-- The same is left of both, or where timescales don't count what is left differs in nothing else.
pub record SameIsLeft (l : Without) (p q : Presentation) : Type 0 where
  pub counted : l.timescales ≡ false → reduce l p ≡ reduce l q
  pub others : l.timescales ≡ true → SameButTimescales l (reduce l p) (reduce l q)

-- The same remains exactly if it is so.
abbrev pub RemainingIsExact : Type 0
RemainingIsExact = (l : Without) (p q : Presentation)
    → (remaining l p ≡ remaining l q) ↔ SameIsLeft l p q

-- ---- valid

-- What remains of what is valid is valid exactly if its tracks are not too long and their offsets
-- fit.
abbrev pub RemainingIsValid : Type 0
RemainingIsValid = (l : Without) (p : Presentation) → Valid p
    → Valid (remaining l p) ↔ RemainsInLimits l p

-- Where edits, ends and origins stay it is so, and where timing doesn't count.
abbrev pub RemainingStaysValid : Type 0
RemainingStaysValid = (l : Without) (p : Presentation) → Valid p
    → KeepsLimits l ⊎ (l.timing ≡ true) → RemainsInLimits l p × Valid (remaining l p)

-- Where timescales don't count it is so too if ends and origins stay, whether edits do or not:
-- where no track has edits the movie's timescale is 1.
abbrev pub EditsHoldNoTime : Type 0
EditsHoldNoTime = (l : Without) (p : Presentation) → Valid p → l.timescales ≡ true
    → l.ends ≡ false → l.origins ≡ false → RemainsInLimits l p × Valid (remaining l p)
