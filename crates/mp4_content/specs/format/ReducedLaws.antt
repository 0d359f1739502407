-- Laws of what is left of presentations (`reduce`).
use Rattle.std.specs.Prelude.{◌≡◌, ◌↔◌, ◌⊎◌, ◌||◌, List, length, true, false}
use Rattle.mp4_boxes.specs.declared.fault.Fault.{Fault}
use Rattle.mp4_present.specs.format.Presentation.{Presentation, Valid}
use Rattle.mp4_head.specs.format.Tree.{TrackTree}
use Rattle.mp4_content.specs.format.Reduced.{reduce}
use Rattle.mp4_content.specs.format.Remaining.{RemainsInLimits}
use Rattle.mp4_content.specs.declared.without.Without.{Without}
use Rattle.mp4_content.specs.format.Words.{each, has}
use Rattle.mp4_content.specs.format.ReducedTimes.{FailsLeft, ReducesInLimits}

-- nothing is left out
abbrev pub nothing : Without
nothing = each (λ word. false)

-- what one of the two leaves out
abbrev pub both : Without → Without → Without
both l m = each (λ word. has l word || has m word)

-- Where nothing is left out, all stays.
abbrev pub NothingReduces : Type 0
NothingReduces = (p : Presentation) → reduce nothing p ≡ p

-- Twice is once, by the words of both.
abbrev pub ReducesOnce : Type 0
ReducesOnce = (l m : Without) (p : Presentation) → reduce l (reduce m p) ≡ reduce (both l m) p

-- The order of two words doesn't matter.
abbrev pub ReducesInAnyOrder : Type 0
ReducesInAnyOrder = (l m : Without) (p : Presentation)
    → reduce l (reduce m p) ≡ reduce m (reduce l p)

-- Twice by the same words is once.
abbrev pub ReduceIsFixed : Type 0
ReduceIsFixed = (l : Without) (p : Presentation) → reduce l (reduce l p) ≡ reduce l p

-- What is left of what is valid is valid exactly if its tracks are not too long and their offsets
-- fit.
abbrev pub ReducedIsValid : Type 0
ReducedIsValid = (l : Without) (p : Presentation) → Valid p
    → Valid (reduce l p) ↔ ReducesInLimits l p

-- edits, ends and origins stay
abbrev pub KeepsLimits : Without → Type 0
KeepsLimits l = (l.edits ≡ false) × (l.ends ≡ false) × (l.origins ≡ false)

-- Where these stay it is so, and where timing doesn't count.
abbrev pub ReducedStaysValid : Type 0
ReducedStaysValid = (l : Without) (p : Presentation) → Valid p
    → KeepsLimits l ⊎ (l.timing ≡ true) → ReducesInLimits l p × Valid (reduce l p)

-- Without its edits what is valid may be too long where timing counts, whatever else is left out
-- here. (In lowest terms it isn't: `EditsHoldNoTime` of RemainingLaws.)
abbrev pub EditsMayHoldTime : Type 0
EditsMayHoldTime = (l : Without) → l.edits ≡ true → l.timing ≡ false
    → (p : Presentation) × Valid p × (Valid (reduce l p) → ⊥)

-- Without their ends tracks may last longer, and what is valid may be too long then.
abbrev pub EndsMayHoldTime : Type 0
EndsMayHoldTime = (l : Without) → l.ends ≡ true → l.timing ≡ false
    → (p : Presentation) × Valid p × (Valid (reduce l p) → ⊥)

-- Without the origins of its tracks the offsets of what is valid may not fit, where timing counts.
abbrev pub OriginsMayHoldOffsets : Type 0
OriginsMayHoldOffsets = (l : Without) → l.origins ≡ true → l.timing ≡ false
    → (p : Presentation) × Valid p × (Valid (reduce l p) → ⊥)

-- Where a track is named, what remains of the presentation has no normal form.
abbrev pub ReducedFaultRefuses : Type 0
ReducedFaultRefuses = (l : Without) (p : Presentation) (boxes : List TrackTree) (f : Fault)
    → FailsLeft l p p.tracks boxes f → RemainsInLimits l p → ⊥

-- Where it has none, one such fault is named, and no other, by boxes of as many tracks.
abbrev pub ReducedFaultIsOne : Type 0
ReducedFaultIsOne = (l : Without) (p : Presentation) (boxes : List TrackTree)
    → length boxes ≡ length p.tracks → (RemainsInLimits l p → ⊥)
    → (f : Fault) × FailsLeft l p p.tracks boxes f
    × ((g : Fault) → FailsLeft l p p.tracks boxes g → g ≡ f)
