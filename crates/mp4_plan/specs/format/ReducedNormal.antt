-- Laws of the normal form of what is left of presentations (`remaining`).
use Rattle.std.specs.Prelude.{◌≡◌, ◌↔◌}
use Rattle.mp4_present.specs.format.Presentation.{Presentation, Valid}
use Rattle.mp4_present.specs.format.Denotes.{Denotes}
use Rattle.mp4_content.specs.format.Remaining.{RemainsInLimits, remaining}
use Rattle.mp4_content.specs.declared.without.Without.{Without}
use Rattle.mp4_plan.specs.format.Normal.{normal}

-- The normal form of what is left denotes it.
abbrev pub ReducedNormalDenotes : Type 0
ReducedNormalDenotes = (l : Without) (p : Presentation) → Valid p → RemainsInLimits l p
    → Denotes (normal (remaining l p)) (remaining l p)

-- To normalise it once more gives the same bytes, by the same words or by none.
abbrev pub ReducedNormalIsFixed : Type 0
ReducedNormalIsFixed = (l : Without) (p q : Presentation) → Valid p → RemainsInLimits l p
    → Denotes (normal (remaining l p)) q
    → (normal (remaining l q) ≡ normal (remaining l p)) × (normal q ≡ normal (remaining l p))

-- Such normal forms are equal exactly if what is left is.
abbrev pub ReducedNormalIsExact : Type 0
ReducedNormalIsExact = (l : Without) (p q : Presentation) → Valid p → RemainsInLimits l p
    → Valid q → RemainsInLimits l q
    → (normal (remaining l p) ≡ normal (remaining l q)) ↔ (remaining l p ≡ remaining l q)
