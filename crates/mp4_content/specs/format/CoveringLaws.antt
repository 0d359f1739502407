-- Laws of leaving out more.
use Rattle.std.specs.Prelude.{◌≡◌}
use Rattle.mp4_present.specs.format.Presentation.{Presentation}
use Rattle.mp4_content.specs.format.Reduced.{reduce}
use Rattle.mp4_content.specs.declared.without.Without.{Without}
use Rattle.mp4_content.specs.format.ReducedLaws.{both}

-- all that `l` leaves out `m` leaves out
abbrev pub Covers : Without → Without → Type 0
Covers l m = both l m ≡ m

-- What is the same without some things is the same without these and more.
abbrev pub SameWithoutMore : Type 0
SameWithoutMore = (l m : Without) (p q : Presentation) → Covers l m → reduce l p ≡ reduce l q
    → reduce m p ≡ reduce m q
