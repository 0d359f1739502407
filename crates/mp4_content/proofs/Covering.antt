-- What is the same without some things is the same without more.
use Rattle.std.proofs.Common.{◌≡◌, sym, ap, ◌∙◌}
use Rattle.mp4_present.specs.format.Presentation.{Presentation}
use Rattle.mp4_content.specs.format.Reduced.{reduce}
use Rattle.mp4_content.specs.declared.without.Without.{Without}
use Rattle.mp4_content.specs.format.CoveringLaws.{Covers, SameWithoutMore}
use Rattle.mp4_content.proofs.Reducing.{reduces_once, reduces_in_any_order}

-- it is left out of what is left already
pub reduced_more : (l m : Without) (p : Presentation) → Covers l m → reduce m p ≡ reduce m (reduce l p)
reduced_more l m p c = ap (λ (x : Without). reduce x p) (sym c) ∙ sym (reduces_once l m p) ∙ reduces_in_any_order l m p

pub same_without_more : SameWithoutMore
same_without_more l m p q c e = reduced_more l m p c ∙ ap (reduce m) e ∙ sym (reduced_more l m q c)
