-- What remains by several sets of words, and when the same remains.
use Rattle.std.proofs.Common.{◌≡◌, Bool, true, false, refl, sym, ap, ◌∙◌}
use Rattle.std.specs.Prelude.{◌||◌}
use Rattle.mp4_boxes.proofs.Plain.{both_ways}
use Rattle.mp4_present.specs.format.Presentation.{Presentation}
use Rattle.mp4_content.specs.format.ReducedLaws.{nothing}
use Rattle.mp4_content.specs.format.CoveringLaws.{Covers}
use Rattle.mp4_content.specs.declared.without.Without.{Without}
use Rattle.mp4_content.specs.format.Timescales.{scaled}
use Rattle.mp4_content.specs.format.TimescalesLaws.{Implies}
use Rattle.mp4_content.specs.format.Remaining.{remaining}
use Rattle.mp4_content.specs.format.RemainingLaws.{NothingGoes, RemainingIsExact, RemainingIsFixed, RemainingMore, SameIsLeft, SameRemainsWithoutMore}
use Rattle.mp4_content.proofs.Reducing.{nothing_reduces}
use Rattle.mp4_content.proofs.RemainingScaled.{remaining_is_scaled}
use Rattle.mp4_content.proofs.TimescalesExact.{scaled_is_exact}
use Rattle.mp4_content.proofs.TimescalesWords.{scaled_is_fixed, scales_more, same_scaled_without_more}

pub nothing_goes : NothingGoes
nothing_goes p = remaining_is_scaled nothing p ∙ nothing_reduces p

-- ---- twice

remaining_again : (l m : Without) (p : Presentation) → remaining m (remaining l p) ≡ scaled m.timescales m (scaled l.timescales l p)
remaining_again l m p = remaining_is_scaled m (remaining l p) ∙ ap (scaled m.timescales m) (remaining_is_scaled l p)

pub remaining_is_fixed : RemainingIsFixed
remaining_is_fixed l p = remaining_again l l p ∙ scaled_is_fixed l.timescales l p ∙ sym (remaining_is_scaled l p)

timescales_too : (l m : Without) → Covers l m → Implies l.timescales m.timescales
timescales_too l m c e = sym (ap (λ (x : Without). x.timescales) c) ∙ ap (λ b. b || m.timescales) e

pub remaining_more : RemainingMore
remaining_more l m p c = remaining_again l m p ∙ scales_more l.timescales m.timescales l m p (timescales_too l m c) c ∙ sym (remaining_is_scaled m p)

pub same_remains_without_more : SameRemainsWithoutMore
same_remains_without_more l m p q c e =
    let same = sym (remaining_is_scaled l p) ∙ e ∙ remaining_is_scaled l q in
    remaining_is_scaled m p ∙ same_scaled_without_more l.timescales m.timescales l m p q (timescales_too l m c) c same ∙ sym (remaining_is_scaled m q)

-- ---- exact

abbrev LeftBy : Bool → Without → Presentation → Presentation → Type 0
LeftBy b l p q = scaled b l p ≡ scaled b l q

exact_to : (b : Bool) (l : Without) (p q : Presentation) → l.timescales ≡ b → LeftBy b l p q → SameIsLeft l p q
exact_to true l p q is e = record {
  counted = λ counts. both_ways l.timescales is counts;
  others = λ other. (scaled_is_exact l p q).0 e;
}
exact_to false l p q is e = record {
  counted = λ counts. e;
  others = λ other. both_ways l.timescales other is;
}

exact_from : (b : Bool) (l : Without) (p q : Presentation) → l.timescales ≡ b → SameIsLeft l p q → LeftBy b l p q
exact_from true l p q is same = (scaled_is_exact l p q).1 (same.others is)
exact_from false l p q is same = same.counted is

pub remaining_is_exact : RemainingIsExact
remaining_is_exact l p q = (
  λ e. exact_to l.timescales l p q refl (sym (remaining_is_scaled l p) ∙ e ∙ remaining_is_scaled l q),
  λ same. remaining_is_scaled l p ∙ exact_from l.timescales l p q refl same ∙ sym (remaining_is_scaled l q),
)
