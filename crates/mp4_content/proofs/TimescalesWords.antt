-- Times in lowest terms by several sets of words.
use Rattle.std.proofs.Common.{◌≡◌, Bool, true, false, refl, sym, ap, ◌∙◌}
use Rattle.std.specs.Prelude.{◌||◌}
use Rattle.mp4_boxes.proofs.Plain.{false_true, or_false, or_true, or_same}
use Rattle.mp4_present.specs.format.Presentation.{Presentation}
use Rattle.mp4_content.specs.format.Reduced.{reduce}
use Rattle.mp4_content.specs.declared.without.Without.{Without}
use Rattle.mp4_content.specs.format.ReducedLaws.{both}
use Rattle.mp4_content.specs.format.CoveringLaws.{Covers}
use Rattle.mp4_content.specs.format.Words.{each, has}
use Rattle.mp4_content.specs.format.Timescales.{lowest, scaled}
use Rattle.mp4_content.specs.format.TimescalesLaws.{Implies, CoversTimes, ScalesOnce, ScalesMore, ScaledIsFixed, ScalesInAnyOrder, SameScaledWithoutMore}
use Rattle.mp4_content.proofs.Reducing.{reduces_once, both_turned}
use Rattle.mp4_content.proofs.TimescalesReduced.{lowest_between}

-- which times are divided, ends and timing say alone
lowest_by : (k l : Without) (p : Presentation) → k.ends ≡ l.ends → k.timing ≡ l.timing → lowest k p ≡ lowest l p
lowest_by k l p e t = λ i. lowest (record k { ends = e i; timing = t i }) p

joined : (a b : Bool) → Implies a b → b ≡ (b || a)
joined true b h = h refl ∙ sym (or_true b)
joined false b h = sym (or_false b)

-- by the words of both, of which the second leave out more times
lowest_both : (m l : Without) (p : Presentation) → CoversTimes m l → lowest l p ≡ lowest (both l m) p
lowest_both m l p h = lowest_by l (both l m) p (joined m.ends l.ends h.0) (joined m.timing l.timing h.1)

pub scales_once : ScalesOnce
scales_once true true m l p h covers = lowest_between m l covers.0 covers.1 (reduce m p) ∙ ap (lowest l) (reduces_once l m p) ∙ lowest_both m l (reduce (both l m) p) covers
scales_once true false m l p h covers = absurd (false_true (h refl))
scales_once false true m l p h covers = ap (lowest l) (reduces_once l m p) ∙ lowest_both m l (reduce (both l m) p) covers
scales_once false false m l p h covers = reduces_once l m p

pub implied : (m l : Without) → Covers m l → CoversTimes m l
implied m l c = (λ e. sym (ap (λ (x : Without). x.ends) c) ∙ ap (λ b. b || l.ends) e, λ e. sym (ap (λ (x : Without). x.timing) c) ∙ ap (λ b. b || l.timing) e)

pub scales_more : ScalesMore
scales_more b c m l p h covers = scales_once b c m l p h (implied m l covers) ∙ ap (λ (words : Without). scaled c words p) (both_turned l m ∙ covers)

pub covers_itself : (l : Without) → Covers l l
covers_itself l = λ i. each (λ word. or_same (has l word) i)

pub scaled_is_fixed : ScaledIsFixed
scaled_is_fixed b l p = scales_more b b l l p (λ e. e) (covers_itself l)

pub scales_in_any_order : ScalesInAnyOrder
scales_in_any_order b l m p ends timing =
    scales_once b b m l p (λ e. e) (λ e. ends ∙ e, λ e. timing ∙ e)
    ∙ ap (λ (words : Without). scaled b words p) (both_turned l m)
    ∙ sym (scales_once b b l m p (λ e. e) (λ e. sym ends ∙ e, λ e. sym timing ∙ e))

pub same_scaled_without_more : SameScaledWithoutMore
same_scaled_without_more b c l m p q h covers e = sym (scales_more b c l m p h covers) ∙ ap (scaled c m) e ∙ scales_more b c l m q h covers
