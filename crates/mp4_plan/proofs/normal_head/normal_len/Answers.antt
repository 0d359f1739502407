use Rattle.std.proofs.Common.{◌≡◌, length, subst, refl}
use Rattle.std.specs.Prelude.{IfOk}
use Rattle.mp4_present.specs.format.Denotes.{presentation_of}
use Rattle.mp4_present.specs.format.Presentation.{Presentation}
use Rattle.mp4_plan.specs.format.Normal.{normal}
use Rattle.mp4_content.specs.format.ReducedLaws.{nothing}
use Rattle.mp4_content.proofs.RemainingWords.{nothing_goes}
use Rattle.mp4_plan.proofs.LeftRefused.{planned_left}
use Rattle.mp4_plan.proofs.normal_head.normal_len.Goals as goal

pub returns-clause-length : goal.returns-clause-length
returns-clause-length g c told tree o =
    let same = nothing_goes (presentation_of (g.S.Store.file c.args.store.now) tree) in
    subst (λ (p : Presentation). IfOk c.reduced_len.result (λ len. len ≡ length (normal p))) same (c.reduced_len.ensures.length told tree o)

pub returns-clause-refusal : goal.returns-clause-refusal
returns-clause-refusal g c = planned_left nothing c.reduced_len.result _ _ refl c.reduced_len.ensures.refusal
