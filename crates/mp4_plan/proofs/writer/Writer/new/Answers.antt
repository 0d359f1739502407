use Rattle.std.proofs.Common.{refl, arith}
use Rattle.std.proofs.lemmas.Result.{IfOk-weaker}
use Rattle.mp4_present.specs.format.Denotes.{presentation_of}
use Rattle.mp4_content.specs.format.ReducedLaws.{nothing}
use Rattle.mp4_content.specs.format.Remaining.{RemainsInLimits}
use Rattle.mp4_plan.specs.words.Writers.{IsReadyWithin}
use Rattle.mp4_plan.specs.declared.writer.Writer.{Writer}
use Rattle.mp4_plan.proofs.LeftRefused.{planned_left}
use Rattle.mp4_plan.proofs.writer.Writer.new.Goals as goal

pub returns-clause-ready : goal.returns-clause-ready
returns-clause-ready g c told tree o =
    let file = g.S.Store.file c.args.store.now in
    let m = c.args.movie.now in
    IfOk-weaker c.reduced.result (λ (w : Writer). IsReadyWithin file tree m w × RemainsInLimits nothing (presentation_of file tree)) (IsReadyWithin file tree m) (λ w h. h.0) (c.reduced.ensures.ready told tree o)

pub returns-clause-refusal : goal.returns-clause-refusal
returns-clause-refusal g c = planned_left nothing c.reduced.result _ _ refl c.reduced.ensures.refusal

pub returns-clause-work : goal.returns-clause-work
returns-clause-work g c told tree o = let most = c.reduced.ensures.work told tree o in omega (arith, most)
