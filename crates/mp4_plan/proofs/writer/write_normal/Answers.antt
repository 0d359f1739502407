use Rattle.std.proofs.Common.{subst, refl, arith}
use Rattle.std.specs.Prelude.{OnOk, OnErr}
use Rattle.mp4_store.specs.words.Device.{TakesPrefix}
use Rattle.mp4_present.specs.format.Denotes.{presentation_of}
use Rattle.mp4_present.specs.format.Presentation.{Presentation}
use Rattle.mp4_plan.specs.format.Normal.{normal}
use Rattle.mp4_content.specs.format.ReducedLaws.{nothing}
use Rattle.mp4_content.proofs.RemainingWords.{nothing_goes}
use Rattle.mp4_plan.proofs.LeftRefused.{copied_left}
use Rattle.mp4_plan.proofs.writer.write_normal.Goals as goal

pub returns-clause-bytes : goal.returns-clause-bytes
returns-clause-bytes g c = λ told tree o.
    let same = nothing_goes (presentation_of (g.S.Store.file c.args.store.now) tree) in
    subst (λ (p : Presentation). OnOk c.write_reduced.result (g.K.Sink.takes c.args.sink.now c.write_reduced.new.sink (normal p))) same (c.write_reduced.ensures.bytes told tree o)

pub returns-clause-prefix : goal.returns-clause-prefix
returns-clause-prefix g c = λ told tree o.
    let same = nothing_goes (presentation_of (g.S.Store.file c.args.store.now) tree) in
    subst (λ (p : Presentation). OnErr c.write_reduced.result (TakesPrefix (g.K.Sink.takes c.args.sink.now c.write_reduced.new.sink) (normal p))) same (c.write_reduced.ensures.prefix told tree o)

pub returns-clause-refusal : goal.returns-clause-refusal
returns-clause-refusal g c = copied_left nothing c.write_reduced.result (g.K.Sink.takes c.args.sink.now c.write_reduced.new.sink) _ _ _ _ refl c.write_reduced.ensures.refusal

pub returns-clause-work : goal.returns-clause-work
returns-clause-work g c told tree o = let most = c.write_reduced.ensures.work told tree o in omega (arith, most)
