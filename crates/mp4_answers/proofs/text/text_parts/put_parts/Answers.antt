use Rattle.mp4_answers.proofs.Told.{flat_all, flat_next}
use Rattle.mp4_present.proofs.Latched.{goes_as, goes_is, goes_nothing}
use Rattle.mp4_answers.proofs.text.text_parts.put_parts.Goals as goal

pub loop-part-init : goal.loop-part-init
loop-part-init g c = goes_nothing g.K.Sink _ g.met.K.Sink.takes_on (g.met.K.Sink.takes_nothing _)

pub loop-part-preserved : goal.loop-part-preserved
loop-part-preserved g c = goes_as g.K.Sink _ _ _ c.loop-part.invariant c.put.ensures (flat_next (λ part. part.now) c.args.parts.now c.loop-part.part-index _ c.loop-part-test.true)

pub returns : goal.returns
returns g c = goes_is g.K.Sink c.loop-part.invariant (flat_all (λ part. part.now) c.args.parts.now c.loop-part.part-index c.loop-part-test.false)
