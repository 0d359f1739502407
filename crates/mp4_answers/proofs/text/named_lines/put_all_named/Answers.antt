use Rattle.mp4_answers.specs.words.Telling.{said_line}
use Rattle.mp4_answers.proofs.Told.{flat_all, flat_next}
use Rattle.mp4_present.proofs.Latched.{goes_as, goes_is, goes_nothing}
use Rattle.mp4_answers.proofs.text.named_lines.put_all_named.Goals as goal

pub loop-named-init : goal.loop-named-init
loop-named-init g c = goes_nothing g.K.Sink _ g.met.K.Sink.takes_on (g.met.K.Sink.takes_nothing _)

pub loop-named-preserved : goal.loop-named-preserved
loop-named-preserved g c = goes_as g.K.Sink _ _ _ c.loop-named.invariant c.put_named.ensures (flat_next said_line c.args.all.now c.loop-named.named-index _ c.loop-named-test.true)

pub returns : goal.returns
returns g c = goes_is g.K.Sink c.loop-named.invariant (flat_all said_line c.args.all.now c.loop-named.named-index c.loop-named-test.false)
