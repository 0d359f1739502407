use Rattle.std.proofs.Common.{◌∙◌, sym}
use Rattle.mp4_head.specs.words.Seen.{kept_seen}
use Rattle.mp4_answers.specs.format.Text.{kept_lines}
use Rattle.mp4_answers.proofs.Told.{flat_all, flat_next, flat_of_map}
use Rattle.mp4_present.proofs.Latched.{goes_as, goes_is, goes_nothing}
use Rattle.mp4_answers.proofs.text.payload_lines.put_boxes.Goals as goal

pub loop-kept-init : goal.loop-kept-init
loop-kept-init g c = goes_nothing g.K.Sink _ g.met.K.Sink.takes_on (g.met.K.Sink.takes_nothing _)

pub loop-kept-preserved : goal.loop-kept-preserved
loop-kept-preserved g c = goes_as g.K.Sink _ _ _ c.loop-kept.invariant c.put_kept.ensures (flat_next (λ k. kept_lines c.args.name.now (kept_seen k)) c.args.boxes.now c.loop-kept.kept-index _ c.loop-kept-test.true)

pub returns : goal.returns
returns g c = goes_is g.K.Sink c.loop-kept.invariant (flat_all (λ k. kept_lines c.args.name.now (kept_seen k)) c.args.boxes.now c.loop-kept.kept-index c.loop-kept-test.false ∙ sym (flat_of_map (kept_lines c.args.name.now) kept_seen c.args.boxes.now))
