use Rattle.std.proofs.Common.{[], ◌++◌, ◌∙◌, flat_map, map, ap, sym}
use Rattle.std.proofs.lemmas.List.{append-nil}
use Rattle.mp4_answers.specs.format.Text.{payload_lines}
use Rattle.mp4_answers.proofs.Told.{flat_all, flat_next, flat_of_map}
use Rattle.mp4_present.proofs.Latched.{goes_as, goes_is, goes_nothing}
use Rattle.mp4_answers.proofs.text.payload_lines.put_payloads.Goals as goal

pub loop-payload-init : goal.loop-payload-init
loop-payload-init g c = goes_nothing g.K.Sink _ g.met.K.Sink.takes_on (g.met.K.Sink.takes_nothing _)

pub loop-payload-preserved : goal.loop-payload-preserved
loop-payload-preserved g c = goes_as g.K.Sink _ _ _ c.loop-payload.invariant c.put_payload.ensures (flat_next (λ p. payload_lines (c.args.name.now ++ []) p.now) c.args.payloads.now c.loop-payload.payload-index _ c.loop-payload-test.true)

pub returns : goal.returns
returns g c = goes_is g.K.Sink c.loop-payload.invariant (flat_all (λ p. payload_lines (c.args.name.now ++ []) p.now) c.args.payloads.now c.loop-payload.payload-index c.loop-payload-test.false
    ∙ sym (ap (λ n. flat_map (payload_lines n) (map (λ p. p.now) c.args.payloads.now)) (sym (append-nil c.args.name.now)) ∙ flat_of_map (payload_lines (c.args.name.now ++ [])) (λ p. p.now) c.args.payloads.now))
