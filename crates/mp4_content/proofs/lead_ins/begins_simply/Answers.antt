use Rattle.std.proofs.Common.{sym, ◌∙◌}
use Rattle.mp4_content.proofs.EditsBegin.{simply_there}
use Rattle.mp4_content.proofs.lead_ins.begins_simply.Goals as goal

pub returns-then-is_plain : goal.returns-then-is_plain
returns-then-is_plain c =
    simply_there c.args.edits.now c.loop-k.k _ c.loop-k-test.true (sym c.is_empty-in-loop-k.ensures ∙ c.if-not-is_empty.true) (sym c.is_plain.ensures ∙ c.if-is_plain.true) c.loop-k.invariant.1
