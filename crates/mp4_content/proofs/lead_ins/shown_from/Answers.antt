use Rattle.std.proofs.Common.{rules, ◌≡◌, sym, ◌∙◌, w64, to_z, of_z}
use Rattle.mp4_content.proofs.EditsBegin.{shown_there}
use Rattle.mp4_content.proofs.lead_ins.shown_from.Goals as goal

pub returns-then-not-is_empty : goal.returns-then-not-is_empty
returns-then-not-is_empty c =
    let read : to_z w64 (of_z w64 c.media_time.result) ≡ c.media_time.result = search rules in
    read ∙ c.media_time.ensures ∙ sym (shown_there c.args.edits.now c.loop-k.k _ c.loop-k-test.true (sym c.is_empty.ensures ∙ c.if-not-is_empty.true)) ∙ sym c.loop-k.invariant
