use Rattle.std.proofs.Common.{◌++◌, ◌∙◌, append_assoc, ap, sym, rules}
use Rattle.mp4_present.proofs.Latched.{goes_on}
use Rattle.mp4_answers.proofs.PartTexts.{dump_next}
use Rattle.mp4_answers.proofs.text.payload_lines.put_dumps.Goals as goal

pub loop-left-preserved : goal.loop-left-preserved
loop-left-preserved g c =
    let i = c.loop-left.invariant in
    let next = dump_next c.loop-left.left c.loop-left.rest.now _ _ c.min.result c.loop-left-test.true (search rules) c.split_at.ensures.front c.split_at.ensures.back in
    record {
      done = _;
      told = goes_on g.K.Sink _ _ i.told c.put_dump.ensures;
      whole = i.whole ∙ ap (λ bs. i.done ++ bs) next ∙ sym (append_assoc i.done _ _);
    }
