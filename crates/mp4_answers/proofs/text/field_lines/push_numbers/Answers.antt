use Rattle.mp4_answers.specs.format.FieldTexts.{apart}
use Rattle.mp4_answers.proofs.FieldParts.{numbers_next}
use Rattle.mp4_answers.proofs.text.field_lines.push_numbers.Goals as goal

pub loop-k-preserved : goal.loop-k-preserved
loop-k-preserved c = numbers_next (apart c.args.spot) c.loop-k.k c.args.bytes.now c.args.text.now.items c.loop-k.text.items c.push_next.new.text.items c.loop-k.invariant c.in_ok-push_next.ensures
