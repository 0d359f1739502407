use Rattle.mp4_answers.proofs.FieldParts.{more_spaces}
use Rattle.mp4_answers.proofs.text.field_lines.push_levels.Goals as goal

pub loop-level-preserved : goal.loop-level-preserved
loop-level-preserved c = more_spaces c.loop-level._level c.args.text.now.items c.loop-level.text.items c.extend_from_slice.new.self.items c.loop-level.invariant c.in_ok-extend_from_slice.ensures.items
