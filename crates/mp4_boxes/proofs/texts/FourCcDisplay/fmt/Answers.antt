use Rattle.std.proofs.Common.{rules}
use Rattle.std.proofs.Output.{has_written_of_eq}
use Rattle.mp4_boxes.proofs.TypeTexts.{four_characters, eight_digits}
use Rattle.mp4_boxes.proofs.texts.FourCcDisplay.fmt.Goals as goal

pub returns-then-is_text-clause-writes : goal.returns-then-is_text-clause-writes
returns-then-is_text-clause-writes g c = λ plain ok.
    has_written_of_eq _ _ _ _ _ (four_characters c.args.self.now.0 c.from-a.result c.from-b.result c.from-c.result c.from-d.result
    (search rules) (search rules) c.from-a.ensures c.from-b.ensures c.from-c.ensures c.from-d.ensures) (c.write.ensures.writes plain ok)

pub returns-else-is_text-clause-writes : goal.returns-else-is_text-clause-writes
returns-else-is_text-clause-writes g c = λ plain ok. has_written_of_eq _ _ _ _ _ (eight_digits c.args.self.now.0 (search rules) (search rules)) (c.write-else-is_text.ensures.writes plain ok)
