use Rattle.mp4_boxes.specs.format.Box.{file_container}
use Rattle.mp4_boxes.specs.declared.rule.Rule.TheVariants.{File}
use Rattle.mp4_answers.proofs.BoxLaws.{listed_refuses}
use Rattle.mp4_answers.proofs.laws.fault_lists_nothing.Goals as goal

pub returns : goal.returns
returns c syntax file text f s lines = listed_refuses syntax 6 0 File (file_container file) text s.reaches.0 s.place s.rule f lines s.reaches.1 s.is_looked_at s.fault
