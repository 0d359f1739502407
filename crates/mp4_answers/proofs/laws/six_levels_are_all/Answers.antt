use Rattle.std.proofs.Common.{arith}
use Rattle.mp4_boxes.specs.format.Box.{file_container}
use Rattle.mp4_boxes.specs.declared.rule.Rule.TheVariants.{File}
use Rattle.mp4_answers.proofs.BoxLaws.{levels_fall}
use Rattle.mp4_answers.proofs.BoxLists.{levels_rise}
use Rattle.mp4_answers.proofs.laws.six_levels_are_all.Goals as goal

pub returns : goal.returns
returns c syntax file text levels le = (levels_fall syntax levels 6 0 File (file_container file) text (omega arith), levels_rise syntax 6 levels 0 File (file_container file) text le)
