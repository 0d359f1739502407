use Rattle.mp4_answers.specs.format.BoxWalk.{height}
use Rattle.mp4_answers.proofs.commands.box_path.+push_way.Given as goal

abbrev pub decreases-push_way : goal.decreases-push_way
decreases-push_way l = height l.rule
