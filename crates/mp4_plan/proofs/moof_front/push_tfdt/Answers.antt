use Rattle.mp4_plan.specs.words.Spelling.{tfdt_front}
use Rattle.mp4_plan.proofs.Pushes.{behind}
use Rattle.mp4_plan.proofs.moof_front.push_tfdt.Goals as goal

pub returns-clause-is : goal.returns-clause-is
unfolding tfdt_front
returns-clause-is c =
    let start = c.args.out.now in
    behind start c.push_u32.new.self c.push_u64.new.self _ _
    (behind start c.push_box.new.self c.push_u32.new.self _ _ c.push_box.ensures.is c.push_u32.ensures.is) c.push_u64.ensures.is
