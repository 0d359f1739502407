use Rattle.mp4_answers.proofs.MessageLaws.{step_held}
use Rattle.mp4_answers.proofs.digests.side_by_side.step.Goals as goal

pub returns-clause-held : goal.returns-clause-held
returns-clause-held c messages known ready few held =
    step_held c.args.bytes.now messages known c.args.state.now c.compress_four.new.state c.args.lanes.now c.move_on.new.lanes
    c.args.digests.now c.tell.new.digests c.tell-2.new.digests c.tell-3.new.digests c.tell-4.new.digests ready few held
    c.compress_four.ensures c.move_on.ensures c.requires.owner c.tell.ensures.count c.tell-2.ensures.count c.tell-3.ensures.count
    c.tell.ensures.told c.tell-2.ensures.told c.tell-3.ensures.told c.tell-4.ensures.told
