use Rattle.std.proofs.Common.{arith, ◌∙◌}
use Rattle.mp4_answers.proofs.MessageLaws.{begun_held}
use Rattle.mp4_answers.proofs.digests.side_by_side.find_in_lanes.Goals as goal

pub messages-preserved : goal.messages-preserved
messages-preserved c =
    let i = c.messages.invariant in
    let free = c.make_free-l.ensures in
    record {
      held = begun_held c.args.bytes.now c.args.messages.now c.messages.k c.make_free-l.result c.make_free-l.new.state c.begin.new.state c.make_free-l.new.lanes c.begin.new.lanes c.make_free-l.new.digests
          free.lane free.idle (c.requires.ready c.messages.k (omega arith)) free.held c.begin.ensures.state c.begin.ensures.lanes;
      count = free.count ∙ i.count;
    }
