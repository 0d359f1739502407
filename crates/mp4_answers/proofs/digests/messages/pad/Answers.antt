use Rattle.std.proofs.Common.{arith}
use Rattle.mp4_answers.proofs.Paddings.{pad_is_ready, pad_stays}
use Rattle.mp4_answers.proofs.digests.messages.pad.Goals as goal

pub returns-clause-ready : goal.returns-clause-ready
returns-clause-ready c = pad_is_ready c.args.bytes.now c.copy_in.new.bytes c.copy_in-2.new.bytes _ _ c.args.message c.requires (omega arith) c.padding-first.ensures c.to_be_bytes.ensures c.copy_in.ensures c.copy_in-2.ensures

pub returns-clause-front : goal.returns-clause-front
returns-clause-front c = pad_stays c.args.bytes.now c.copy_in.new.bytes c.copy_in-2.new.bytes _ _ c.args.message c.requires (omega arith) c.padding-first.ensures c.to_be_bytes.ensures c.copy_in.ensures c.copy_in-2.ensures
