use Rattle.std.proofs.Common.{◌∙◌, arith, drop, length-drop}
use Rattle.std.proofs.lemmas.List.{length-take-le}
use Rattle.mp4_answers.proofs.Paddings.{front_stays, message_read}
use Rattle.mp4_answers.proofs.commands.sample_messages.read_message.Goals as goal

pub returns-clause-bytes : goal.returns-clause-bytes
returns-clause-bytes g c honest =
    let file = g.S.Store.file c.args.store.now in
    let long = length-take-le c.args.message.len (drop c.args.at file) (omega (arith, c.len-size.ensures, length-drop c.args.at file)) in
    message_read c.args.bytes.now c.read_in.new.bytes c.pad.new.bytes _ c.args.message c.requires long (c.in_ok-read_in.ensures.bytes honest) c.pad.ensures.front

pub returns-clause-front : goal.returns-clause-front
returns-clause-front g c = front_stays c.read_in.new.bytes c.pad.new.bytes c.args.message c.pad.ensures.front ∙ c.in_ok-read_in.ensures.front
