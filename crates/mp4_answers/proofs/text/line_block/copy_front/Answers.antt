use Rattle.std.proofs.Common.{arith}
use Rattle.mp4_answers.proofs.Fronts.{wanted_front}
use Rattle.mp4_answers.proofs.text.line_block.copy_front.Goals as goal

pub returns-then-len-le-AT_ONCE : goal.returns-then-len-le-AT_ONCE
returns-then-len-le-AT_ONCE c =
    let a = c.args in
    let more = c.requires.more in
    let room = c.requires.room in
    wanted_front a.text.now c.copy_to.new.text a.bytes.now a.at a.len 64 (omega arith) c.if-len-le-AT_ONCE.true (omega arith) (rw c.split_at.ensures.front at c.copy_to.ensures)
