use Rattle.std.proofs.Common.{◌∙◌, ◌*◌, ◌+◌, ◌<◌, ◌≤◌, ◌≡◌, length, arith}
use Rattle.std.proofs.lemmas.List.{length-set}
use Rattle.mp4_answers.specs.words.SampleMessages.{sample_at}
use Rattle.mp4_answers.proofs.Paddings.{kept_message, kept_ready}
use Rattle.mp4_answers.specs.words.Messages.{message_at}
use Rattle.mp4_answers.proofs.SampleLists.{bytes_more, end_before_more, ready_more}
use Rattle.mp4_answers.proofs.commands.sample_messages.read_front.Goals as goal

pub returns-in-Err-clause-ready : goal.returns-in-Err-clause-ready
returns-in-Err-clause-ready g c k lt =
    let i = c.loop-count.invariant in
    kept_ready c.loop-count.bytes c.read_message.new.bytes (message_at c.loop-count.messages k) c.loop-count.start (i.before k lt) (omega arith) c.in-Err.ensures.front (i.ready k lt)

pub returns-in-Err-clause-bytes : goal.returns-in-Err-clause-bytes
returns-in-Err-clause-bytes g c honest k lt =
    let i = c.loop-count.invariant in
    kept_message c.loop-count.bytes c.read_message.new.bytes (message_at c.loop-count.messages k) c.loop-count.start (i.before k lt) c.in-Err.ensures.front ∙ i.bytes honest k lt

pub loop-count-preserved : goal.loop-count-preserved
loop-count-preserved g c =
    let i = c.loop-count.invariant in
    let e = c.in_default.ensures in
    let room : c.loop-count.count < length c.loop-count.messages = omega arith in
    let fits : c.loop-count.start + c.block_count-blocks.result * 64 ≤ length c.loop-count.bytes = omega (arith, i.within) in
    let same : length c.read_message.new.bytes ≡ length c.loop-count.bytes = omega arith in
    record {
      few = omega arith;
      room = omega (arith, room, length-set c.loop-count.messages c.loop-count.count (record { start = c.loop-count.start; len = (sample_at c.args.samples.now c.loop-count.count).size }));
      honesty = e.store.honesty ∙ i.honesty;
      file = e.store.file ∙ i.file;
      reads = e.store.reads ∙ i.reads;
      within = omega (arith, same, fits);
      before = rw c.block_count-blocks.ensures (end_before_more c.loop-count.bytes c.read_message.new.bytes c.loop-count.messages c.loop-count.count _ room i.before same e.front);
      ready = ready_more c.loop-count.bytes c.read_message.new.bytes c.loop-count.messages c.loop-count.count _ room i.before same e.front i.ready e.ready;
      bytes = λ honest. bytes_more c.loop-count.bytes c.read_message.new.bytes c.loop-count.messages c.loop-count.count _ room i.before same e.front _ c.args.samples.now (i.bytes honest) ((rw (i.honesty, i.file) at e.bytes) honest);
    }
