use Rattle.std.proofs.Common.{rules}
use Rattle.mp4norm_c.proofs.Answered.{window_left}
use Rattle.mp4norm_c.proofs.window_answers.window_of.Goals as goal

pub returns : goal.returns
returns c = window_left c.args.job c.args.file.now c.new-sink.result c.performed-done.new.sink c.performed-done.result c.args.from c.args.out.now _ c.filled.result c.counted.result c.new-sink.ensures.empty c.new-sink.ensures.sound c.performed-done.ensures.answer (search rules)
    c.filled.ensures c.counted.ensures
