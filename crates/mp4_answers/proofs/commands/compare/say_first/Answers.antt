use Rattle.std.proofs.Common.{rules}
use Rattle.mp4_answers.proofs.ComparedTimes.{lines_next}
use Rattle.mp4_answers.proofs.commands.compare.say_first.Goals as goal

pub loop-k-preserved : goal.loop-k-preserved
loop-k-preserved c =
    let first = c.first_of-first.result.now in
    lines_next c.args.form c.args.timed.times.now first c.loop-k.k _ c.time_at.result c.loop-k.text.items c.say_in.new.text.items _ (search rules) (search rules) c.time_at.ensures c.in_ok-say_in.ensures.line c.loop-k.invariant
