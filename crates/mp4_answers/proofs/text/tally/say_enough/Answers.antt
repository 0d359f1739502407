use Rattle.std.proofs.Common.{rules, append_assoc}
use Rattle.mp4_answers.proofs.text.tally.say_enough.Goals as goal

pub returns-in_ok-say-in-Some : goal.returns-in_ok-say-in-Some
returns-in_ok-say-in-Some c = rw c.in-Some.is (search (rules, append_assoc))
