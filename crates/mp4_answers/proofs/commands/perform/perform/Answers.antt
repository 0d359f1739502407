use Rattle.mp4_answers.proofs.LookedAt.{judged_ok}
use Rattle.mp4_answers.proofs.commands.perform.perform.Goals as goal

pub returns-in-Boxes-clause-answer : goal.returns-in-Boxes-clause-answer
returns-in-Boxes-clause-answer g c = rw c.in-Boxes.is c.boxes_as.ensures.answer

pub returns-in-Show-clause-answer : goal.returns-in-Show-clause-answer
returns-in-Show-clause-answer g c = rw c.in-Show.is c.show_counted.ensures.answer

pub returns-in-Normalise-clause-answer : goal.returns-in-Normalise-clause-answer
returns-in-Normalise-clause-answer g c = rw c.in-Normalise.is c.normalise_counted.ensures.answer

pub returns-in-Samples-clause-answer : goal.returns-in-Samples-clause-answer
returns-in-Samples-clause-answer g c = rw c.in-Samples.is c.samples_counted.ensures.answer

pub returns-in-Extract-clause-answer : goal.returns-in-Extract-clause-answer
returns-in-Extract-clause-answer g c = rw c.in-Extract.is c.extract_counted.ensures.answer

pub returns-in-Reduce-clause-answer : goal.returns-in-Reduce-clause-answer
returns-in-Reduce-clause-answer g c = rw c.in-Reduce.is c.normalise_reduced.ensures.answer

pub returns-in-Strip-clause-answer : goal.returns-in-Strip-clause-answer
returns-in-Strip-clause-answer g c = rw c.in-Strip.is c.strip.ensures.answer

pub returns-in-Normalise-clause-whole : goal.returns-in-Normalise-clause-whole
returns-in-Normalise-clause-whole g c = rw c.in-Normalise.is c.normalise_counted.ensures.whole

pub returns-in-Reduce-clause-whole : goal.returns-in-Reduce-clause-whole
returns-in-Reduce-clause-whole g c = rw c.in-Reduce.is c.normalise_reduced.ensures.whole

pub returns-in-Show-clause-least : goal.returns-in-Show-clause-least
returns-in-Show-clause-least g c = rw c.in-Show.is (judged_ok _ c.show_counted.result c.show_counted.ensures.least)

pub returns-in-Samples-clause-least : goal.returns-in-Samples-clause-least
returns-in-Samples-clause-least g c = rw c.in-Samples.is (judged_ok _ c.samples_counted.result c.samples_counted.ensures.least)

pub returns-in-Extract-clause-least : goal.returns-in-Extract-clause-least
returns-in-Extract-clause-least g c = rw c.in-Extract.is (judged_ok _ c.extract_counted.result c.extract_counted.ensures.least)
