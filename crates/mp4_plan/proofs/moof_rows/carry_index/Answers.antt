use Rattle.std.proofs.Common.{[], rules}
use Rattle.mp4_plan.specs.words.Spelling.{runs_left}
use Rattle.mp4_present.proofs.Latched.{goes_nothing}
use Rattle.mp4_plan.proofs.RunsResumed.{left_new}
use Rattle.mp4_plan.proofs.moof_rows.carry_index.Goals as goal

pub returns-clause-put : goal.returns-clause-put
returns-clause-put g c values = (runs_left c.args.run.count c.args.run.index [], c.carry_index_run.ensures, left_new c.args.run.count c.args.run.index c.args.index values (λ lt. search rules))

pub returns-then-run-index-clause-put : goal.returns-then-run-index-clause-put
returns-then-run-index-clause-put g c values = ([], goes_nothing g.K.Sink _ g.met.K.Sink.takes_on (g.met.K.Sink.takes_nothing _), search rules)
