use Rattle.std.proofs.Common.{sym, ◌∙◌}
use Rattle.mp4_content.proofs.ReducedTaken.{first_less, none_less}
use Rattle.mp4_plan.proofs.track_pieces.reduced_next.Goals as goal

pub returns-in-Some-clause-is : goal.returns-in-Some-clause-is
returns-in-Some-clause-is c samples e = rw c.reduced_sample.ensures (first_less c.args.reduction c.in-Some.sample samples (sym c.in-Some.is ∙ e))

pub returns-in-None-clause-is : goal.returns-in-None-clause-is
returns-in-None-clause-is c samples e = none_less c.args.reduction samples (sym c.in-None.is ∙ e)
