use Rattle.mp4_tables.proofs.TablesJudged.{tables_pass}
use Rattle.mp4_tables.proofs.laws.passed_tables_fit.Goals as goal

pub returns : goal.returns
returns c = λ room s container boxes h q e. tables_pass room s container boxes h q e
