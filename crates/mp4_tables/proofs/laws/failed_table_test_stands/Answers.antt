use Rattle.mp4_tables.proofs.TablesJudged.{tables_fail}
use Rattle.mp4_tables.proofs.laws.failed_table_test_stands.Goals as goal

pub returns : goal.returns
returns c = λ room s container boxes f h described e. tables_fail room s container boxes h f described e
