use Rattle.mp4_tables.proofs.TablesExcluded.{tables_in_order}
use Rattle.mp4_tables.proofs.laws.fitting_tables_pass.Goals as goal

pub returns : goal.returns
returns c = λ room s container boxes h a. tables_in_order room s container boxes h a
