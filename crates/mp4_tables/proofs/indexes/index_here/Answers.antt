use Rattle.mp4_tables.proofs.IndexesLeft.{left_here}
use Rattle.mp4_tables.proofs.indexes.index_here.Goals as goal

pub returns-then-place-gt0 : goal.returns-then-place-gt0
returns-then-place-gt0 c = λ payload rows at. left_here payload rows c.args.place c.if-place-gt0.true
