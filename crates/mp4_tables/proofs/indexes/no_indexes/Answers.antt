use Rattle.mp4_tables.proofs.IndexesLeft.{none_placed_yet, none_coming}
use Rattle.mp4_tables.proofs.indexes.no_indexes.Goals as goal

pub returns-clause-places : goal.returns-clause-places
returns-clause-places c = none_placed_yet

pub returns-clause-none : goal.returns-clause-none
returns-clause-none c = none_coming
