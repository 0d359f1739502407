use Rattle.mp4_boxes.specs.words.View.{box_seen}
use Rattle.mp4_tables.proofs.SizeReads.{compact_there}
use Rattle.mp4_tables.proofs.size_checks.read_sizes.Goals as goal

pub only_of-requires-clause-one : goal.only_of-requires-clause-one
only_of-requires-clause-one c = compact_there (box_seen c.args.stbl) c.requires c.in-None.ensures
