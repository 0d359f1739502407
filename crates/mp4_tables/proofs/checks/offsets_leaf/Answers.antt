use Rattle.mp4_boxes.specs.words.View.{box_seen}
use Rattle.mp4_tables.proofs.ChunkReads.{wide_there}
use Rattle.mp4_tables.proofs.checks.offsets_leaf.Goals as goal

pub only_of-requires-clause-one : goal.only_of-requires-clause-one
only_of-requires-clause-one c = wide_there (box_seen c.args.stbl) c.requires.tables c.in-None.ensures
