use Rattle.std.proofs.Common.{arith}
use Rattle.mp4_boxes.specs.words.View.{box_seen}
use Rattle.mp4_tables.proofs.LeafRows.{lies_in}
use Rattle.mp4_tables.proofs.leaves.table_rows.Goals as goal

pub place_in-requires : goal.place_in-requires
place_in-requires c = let i = (lies_in (box_seen c.args.stbl) (box_seen c.args.leaf) c.requires.tables c.requires.child).is in omega arith
