use Rattle.std.proofs.Common.{arith, subst}
use Rattle.mp4_boxes.specs.words.View.{box_seen}
use Rattle.mp4_tables.specs.words.GroupBoxes.{IsGroup}
use Rattle.mp4_tables.proofs.LeafRows.{lies_in}
use Rattle.mp4_tables.proofs.GroupReads.{group_read}
use Rattle.mp4_tables.proofs.group_checks.read_grouping.Goals as goal

pub place_in-requires : goal.place_in-requires
place_in-requires c = let i = (lies_in (box_seen c.args.stbl) (box_seen c.args.leaf) c.requires.tables c.requires.child).is in omega (arith, i)

pub returns-clause-read : goal.returns-clause-read
returns-clause-read c =
    group_read (box_seen c.args.stbl) (box_seen c.args.leaf) c.in-Ok.group c.place_in.result c.requires.tables c.requires.child
    (subst (λ payload. IsGroup payload c.in-Ok.group) c.payload.ensures c.in-Ok.ensures.group) c.place_in.ensures
