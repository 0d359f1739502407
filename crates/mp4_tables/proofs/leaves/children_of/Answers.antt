use Rattle.mp4_boxes.specs.words.View.{box_seen}
use Rattle.mp4_tables.specs.words.Leaves.{boxes_of}
use Rattle.mp4_tables.proofs.LeafLists.{tiled_as_bytes}
use Rattle.mp4_tables.proofs.leaves.children_of.Goals as goal

pub unreachable-requires : goal.unreachable-requires
unreachable-requires c =
    c.in-Err.ensures.only (boxes_of (box_seen c.args.stbl)) (rw (c.kind.ensures, c.payload_offset.ensures, c.payload.ensures) (tiled_as_bytes (box_seen c.args.stbl) (boxes_of (box_seen c.args.stbl)) c.requires.tiles))
