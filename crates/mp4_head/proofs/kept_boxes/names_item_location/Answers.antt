use Rattle.std.proofs.Common.{◌∙◌}
use Rattle.mp4_head.proofs.ItemLocations.{names_as_found}
use Rattle.mp4_head.proofs.kept_boxes.names_item_location.Goals as goal

pub returns : goal.returns
returns c = c.is_some.ensures ∙ names_as_found c.args.bytes.now c.find.result c.find.ensures
