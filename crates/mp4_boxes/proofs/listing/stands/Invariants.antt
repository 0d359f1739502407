use Rattle.std.proofs.Common.{◌≡◌}
use Rattle.mp4_boxes.specs.format.Children.{count_among}
use Rattle.mp4_boxes.specs.words.Lines.{kinds_seen}
use Rattle.mp4_boxes.proofs.listing.stands.Given as goal

-- none of those before is of these types
abbrev pub invariant-loop-child : goal.invariant-loop-child
invariant-loop-child l = (goal.iterator-loop-child).can_next l.child-iterator × (goal.iterator-loop-child).is_finite l.child-iterator × (count_among (kinds_seen l.kinds) l.fn.boxes ≡ count_among (kinds_seen l.kinds) l.child-iterator)
