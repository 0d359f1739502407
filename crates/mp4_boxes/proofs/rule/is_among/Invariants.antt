use Rattle.std.proofs.Common.{◌≡◌, drop}
use Rattle.mp4_boxes.specs.format.Children.{is_among}
use Rattle.mp4_boxes.specs.words.Lines.{kinds_seen}
use Rattle.mp4_boxes.proofs.rule.is_among.Given as goal

-- none of those before is the type
abbrev pub invariant-loop-k : goal.invariant-loop-k
invariant-loop-k l = is_among (kinds_seen l.kinds) l.kind.0 ≡ is_among (kinds_seen (drop l.k-index l.kinds)) l.kind.0
