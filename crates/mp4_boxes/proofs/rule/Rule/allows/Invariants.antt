use Rattle.std.proofs.Common.{◌≡◌, drop}
use Rattle.std.specs.Prelude.{◌||◌}
use Rattle.std.specs.List.{list_any}
use Rattle.mp4_boxes.specs.format.Children.{Line, allows, is_among, free_space}
use Rattle.mp4_boxes.specs.words.Lines.{lines_seen}
use Rattle.mp4_boxes.proofs.rule.Rule.allows.Given as goal

-- no line before speaks of the type
abbrev pub invariant-loop-line : goal.invariant-loop-line
invariant-loop-line l = allows l.fn.self l.kind.0 ≡ (list_any (λ (line : Line). is_among line.kinds l.kind.0) (lines_seen (drop l.line-index l.line-items)) || is_among free_space l.kind.0)
