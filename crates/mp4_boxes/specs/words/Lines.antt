-- The lines of the code's table as those of the definition.
use Rattle.std.specs.Prelude.{ℕ, List, map}
use Rattle.mp4_boxes.specs.format.Children.{Line, Quantity, one, at_most_one, any}
use Rattle.mp4_boxes.specs.declared.rule.Quantity.{Quantity as RuleQuantity}
use Rattle.mp4_boxes.specs.declared.rule.Quantity.TheVariants as quantities
use Rattle.mp4_boxes.specs.declared.rule.RuleLine.{RuleLine}
use Rattle.mp4_boxes.specs.declared.four_cc.FourCc.{FourCc}

abbrev pub quantity_seen : RuleQuantity → Quantity
quantity_seen quantities.One = one
quantity_seen quantities.AtMostOne = at_most_one
quantity_seen quantities.Any = any

abbrev pub kinds_seen : List FourCc → List (List ℕ)
kinds_seen kinds = map (λ (kind : FourCc). kind.0) kinds

abbrev pub line_seen : RuleLine → Line
line_seen line = record {
  kinds = kinds_seen line.1.now;
  quantity = quantity_seen line.0;
}

abbrev pub lines_seen : List RuleLine → List Line
lines_seen lines = map line_seen lines
