use Rattle.std.proofs.Common.{◌≡◌, drop}
use Rattle.std.specs.Prelude.{◌&&◌, nat_lt}
use Rattle.std.specs.List.{list_any}
use Rattle.mp4_boxes.specs.format.Box.{first_boxes}
use Rattle.mp4_boxes.specs.format.Children.{Line, repeats, is_single, is_among, count_among}
use Rattle.mp4_boxes.specs.words.Lines.{lines_seen}
use Rattle.mp4_boxes.proofs.listing.repeats.Given as goal

-- no line before forbids it
abbrev pub invariant-loop-line : goal.invariant-loop-line
invariant-loop-line l =
    repeats l.fn.rule (first_boxes l.count l.base l.bytes) l.kind.0
    ≡ list_any (λ (line : Line). is_single line.quantity && (is_among line.kinds l.kind.0 && nat_lt 0 (count_among line.kinds (first_boxes l.count l.base l.bytes)))) (lines_seen (drop l.line-index l.line-items))
