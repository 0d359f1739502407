use Rattle.std.proofs.Common.{◌≡◌, drop}
use Rattle.std.specs.Prelude.{◌&&◌, not, nat_lt}
use Rattle.std.specs.List.{list_any}
use Rattle.mp4_boxes.specs.format.Box.{first_boxes}
use Rattle.mp4_boxes.specs.format.Children.{Line, lacks, is_needed, count_among}
use Rattle.mp4_boxes.specs.words.Lines.{lines_seen}
use Rattle.mp4_boxes.proofs.listing.lacks.Given as goal

-- the boxes of each line before are there
abbrev pub invariant-loop-line : goal.invariant-loop-line
invariant-loop-line l =
    lacks l.fn.rule (first_boxes l.count l.base l.bytes)
    ≡ list_any (λ (line : Line). is_needed line.quantity && not (nat_lt 0 (count_among line.kinds (first_boxes l.count l.base l.bytes)))) (lines_seen (drop l.line-index l.line-items))
