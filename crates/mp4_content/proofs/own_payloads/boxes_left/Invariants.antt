use Rattle.std.proofs.Common.{◌≡◌, map}
use Rattle.std.specs.Prelude.{take}
use Rattle.mp4_head.specs.words.Seen.{kept_seen}
use Rattle.mp4_content.specs.words.PayloadsLeft.{box_left_seen}
use Rattle.mp4_content.proofs.own_payloads.boxes_left.Given as goal

-- the first are there
abbrev pub invariant-loop-k : goal.invariant-loop-k
invariant-loop-k l = map kept_seen l.left.items ≡ take l.k (map box_left_seen l.boxes.items)
