use Rattle.std.proofs.Common.{◌≡◌, map}
use Rattle.std.specs.Prelude.{take}
use Rattle.mp4_head.specs.words.Seen.{kept_seen}
use Rattle.mp4_content.specs.words.PayloadsLeft.{box_left_seen, description_left}
use Rattle.mp4_content.proofs.own_payloads.descriptions_left.Given as goal

-- the first are there
abbrev pub invariant-loop-k : goal.invariant-loop-k
invariant-loop-k l = map box_left_seen l.left.items ≡ take l.k (map (description_left l.leaving l.media.handler.now) (map kept_seen l.media.descriptions.items))
