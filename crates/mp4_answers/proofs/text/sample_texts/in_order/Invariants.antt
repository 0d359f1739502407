use Rattle.std.proofs.Common.{◌≡◌, ◌+◌, ◌≤◌, length, drop}
use Rattle.mp4_tables.specs.words.Keys.{keys_seen}
use Rattle.mp4_plan.specs.format.Normal.{in_key_order}
use Rattle.mp4_answers.proofs.text.sample_texts.in_order.Given as goal

-- the last keys stand in their order
abbrev pub invariant-loop-left : goal.invariant-loop-left
invariant-loop-left l = (length (keys_seen l.all) + l.left ≤ length (keys_seen l.keys)) × (keys_seen l.all ≡ in_key_order (drop l.left (keys_seen l.keys)))

abbrev pub decreases-loop-left : goal.decreases-loop-left
decreases-loop-left l = l.left
