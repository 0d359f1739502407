use Rattle.std.proofs.Common.{◌≡◌, ◌<◌, length, drop, map}
use Rattle.mp4_head.specs.words.Seen.{edit_seen}
use Rattle.mp4_content.specs.format.LeadIns.{is_lead_in}
use Rattle.mp4_content.proofs.lead_ins.begins_simply.Given as goal

-- the first ones are empty
abbrev pub invariant-loop-k : goal.invariant-loop-k
invariant-loop-k l =
    (0 < length l.edits)
    × (is_lead_in (map edit_seen l.edits) ≡ is_lead_in (map edit_seen (drop l.k l.edits)))
