use Rattle.std.proofs.Common.{◌≡◌, ◌+◌, ◌*◌, ◌^◌, ◌≤◌, drop, map}
use Rattle.mp4_head.specs.words.Seen.{edit_seen}
use Rattle.mp4_content.specs.format.LeadIns.{waits}
use Rattle.mp4_content.proofs.lead_ins.waits_of.Given as goal

-- each edit takes at most 64 bits, and the rest make up the sum
abbrev pub invariant-loop-edit : goal.invariant-loop-edit
invariant-loop-edit l =
    (l.length ≤ 2 ^ 64 * l.edit-index)
    × (waits (map edit_seen l.edits) ≡ l.length + waits (map edit_seen (drop l.edit-index l.edits)))
