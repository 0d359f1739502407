use Rattle.std.proofs.Common.{◌≡◌, drop, map}
use Rattle.mp4_head.specs.words.Seen.{edit_seen}
use Rattle.mp4_content.specs.format.LeadIns.{shown_from}
use Rattle.mp4_content.proofs.lead_ins.shown_from.Given as goal

-- the first ones are empty
abbrev pub invariant-loop-k : goal.invariant-loop-k
invariant-loop-k l = shown_from (map edit_seen l.edits) ≡ shown_from (map edit_seen (drop l.k l.edits))
