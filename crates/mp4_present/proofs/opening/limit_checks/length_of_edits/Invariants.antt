use Rattle.std.proofs.Common.{◌≡◌, ◌+◌, ◌*◌, ◌^◌, ◌≤◌, drop, map}
use Rattle.std.specs.List.{list_any}
use Rattle.mp4_boxes.specs.format.Bytes.{sum_of}
use Rattle.mp4_head.specs.format.Head as heads
use Rattle.mp4_head.specs.words.Seen.{edit_seen}
use Rattle.mp4_present.proofs.Lengths.{is_silent}
use Rattle.mp4_present.proofs.opening.limit_checks.length_of_edits.Given as goal

-- each edit takes at most 64 bits; the rest make up the sum of all; the first ones all say how long they are
abbrev pub invariant-loop-edit : goal.invariant-loop-edit
invariant-loop-edit l =
    (l.length ≤ 2 ^ 64 * l.edit-index)
    × (sum_of (λ (e : heads.Edit). e.segment_duration) (map edit_seen l.edits) ≡ l.length + sum_of (λ (e : heads.Edit). e.segment_duration) (map edit_seen (drop l.edit-index l.edits)))
    × (list_any is_silent (map edit_seen l.edits) ≡ list_any is_silent (map edit_seen (drop l.edit-index l.edits)))
