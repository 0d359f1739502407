use Rattle.std.proofs.Common.{◌≡◌, ◌*◌, ◌≤◌, take}
use Rattle.std.specs.List.{sum_by}
use Rattle.mp4_content.specs.declared.tracks_left.TrackLeft.{TrackLeft}
use Rattle.mp4_plan.proofs.writer.bytes_of.Given as goal

abbrev pub invariant-loop-track : goal.invariant-loop-track
invariant-loop-track l = (l.bytes ≡ sum_by (λ (i : TrackLeft). i.bytes) (take l.track-index l.tracks)) × (l.bytes ≤ l.track-index * 18446744073709551615)
