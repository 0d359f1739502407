use Rattle.std.proofs.Common.{◌≡◌, ◌*◌, ◌≤◌, take}
use Rattle.std.specs.List.{sum_by}
use Rattle.mp4_content.specs.declared.tracks_left.TrackLeft.{TrackLeft}
use Rattle.mp4_plan.proofs.schedule.Schedule.new.Given as goal

abbrev pub invariant-loop-track : goal.invariant-loop-track
invariant-loop-track l = (l.left ≡ sum_by (λ (i : TrackLeft). i.samples) (take l.track-index l.tracks)) × (l.left ≤ l.track-index * 4294967295)
