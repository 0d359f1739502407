use Rattle.std.proofs.Common.{◌≡◌, ◌<◌, ℕ, Some, Option, slice_get}
use Rattle.mp4_tables.specs.declared.sample.SampleAt.{SampleAt}
use Rattle.mp4_content.specs.declared.tracks_left.TrackLeft.{TrackLeft}
use Rattle.mp4_plan.specs.words.DueTracks.{IsDue, IsDueTree, leaf}
use Rattle.mp4_plan.proofs.schedule.Schedule.begin.Given as goal

-- the leaves of the tracks so far say when their next samples are due
abbrev pub invariant-loop-k : goal.invariant-loop-k
invariant-loop-k l = record {
  tree : IsDueTree l.due;
  many : l.due.leaves ≡ l.self.tracks;
  times : (k : ℕ) (track : TrackLeft) (next : Option SampleAt) → 0 < k → k < l.k → slice_get l.tracks k ≡ Some track → slice_get l.nexts k ≡ Some next → IsDue l.self.first track.timescale next (leaf l.due k);
}
