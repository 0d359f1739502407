use Rattle.std.proofs.Common.{◌≡◌, ◌+◌, ◌-◌, ◌^◌, ◌<◌, ◌≤◌, length, min}
use Rattle.mp4_frag.specs.words.PlacesIn.{IsPlaceIn}
use Rattle.mp4_frag.specs.words.Times.{lasting}
use Rattle.mp4_frag.specs.words.Walks.{coming}
use Rattle.mp4_frag.proofs.traf_cursor.TrafCursor.counts.Given as goal

-- with the samples to come, those counted are all
abbrev pub invariant-loop-place : goal.invariant-loop-place
invariant-loop-place l = record {
  place : IsPlaceIn l.self.payload l.place;
  count : l.samples + length (coming l.self.payload l.place) ≡ length (coming l.self.payload l.self.place);
  few : l.samples ≤ l.most;
  duration : min (l.duration + lasting (coming l.self.payload l.place)) (2 ^ 64 - 1) ≡ min (lasting (coming l.self.payload l.self.place)) (2 ^ 64 - 1);
  small : l.duration < 2 ^ 64;
}

abbrev pub decreases-loop-place : goal.decreases-loop-place
decreases-loop-place l = length (coming l.self.payload l.place)
