use Rattle.std.proofs.Common.{◌≡◌, ◌-◌, ◌≤◌, length}
use Rattle.mp4_frag.specs.words.PlacesIn.{LiesIn}
use Rattle.mp4_frag.specs.words.Walks.{coming}
use Rattle.mp4_frag.proofs.opened_runs.settle.Given as goal

-- the same samples are to come
abbrev pub invariant-loop-place : goal.invariant-loop-place
invariant-loop-place l = record {
  lies : LiesIn l.payload l.place;
  time : l.place.dts ≡ l.fn.place.dts;
  on : l.fn.place.passed ≤ l.place.passed;
  coming : coming l.payload l.place ≡ coming l.payload l.fn.place;
}

abbrev pub decreases-loop-place : goal.decreases-loop-place
decreases-loop-place l = length l.payload - l.place.next
