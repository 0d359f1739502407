use Rattle.std.proofs.Common.{◌≡◌, ◌-◌, length}
use Rattle.mp4_frag.specs.words.MoofWalks.{IsSameTrack, LiesInMoof, moof_coming, walk_of}
use Rattle.mp4_frag.proofs.moof_samples.settle.Given as goal

-- the same samples are to come
abbrev pub invariant-loop-place : goal.invariant-loop-place
invariant-loop-place l = record {
  lies : LiesInMoof l.payload l.place;
  track : IsSameTrack l.fn.place l.place;
  coming : moof_coming l.payload (walk_of l.moof l.tracks l.fn.place) l.place ≡ moof_coming l.payload (walk_of l.moof l.tracks l.fn.place) l.fn.place;
}

abbrev pub decreases-loop-place : goal.decreases-loop-place
decreases-loop-place l = length l.payload - l.place.next
