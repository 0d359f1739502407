use Rattle.std.proofs.Common.{◌≡◌, take}
use Rattle.mp4_content.specs.words.Contents.{tracks_left}
use Rattle.mp4_content.proofs.tracks_left.tracks_left.Given as goal

-- what is left of those so far
abbrev pub invariant-loop-k : goal.invariant-loop-k
invariant-loop-k l = l.tracks.items ≡ tracks_left l.leaving l.scales.tracks.items (take l.k l.infos)
