use Rattle.std.proofs.Common.{take}
use Rattle.std.specs.Prelude.{map}
use Rattle.mp4_present.specs.declared.track_info.TrackInfo.{TrackInfo}
use Rattle.mp4_answers.specs.format.Selected.{AreOthers}
use Rattle.mp4_answers.proofs.commands.tracks.track_with.Given as goal

-- none of those passed is the track
abbrev pub invariant-loop-k : goal.invariant-loop-k
invariant-loop-k l = AreOthers l.id (map (λ (t : TrackInfo). t.id) (take l.k l.tracks))
