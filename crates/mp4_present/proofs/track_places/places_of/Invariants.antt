use Rattle.std.proofs.Common.{◌-◌, length}
use Rattle.mp4_frag.specs.words.Noted.{ids_of}
use Rattle.mp4_present.proofs.TracksFound.{ArePlacesFrom}
use Rattle.mp4_present.proofs.track_places.places_of.Given as goal

-- the last tracks are in the map
abbrev pub invariant-loop-step : goal.invariant-loop-step
invariant-loop-step l = ArePlacesFrom (ids_of l.tracks) l.places (length l.tracks - l.step)
