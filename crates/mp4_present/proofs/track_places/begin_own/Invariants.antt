use Rattle.std.proofs.Common.{◌≡◌, map}
use Rattle.std.specs.Prelude.{replicate}
use Rattle.mp4_present.specs.words.OwnTrafs.{own_seen, none_noted}
use Rattle.mp4_present.proofs.track_places.begin_own.Given as goal

-- nothing is noted of the tracks so far
abbrev pub invariant-loop : goal.invariant-loop
invariant-loop l = map own_seen l.own.items ≡ replicate l.counter none_noted
