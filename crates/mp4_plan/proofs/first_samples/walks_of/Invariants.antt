use Rattle.std.proofs.Common.{◌≡◌, ◌*◌, ◌≤◌, length}
use Rattle.mp4_plan.specs.format.Held.{rooms}
use Rattle.mp4_plan.specs.words.OwnRooms.{own_rooms}
use Rattle.std.specs.List.{AllByRecursion}
use Rattle.mp4_present.specs.words.Movies.{IsWalkOf}
use Rattle.mp4_plan.proofs.Planning.{BeginSoFar, BeginMarked}
use Rattle.mp4_plan.proofs.AllTake.{BeginToTake, BeginToWrite}
use Rattle.mp4_plan.proofs.first_samples.walks_of.Given as goal

-- one for each track so far
abbrev pub invariant-loop-track : goal.invariant-loop-track
invariant-loop-track l =
    AllByRecursion (IsWalkOf l.movie) l.walks.items × (length l.walks.items ≡ l.track) × ((rooms l.walks.items ≡ own_rooms l.movie l.track) × (rooms l.walks.items ≤ l.track * l.movie.longest))
    × BeginSoFar l.movie l.track l.walks.items × BeginToTake l.movie l.track l.walks.items × BeginMarked l.movie l.track l.walks.items × BeginToWrite l.movie l.track l.walks.items
