-- A walk that goes on, said of the store that it reads. `S` is what a bound says of the store's
-- type.
use Rattle.std.specs.Prelude.{Result, ◌≡◌, OnOk, length}
use Rattle.mp4_boxes.specs.declared.refusal.Refusal.{Refusal}
use Rattle.mp4_store.specs.declared.store.Store.{Ghosts as Store}
use Rattle.mp4_present.specs.words.Movies.{MovieSeen, RefusesLoad, IsWalkOf}
use Rattle.mp4_present.specs.words.StoresRead.{OnlyReads, Refused}
use Rattle.mp4_present.specs.declared.walking.Walk.{Walk}

-- it stays a walk over its track, and keeps its room
pub record KeepsWalk {T E : Type 0} (m : MovieSeen) (w w_after : Walk) (result : Result T E)
    : Type 0 where
  pub walk : OnOk result (IsWalkOf m w_after)
  pub room : length w_after.bytes.items ≡ length w.bytes.items

-- The walk stays one over its track, the store is only read, and it is refused only for what
-- loading is.
pub record OnlyLoads {X T : Type 0} (m : MovieSeen) (w w_after : Walk) (S : Store X)
    (before after : X) (result : Result T Refusal) : Type 0 where
  pub walk : KeepsWalk m w w_after result
  pub store : OnlyReads S before after result
  pub refusal : Refused S before after result RefusesLoad
