-- Pieces of a walk, carried along to a sink. `S` and `K` are what bounds say of the types of a
-- store and of a sink.
use Rattle.std.specs.Prelude.{ℕ, Result}
use Rattle.mp4_boxes.specs.declared.refusal.Refusal.{Refusal}
use Rattle.mp4_store.specs.declared.store.Store.{Ghosts as Store}
use Rattle.mp4_store.specs.declared.sink.Sink.{Ghosts as Sink}
use Rattle.mp4_present.specs.words.Carried.{RefusesCarry}
use Rattle.mp4_present.specs.words.HandCarried.{RefusedByBoth}
use Rattle.mp4_present.specs.words.Movies.{MovieSeen}
use Rattle.mp4_present.specs.words.OutBuffers.{OnlyCopies, TakesAlong}
use Rattle.mp4_present.specs.declared.out_buffer.OutBuffer.{OutBuffer}
use Rattle.mp4_present.specs.declared.walking.Walk.{Walk}
use Rattle.mp4_content.specs.words.Loading.{KeepsWalk}

-- The walk stays one over its track, and at Ok so many bytes were taken along. Nothing else is done
-- with the store and the sink, and it is refused only for what carrying along is.
pub record CarriesPiece {X Y T : Type 0} (m : MovieSeen) (w w_after : Walk) (S : Store X)
    (store store_after : X) (K : Sink Y) (sink sink_after : Y) (c c_after : OutBuffer) (bytes : ℕ)
    (result : Result T Refusal) : Type 0 where
  pub walk : KeepsWalk m w w_after result
  pub along : TakesAlong K sink sink_after c c_after result bytes
  pub devices : OnlyCopies S store store_after K sink sink_after result
  pub refusal : RefusedByBoth S store store_after K sink sink_after result RefusesCarry
