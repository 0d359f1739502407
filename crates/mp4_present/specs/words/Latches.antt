-- Bytes that are taken along, where the first failed put stays. `K` is what a bound says of the
-- type of a sink.
use Rattle.std.specs.Prelude.{◌≡◌, List, ℕ, ◌++◌, true, false, vec_len}
use Rattle.mp4_store.specs.words.Device.{count_after}
use Rattle.mp4_store.specs.declared.sink.Sink.{Ghosts as Sink}
use Rattle.mp4_present.specs.words.OutBuffers.{PutsFrontOf, TakesBytes}
use Rattle.mp4_present.specs.declared.latch.Latch.{Latch}

-- all of them were taken along, and no put failed
pub record GoesWhole {Y : Type 0} (K : Sink Y) (a b : Latch Y) (bytes : List ℕ) : Type 0 where
  pub begun : a.has_failed ≡ false
  pub taken : TakesBytes K a.sink.now b.sink.now a.out.now b.out.now bytes
  pub puts : K.put_failures b.sink.now ≡ K.put_failures a.sink.now

-- a front of what waited and of them was put, and one put failed
pub record StopsWithin {Y : Type 0} (K : Sink Y) (a b : Latch Y) (bytes : List ℕ) : Type 0 where
  pub prefix : PutsFrontOf K a.sink.now b.sink.now a.out.now bytes
  pub puts : K.put_failures b.sink.now ≡ count_after (K.put_failures a.sink.now)

-- it is the same buffer and the same sink
pub record IsSameLatch {Y : Type 0} (a b : Latch Y) : Type 0 where
  pub sink : b.sink.ghost_name ≡ a.sink.ghost_name
  pub out : b.out.ghost_name ≡ a.out.ghost_name
  pub buffer : vec_len b.out.now.buffer ≡ vec_len a.out.now.buffer

-- These bytes are taken along, up to the first put that fails; nothing is, behind one that failed
-- before. (That puts join is a law of the sink, kept here for those who put one after the other.)
pub record Goes {Y : Type 0} (K : Sink Y) (a b : Latch Y) (bytes : List ℕ) : Type 0 where
  pub joins : (s t u : Y) (xs ys : List ℕ) → K.takes s t xs → K.takes t u ys
      → K.takes s u (xs ++ ys)
  pub same : IsSameLatch a b
  pub whole : b.has_failed ≡ false → GoesWhole K a b bytes
  pub stops : a.has_failed ≡ false → b.has_failed ≡ true → StopsWithin K a b bytes
  pub stays : a.has_failed ≡ true → b ≡ a
