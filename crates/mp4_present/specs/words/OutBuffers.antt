-- Bytes that are taken along to a sink, and what a call leaves of the store that they come from.
-- `S` and `K` are what bounds say of the types of a store and of a sink.
use Rattle.std.specs.Prelude.{◌≡◌, ℕ, ◌+◌, ◌<◌, ◌≤◌, List, ◌++◌, vec_len, Result, MatchResult, IfErr, OnOk}
use Rattle.mp4_boxes.specs.declared.refusal.Refusal.{Refusal}
use Rattle.mp4_store.specs.words.Device.{TakesPrefix}
use Rattle.mp4_store.specs.declared.store.Store.{Ghosts as Store}
use Rattle.mp4_store.specs.declared.sink.Sink.{Ghosts as Sink}
use Rattle.mp4_present.specs.words.Carried.{BytesGoOn, GoOnBy, RefusesPut, waiting}
use Rattle.mp4_present.specs.declared.out_buffer.OutBuffer.{OutBuffer}

-- the store is as it was, but for failed reads, and at Ok no read and no put failed
pub record OnlyCopies {X Y T E : Type 0} (S : Store X) (before after : X) (K : Sink Y)
    (sink sink_after : Y) (result : Result T E) : Type 0 where
  pub honesty : S.is_honest after ≡ S.is_honest before
  pub file : S.file after ≡ S.file before
  pub reads : OnOk result (S.read_failures after ≡ S.read_failures before)
  pub puts : OnOk result (K.put_failures sink_after ≡ K.put_failures sink)

-- these bytes are taken along
abbrev pub TakesBytes : {Y : Type 0} → Sink Y → Y → Y → OutBuffer → OutBuffer → List ℕ → Type 0
TakesBytes K sink sink_after c c_after bytes =
    BytesGoOn (K.takes sink sink_after) (waiting c) (waiting c_after) bytes

-- so many bytes are taken along, whichever these are
abbrev pub TakesMany : {Y : Type 0} → Sink Y → Y → Y → OutBuffer → OutBuffer → ℕ → Type 0
TakesMany K sink sink_after c c_after n =
    GoOnBy (K.takes sink sink_after) (waiting c) (waiting c_after) n

-- a front of what waits and of these bytes was put
abbrev pub PutsFrontOf : {Y : Type 0} → Sink Y → Y → Y → OutBuffer → List ℕ → Type 0
PutsFrontOf K sink sink_after c bytes =
    TakesPrefix (K.takes sink sink_after) (waiting c ++ bytes)

-- why it is refused: by how many puts had failed before, and have after it
abbrev pub RefusedByPut : {Y T : Type 0} → Sink Y → Y → Y → Result T Refusal → Type 0
RefusedByPut K sink sink_after result =
    IfErr result (RefusesPut (K.put_failures sink) (K.put_failures sink_after))

-- these bytes are taken along: at Ok all of them, and at Err a front of what waited and of them was
-- put
abbrev pub Carries : {Y T E : Type 0} → Sink Y → Y → Y → OutBuffer → OutBuffer → Result T E → List ℕ
    → Type 0
Carries K sink sink_after c c_after result bytes = MatchResult result
    (λ _. TakesBytes K sink sink_after c c_after bytes) (λ _. PutsFrontOf K sink sink_after c bytes)

-- so many bytes are taken along, whichever these are, and the buffer keeps its length
pub record TakesAlong {Y T E : Type 0} (K : Sink Y) (sink sink_after : Y) (c c_after : OutBuffer)
    (result : Result T E) (n : ℕ) : Type 0 where
  pub many : OnOk result (TakesMany K sink sink_after c c_after n)
  pub buffer : vec_len c_after.buffer ≡ vec_len c.buffer

-- nothing but puts can fail: the buffer keeps its length, at Ok no put failed, and it is refused
-- only where one did
pub record OnlyPuts {Y T : Type 0} (K : Sink Y) (sink sink_after : Y) (c c_after : OutBuffer)
    (result : Result T Refusal) : Type 0 where
  pub buffer : vec_len c_after.buffer ≡ vec_len c.buffer
  pub puts : OnOk result (K.put_failures sink_after ≡ K.put_failures sink)
  pub refusal : RefusedByPut K sink sink_after result

-- so many bytes have room, at most as many as are wanted; at least one, where any are
pub record HasRoomFor (c : OutBuffer) (wanted n : ℕ) : Type 0 where
  pub fits : c.used + n ≤ vec_len c.buffer
  pub few : n ≤ wanted
  pub some : 0 < wanted → 0 < n
