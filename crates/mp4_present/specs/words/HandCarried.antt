-- The samples in hand of a walk, carried along to a sink. `S` and `K` are what bounds say of the
-- types of a store and of a sink.
use Rattle.std.specs.Prelude.{◌≡◌, ℕ, ◌+◌, ◌-◌, ◌≤◌, List, ◌++◌, length, vec_len, IsTrue, Result, MatchResult, IfOk, IfErr}
use Rattle.std.specs.List.{AllByRecursion}
use Rattle.mp4_boxes.specs.declared.refusal.Refusal.{Refusal}
use Rattle.mp4_store.specs.words.Device.{TakesPrefix}
use Rattle.mp4_store.specs.declared.store.Store.{Ghosts as Store}
use Rattle.mp4_store.specs.declared.sink.Sink.{Ghosts as Sink}
use Rattle.mp4_frag.specs.words.OwnTrafs.{PlacedTraf}
use Rattle.mp4_head.specs.format.Tree.{TrackTree}
use Rattle.mp4_present.specs.format.Denotes.{FileTree}
use Rattle.mp4_present.specs.words.Carried.{waiting, BytesGoOn, GoOnBy}
use Rattle.mp4_present.specs.words.InHand.{left_in_hand}
use Rattle.mp4_present.specs.words.Joined.{IsBelow, sample_bytes, sizes_of}
use Rattle.mp4_present.specs.words.Movies.{MovieSeen, IsWalkOf, InHandOf}
use Rattle.mp4_present.specs.words.OpenedMovie.{IsOpenedAs}
use Rattle.mp4_present.specs.words.StoresRead.{IsUnchanged}
use Rattle.mp4_present.specs.words.SamplesComing.{StandsBefore}
use Rattle.mp4_present.specs.words.WalkSteps.{MayTake, TakesOn}
use Rattle.mp4_present.specs.declared.out_buffer.OutBuffer.{OutBuffer}
use Rattle.mp4_present.specs.declared.walking.in_hand.InHand.{InHand}
use Rattle.mp4_present.specs.declared.walking.Walk.{Walk}

-- The walk is one of this movie, and stands where it stood among its fragments.
pub record StaysBefore (m : MovieSeen) (w w_after : Walk) : Type 0 where
  pub walk : IsWalkOf m w_after
  pub next : w_after.next ≡ w.next
  pub left : w_after.left ≡ w.left
  pub stands : (file : List ℕ) (tree : FileTree) (t : TrackTree) (earlier later : List PlacedTraf)
      → StandsBefore file tree t earlier later w → StandsBefore file tree t earlier later w_after

-- it is so of the samples in hand
abbrev pub OfHand : MovieSeen → Walk → (InHand → Type 0) → Type 0
OfHand m w P = (hand : InHand) × InHandOf m w hand × P hand

-- over an honest store, the bytes of the samples in hand are taken along: at Ok all of them
abbrev pub CarriesHand : {X Y T E : Type 0} → Store X → X → MovieSeen → Walk → Sink Y → Y → Y
    → OutBuffer → OutBuffer → Result T E → Type 0
CarriesHand S store m w K sink sink_after c c_after result = MatchResult result
    (λ _. IsTrue (S.is_honest store) → OfHand m w (λ hand.
    BytesGoOn (K.takes sink sink_after) (waiting c) (waiting c_after)
    (sample_bytes (S.file store) (left_in_hand hand))))
    (λ _. IsTrue (S.is_honest store) → OfHand m w (λ hand.
    TakesPrefix (K.takes sink sink_after) (waiting c
    ++ sample_bytes (S.file store) (left_in_hand hand))))

-- Of so many bytes so many are left: the others are those of the samples in hand, and were taken
-- along.
pub record LeavesBytes {Y : Type 0} (m : MovieSeen) (w : Walk) (K : Sink Y) (sink sink_after : Y)
    (c c_after : OutBuffer) (bytes left : ℕ) : Type 0 where
  pub many : (left ≤ bytes) × GoOnBy (K.takes sink sink_after) (waiting c)
      (waiting c_after) (bytes - left)
  pub sizes : OfHand m w (λ hand. sizes_of (left_in_hand hand) + left ≡ bytes)

-- The bytes of the samples in hand are taken along, at Ok all of them, of so many bytes so many are
-- left then, and the buffer keeps its length.
pub record TakesHand {X Y E : Type 0} (S : Store X) (store : X) (m : MovieSeen) (w : Walk)
    (K : Sink Y) (sink sink_after : Y) (c c_after : OutBuffer) (bytes : ℕ) (result : Result ℕ E)
    : Type 0 where
  pub put : CarriesHand S store m w K sink sink_after c c_after result
  pub left : IfOk result (LeavesBytes m w K sink sink_after c c_after bytes)
  pub buffer : vec_len c_after.buffer ≡ vec_len c.buffer

-- the store is not taken as changed where the samples in hand lie in its file, and are not longer
abbrev pub KeepsHand : {X T : Type 0} → Store X → X → MovieSeen → Walk → ℕ → Result T Refusal
    → Type 0
KeepsHand S store m w bytes result = OfHand m w (λ hand.
    AllByRecursion (IsBelow (length (S.file store))) (left_in_hand hand)
    → sizes_of (left_in_hand hand) ≤ bytes → IsUnchanged result)

-- at Ok the walk takes on what steps are left; at Err none was taken
abbrev pub HandWork : {T E : Type 0} → MovieSeen → Walk → Walk → Result T E → ℕ → ℕ → Type 0
HandWork m w w_after result old new = MatchResult result
    (λ _. (file : List ℕ) (tree : FileTree) (t : TrackTree) (n : ℕ) → IsOpenedAs file m tree
    → MayTake file tree t w n → TakesOn file tree t n w_after old new) (λ _. new ≡ old)

-- why it is refused: by how many reads and puts had failed before, and have after it
abbrev pub RefusedByBoth : {X Y T : Type 0} → Store X → X → X → Sink Y → Y → Y → Result T Refusal
    → (ℕ → ℕ → ℕ → ℕ → Refusal → Type 0) → Type 0
RefusedByBoth S store store_after K sink sink_after result why = IfErr result
    (why (S.read_failures store) (S.read_failures store_after) (K.put_failures sink)
    (K.put_failures sink_after))
