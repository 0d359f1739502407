-- A run of a command: what is known of its store and of its sink, before it and after it.
use Rattle.std.specs.Prelude.{◌≡◌, ◌⊎◌, ℕ, ◌≤◌, List, [], length, take, Bool, IsTrue, Result, Ok, Err}
use Rattle.mp4_store.specs.words.Device.{HasRisen}
use Rattle.mp4_store.specs.declared.store.Store.{Ghosts as Store}
use Rattle.mp4_store.specs.declared.sink.Sink.{Ghosts as Sink}
use Rattle.mp4_boxes.specs.declared.fault.Fault.{Fault}
use Rattle.mp4_boxes.specs.declared.refusal.Refusal.{Refusal}
use Rattle.mp4_boxes.specs.declared.refusal.Refusal.TheVariants as refusals

-- Whether all reads are of one file, and that file; how many reads and how many puts had failed
-- before, and have after it; and of which bytes it is so that the sink took them in this run.
pub record Run : Type 1 where
  pub honest : Bool
  pub file : List ℕ
  pub reads : ℕ
  pub reads_after : ℕ
  pub puts : ℕ
  pub puts_after : ℕ
  pub took : List ℕ → Type 0

-- the run over a store and a sink, each as it is before and after it
abbrev pub run_of : {X Y : Type 0} → Store X → X → X → Sink Y → Y → Y → Run
run_of S store store_after K sink sink_after = record {
  honest = S.is_honest store;
  file = S.file store;
  reads = S.read_failures store;
  reads_after = S.read_failures store_after;
  puts = K.put_failures sink;
  puts_after = K.put_failures sink_after;
  took = K.takes sink sink_after;
}

-- the run over a store alone: nothing is put
abbrev pub look_of : {X : Type 0} → Store X → X → X → Run
look_of S store store_after = record {
  honest = S.is_honest store;
  file = S.file store;
  reads = S.read_failures store;
  reads_after = S.read_failures store_after;
  puts = 0;
  puts_after = 0;
  took = λ bytes. bytes ≡ [];
}

-- the store is as it was, but for failed reads
pub record KeepsFile {X : Type 0} (S : Store X) (before after : X) : Type 0 where
  pub honesty : S.is_honest after ≡ S.is_honest before
  pub file : S.file after ≡ S.file before

-- ---- what may be said of a run

-- all reads are of its file
abbrev pub Honest : Run → Type 0
Honest r = IsTrue r.honest

-- no read and no put failed
abbrev pub NothingFailed : Run → Type 0
NothingFailed r = (r.reads_after ≡ r.reads) × (r.puts_after ≡ r.puts)

abbrev pub ReadFailed : Run → Type 0
ReadFailed r = HasRisen r.reads r.reads_after

abbrev pub PutFailed : Run → Type 0
PutFailed r = HasRisen r.puts r.puts_after

-- nothing was put
abbrev pub PutsNothing : Run → Type 0
PutsNothing r = r.took []

-- a text of which this is true was put
abbrev pub PutsAll : Run → (List ℕ → Type 0) → Type 0
PutsAll r IsText = (text : List ℕ) × IsText text × r.took text

-- some of the first bytes of this text were put
abbrev pub PutsSomeOf : Run → List ℕ → Type 0
PutsSomeOf r text = (n : ℕ) × (n ≤ length text) × r.took (take n text)

-- some of the first bytes of such a text were put
abbrev pub PutsFront : Run → (List ℕ → Type 0) → Type 0
PutsFront r IsText = (text : List ℕ) × IsText text × PutsSomeOf r text

-- ---- the seven answers

-- What a command answers that puts such a text of a file: it judges the file, and takes all memory,
-- before it puts the first byte. A fault is one of which this is true; that a track isn't there, it
-- says only so.
abbrev pub Answered : {A : Type 0} → Run → (List ℕ → Type 0) → (Fault → Type 0) → Type 0
    → Result A Refusal → Type 0
Answered r IsText IsFault Lacks (Ok done) = NothingFailed r × (Honest r → PutsAll r IsText)
Answered r IsText IsFault Lacks (Err (refusals.Fault f)) = PutsNothing r × (Honest r → IsFault f)
Answered r IsText IsFault Lacks (Err refusals.Memory) = PutsNothing r
Answered r IsText IsFault Lacks (Err refusals.NoSuchTrack) = PutsNothing r × Lacks
Answered r IsText IsFault Lacks (Err refusals.StoreChanged) = Honest r → ⊥
Answered r IsText IsFault Lacks (Err refusals.StoreFailed) = ReadFailed r
    × (Honest r → PutsNothing r ⊎ PutsFront r IsText)
Answered r IsText IsFault Lacks (Err refusals.WriteFailed) = PutFailed r
    × (Honest r → PutsFront r IsText)

-- The text is made whole before it is put: after a failed read nothing was put, nor over a store
-- that changed.
abbrev pub PutsAtOnce : {A : Type 0} → Run → Result A Refusal → Type 0
PutsAtOnce r (Err refusals.StoreFailed) = PutsNothing r
PutsAtOnce r (Err refusals.StoreChanged) = PutsNothing r
PutsAtOnce r _ = Unit {0}

-- a store that changed is not noticed
abbrev pub NeverChanged : {A : Type 0} → Result A Refusal → Type 0
NeverChanged (Err refusals.StoreChanged) = ⊥
NeverChanged _ = Unit {0}
