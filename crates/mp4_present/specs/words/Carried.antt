-- Bytes on their way to a sink: some of them are put, and the rest wait.
use Rattle.std.specs.Prelude.{◌≡◌, ◌+◌, ◌<◌, ℕ, List, [], ◌++◌, length, take}
use Rattle.mp4_store.specs.words.Device.{HasRisen, count_after}
use Rattle.mp4_boxes.specs.declared.refusal.Refusal.{Refusal}
use Rattle.mp4_boxes.specs.declared.refusal.Refusal.TheVariants as refusals
use Rattle.mp4_present.specs.declared.out_buffer.OutBuffer.{OutBuffer}
use Rattle.mp4_present.specs.declared.walking.stretches.Stretch.{Stretch}

-- the bytes that wait
abbrev pub waiting : OutBuffer → List ℕ
waiting c = take c.used c.buffer.items

-- These bytes follow: what was put since, and then what waits now, is what waited before, and then
-- these. `Took` says of bytes that they were put since.
abbrev pub BytesGoOn : (List ℕ → Type 0) → List ℕ → List ℕ → List ℕ → Type 0
BytesGoOn Took held held_after bytes = (put : List ℕ) × Took put
    × (put ++ held_after ≡ held ++ bytes)

-- So many bytes follow, whichever these are.
abbrev pub GoOnBy : (List ℕ → Type 0) → List ℕ → List ℕ → ℕ → Type 0
GoOnBy Took held held_after n = (bytes : List ℕ) × (length bytes ≡ n)
    × BytesGoOn Took held held_after bytes

-- So many bytes wait behind those that waited before, whichever these are.
abbrev pub WaitsMore : List ℕ → List ℕ → ℕ → Type 0
WaitsMore held held_after n = (bytes : List ℕ) × (length bytes ≡ n) × (held_after ≡ held ++ bytes)

-- so many bytes were put, whichever these are
abbrev pub PutsMany : (List ℕ → Type 0) → ℕ → Type 0
PutsMany Took n = (put : List ℕ) × Took put × (length put ≡ n)

-- Why bytes are not taken along: one more put failed. The numbers are counts of failed puts, before
-- and after.
abbrev pub RefusesPut : ℕ → ℕ → Refusal → Type 0
RefusesPut puts puts_after refusals.WriteFailed = puts_after ≡ count_after puts
RefusesPut puts puts_after _ = ⊥

-- Why bytes of a store are not taken along: counts of failed reads, and of failed puts.
abbrev pub RefusesRange : ℕ → ℕ → ℕ → ℕ → Refusal → Type 0
RefusesRange reads reads_after puts puts_after refusals.StoreFailed = HasRisen reads reads_after
RefusesRange reads reads_after puts puts_after refusals.WriteFailed = HasRisen puts puts_after
RefusesRange reads reads_after puts puts_after _ = ⊥

-- Why the bytes of some samples are not taken along: they may lie outside the store too.
abbrev pub RefusesStretch : List ℕ → Stretch → ℕ → ℕ → ℕ → ℕ → Refusal → Type 0
RefusesStretch file s reads reads_after puts puts_after refusals.StoreFailed =
    HasRisen reads reads_after
RefusesStretch file s reads reads_after puts puts_after refusals.StoreChanged = length file < s.at
    + s.len
RefusesStretch file s reads reads_after puts puts_after refusals.WriteFailed =
    HasRisen puts puts_after
RefusesStretch file s reads reads_after puts puts_after _ = ⊥

-- Why the bytes of samples in hand are not taken along.
abbrev pub RefusesCarry : ℕ → ℕ → ℕ → ℕ → Refusal → Type 0
RefusesCarry reads reads_after puts puts_after refusals.StoreFailed = HasRisen reads reads_after
RefusesCarry reads reads_after puts puts_after refusals.StoreChanged = Unit {0}
RefusesCarry reads reads_after puts puts_after refusals.WriteFailed = HasRisen puts puts_after
RefusesCarry reads reads_after puts puts_after _ = ⊥

-- Why a track is not copied: what was put, and counts of failed reads, and of failed puts.
abbrev pub RefusesCopy : (List ℕ → Type 0) → ℕ → ℕ → ℕ → ℕ → Refusal → Type 0
RefusesCopy Took reads reads_after puts puts_after refusals.Memory = Took []
RefusesCopy Took reads reads_after puts puts_after r =
    RefusesCarry reads reads_after puts puts_after r
