-- Why a file is refused, apart from which fault it has. The numbers are counts of failed reads,
-- before and after.
use Rattle.std.specs.Prelude.{◌≡◌, ℕ, Bool, IsTrue}
use Rattle.mp4_store.specs.words.Device.{HasRisen}
use Rattle.mp4_boxes.specs.declared.refusal.Refusal.{Refusal}
use Rattle.mp4_boxes.specs.declared.refusal.Refusal.TheVariants as refusals

-- there is no memory, a read failed, or the store changed
abbrev pub RefusesNumbers : Bool → ℕ → ℕ → Refusal → Type 0
RefusesNumbers honest reads reads_after refusals.Memory = Unit {0}
RefusesNumbers honest reads reads_after refusals.StoreFailed = HasRisen reads reads_after
RefusesNumbers honest reads reads_after refusals.StoreChanged = IsTrue honest → ⊥
RefusesNumbers honest reads reads_after _ = ⊥

-- the same, or a fault is met
abbrev pub RefusesSearch : Bool → ℕ → ℕ → Refusal → Type 0
RefusesSearch honest reads reads_after (refusals.Fault f) = Unit {0}
RefusesSearch honest reads reads_after r = RefusesNumbers honest reads reads_after r

-- a fault is met, or there is no memory
abbrev pub MeetsFault : Refusal → Type 0
MeetsFault (refusals.Fault f) = Unit {0}
MeetsFault refusals.Memory = Unit {0}
MeetsFault _ = ⊥

-- where a fault is met, no read failed
abbrev pub ReadsToFault : ℕ → ℕ → Refusal → Type 0
ReadsToFault reads reads_after (refusals.Fault f) = reads_after ≡ reads
ReadsToFault reads reads_after r = Unit {0}
