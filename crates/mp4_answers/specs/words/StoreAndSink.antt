-- What a command does, said of a store and of a sink. `S` and `K` are what bounds say of them.
use Rattle.std.specs.Prelude.{◌≡◌, ℕ, ◌<◌, Bool, List, Result, MatchResult, OnOk}
use Rattle.std.specs.declared.sync.ledger.Blank.{Blank}
use Rattle.std.specs.declared.sync.ledger.Ledger.{Ghosts as Ledger}
use Rattle.mp4_boxes.specs.declared.refusal.Refusal.{Refusal}
use Rattle.mp4_store.specs.declared.store.Store.{Ghosts as Store}
use Rattle.mp4_store.specs.declared.sink.Sink.{Ghosts as Sink}
use Rattle.mp4_present.specs.words.Carried.{RefusesPut}
use Rattle.mp4_present.specs.words.StoresRead.{OnlyReads, RefusedOf, WhereRead}

-- the blank is one of this ledger, which has some parts
abbrev pub IsOf : {X : Type 0} → Ledger X → Blank → Type 0
IsOf L blank = (blank.name ≡ L.name) × (blank.parts ≡ L.parts) × (0 < L.parts)

-- ---- a store and a sink

-- at Ok no put failed
abbrev pub NoPutFails : {Y T E : Type 0} → Sink Y → Y → Y → Result T E → Type 0
NoPutFails K before after result = OnOk result (K.put_failures after ≡ K.put_failures before)

-- the same, and at Err one more put failed
abbrev pub PutsOrFails : {Y T : Type 0} → Sink Y → Y → Y → Result T Refusal → Type 0
PutsOrFails K before after result =
    MatchResult result (λ _. K.put_failures after ≡ K.put_failures before)
    (RefusesPut (K.put_failures before) (K.put_failures after))

-- ---- a store alone

-- It only reads the store, and gives an answer: over an honest store this is true of the file and
-- of the answer. Or it is refused, for a reason for which that is true.
pub record Reads {X T : Type 0} (S : Store X) (before after : X) (result : Result T Refusal)
    (IsAnswer : List ℕ → T → Type 0) (why : Bool → List ℕ → ℕ → ℕ → Refusal → Type 0)
    : Type 0 where
  pub store : OnlyReads S before after result
  pub read : WhereRead S before result IsAnswer
  pub refusal : RefusedOf S before after result why
