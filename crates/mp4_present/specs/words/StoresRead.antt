-- What a call leaves of a store, and what it says of an honest one. `S` is what a bound says of the
-- store's type.
use Rattle.std.specs.Prelude.{◌≡◌, ℕ, Bool, List, Result, IsTrue, OnOk, IfOk, IfErr}
use Rattle.mp4_boxes.specs.declared.refusal.Refusal.{Refusal}
use Rattle.mp4_boxes.specs.declared.refusal.Refusal.TheVariants as refusals
use Rattle.mp4_store.specs.declared.store.Store.{Ghosts as Store}

-- the store is as it was, but for failed reads, and at Ok none failed
pub record OnlyReads {X T E : Type 0} (S : Store X) (before after : X) (result : Result T E)
    : Type 0 where
  pub honesty : S.is_honest after ≡ S.is_honest before
  pub file : S.file after ≡ S.file before
  pub reads : OnOk result (S.read_failures after ≡ S.read_failures before)

-- where all reads are of the one list, it is so of that list
abbrev pub WhereHonest : {X : Type 0} → Store X → X → (List ℕ → Type 0) → Type 0
WhereHonest S store P = IsTrue (S.is_honest store) → P (S.file store)

-- where all reads are of the one list, it is so of that list and of what is answered
abbrev pub WhereRead : {X T E : Type 0} → Store X → X → Result T E → (List ℕ → T → Type 0) → Type 0
WhereRead S store result P = IfOk result (λ x. IsTrue (S.is_honest store) → P (S.file store) x)

-- the same of two stores
abbrev pub WhereBothHonest : {X Y : Type 0} → Store X → X → Store Y → Y
    → (List ℕ → List ℕ → Type 0) → Type 0
WhereBothHonest S a T b P = IsTrue (S.is_honest a) → IsTrue (T.is_honest b)
    → P (S.file a) (T.file b)

-- why it is refused: by how many reads had failed before, and have after it
abbrev pub Refused : {X T : Type 0} → Store X → X → X → Result T Refusal
    → (ℕ → ℕ → Refusal → Type 0) → Type 0
Refused S before after result why =
    IfErr result (why (S.read_failures before) (S.read_failures after))

-- the same, by the file too where all reads are of it
abbrev pub RefusedOf : {X T : Type 0} → Store X → X → X → Result T Refusal
    → (Bool → List ℕ → ℕ → ℕ → Refusal → Type 0) → Type 0
RefusedOf S before after result why = IfErr result
    (why (S.is_honest before) (S.file before) (S.read_failures before) (S.read_failures after))

-- the store is not taken as changed
abbrev pub IsUnchanged : {T : Type 0} → Result T Refusal → Type 0
IsUnchanged result = IfErr result (λ r. r ≡ refusals.StoreChanged → ⊥)
