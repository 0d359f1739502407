-- Boxes between two places of a file that lie under a rule, and what stands for them where some are
-- free space.
use Rattle.std.specs.Prelude.{◌≡◌, ℕ, ◌+◌, ◌-◌, ◌≤◌, List, Bool, Option, Ok}
use Rattle.mp4_boxes.specs.format.Box.{header_at}
use Rattle.mp4_boxes.specs.words.View.{top_header_seen}
use Rattle.mp4_boxes.specs.declared.refusal.Refusal.{Refusal}
use Rattle.mp4_boxes.specs.declared.rule.Rule.{Rule}
use Rattle.mp4_boxes.specs.declared.headers.TopHeader.{TopHeader}
use Rattle.mp4_store.specs.declared.store.Store.{Ghosts as Store}
use Rattle.mp4_store.specs.words.Device.{range}
use Rattle.mp4_present.specs.words.StoresRead.{WhereHonest}
use Rattle.mp4_answers.specs.declared.box_names.Name.{Name}
use Rattle.mp4_answers.specs.format.Strips.{is_top, uuid_at, Strips, RefusesHeaderUnder, RefusesHeaderAgain, RefusesFind, RefusesWalk}

-- ---- a header at a place, before an end

-- this is the header there
abbrev pub IsHeaderAt : Rule → ℕ → ℕ → List ℕ → TopHeader → Type 0
IsHeaderAt rule at end file h =
    header_at (is_top rule) (range file at (end - at)) ≡ Ok (top_header_seen at h)

-- and these are the 16 bytes that say which `uuid` the box is
abbrev pub IsUuidAt : ℕ → ℕ → List ℕ → TopHeader → Option (List ℕ) → Type 0
IsUuidAt at end file h uuid = uuid ≡ uuid_at (top_header_seen at h) (range file at (end - at))

-- the header has at least 8 bytes, and the box ends behind it and before the end
abbrev pub LiesBetween : ℕ → ℕ → TopHeader → Type 0
LiesBetween at end h = (at + h.header ≤ h.end) × (8 ≤ h.header) × (h.end ≤ end)

-- why it is not read
abbrev pub RefusesHeaderAt : Rule → ℕ → ℕ → Bool → List ℕ → ℕ → ℕ → Refusal → Type 0
RefusesHeaderAt rule at end honest file reads reads_after r =
    RefusesHeaderUnder honest (range file at (end - at)) rule at reads reads_after r

-- why it is not read where it was read before
abbrev pub RefusesAgainAt : Rule → ℕ → ℕ → Bool → List ℕ → ℕ → ℕ → Refusal → Type 0
RefusesAgainAt rule at end honest file reads reads_after r =
    RefusesHeaderAgain honest (range file at (end - at)) rule at reads reads_after r

-- ---- boxes between two places

-- they can be read, and something stands for them
abbrev pub HasCopy : List Name → Rule → ℕ → ℕ → List ℕ → Type 0
HasCopy names rule from end file =
    (text : List ℕ) × Strips names rule (range file from (end - from)) text

-- over an honest store: this is true of what stands for them
abbrev pub WhereStrips : {X : Type 0} → Store X → X → List Name → Rule → ℕ → ℕ
    → (List ℕ → Type 0) → Type 0
WhereStrips S store names rule from end P = WhereHonest S store
    (λ file. (text : List ℕ) → Strips names rule (range file from (end - from)) text → P text)

-- why they are not walked over
abbrev pub RefusesWalkAt : List Name → Rule → ℕ → ℕ → Bool → List ℕ → ℕ → ℕ → Refusal → Type 0
RefusesWalkAt names rule from end honest file reads reads_after r =
    RefusesWalk names honest rule from (range file from (end - from)) reads reads_after r

-- why they are not, where room is taken on the way
abbrev pub RefusesFindAt : List Name → Rule → ℕ → ℕ → Bool → List ℕ → ℕ → ℕ → Refusal → Type 0
RefusesFindAt names rule from end honest file reads reads_after r =
    RefusesFind names honest rule from (range file from (end - from)) reads reads_after r
