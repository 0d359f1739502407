-- What `normalise` promises of every file.
use Rattle.std.specs.Prelude.{◌≡◌, ◌⊎◌, ℕ, List, ◌++◌, Result, Ok, Err}
use Rattle.mp4_boxes.specs.declared.refusal.Refusal.{Refusal}
use Rattle.mp4_boxes.specs.declared.refusal.Refusal.TheVariants as refusals
use Rattle.mp4_present.specs.format.Presentation.{Presentation}
use Rattle.mp4_present.specs.format.Denotes.{Denotes}
use Rattle.mp4_present.specs.format.Judge.{judge}
use Rattle.mp4_plan.specs.format.Normal.{normal}

-- the file is judged to be a presentation, whose normal form these bytes are
abbrev pub HasNormalForm : List ℕ → List ℕ → Type 0
HasNormalForm file bytes = (p : Presentation) × (judge file ≡ Ok p) × (bytes ≡ normal p)

-- nothing is denoted (bounds are said with it)
abbrev pub DenotesNothing : List ℕ → Type 0
DenotesNothing file = (p : Presentation) → Denotes file p → ⊥

-- the bytes put are a front of the file's normal form
abbrev pub PutsFrontOfNormal : List ℕ → List ℕ → List ℕ → Type 0
PutsFrontOfNormal file before after = (front rest : List ℕ) × HasNormalForm file (front ++ rest)
    × (after ≡ before ++ front)

-- The answer to a file, with what the sink held before and holds after: all of the normal form, or
-- the first fault.
abbrev pub Normalises : {A : Type 0} → List ℕ → List ℕ → List ℕ → Result A Refusal → Type 0
Normalises file before after (Ok done) = (bytes : List ℕ) × HasNormalForm file bytes
    × (after ≡ before ++ bytes)
Normalises file before after (Err (refusals.Fault f)) = (judge file ≡ Err f) × (after ≡ before)
Normalises file before after (Err refusals.Memory) = after ≡ before
Normalises file before after (Err refusals.StoreFailed) = (after ≡ before)
    ⊎ PutsFrontOfNormal file before after
Normalises file before after (Err refusals.StoreChanged) = ⊥
Normalises file before after (Err refusals.WriteFailed) = PutsFrontOfNormal file before after
Normalises file before after (Err refusals.NoSuchTrack) = ⊥
