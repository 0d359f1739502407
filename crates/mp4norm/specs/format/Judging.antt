-- Many files, judged one after the other.
use Rattle.std.specs.Prelude.{◌≡◌, ℕ, ◌+◌, max, nat_lt, List, [], ◌∷◌, Bool, true, false, not, bytes_eq, if◌then◌else◌, Option, None, Some, Result, Ok, Err}
use Rattle.mp4_boxes.specs.declared.refusal.Refusal.{Refusal}
use Rattle.mp4_answers.specs.format.Verdicts.{verdict_status}
use Rattle.mp4norm.specs.declared.judging.ListedFile.{ListedFile}
use Rattle.mp4norm.specs.declared.judging.Tally.{Tally}

-- Each of these is judged once, in their order: `Finds` says what was found of one between two
-- states of whoever judges. The status is the greatest of what was found, 0 of none.
abbrev pub JudgesEach : {J A : Type 0}
    → (J → J → A → Result (Option (List ℕ)) Refusal → Type 0) → List A → J → J → ℕ → Type 0
JudgesEach Finds [] from to status = (to ≡ from) × (status ≡ 0)
JudgesEach {J = J} Finds (a ∷ more) from to status = (next : J) × (rest : ℕ)
    × (found : Result (Option (List ℕ)) Refusal) × Finds from next a found
    × JudgesEach Finds more next to rest × (status ≡ max (verdict_status found) rest)

-- first these and then those
abbrev pub JudgesBoth : {J A B : Type 0}
    → (J → J → A → Result (Option (List ℕ)) Refusal → Type 0) → List A
    → (J → J → B → Result (Option (List ℕ)) Refusal → Type 0) → List B → J → J → ℕ → Type 0
JudgesBoth {J = J} Finds words FindsToo names from to status = (next : J) × (first second : ℕ)
    × JudgesEach Finds words from next first × JudgesEach FindsToo names next to second
    × (status ≡ max first second)

-- ---- files that have a sum in a list

-- a file has another sum than this, or none though it is accepted
abbrev pub has_another : List ℕ → Result (Option (List ℕ)) Refusal → Bool
has_another digest (Ok (Some found)) = not (bytes_eq found digest)
has_another digest (Ok None) = true
has_another digest (Err r) = false

-- a file has no sum
abbrev pub has_none : Result (Option (List ℕ)) Refusal → Bool
has_none (Ok found) = false
has_none (Err r) = true

abbrev pub one_if : Bool → ℕ
one_if b = if b then 1 else 0

-- Each file is summed once, in their order: the greatest status of those that have no sum, how many
-- these are, and how many have another one.
abbrev pub SumsAll : {J : Type 0}
    → (J → J → ListedFile → Result (Option (List ℕ)) Refusal → Type 0) → List ListedFile
    → J → J → ℕ → ℕ → ℕ → Type 0
SumsAll Finds [] from to worst without other =
    (to ≡ from) × (worst ≡ 0) × (without ≡ 0) × (other ≡ 0)
SumsAll {J = J} Finds (file ∷ more) from to worst without other = (next : J)
    × (found : Result (Option (List ℕ)) Refusal) × (rest none others : ℕ)
    × Finds from next file found × SumsAll Finds more next to rest none others
    × (worst ≡ max (verdict_status found) rest) × (without ≡ one_if (has_none found) + none)
    × (other ≡ one_if (has_another file.digest found) + others)

abbrev pub SumsEach : {J : Type 0}
    → (J → J → ListedFile → Result (Option (List ℕ)) Refusal → Type 0) → List ListedFile
    → J → J → Tally → Type 0
SumsEach Finds files from to t = SumsAll Finds files from to t.worst t.without t.other

-- the status is that of files without a sum, where there is one, else 5 where some have another
abbrev pub tally_status : Tally → ℕ
tally_status t = if nat_lt 0 t.worst then t.worst else if nat_lt 0 t.other then 5 else 0
