-- Verdicts on files.
use Rattle.std.specs.Prelude.{ℕ, List, [], ◌∷◌, ◌++◌, Result, Ok, Err, codes, decimal}
use Rattle.mp4_store.specs.words.Device.{HasRisen, TakesPrefix}
use Rattle.mp4_boxes.specs.declared.refusal.Refusal.{Refusal}
use Rattle.mp4_boxes.specs.declared.refusal.Refusal.TheVariants as refusals
use Rattle.mp4_boxes.specs.declared.fault.Fault.{Fault}
use Rattle.mp4_answers.specs.declared.jobs.Syntax.{Syntax}
use Rattle.mp4_answers.specs.declared.jobs.Syntax.TheVariants as syntaxes
use Rattle.mp4_answers.specs.declared.jobs.VerdictStyle.{VerdictStyle}
use Rattle.serde_json.specs.Data.{Data, string, object}
use Rattle.serde_json.specs.Written.{compact_text}
use Rattle.mp4_answers.specs.format.Texts.{fault_line, kind_text, members, nat_value, status_of, type_text}

-- the line of a verdict on a file of this name
abbrev pub verdict_line : {A : Type 0} → List ℕ → Result A Refusal → List ℕ
verdict_line name (Ok done) = name ++ codes ": accepted"
verdict_line name (Err r) = name ++ codes ": " ++ fault_line r

abbrev pub verdict_status : {A : Type 0} → Result A Refusal → ℕ
verdict_status (Ok done) = 0
verdict_status (Err r) = status_of r

-- a fault as JSON; keys in order of their bytes
abbrev pub fault_value : Fault → Data
fault_value f = object (members (
    (codes "box", string (type_text f.box_type))
    ∷ (codes "kind", string (kind_text f.kind))
    ∷ (codes "offset", nat_value f.offset)
    ∷ []))

-- what is said of a failure
abbrev pub failure_text : Refusal → List ℕ
failure_text (refusals.Fault f) = []
failure_text refusals.Memory = codes "memory"
failure_text refusals.StoreFailed = codes "store"
failure_text refusals.StoreChanged = codes "store changed"
failure_text refusals.WriteFailed = codes "write"
failure_text refusals.NoSuchTrack = codes "no such track"

-- the members of a verdict but for its status; the name is a string of JSON
abbrev pub verdict_members : {A : Type 0} → List ℕ → Result A Refusal → List ℕ
verdict_members name (Ok done) = codes "\"file\":" ++ name
verdict_members name (Err (refusals.Fault f)) = codes "\"file\":" ++ name
    ++ codes ",\"refused\":" ++ compact_text (fault_value f)
verdict_members name (Err r) = codes "\"failed\":\"" ++ failure_text r
    ++ codes "\",\"file\":" ++ name

-- the verdict as an object of JSON
abbrev pub verdict_object : {A : Type 0} → List ℕ → Result A Refusal → List ℕ
verdict_object name answer = codes "{" ++ verdict_members name answer
    ++ codes ",\"status\":" ++ decimal (verdict_status answer) ++ codes "}"

-- a verdict in a syntax
abbrev pub verdict_in : {A : Type 0} → Syntax → List ℕ → Result A Refusal → List ℕ
verdict_in syntaxes.Text name answer = verdict_line name answer
verdict_in syntaxes.Json name answer = verdict_object name answer

-- a verdict in a style, with the byte that ends it
abbrev pub verdict_text : {A : Type 0} → List ℕ → Result A Refusal → VerdictStyle → List ℕ
verdict_text name answer style = verdict_in style.syntax name answer ++ style.end ∷ []

-- Why a verdict is not put, or not all of it. `Took` says of bytes that they were put, the numbers
-- are counts of failed puts.
abbrev pub RefusesVerdict : List ℕ → (List ℕ → Type 0) → ℕ → ℕ → Refusal → Type 0
RefusesVerdict text Took puts puts_after refusals.Memory = Took []
RefusesVerdict text Took puts puts_after refusals.WriteFailed = HasRisen puts puts_after
    × TakesPrefix Took text
RefusesVerdict text Took puts puts_after _ = ⊥
