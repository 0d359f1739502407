-- What a run of the program comes to, over whatever it reads and writes.
use Rattle.std.specs.Prelude.{◌≡◌, ◌⊎◌, ℕ, List, [], ◌∷◌, ◌++◌, ◌<◌, ◌≤◌, Bool, true, false, IsTrue, Option, None, Some, Result, IsErrAnd, OnOk, Ok, Err}
use Rattle.mp4_boxes.specs.declared.refusal.Refusal.{Refusal}
use Rattle.mp4_boxes.specs.declared.refusal.Refusal.TheVariants as refusals
use Rattle.mp4_store.specs.declared.store.Store.{Ghosts as Store}
use Rattle.mp4_store.specs.declared.sink.Sink.{Ghosts as Sink}
use Rattle.mp4_store.specs.words.Device.{HasRisen}
use Rattle.mp4_answers.specs.declared.jobs.Job.{Job}
use Rattle.mp4_answers.specs.format.Answers.{Judged, Performed, RefusesJob}
use Rattle.mp4_answers.specs.format.Lengths.{HasLength}
use Rattle.mp4_answers.specs.declared.box_names.Name.TheVariants.{Foreign}
use Rattle.mp4_answers.specs.format.Run.{Run, look_of, run_of}
use Rattle.mp4_answers.specs.format.Strips.{RefusesLook}
use Rattle.mp4_answers.specs.format.Texts.{fault_line, status_of}
use Rattle.mp4_answers.specs.format.Sums.{Summed, SumsBytes}
use Rattle.mp4_answers.specs.declared.text.sum_lines.SumOf.TheVariants as sums
use Rattle.mp4_answers.specs.declared.commands.compare.Failure.{Failure}
use Rattle.mp4norm.specs.declared.shell.action.Finding.{Finding}
use Rattle.mp4norm.specs.declared.shell.action.Finding.TheVariants as findings

-- ---- what is read

-- a refusal says something of the file, and not of what failed
abbrev pub is_of_file : Refusal → Bool
is_of_file (refusals.Fault f) = true
is_of_file refusals.NoSuchTrack = true
is_of_file _ = false

-- it is not as it was when it was opened, or that can't be told
abbrev pub HasChanged : Bool → Refusal → Type 0
HasChanged may_change refusals.StoreChanged = IsTrue may_change
HasChanged may_change refusals.StoreFailed = IsTrue may_change
HasChanged may_change _ = ⊥

-- an answer stands, or what it was found of has changed
abbrev pub IsSettled : {A : Type 0} → Bool → Result A Refusal → Result A Refusal → Type 0
IsSettled may_change answer result = (result ≡ answer) ⊎ IsErrAnd result (HasChanged may_change)

-- What is read can't be read as the copy without foreign boxes: its boxes are not looked through,
-- or it has changed.
abbrev pub RefusesCopy : {X : Type 0} → Store X → Bool → X → X → Refusal → Type 0
RefusesCopy S may_change before after r = HasChanged may_change r
    ⊎ RefusesLook (Foreign ∷ []) (S.is_honest before) (S.file before)
    (S.read_failures before) (S.read_failures after) r

-- ---- where an answer goes

-- it can't be opened or closed
abbrev pub RefusesOutlet : Bool → Refusal → Type 0
RefusesOutlet may_fail refusals.WriteFailed = IsTrue may_fail
RefusesOutlet may_fail refusals.Memory = IsTrue may_fail
RefusesOutlet may_fail _ = ⊥

-- a text of this length is longer than it may be
abbrev pub IsLonger : Option ℕ → Option ℕ → Type 0
IsLonger (Some n) (Some most) = most < n
IsLonger _ _ = ⊥

-- it can't be opened for a text of this length, or the text is too long
abbrev pub RefusesOpening : Option ℕ → Option ℕ → Bool → Refusal → Type 0
RefusesOpening len most may_fail e =
    RefusesOutlet may_fail e ⊎ ((e ≡ refusals.WriteFailed) × IsLonger len most)

-- ---- a job, over a store and a sink, each as it is before and after it

-- the answer of a job that was performed stands, or what is read has changed, or what is written
-- can't be closed
abbrev pub StandsClosed : {A : Type 0} → Bool → Bool → Result A Refusal → Result A Refusal → Type 0
StandsClosed may_change may_fail answer result = IsSettled may_change answer result
    ⊎ OnOk answer (IsErrAnd result (RefusesOutlet may_fail))

-- it was performed, between the opening and the closing of what is written
abbrev pub WasPerformed : {X Y A : Type 0} → Store X → Sink Y → Bool → Bool → Job
    → X → X → Y → Y → Result A Refusal → Type 0
WasPerformed {Y = Y} {A = A} S K may_change may_fail job store after out ended result =
    (opened : Y) × (whole : Y) × (answer : Result A Refusal) × K.takes out opened []
    × Performed job (run_of S store after K opened whole) answer
    × K.takes whole ended [] × StandsClosed may_change may_fail answer result

-- it is refused before anything is put: the length of its text can't be told, for the reason for
-- which the job is refused
abbrev pub WasMeasured : {X A : Type 0} → Store X → Bool → Job → X → X → Result A Refusal → Type 0
WasMeasured S may_change job store after result = (e : Refusal)
    × RefusesJob job (look_of S store after) e × IsSettled may_change (Err e) result

abbrev pub RefusesMeasure : {X : Type 0} → Store X → Bool → Job → X → X → Refusal → Type 0
RefusesMeasure S may_change job store after e =
    WasMeasured {A = Unit {0}} S may_change job store after (Err e)

-- the text has more bytes than it may
abbrev pub IsTooLong : Option ℕ → Job → List ℕ → Type 0
IsTooLong None job file = ⊥
IsTooLong (Some most) job file = (n : ℕ) × HasLength job file n × (most < n)

-- that is why nothing is put
abbrev pub RefusesLength : {X : Type 0} → Store X → Option ℕ → Job → X → Refusal → Type 0
RefusesLength S most job store e = (e ≡ refusals.WriteFailed)
    × (IsTrue (S.is_honest store) → IsTooLong most job (S.file store))

-- or what is written can't be opened, or the text has more bytes than it may
abbrev pub EndsJob : {X Y A : Type 0} → Store X → Sink Y → Option ℕ → Bool → Bool → Job
    → X → X → Y → Y → Result A Refusal → Type 0
EndsJob S K most may_change may_fail job store after out ended result =
    WasPerformed S K may_change may_fail job store after out ended result
    ⊎ (K.takes out ended [] × (WasMeasured S may_change job store after result
    ⊎ IsErrAnd result (λ e. RefusesOutlet may_fail e ⊎ RefusesLength S most job store e)))

-- the length of the text is known where there is a most
abbrev pub IsMeasured : Option ℕ → Job → List ℕ → Option ℕ → Type 0
IsMeasured None job file len = Unit {0}
IsMeasured (Some most) job file None = ⊥
IsMeasured (Some most) job file (Some n) = HasLength job file n

abbrev pub IsNoLonger : Option ℕ → Option ℕ → Type 0
IsNoLonger (Some n) (Some most) = n ≤ most
IsNoLonger _ _ = Unit {0}

-- the text has no more bytes than it may
abbrev pub FitsIn : Option ℕ → Job → List ℕ → Type 0
FitsIn None job file = Unit {0}
FitsIn (Some most) job file = (n : ℕ) × HasLength job file n × (n ≤ most)

-- ---- what is said of it

-- it was put whole, or a put failed
abbrev pub Says : (List ℕ → Type 0) → List ℕ → ℕ → ℕ → Type 0
Says Took text before after = Took text ⊎ HasRisen before after

-- a line on standard error, where there is no answer
abbrev pub refusal_text : {A : Type 0} → Result A Refusal → List ℕ
refusal_text (Ok done) = []
refusal_text (Err r) = fault_line r ++ 10 ∷ []

-- ---- what is found of a file

-- that it is accepted, or the sum of what is left of it, or of one of its tracks alone, or that of
-- its bytes
abbrev pub IsFound : Finding → Run → Result (Option (List ℕ)) Refusal → Type 0
IsFound findings.Verdict r (Ok None) = Judged {A = Unit {0}} r (Ok tt)
IsFound findings.Verdict r (Ok (Some digest)) = ⊥
IsFound findings.Verdict r (Err e) = Judged {A = Unit {0}} r (Err e)
IsFound (findings.Sum what track header bytes) r (Ok None) = ⊥
IsFound (findings.Sum (sums.Form l) track header bytes) r (Ok (Some digest)) =
    Summed (record { track = track; leaving = l }) r (Ok digest)
IsFound (findings.Sum (sums.Form l) track header bytes) r (Err e) =
    Summed (record { track = track; leaving = l }) r (Err e)
IsFound (findings.Sum sums.Bytes track header bytes) r (Ok (Some digest)) = SumsBytes r (Ok digest)
IsFound (findings.Sum sums.Bytes track header bytes) r (Err e) = SumsBytes r (Err e)

-- two files are the same or not, or that isn't known
abbrev pub comparison_status : Result Bool Failure → ℕ
comparison_status (Ok true) = 0
comparison_status (Ok false) = 5
comparison_status (Err f) = status_of f.refusal
