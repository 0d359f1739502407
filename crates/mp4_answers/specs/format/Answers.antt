-- What each command promises of every file, said of its run.
use Rattle.std.specs.Prelude.{◌≡◌, ◌⊎◌, ℕ, List, [], Result, Err}
use Rattle.mp4_boxes.specs.format.Box.{file_container}
use Rattle.mp4_boxes.specs.declared.fault.Fault.{Fault}
use Rattle.mp4_boxes.specs.declared.refusal.Refusal.{Refusal}
use Rattle.mp4_boxes.specs.declared.rule.Rule.TheVariants.{File}
use Rattle.mp4_present.specs.format.Judge.{judge}
use Rattle.mp4_answers.specs.format.Run.{Run, Honest, Answered, NeverChanged, PutsAtOnce, PutsNothing}
use Rattle.mp4_answers.specs.format.Headline.{HasNormalForm}
use Rattle.mp4_answers.specs.format.ReducedHeadline.{HasReducedForm, LeftFaultStands, PassesLimits}
use Rattle.mp4_answers.specs.format.Told.{IsFaultTold}
use Rattle.mp4_answers.specs.format.FileTexts.{ShowsLine, ListsSamples, HasData, PrintsText}
use Rattle.mp4_answers.specs.format.Selected.{LacksNamed, LacksTrack}
use Rattle.mp4_answers.specs.format.BoxWalk.{under, FaultSeen}
use Rattle.mp4_answers.specs.format.Strips.{IsStripped, Halts}
use Rattle.mp4_answers.specs.format.BoxTexts.{FormLines, with_fields, without_fields}
use Rattle.mp4_answers.specs.declared.box_names.Name.{Name}
use Rattle.mp4_answers.specs.declared.jobs.Form.{Form}
use Rattle.mp4_answers.specs.declared.jobs.Job.{Job}
use Rattle.mp4_answers.specs.declared.jobs.Job.TheVariants as jobs
use Rattle.mp4_answers.specs.declared.jobs.BoxForm.{BoxForm}
use Rattle.mp4_answers.specs.declared.jobs.Syntax.{Syntax}
use Rattle.mp4_answers.specs.declared.selection.Selection.{Selection}

-- the first fault of the file (laws say that it stands there, and that nothing is denoted)
abbrev pub IsFaultOf : List ℕ → Fault → Type 0
IsFaultOf file f = judge file ≡ Err f

-- `normalise`: the normal form of what the file is judged to be
abbrev pub Normalised : {A : Type 0} → Run → Result A Refusal → Type 0
Normalised r result = Answered r (HasNormalForm r.file) (IsFaultOf r.file) ⊥ result

-- `check`: nothing is put, and an accepted file has a normal form
abbrev pub Judged : {A : Type 0} → Run → Result A Refusal → Type 0
Judged r result = Answered r (λ text. (text ≡ []) × (form : List ℕ) × HasNormalForm r.file form)
    (IsFaultOf r.file) ⊥ result

-- `normalise --without`, or of one track: the normal form of what is left; nothing, where that has
-- none
abbrev pub ReducedTo : {A : Type 0} → Selection → Run → Result A Refusal → Type 0
ReducedTo s r result = Answered r (HasReducedForm s r.file)
    (λ f. IsFaultTold s r.file f ⊎ LeftFaultStands s r.file f)
    (LacksNamed s.track r.honest r.file) result
    × (Honest r → PassesLimits s r.file → PutsNothing r)

-- `show`: one line
abbrev pub Shown : {A : Type 0} → Run → Result A Refusal → Type 0
Shown r result = Answered r (ShowsLine r.file) (IsFaultOf r.file) ⊥ result × PutsAtOnce r result

-- `samples`: those of the track with this ID, in this form
abbrev pub Listed : {A : Type 0} → ℕ → Form → Run → Result A Refusal → Type 0
Listed id form r result = Answered r (ListsSamples r.file id form) (IsFaultOf r.file)
    (Honest r → LacksTrack r.file id) result

-- `extract`: the bytes of these
abbrev pub Extracted : {A : Type 0} → ℕ → Run → Result A Refusal → Type 0
Extracted id r result = Answered r (HasData r.file id) (IsFaultOf r.file)
    (Honest r → LacksTrack r.file id) result

-- `boxes`: the list of all boxes, or a fault at a header that is looked at
abbrev pub FormListed : {A : Type 0} → BoxForm → Run → Result A Refusal → Type 0
FormListed form r result = Answered r (FormLines form r.file)
    (FaultSeen (under File (file_container r.file))) ⊥ result
    × PutsAtOnce r result × NeverChanged result

abbrev pub BoxesListed : {A : Type 0} → Syntax → Run → Result A Refusal → Type 0
BoxesListed syntax r result = FormListed (without_fields syntax) r result

-- `boxes --fields`: the same, each with its fields and at most so many of its rows
abbrev pub FieldsListed : {A : Type 0} → Syntax → ℕ → Run → Result A Refusal → Type 0
FieldsListed syntax most r result = FormListed (with_fields syntax most) r result

-- `strip`: the copy in which the named boxes are free space, or a fault at a header on the way
abbrev pub StrippedOf : {A : Type 0} → List Name → Run → Result A Refusal → Type 0
StrippedOf names r result = Answered r (IsStripped names r.file)
    (λ f. Halts names f File 0 r.file) ⊥ result

-- `print`: the text of what is left
abbrev pub Printed : {A : Type 0} → Selection → Run → Result A Refusal → Type 0
Printed s r result = Answered r (PrintsText s r.file) (IsFaultTold s r.file)
    (LacksNamed s.track r.honest r.file) result

-- a job: what its command promises
abbrev pub Performed : {A : Type 0} → Job → Run → Result A Refusal → Type 0
Performed jobs.Normalise r result = Normalised r result
Performed (jobs.Reduce s) r result = ReducedTo s r result
Performed (jobs.Print s) r result = Printed s r result
Performed jobs.Show r result = Shown r result
Performed (jobs.Samples track form) r result = Listed track form r result
Performed (jobs.Extract track) r result = Extracted track r result
Performed (jobs.Boxes syntax) r result = BoxesListed syntax r result
Performed (jobs.Fields syntax most) r result = FieldsListed syntax most r result
Performed (jobs.Strip names) r result = StrippedOf names.now r result

-- why a job is refused
abbrev pub RefusesJob : Job → Run → Refusal → Type 0
RefusesJob job r e = Performed {A = Unit {0}} job r (Err e)
