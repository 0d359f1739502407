-- Laws of what the commands answer, taken together.
use Rattle.std.specs.Prelude.{◌≡◌, ◌↔◌, ◌⊎◌, ℕ, List, [], ◌∷◌, Option, None, Some, Bool, true, false, Ok, Err}
use Rattle.mp4_boxes.specs.format.Bytes.{AreBytes}
use Rattle.mp4_boxes.specs.declared.fault.Fault.{Fault}
use Rattle.mp4_present.specs.format.Judge.{judge}
use Rattle.mp4_present.specs.format.Presentation.{IsWithinLimits, Presentation, Track, Valid}
use Rattle.mp4_present.specs.format.Denotes.{Denotes}
use Rattle.mp4_present.specs.format.Stands.{Stands}
use Rattle.mp4_content.specs.declared.without.Without.{Without}
use Rattle.mp4_content.specs.format.CoveringLaws.{Covers}
use Rattle.mp4_content.specs.format.LeadIns.{told}
use Rattle.mp4_content.specs.format.LeadInsLaws.{KeepsBeginnings}
use Rattle.mp4_answers.specs.declared.commands.compare.Asked.{Asked}
use Rattle.mp4_answers.specs.declared.jobs.Form.{Form}
use Rattle.mp4_answers.specs.declared.jobs.Form.TheVariants as forms
use Rattle.mp4_answers.specs.declared.selection.Selection.{Selection}
use Rattle.mp4_answers.specs.format.CompareHeadline.{IsVerdict, of_first, of_second}
use Rattle.mp4_answers.specs.format.Headline.{HasNormalForm}
use Rattle.mp4_answers.specs.format.ReducedHeadline.{HasReducedForm, LeftFaultStands}
use Rattle.mp4_answers.specs.format.Selected.{Shows, alone}
use Rattle.mp4_answers.specs.format.Told.{IsLeftInLimits, judge_told}
use Rattle.mp4_answers.specs.format.FileTexts.{ShowsLine, ListsSamples, HasData}
use Rattle.mp4_answers.specs.format.Texts.{Spot, sample_listing}

-- Two files are told the same, without some things, exactly if the normal forms of what is left of
-- them are the same bytes.
abbrev pub SameIsSameBytes : Type 0
SameIsSameBytes = (asked : Asked) (file other text other_text : List ℕ) (same : Bool)
    → AreBytes file → AreBytes other → IsVerdict asked file other same
    → HasReducedForm (of_first asked) file text → HasReducedForm (of_second asked) other other_text
    → (same ≡ true) ↔ (text ≡ other_text)

-- Files that are told the same without some things are told the same without more: if `lead-ins` is
-- not among the more alone, or what is left says how tracks begin.
abbrev pub SameStaysSame : Type 0
SameStaysSame = (asked : Asked) (m : Without) (file other : List ℕ) (more : Bool)
    → AreBytes file → AreBytes other → Covers asked.leaving m
    → (asked.leaving.lead_ins ≡ m.lead_ins)
    ⊎ KeepsBeginnings asked.leaving.lead_ins asked.leaving
    → IsVerdict asked file other true
    → IsVerdict (record asked { leaving = m }) file other more → more ≡ true

-- The normal form of a file denotes what the file denotes, and nothing else.
abbrev pub NormalFormDenotesTheSame : Type 0
NormalFormDenotesTheSame = (file text : List ℕ) → AreBytes file → HasNormalForm file text
    → (p : Presentation) → Denotes file p ↔ Denotes text p

-- What is shown of a file, listed of it in lines and extracted from it is what is shown, listed and
-- extracted of its normal form.
abbrev pub NormalFormShowsTheSame : Type 0
NormalFormShowsTheSame = (file text : List ℕ) → AreBytes file → HasNormalForm file text
    → (line : List ℕ) → ShowsLine file line ↔ ShowsLine text line

abbrev pub NormalFormListsTheSame : Type 0
NormalFormListsTheSame = (file text : List ℕ) → AreBytes file → HasNormalForm file text
    → (id : ℕ) (form : Form) (lines : List ℕ) → (form ≡ forms.Json → ⊥)
    → ListsSamples file id form lines ↔ ListsSamples text id form lines

-- As objects of JSON the same samples are listed, each where it lies.
abbrev pub NormalFormListsTheSameSamples : Type 0
NormalFormListsTheSameSamples = (file text : List ℕ) → AreBytes file → HasNormalForm file text
    → (id : ℕ) (form : Form) (lines : List ℕ) → ListsSamples file id form lines
    → (t : Track) × (own other : List Spot) × (lines ≡ sample_listing form t own)
    × ListsSamples text id form (sample_listing form t other)

abbrev pub NormalFormHasTheSameData : Type 0
NormalFormHasTheSameData = (file text : List ℕ) → AreBytes file → HasNormalForm file text
    → (id : ℕ) (bytes : List ℕ) → HasData file id bytes ↔ HasData text id bytes

-- No fault stands in a file that has a normal form. (That `check` and `normalise` never disagree
-- needs no law: both say what `judge` says.)
abbrev pub AcceptedHasNoFault : Type 0
AcceptedHasNoFault = (file text : List ℕ) (f : Fault) → HasNormalForm file text → Stands file f → ⊥

-- Where a fault is named of what is left of a file, that has no normal form.
abbrev pub LeftFaultRefuses : Type 0
LeftFaultRefuses = (s : Selection) (file : List ℕ) (f : Fault) (p : Presentation)
    → LeftFaultStands s file f → Shows s.track file p → IsLeftInLimits s.leaving p → ⊥

-- Where it has none, and told how long its tracks wait the file is within the limits, one such
-- fault is named, and no other.
abbrev pub LeftFaultIsOne : Type 0
LeftFaultIsOne = (s : Selection) (file : List ℕ) (p : Presentation) → Shows s.track file p
    → IsWithinLimits (told s.leaving.lead_ins p) → (IsLeftInLimits s.leaving p → ⊥)
    → (f : Fault) × LeftFaultStands s file f
    × ((g : Fault) → LeftFaultStands s file g → g ≡ f)

-- ---- told how long tracks wait

-- A file of which all is looked at, and that isn't told, is judged as it is.
abbrev pub UntoldIsJudged : Type 0
UntoldIsJudged = (file : List ℕ) → judge_told None false file ≡ judge file

-- A fault of a file is its fault too as it is told, and of each of its tracks.
abbrev pub FaultIsJudged : Type 0
FaultIsJudged = (track : Option ℕ) (b : Bool) (file : List ℕ) (f : Fault) → judge file ≡ Err f
    → judge_told track b file ≡ Err f

-- One that has none is judged to be what it shows then, if that is within the limits.
abbrev pub ToldIsJudged : Type 0
ToldIsJudged = (track : Option ℕ) (b : Bool) (file : List ℕ) (p : Presentation)
    → Shows track file p → IsWithinLimits (told b p)
    → judge_told track b file ≡ Ok (told b p)

-- ---- one track alone

-- What is looked at of a file is valid: all of it, or one track.
abbrev pub ShownIsValid : Type 0
ShownIsValid = (track : Option ℕ) (file : List ℕ) (p : Presentation) → AreBytes file
    → Shows track file p → Valid p

-- What has one track is the same with that alone.
abbrev pub OneTrackIsWhole : Type 0
OneTrackIsWhole = (p : Presentation) (t : Track) → p.tracks ≡ t ∷ []
    → alone (Some t.head.id) p ≡ p
