-- The laws of how many texts a job may put of a file: one.
use Rattle.std.specs.Prelude.{◌≡◌, ℕ, List}
use Rattle.mp4_answers.specs.declared.box_names.Name.{Name}
use Rattle.mp4_answers.specs.declared.jobs.Form.{Form}
use Rattle.mp4_answers.specs.declared.jobs.BoxForm.{BoxForm}
use Rattle.mp4_answers.specs.declared.selection.Selection.{Selection}
use Rattle.mp4_answers.specs.format.FileTexts.{ShowsLine, ListsSamples, HasData, PrintsText}
use Rattle.mp4_answers.specs.format.Headline.{HasNormalForm}
use Rattle.mp4_answers.specs.format.ReducedHeadline.{HasReducedForm}
use Rattle.mp4_answers.specs.format.Strips.{IsStripped}
use Rattle.mp4_answers.specs.format.BoxTexts.{FormLines}

-- this is true of one text at most
abbrev pub AtMostOne : (List ℕ → Type 0) → Type 0
AtMostOne IsText = (text other : List ℕ) → IsText text → IsText other → text ≡ other

-- A file has one copy in which the named boxes are free space.
abbrev pub StripIsOne : Type 0
StripIsOne = (names : List Name) (file : List ℕ) → AtMostOne (IsStripped names file)

-- And one list of its boxes.
abbrev pub ListOfBoxesIsOne : Type 0
ListOfBoxesIsOne = (form : BoxForm) (file : List ℕ) → AtMostOne (FormLines form file)

-- And one of each text that the commands put of what it is judged to be.
pub record JudgedTextsAreOne : Type 0 where
  pub normal_form : (file : List ℕ) → AtMostOne (HasNormalForm file)
  pub reduced_form : (s : Selection) (file : List ℕ) → AtMostOne (HasReducedForm s file)
  pub shown : (file : List ℕ) → AtMostOne (ShowsLine file)
  pub listed : (file : List ℕ) (id : ℕ) (form : Form) → AtMostOne (ListsSamples file id form)
  pub extracted : (file : List ℕ) (id : ℕ) → AtMostOne (HasData file id)
  pub printed : (s : Selection) (file : List ℕ) → AtMostOne (PrintsText s file)
