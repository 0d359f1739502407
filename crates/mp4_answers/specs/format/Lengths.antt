-- How many bytes a job puts, of those that copy samples or boxes.
use Rattle.std.specs.Prelude.{◌≡◌, ℕ, List, length}
use Rattle.mp4_answers.specs.declared.jobs.Job.{Job}
use Rattle.mp4_answers.specs.declared.jobs.Job.TheVariants as jobs
use Rattle.mp4_answers.specs.format.FileTexts.{HasData}
use Rattle.mp4_answers.specs.format.Headline.{HasNormalForm}
use Rattle.mp4_answers.specs.format.ReducedHeadline.{HasReducedForm}
use Rattle.mp4_answers.specs.format.Strips.{IsStripped}

-- each text of which this is true has so many bytes
abbrev pub AreLong : (List ℕ → Type 0) → ℕ → Type 0
AreLong IsText n = (text : List ℕ) → IsText text → length text ≡ n

-- The text that a job puts of a file has so many bytes. Those of other jobs are not measured: 0.
abbrev pub HasLength : Job → List ℕ → ℕ → Type 0
HasLength jobs.Normalise file n = AreLong (HasNormalForm file) n
HasLength (jobs.Reduce s) file n = AreLong (HasReducedForm s file) n
HasLength (jobs.Extract id) file n = AreLong (HasData file id) n
HasLength (jobs.Strip names) file n = AreLong (IsStripped names.now file) n
HasLength (jobs.Boxes syntax) file n = n ≡ 0
HasLength (jobs.Fields syntax most) file n = n ≡ 0
HasLength jobs.Show file n = n ≡ 0
HasLength (jobs.Samples track form) file n = n ≡ 0
HasLength (jobs.Print s) file n = n ≡ 0
