-- How many steps and looks a job may take.
use Rattle.std.specs.Prelude.{ℕ, List}
use Rattle.mp4_content.specs.format.ReducedLaws.{nothing}
use Rattle.mp4_answers.specs.format.Steps.{WorksWithin, WalksWithin, PrintsWithin, FindsWithin, TakesEach, TurnsWithin}
use Rattle.mp4_answers.specs.declared.jobs.Job.{Job}
use Rattle.mp4_answers.specs.declared.jobs.Job.TheVariants as jobs

-- the steps, where they are counted
abbrev pub JobWorksWithin : Job → List ℕ → ℕ → ℕ → Type 0
JobWorksWithin (jobs.Boxes syntax) file old new = Unit {0}
JobWorksWithin (jobs.Fields syntax most) file old new = Unit {0}
JobWorksWithin jobs.Show file old new = WalksWithin file old new
JobWorksWithin (jobs.Samples track form) file old new = WalksWithin file old new
JobWorksWithin (jobs.Extract track) file old new = WalksWithin file old new
JobWorksWithin jobs.Normalise file old new = WorksWithin nothing file old new
JobWorksWithin (jobs.Print s) file old new = PrintsWithin s.leaving file old new
JobWorksWithin (jobs.Reduce s) file old new = WorksWithin s.leaving file old new
JobWorksWithin (jobs.Strip names) file old new = Unit {0}

-- at least one for each sample and row, where they are counted
abbrev pub JobTakesEach : Job → List ℕ → ℕ → ℕ → Type 0
JobTakesEach (jobs.Boxes syntax) file old new = Unit {0}
JobTakesEach (jobs.Fields syntax most) file old new = Unit {0}
JobTakesEach (jobs.Strip names) file old new = Unit {0}
JobTakesEach _ file old new = TakesEach file old new

-- the looks, where these are counted
abbrev pub JobLooksWithin : Job → List ℕ → ℕ → ℕ → Type 0
JobLooksWithin (jobs.Boxes syntax) file old new = Unit {0}
JobLooksWithin (jobs.Fields syntax most) file old new = Unit {0}
JobLooksWithin jobs.Show file old new = FindsWithin file old new
JobLooksWithin (jobs.Samples track form) file old new = FindsWithin file old new
JobLooksWithin (jobs.Extract track) file old new = FindsWithin file old new
JobLooksWithin jobs.Normalise file old new = TurnsWithin file old new
JobLooksWithin (jobs.Print s) file old new = FindsWithin file old new
JobLooksWithin (jobs.Reduce s) file old new = TurnsWithin file old new
JobLooksWithin (jobs.Strip names) file old new = Unit {0}
