-- What a command put at Ok over any store, also over one that changes while it is read.
use Rattle.std.specs.Prelude.{ℕ, List}
use Rattle.mp4_present.specs.words.Movies.{MovieSeen}
use Rattle.mp4_content.specs.declared.without.Without.{Without}
use Rattle.mp4_content.specs.format.LeadIns.{words_told}
use Rattle.mp4_content.specs.format.ReducedLaws.{nothing}
use Rattle.mp4_plan.specs.words.PutPieces.{IsHeadLeft, IsPutWhole}
use Rattle.mp4_answers.specs.declared.jobs.Job.{Job}
use Rattle.mp4_answers.specs.declared.jobs.Job.TheVariants as jobs

-- what is left of the head of a movie that was opened, and behind it whole pieces, with as many
-- samples and as many bytes of these as were counted in it; and nothing else
pub record PutsWhole (l : Without) (Took : List ℕ → Type 0) : Type 0 where
  pub movie : MovieSeen
  pub head : List ℕ
  pub left : IsHeadLeft movie (words_told l) head
  pub whole : IsPutWhole movie Took head

-- of the jobs that write a normal form
abbrev pub JobPutsWhole : Job → (List ℕ → Type 0) → Type 0
JobPutsWhole jobs.Normalise Took = PutsWhole nothing Took
JobPutsWhole (jobs.Reduce s) Took = PutsWhole s.leaving Took
JobPutsWhole _ Took = Unit {0}
