-- What the checks of a file take, and that it is the same of whatever is answered after them.
use Rattle.std.proofs.Common.{ℕ, List}
use Rattle.std.specs.Prelude.{Result, Ok, Err}
use Rattle.mp4_boxes.specs.declared.refusal.Refusal.{Refusal}
use Rattle.mp4_present.specs.words.OpeningWork.{ChecksFile}
use Rattle.mp4_present.proofs.LooksCounted.{none_looks}
use Rattle.mp4_present.proofs.OpeningBytes.{none_open}
use Rattle.mp4_present.proofs.TablesWork.{if_no_fault, none_taken}

-- nothing was taken
pub none_checked : {T : Type 0} (file : List ℕ) (r : Result T Refusal) (steps looks : ℕ) → ChecksFile file r steps steps looks looks
none_checked file r steps looks = record {
  work = λ tree is. if_no_fault _ r (none_taken _ _);
  within = none_open file steps;
  looks = record { said = λ tree is. if_no_fault _ r (none_taken _ _); within = none_looks file looks };
}

-- a refusal is handed on
pub refused_as : {A B : Type 0} (file : List ℕ) (r : Refusal) (old new before after : ℕ) → ChecksFile {T = A} file (Err r) old new before after → ChecksFile {T = B} file (Err r) old new before after
refused_as file r old new before after c = record {
  work = c.work;
  within = c.within;
  looks = record { said = c.looks.said; within = c.looks.within };
}

-- something else is made of what was found
pub found_as : {A B : Type 0} (file : List ℕ) (x : A) (y : B) (old new before after : ℕ) → ChecksFile file (Ok x) old new before after → ChecksFile file (Ok y) old new before after
found_as file x y old new before after c = record {
  work = c.work;
  within = c.within;
  looks = record { said = c.looks.said; within = c.looks.within };
}
