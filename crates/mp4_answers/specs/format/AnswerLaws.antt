-- The laws of what commands promise.
use Rattle.std.specs.Prelude.{◌≡◌, ℕ, List, ◌++◌, true, Result}
use Rattle.mp4_boxes.specs.declared.refusal.Refusal.{Refusal}
use Rattle.mp4_answers.specs.format.Run.{Run}
use Rattle.mp4_answers.specs.format.Answers.{Normalised}
use Rattle.mp4_answers.specs.format.Headline.{Normalises}

-- the run over one file, into a sink that tells its bytes: these before it, and those after it
abbrev pub run_told : List ℕ → List ℕ → List ℕ → ℕ → ℕ → ℕ → ℕ → Run
run_told file before after reads reads_after puts puts_after = record {
  honest = true;
  file = file;
  reads = reads;
  reads_after = reads_after;
  puts = puts;
  puts_after = puts_after;
  took = λ bytes. after ≡ before ++ bytes;
}

-- What `normalise` promises of such a run, with no word of runs.
abbrev pub NormalisedSaysBytes : Type 0
NormalisedSaysBytes = (file before after : List ℕ) (reads reads_after puts puts_after : ℕ)
    (result : Result (Unit {0}) Refusal)
    → Normalised (run_told file before after reads reads_after puts puts_after) result
    → Normalises file before after result
