use Rattle.std.proofs.Common.{◌≡◌, ℕ, List, ◌++◌, drop}
use Rattle.mp4_answers.specs.words.SampleMessages.{told_lines}
use Rattle.mp4_answers.proofs.Told.{ToldSoFar}
use Rattle.mp4_answers.proofs.commands.print.put_lines.Given as goal

-- the lines so far are taken along
abbrev pub invariant-lines : goal.invariant-lines
invariant-lines g l =
    record {
      done : List ℕ;
      told : ToldSoFar g.K.Sink l.fn.sink l.sink l.fn.text l.text done;
      whole : told_lines l.style l.digests 0 l.samples ≡ done ++ told_lines l.style l.digests l.k (drop l.k l.samples);
    }
