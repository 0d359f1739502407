use Rattle.std.proofs.Common.{◌≡◌, ◌+◌, ◌^◌, ◌<◌, ◌++◌, length}
use Rattle.mp4_present.specs.words.Carried.{waiting}
use Rattle.mp4_answers.specs.format.Texts.{sample_at_lines}
use Rattle.mp4_answers.proofs.Going.{Going}
use Rattle.mp4_answers.proofs.text.sample_lines.put_lines.Given as goal

-- the lines of the samples so far are put, or wait, or stand in the block
abbrev pub invariant-loop-sample : goal.invariant-loop-sample
invariant-loop-sample g l =
    let rest = g.C.Samples.rest in
    record {
      number : l.fn.number + length (rest l.fn.samples) < 2 ^ 64 → l.number + length (rest l.samples) ≡ l.fn.number + length (rest l.fn.samples);
      lines : l.fn.number + length (rest l.fn.samples) < 2 ^ 64 → Going (g.K.Sink.takes l.fn.sink l.sink) (waiting l.fn.carrier) (waiting l.carrier ++ l.block) (sample_at_lines l.form l.number l.fragment (rest l.samples)) (sample_at_lines l.form l.fn.number l.fragment (rest l.fn.samples));
      failures : g.K.Sink.put_failures l.sink ≡ g.K.Sink.put_failures l.fn.sink;
      later : g.C.Samples.follows l.fn.samples l.samples;
    }

abbrev pub decreases-loop-sample : goal.decreases-loop-sample
decreases-loop-sample g l = length (g.C.Samples.rest l.samples)
