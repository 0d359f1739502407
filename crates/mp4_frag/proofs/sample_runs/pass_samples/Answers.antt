use Rattle.std.proofs.Common.{◌∙◌, ap, refl, sym}
use Rattle.mp4_frag.specs.declared.sample_runs.JudgedSamples.{JudgedSamples}
use Rattle.mp4_frag.proofs.RunRows.{near_again, none_taken, none_within}
use Rattle.mp4_frag.proofs.sample_runs.pass_samples.Goals as goal

pub returns-in-None-clause-within : goal.returns-in-None-clause-within
returns-in-None-clause-within g c =
    let out = rw (near_again c.args.at c.requires.near) at (c.in-None.ensures.none refl) in
    ap (λ (s : JudgedSamples). s.are_within) c.none_passed.ensures
    ∙ sym (none_within c.args.judged.file_len c.args.judged.inherited.size c.args.at c.args.payload.now c.args.run out)

pub returns-in-None-clause-samples : goal.returns-in-None-clause-samples
returns-in-None-clause-samples g c within =
    let none = rw (near_again c.args.at c.requires.near) at c.none_passed.ensures in
    none_taken c.args.judged c.args.at c.args.payload.now c.args.run c.none_passed.result none within
