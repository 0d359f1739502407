use Rattle.std.proofs.Common.{◌++◌, ◌∙◌, append_assoc, codes}
use Rattle.std.specs.Prelude.{decimal}
use Rattle.mp4_present.proofs.WalkCopied.{on_ok}
use Rattle.mp4_answers.proofs.text.aligned_lines.say_decode_time.Goals as goal

pub returns : goal.returns
returns c =
    let front = codes "{\"decode_time\":" in
    let time = decimal c.args.between.time in
    on_ok _ _ c.say_counted.result
    (λ e. e ∙ append_assoc (c.args.text.now.items ++ front) time (codes ",") ∙ append_assoc c.args.text.now.items front (time ++ codes ",")) c.say_counted.ensures
