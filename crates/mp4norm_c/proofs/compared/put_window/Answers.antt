use Rattle.std.proofs.Common.{◌∙◌, [], rules}
use Rattle.mp4norm_c.proofs.compared.put_window.Goals as goal

pub returns : goal.returns
returns c =
    let kept = c.keep.ensures.kept.keeps c.args.from c.args.out.now [] c.new-sink.ensures.empty in
    record { bytes = search rules; count = c.filled.ensures ∙ kept.filled }
