use Rattle.mp4_content.proofs.FieldValues.{samples_grown}
use Rattle.mp4_present.proofs.WalkCopied.{on_ok}
use Rattle.mp4_content.proofs.comparing.samples.compare_samples.Goals as goal

pub returns : goal.returns
returns c =
    let values = rw (c.sample_values-values.ensures, c.sample_values-others.ensures) at c.in_ok-compare_values.ensures in
    on_ok _ _ c.compare_numbers.result (λ p. samples_grown c.args.by.now.left_reduction c.args.by.now.right_reduction c.args.of c.args.left.now c.args.right.now _ _ _ _ _ _ values c.in_ok-compare_groups.ensures (rw (c.from-size.ensures, c.from.ensures) at p)) c.compare_numbers.ensures
