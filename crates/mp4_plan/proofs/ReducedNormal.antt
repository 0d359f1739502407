-- The normal form of what is left.
use Rattle.std.proofs.Common.{ap, ◌∙◌}
use Rattle.mp4_present.proofs.One.{denotes_one}
use Rattle.mp4_plan.specs.format.Normal.{normal}
use Rattle.mp4_content.specs.format.Remaining.{remaining}
use Rattle.mp4_plan.specs.format.ReducedNormal.{ReducedNormalDenotes, ReducedNormalIsFixed, ReducedNormalIsExact}
use Rattle.mp4_plan.proofs.FromTwo.{exact_from}
use Rattle.mp4_plan.proofs.NormalDenotes.{normal_denotes}
use Rattle.mp4_content.proofs.RemainingWords.{remaining_is_fixed}
use Rattle.mp4_content.proofs.RemainingValid.{remaining_is_valid}

pub reduced_normal_denotes : ReducedNormalDenotes
reduced_normal_denotes l p v limits = normal_denotes (remaining l p) ((remaining_is_valid l p v).1 limits)

pub reduced_normal_is_fixed : ReducedNormalIsFixed
reduced_normal_is_fixed l p q v limits d =
    let same = denotes_one (normal (remaining l p)) q (remaining l p) d (reduced_normal_denotes l p v limits) in
    (ap (λ r. normal (remaining l r)) same ∙ ap normal (remaining_is_fixed l p), ap normal same)

pub reduced_normal_is_exact : ReducedNormalIsExact
reduced_normal_is_exact l p q vp tp vq tq = exact_from normal_denotes (remaining l p) (remaining l q) ((remaining_is_valid l p vp).1 tp) ((remaining_is_valid l q vq).1 tq)
