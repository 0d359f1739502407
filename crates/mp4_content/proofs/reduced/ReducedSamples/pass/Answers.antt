use Rattle.std.proofs.Common.{sym, ◌∙◌}
use Rattle.mp4_content.proofs.ReducedPassed.{next_reduced}
use Rattle.mp4_content.proofs.reduced.ReducedSamples.pass.Goals as goal

pub pass-requires : goal.pass-requires
pass-requires g c = next_reduced c.args.self.now.reduction c.args.sample.now _ (sym c.moves_durations.ensures ∙ c.if-moves_durations.false) c.requires
