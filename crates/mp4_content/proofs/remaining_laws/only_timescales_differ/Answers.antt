use Rattle.mp4_content.proofs.RemainingScaled.{only_timescales_differ}
use Rattle.mp4_content.proofs.remaining_laws.only_timescales_differ.Goals as goal

pub returns : goal.returns
returns c = only_timescales_differ
