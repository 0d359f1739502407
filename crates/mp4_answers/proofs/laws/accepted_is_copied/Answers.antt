use Rattle.mp4_answers.proofs.StripFaults.{accepted_is_copied}
use Rattle.mp4_answers.proofs.laws.accepted_is_copied.Goals as goal

pub returns : goal.returns
returns c = accepted_is_copied
