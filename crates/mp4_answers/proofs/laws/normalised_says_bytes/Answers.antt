use Rattle.mp4_answers.proofs.Normalised.{says_bytes}
use Rattle.mp4_answers.proofs.laws.normalised_says_bytes.Goals as goal

pub returns : goal.returns
returns c = says_bytes
