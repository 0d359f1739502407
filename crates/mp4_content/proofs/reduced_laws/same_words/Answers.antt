use Rattle.mp4_content.proofs.Words.{same_words}
use Rattle.mp4_content.proofs.reduced_laws.same_words.Goals as goal

pub returns : goal.returns
returns c = same_words
