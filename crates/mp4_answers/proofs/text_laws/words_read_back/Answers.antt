use Rattle.mp4_answers.proofs.WordLists.{words_read_back}
use Rattle.mp4_answers.proofs.text_laws.words_read_back.Goals as goal

pub returns : goal.returns
returns c = words_read_back
