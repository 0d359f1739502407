use Rattle.mp4_answers.proofs.TextsTell.{same_text_tells}
use Rattle.mp4_answers.proofs.text_laws.texts_tell.Goals as goal

pub returns : goal.returns
returns c l p q v w i j e = same_text_tells l p q v w i j e
