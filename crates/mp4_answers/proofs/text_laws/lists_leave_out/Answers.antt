use Rattle.mp4_answers.proofs.WordLists.{lists_leave_out}
use Rattle.mp4_answers.proofs.text_laws.lists_leave_out.Goals as goal

pub returns : goal.returns
returns c = lists_leave_out
