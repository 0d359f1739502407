use Rattle.std.proofs.Common.{sym, ◌∙◌}
use Rattle.mp4_answers.proofs.StripLaws.{strip_keeps_length}
use Rattle.mp4_answers.proofs.commands.answer_len.text_len.Goals as goal

pub returns-in-Strip-clause-length : goal.returns-in-Strip-clause-length
returns-in-Strip-clause-length g c = rw c.in-Strip.is (λ told text s. strip_keeps_length c.in-Strip.names.now (g.S.Store.file c.args.store.now) text s ∙ sym c.len.ensures)

pub returns-in-Extract-clause-refusal : goal.returns-in-Extract-clause-refusal
returns-in-Extract-clause-refusal g c = rw c.in-Extract.is c.data_len.ensures.refusal

pub returns-in-Normalise-clause-refusal : goal.returns-in-Normalise-clause-refusal
returns-in-Normalise-clause-refusal g c = rw c.in-Normalise.is c.form_len.ensures.refusal

pub returns-in-Reduce-clause-refusal : goal.returns-in-Reduce-clause-refusal
returns-in-Reduce-clause-refusal g c = rw c.in-Reduce.is c.form_left_len.ensures.refusal
