use Rattle.std.proofs.Common.{rules}
use Rattle.std.proofs.lemmas.Result.{err_from_is_err_and}
use Rattle.mp4_answers.specs.format.Run.{run_of}
use Rattle.mp4_answers.proofs.BoxesPut.{tops_fail}
use Rattle.mp4_answers.proofs.commands.boxes.put_boxes.Goals as goal

pub returns-in_err-text-clause-answer : goal.returns-in_err-text-clause-answer
returns-in_err-text-clause-answer g c =
    let p = err_from_is_err_and c.from_residual.result c.from_residual.ensures.1 in
    let r = run_of g.S.Store c.args.store.now c.list_boxes.new.store g.K.Sink c.args.sink.now c.args.sink.now in
    rw (p.1, p.2) (tops_fail (Unit {0}) c.args.form r c.in_err-text.field-0.0 (g.met.K.Sink.takes_nothing c.args.sink.now) c.in_err-text.ensures.answer.refusal)

pub returns-in_err-put-clause-answer : goal.returns-in_err-put-clause-answer
returns-in_err-put-clause-answer g c =
    let p = err_from_is_err_and c.from_residual-in_err-put.result c.from_residual-in_err-put.ensures.1 in
    let text = c.in_ok-text.ensures.answer in
    rw (p.1, p.2) ((search rules, λ honest. (c.in_ok-text.text.items, text.read honest, search rules)), tt, tt)

pub returns-clause-answer : goal.returns-clause-answer
returns-clause-answer g c =
    let text = c.in_ok-text.ensures.answer in
    (((text.store.reads, search rules), λ honest. (c.in_ok-text.text.items, text.read honest, search rules)), tt, tt)
