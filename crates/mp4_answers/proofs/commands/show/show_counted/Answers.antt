use Rattle.std.proofs.Common.{rules}
use Rattle.std.specs.Prelude.{string_bytes}
use Rattle.std.proofs.lemmas.Result.{err_from_is_err_and}
use Rattle.mp4_answers.specs.format.Answers.{IsFaultOf}
use Rattle.mp4_answers.specs.format.FileTexts.{ShowsLine}
use Rattle.mp4_answers.specs.format.Run.{run_of}
use Rattle.mp4_answers.proofs.LookedAt.{not_judged, on_judged}
use Rattle.mp4_answers.proofs.RunParts.{at_once_nothing, open_fails}
use Rattle.mp4_answers.proofs.commands.show.show_counted.Goals as goal

pub returns-in_err-text-clause-answer : goal.returns-in_err-text-clause-answer
returns-in_err-text-clause-answer g c =
    let p = err_from_is_err_and c.from_residual.result c.from_residual.ensures.1 in
    let r = run_of g.S.Store c.args.store.now c.movie_line.new.store g.K.Sink c.args.sink.now c.args.sink.now in
    let none = g.met.K.Sink.takes_nothing c.args.sink.now in
    rw (p.1, p.2) (open_fails (Unit {0}) r (ShowsLine r.file) (IsFaultOf r.file) ⊥ c.in_err-text.field-0.0 (λ f s. s) none c.in_err-text.ensures.answer.refusal, at_once_nothing (Unit {0}) r c.in_err-text.field-0.0 none)

pub returns-in_err-put-clause-answer : goal.returns-in_err-put-clause-answer
returns-in_err-put-clause-answer g c =
    let p = err_from_is_err_and c.from_residual-in_err-put.result c.from_residual-in_err-put.ensures.1 in
    let line = c.in_ok-text.ensures.answer in
    rw (p.1, p.2) ((search rules, λ honest. (string_bytes c.in_ok-text.text, line.read honest, search rules)), tt)

pub returns-clause-answer : goal.returns-clause-answer
returns-clause-answer g c =
    let line = c.in_ok-text.ensures.answer in
    (((line.store.reads, search rules), λ honest. (string_bytes c.in_ok-text.text, line.read honest, search rules)), tt)

-- ---- steps

pub returns-in_err-text-clause-least : goal.returns-in_err-text-clause-least
returns-in_err-text-clause-least g c =
    let p = err_from_is_err_and c.from_residual.result c.from_residual.ensures.1 in
    rw (p.1, p.2) (not_judged (Unit {0}) _ (g.S.Store.is_honest c.args.store.now) (g.S.Store.file c.args.store.now) (g.S.Store.read_failures c.args.store.now) (g.S.Store.read_failures c.movie_line.new.store) c.in_err-text.field-0.0 c.in_err-text.ensures.answer.refusal)

pub returns-in_err-put-clause-least : goal.returns-in_err-put-clause-least
returns-in_err-put-clause-least g c = on_judged c.from_residual-in_err-put.result c.in_ok-text.ensures.least
