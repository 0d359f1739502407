use Rattle.std.proofs.Common.{◌∙◌}
use Rattle.std.proofs.lemmas.Result.{err_from_is_err_and}
use Rattle.mp4_boxes.specs.declared.rule.Rule.TheVariants.{File}
use Rattle.mp4_present.specs.words.Carried.{waiting}
use Rattle.mp4_present.proofs.WalkCopied.{on_ok, on_err}
use Rattle.mp4_answers.specs.format.Run.{run_of}
use Rattle.mp4_answers.specs.format.Strips.{IsStripped, Halts}
use Rattle.mp4_answers.proofs.RunParts.{carry_fails, put_answers}
use Rattle.mp4_answers.proofs.Stripped.{of_file, walk_fails, all_put, end_fails}
use Rattle.mp4_answers.proofs.commands.strip.strip.Goals as goal

pub returns-in_err-judge_boxes-clause-answer : goal.returns-in_err-judge_boxes-clause-answer
returns-in_err-judge_boxes-clause-answer g c =
    let p = err_from_is_err_and c.from_residual-in_err-judge_boxes.result c.from_residual-in_err-judge_boxes.ensures.1 in
    let cause = rw (c.whole_file-span.ensures, c.len.ensures) at c.in_err-judge_boxes.ensures.refusal in
    let r = run_of g.S.Store c.args.store.now c.judge_boxes.new.store g.K.Sink c.args.sink.now c.args.sink.now in
    rw (p.1, p.2) (walk_fails (Unit {0}) c.args.names.now r c.in_err-judge_boxes.field-0.0 (g.met.K.Sink.takes_nothing c.args.sink.now) cause)

pub returns-in_err-carry_boxes-clause-answer : goal.returns-in_err-carry_boxes-clause-answer
returns-in_err-carry_boxes-clause-answer g c =
    let p = err_from_is_err_and c.from_residual-in_err-carry_boxes.result c.from_residual-in_err-carry_boxes.ensures.1 in
    let j = c.in_ok-judge_boxes.ensures in
    let x = c.in_err-carry_boxes.ensures in
    let file = g.S.Store.file c.args.store.now in
    let judged = rw (c.whole_file-span.ensures, c.len.ensures) at j.judged in
    let cause = rw j.store.reads at x.refusal in
    let prefix = rw (c.whole_file-span.ensures, c.len.ensures, j.store.honesty, j.store.file, c.in_ok-carrier.ensures.empty) at x.bytes in
    let unchanged = rw (c.whole_file-span.ensures, c.len.ensures, j.store.honesty, j.store.file) at x.unchanged in
    let r = run_of g.S.Store c.args.store.now c.carry_boxes.new.store g.K.Sink c.args.sink.now c.carry_boxes.new.sink in
    rw (p.1, p.2) (carry_fails (Unit {0}) r (IsStripped c.args.names.now file) (λ f. Halts c.args.names.now f File 0 file) ⊥ c.in_err-carry_boxes.field-0.0 cause
    (λ told. let t = judged told in (t.0, of_file c.args.names.now file t.0 t.1, prefix told t.0 t.1))
    (λ told. let t = judged told in unchanged told t.0 t.1))

pub returns-clause-answer : goal.returns-clause-answer
returns-clause-answer g c =
    let j = c.in_ok-judge_boxes.ensures in
    let k = c.in_ok-carry_boxes.ensures in
    let file = g.S.Store.file c.args.store.now in
    let judged = rw (c.whole_file-span.ensures, c.len.ensures) at j.judged in
    let goes = rw (c.whole_file-span.ensures, c.len.ensures, j.store.honesty, j.store.file) at k.bytes in
    let cause = rw k.puts at c.flush.ensures.refusal in
    let r = run_of g.S.Store c.args.store.now c.carry_boxes.new.store g.K.Sink c.args.sink.now c.flush.new.sink in
    put_answers _ r (IsStripped c.args.names.now file) (λ f. Halts c.args.names.now f File 0 file) ⊥ c.flush.result
    (on_ok _ _ c.flush.result (λ _. k.store.reads ∙ j.store.reads) c.flush.ensures.puts)
    (rw k.puts at c.flush.ensures.puts)
    (on_ok _ _ c.flush.result (λ put told.
    let t = judged told in
    (t.0, of_file c.args.names.now file t.0 t.1, all_put g.met.K.Sink.takes_on _ _ _ (waiting c.in_ok-carrier.carrier) (waiting c.carry_boxes.new.carrier) t.0 c.in_ok-carrier.ensures.empty (goes told t.0 t.1) put)) c.flush.ensures.bytes)
    cause
    (λ told.
    let t = judged told in
    on_err _ _ c.flush.result (λ put. (t.0, of_file c.args.names.now file t.0 t.1, end_fails g.met.K.Sink.takes_on _ _ _ (waiting c.in_ok-carrier.carrier) (waiting c.carry_boxes.new.carrier) t.0 c.in_ok-carrier.ensures.empty (goes told t.0 t.1) put)) c.flush.ensures.prefix)

pub returns-clause-store : goal.returns-clause-store
returns-clause-store g c =
    let j = c.in_ok-judge_boxes.ensures.store in
    let k = c.in_ok-carry_boxes.ensures.store in
    record { honesty = k.honesty ∙ j.honesty; file = k.file ∙ j.file }

pub returns-in_err-carry_boxes-clause-store : goal.returns-in_err-carry_boxes-clause-store
returns-in_err-carry_boxes-clause-store g c =
    let j = c.in_ok-judge_boxes.ensures.store in
    let k = c.in_err-carry_boxes.ensures.store in
    record { honesty = k.honesty ∙ j.honesty; file = k.file ∙ j.file }
