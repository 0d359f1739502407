use Rattle.std.proofs.lemmas.Result.{err_from_is_err_and}
use Rattle.mp4_present.specs.words.Carried.{waiting}
use Rattle.mp4_present.proofs.WalkCopied.{on_ok, on_err}
use Rattle.mp4_answers.proofs.Matched.{match_both}
use Rattle.mp4_answers.proofs.StripCopies.{size_fails, type_fails, freed_goes, rest_fails}
use Rattle.mp4_answers.proofs.commands.strip.carry_freed.Goals as goal

pub returns-in_err-carry_range-clause-bytes : goal.returns-in_err-carry_range-clause-bytes
returns-in_err-carry_range-clause-bytes g c =
    let p = err_from_is_err_and c.from_residual.result c.from_residual.ensures.1 in
    rw p.1 (λ honest. size_fails (g.S.Store.file c.args.store.now) c.args.at c.args.end c.requires.some (g.K.Sink.takes c.args.sink.now c.carry_range.new.sink) (waiting c.args.carrier.now) (c.in_err-carry_range.ensures.prefix honest))

pub returns-in_err-carry-clause-bytes : goal.returns-in_err-carry-clause-bytes
returns-in_err-carry-clause-bytes g c =
    let p = err_from_is_err_and c.from_residual-in_err-carry.result c.from_residual-in_err-carry.ensures.1 in
    rw p.1 (λ honest. type_fails (g.S.Store.file c.args.store.now) c.args.at c.args.end c.requires.some g.met.K.Sink.takes_on _ _ (waiting c.args.carrier.now) (waiting c.carry_range.new.self) (c.in_ok-carry_range.ensures.bytes honest) _ c.in_err-carry.ensures.prefix)

pub returns-clause-bytes : goal.returns-clause-bytes
returns-clause-bytes g c = λ honest.
    let first = c.in_ok-carry_range.ensures in
    let file = g.S.Store.file c.args.store.now in
    let all = (rw (first.store.honesty, first.store.file) at c.carry_range-2.ensures.bytes) in
    let front = (rw (first.store.honesty, first.store.file) at c.carry_range-2.ensures.prefix) in
    match_both _ _ c.carry_range-2.result
    (on_ok _ _ c.carry_range-2.result (λ x. freed_goes file c.args.at c.args.end c.requires.some g.met.K.Sink.takes_on _ _ (waiting c.args.carrier.now) (waiting c.carry_range.new.self) (first.bytes honest) _ _ (waiting c.carry.new.self) c.in_ok-carry.ensures.bytes (waiting c.carry_range-2.new.self)
    (x honest)) all)
    (on_err _ _ c.carry_range-2.result (λ x. rest_fails file c.args.at c.args.end c.requires.some g.met.K.Sink.takes_on _ _ (waiting c.args.carrier.now) (waiting c.carry_range.new.self) (first.bytes honest) _ _ (waiting c.carry.new.self) c.in_ok-carry.ensures.bytes (x honest)) front)
