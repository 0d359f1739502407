use Rattle.std.proofs.Common.{◌+◌, ◌-◌, ◌∷◌, ◌++◌, [], length, take, drop, refl, ◌∙◌, arith}
use Rattle.std.proofs.lemmas.Result.{err_from_is_err_and}
use Rattle.mp4_present.specs.words.Carried.{waiting}
use Rattle.mp4_present.proofs.Carrying.{GoOnBy-then}
use Rattle.mp4_plan.proofs.Stretched.{spans_more, spans_fail, spans_front, spans_whole, spans_counted, span_there, span_fits, next_span, last_span}
use Rattle.mp4_plan.proofs.stretches.Stretches.carry.Goals as goal

pub loop-span-preserved : goal.loop-span-preserved
loop-span-preserved g c =
    let i = c.loop-span.invariant in
    let e = c.in_ok-left.ensures in
    let w = c.args.self.now in
    let items = take w.used w.earlier in
    let k = c.loop-span.span-index in
    record {
      items = refl;
      honesty = e.devices.honesty ∙ i.honesty;
      file = e.devices.file ∙ i.file;
      reads = e.devices.reads ∙ i.reads;
      puts = e.devices.puts ∙ i.puts;
      room = e.along.buffer ∙ i.room;
      few = (let few = i.few in let fewer = e.left in omega (arith, few, fewer));
      many =
          let few = i.few in
          let fewer = e.left in
          GoOnBy-then g.met.K.Sink.takes_on _ _ _ _ (waiting c.loop-span.carrier) _ (c.args.bytes - c.loop-span.left) _ _ i.many e.along.many (omega (arith, few, fewer));
      carried = spans_more _ _ g.met.K.Sink.takes_on _ _ _ _ _ _ _ _ i.carried _ _ _ (drop (k + 1) items ++ w.last ∷ []) _ (next_span items k _ w.last c.loop-span-test.true) e.left (rw (i.honesty, i.file) at e.put);
    }

pub returns-in_err-left-clause-put : goal.returns-in_err-left-clause-put
returns-in_err-left-clause-put g c honest =
    let p = err_from_is_err_and c.from_residual.result c.from_residual.ensures.1 in
    let i = c.loop-span.invariant in
    let w = c.args.self.now in
    let items = take w.used w.earlier in
    let k = c.loop-span.span-index in
    rw p.1 (spans_fail _ _ g.met.K.Sink.takes_on _ _ _ _ _ _ _ _ i.carried _ _ (drop (k + 1) items ++ w.last ∷ []) (next_span items k _ w.last c.loop-span-test.true) honest ((rw (i.honesty, i.file) at c.in_err-left.ensures.put) honest))

pub returns-in_err-left-clause-unchanged : goal.returns-in_err-left-clause-unchanged
returns-in_err-left-clause-unchanged g c honest below same =
    let p = err_from_is_err_and c.from_residual.result c.from_residual.ensures.1 in
    let i = c.loop-span.invariant in
    let w = c.args.self.now in
    let items = take w.used w.earlier in
    let k = c.loop-span.span-index in
    let later = drop (k + 1) items ++ w.last ∷ [] in
    let file = g.S.Store.file c.args.store.now in
    let is = next_span items k _ w.last c.loop-span-test.true in
    rw (p.1, p.2) ((rw i.file at c.in_err-left.ensures.unchanged) (span_there _ _ _ _ _ _ _ _ _ i.carried _ later (length file) is below) (span_fits _ _ _ _ _ _ _ _ _ i.carried _ later is same))

pub returns-in_err-left-2-clause-put : goal.returns-in_err-left-2-clause-put
returns-in_err-left-2-clause-put g c honest =
    let p = err_from_is_err_and c.from_residual-in_err-left-2.result c.from_residual-in_err-left-2.ensures.1 in
    let i = c.loop-span.invariant in
    let w = c.args.self.now in
    let items = take w.used w.earlier in
    let is = last_span items c.loop-span.span-index w.last c.loop-span-test.false in
    rw p.1 (spans_fail _ _ g.met.K.Sink.takes_on _ _ _ _ _ _ _ _ i.carried _ w.last [] is honest ((rw (i.honesty, i.file) at c.in_err-left-2.ensures.put) honest))

pub returns-in_err-left-2-clause-unchanged : goal.returns-in_err-left-2-clause-unchanged
returns-in_err-left-2-clause-unchanged g c honest below same =
    let p = err_from_is_err_and c.from_residual-in_err-left-2.result c.from_residual-in_err-left-2.ensures.1 in
    let i = c.loop-span.invariant in
    let w = c.args.self.now in
    let items = take w.used w.earlier in
    let file = g.S.Store.file c.args.store.now in
    let is = last_span items c.loop-span.span-index w.last c.loop-span-test.false in
    rw (p.1, p.2) ((rw i.file at c.in_err-left-2.ensures.unchanged) (span_there _ _ _ _ _ _ _ _ _ i.carried w.last [] (length file) is below) (span_fits _ _ _ _ _ _ _ _ _ i.carried w.last [] is same))

pub returns-then-left-gt0-clause-put : goal.returns-then-left-gt0-clause-put
returns-then-left-gt0-clause-put g c honest =
    let i = c.loop-span.invariant in
    let w = c.args.self.now in
    let e = c.in_ok-left-2.ensures in
    let is = last_span (take w.used w.earlier) c.loop-span.span-index w.last c.loop-span-test.false in
    let all = spans_more _ _ g.met.K.Sink.takes_on _ _ _ _ _ _ _ _ i.carried _ _ w.last [] _ is e.left (rw (i.honesty, i.file) at e.put) in
    spans_front _ _ _ _ _ _ _ _ _ all honest

pub returns-then-left-gt0-clause-unchanged : goal.returns-then-left-gt0-clause-unchanged
returns-then-left-gt0-clause-unchanged g c honest below same z =
    let i = c.loop-span.invariant in
    let w = c.args.self.now in
    let e = c.in_ok-left-2.ensures in
    let is = last_span (take w.used w.earlier) c.loop-span.span-index w.last c.loop-span-test.false in
    let all = spans_more _ _ g.met.K.Sink.takes_on _ _ _ _ _ _ _ _ i.carried _ _ w.last [] _ is e.left (rw (i.honesty, i.file) at e.put) in
    let count = spans_counted _ _ _ _ _ _ _ _ _ all refl in
    let more = c.if-left-gt0.true in
    absurd (omega (arith, count, same, more))

pub returns-clause-len : goal.returns-clause-len
returns-clause-len g c =
    let i = c.loop-span.invariant in
    let w = c.args.self.now in
    let e = c.in_ok-left-2.ensures in
    let is = last_span (take w.used w.earlier) c.loop-span.span-index w.last c.loop-span-test.false in
    let all = spans_more _ _ g.met.K.Sink.takes_on _ _ _ _ _ _ _ _ i.carried _ _ w.last [] _ is e.left (rw (i.honesty, i.file) at e.put) in
    let count = spans_counted _ _ _ _ _ _ _ _ _ all refl in
    let none = c.if-left-gt0.false in
    omega (arith, count, none)

pub returns-clause-along : goal.returns-clause-along
returns-clause-along g c =
    let i = c.loop-span.invariant in
    let e = c.in_ok-left-2.ensures in
    let few = i.few in
    let fewer = e.left in
    let none = c.if-left-gt0.false in
    record { many = GoOnBy-then g.met.K.Sink.takes_on _ _ _ _ (waiting c.loop-span.carrier) _ (c.args.bytes - c.loop-span.left) _ _ i.many e.along.many (omega (arith, few, fewer, none)); buffer = e.along.buffer ∙ i.room }

pub returns-clause-put : goal.returns-clause-put
returns-clause-put g c honest =
    let i = c.loop-span.invariant in
    let w = c.args.self.now in
    let e = c.in_ok-left-2.ensures in
    let is = last_span (take w.used w.earlier) c.loop-span.span-index w.last c.loop-span-test.false in
    let all = spans_more _ _ g.met.K.Sink.takes_on _ _ _ _ _ _ _ _ i.carried _ _ w.last [] _ is e.left (rw (i.honesty, i.file) at e.put) in
    spans_whole _ _ _ _ _ _ _ _ _ all refl honest
