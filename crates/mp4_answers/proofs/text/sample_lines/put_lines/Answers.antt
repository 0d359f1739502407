use Rattle.std.proofs.Common.{◌≡◌, ◌+◌, ◌^◌, ◌<◌, ◌++◌, ◌∙◌, length, arith}
use Rattle.std.proofs.lemmas.Result.{err_from_is_err_and}
use Rattle.mp4_present.specs.words.Carried.{waiting}
use Rattle.mp4_answers.specs.format.Texts.{sample_at_line, sample_at_lines}
use Rattle.mp4_answers.proofs.Going.{going_more, line_added, block_fails, all_lines_put, last_block_fails}
use Rattle.mp4_present.proofs.WalkCopied.{on_ok}
use Rattle.mp4_answers.proofs.Matched.{match_both}
use Rattle.mp4_answers.proofs.text.sample_lines.put_lines.Goals as goal
use Rattle.mp4_plan.proofs.PlannerSteps.{none_is, length_rest}

pub returns-in_err-make_room-clause-lines : goal.returns-in_err-make_room-clause-lines
returns-in_err-make_room-clause-lines g c =
    let rest = g.C.Samples.rest in
    let l = c.loop-sample in
    let p = err_from_is_err_and c.from_residual.result c.from_residual.ensures.1 in
    rw p.1 (λ fits. block_fails g.met.K.Sink.takes_on c.args.sink.now l.sink c.make_room.new.sink (waiting c.args.carrier.now) (waiting l.carrier ++ l.block) (sample_at_lines c.args.form l.number c.args.fragment (rest l.samples))
    (sample_at_lines c.args.form c.args.number.now c.args.fragment (rest c.args.samples.now)) (l.invariant.lines fits) c.in_err-make_room.ensures.bytes)

pub loop-sample-preserved : goal.loop-sample-preserved
loop-sample-preserved g c =
    let l = c.loop-sample in
    let i = l.invariant in
    let rest = g.C.Samples.rest in
    let new = c.make_room.new in
    let line = sample_at_line c.args.form l.number c.args.fragment c.in-Some.sample in
    let e = c.in_ok-make_room.ensures in
    let fewer = length_rest (rest l.samples) (rest c.next.new.self) c.in-Some.sample c.in-Some.ensures.given c.next.ensures.rest in
    let following = λ (fits : c.args.number.now + length (rest c.args.samples.now) < 2 ^ 64). (
    let whole = i.number fits in let least = c.saturating_add.ensures in let same : c.saturating_add.result ≡ l.number + 1 = omega arith in same) in
    record {
      number = λ fits. let whole = i.number fits in let next = following fits in omega arith;
      lines = λ fits. rw c.add_line.ensures (going_more c.args.form g.met.K.Sink.takes_on c.args.sink.now l.sink new.sink
          (waiting c.args.carrier.now) (waiting l.carrier ++ l.block) (waiting new.carrier ++ (new.block ++ line)) (sample_at_lines c.args.form c.args.number.now c.args.fragment (rest c.args.samples.now))
          c.args.fragment l.number _ (rest l.samples) (rest c.next.new.self) c.in-Some.sample (i.lines fits) c.in-Some.ensures.given c.next.ensures.rest (following fits)
          (line_added (g.K.Sink.takes l.sink new.sink) (waiting l.carrier ++ l.block) (waiting new.carrier) new.block line e.bytes));
      failures = e.puts ∙ i.failures;
      later = g.met.C.Samples.follows_on _ _ _ i.later c.next.ensures.later;
    }

pub returns-clause-lines : goal.returns-clause-lines
returns-clause-lines g c =
    let rest = g.C.Samples.rest in
    let l = c.loop-sample in
    let none = none_is (rest l.samples) c.in_default.ensures.given in
    match_both _ _ c.carry.result
    (on_ok _ _ c.carry.result (λ lines fits. (lines fits, (let whole = rw none at l.invariant.number fits in omega (arith, whole))))
    (all_lines_put c.carry.result (c.args.number.now + length (rest c.args.samples.now) < 2 ^ 64) c.args.form g.met.K.Sink.takes_on c.args.sink.now l.sink c.carry.new.sink
    (waiting c.args.carrier.now) (waiting l.carrier) (waiting c.carry.new.self) l.block (sample_at_lines c.args.form c.args.number.now c.args.fragment (rest c.args.samples.now)) c.args.fragment l.number (rest l.samples)
    (λ fits. l.invariant.lines fits) none (rw c.as_bytes.ensures at c.carry.ensures.bytes)))
    (last_block_fails c.carry.result (c.args.number.now + length (rest c.args.samples.now) < 2 ^ 64) g.met.K.Sink.takes_on c.args.sink.now l.sink c.carry.new.sink
    (waiting c.args.carrier.now) (waiting l.carrier ++ l.block) (sample_at_lines c.args.form l.number c.args.fragment (rest l.samples)) (sample_at_lines c.args.form c.args.number.now c.args.fragment (rest c.args.samples.now))
    (λ fits. l.invariant.lines fits) (rw c.as_bytes.ensures at c.carry.ensures.prefix))
