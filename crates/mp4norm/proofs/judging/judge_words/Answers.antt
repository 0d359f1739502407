use Rattle.std.proofs.Common.{rules, ◌<◌, ◌+◌, List, length, drop, refl, subst}
use Rattle.mp4norm.specs.declared.shell.action.Input.{Input}
use Rattle.mp4norm.proofs.Judged.{GoesOn, goes_on, goes_whole, left_at, none_left}
use Rattle.mp4norm.proofs.judging.judge_words.Goals as goal

pub loop-input-preserved : goal.loop-input-preserved
loop-input-preserved g c =
    let here : c.loop-input.input-index < length c.args.words.now = search rules in
    goes_on g.J.Judge.finds_word c.args.words.now c.args.judge.now _ (drop (c.loop-input.input-index + 1) c.args.words.now) c.loop-input.judge c.judge_word.new.self c.loop-input.worst c.found_status.result c.max-worst.result c.in_ok-found.found
    c.in_ok-found.ensures.found c.found_status.ensures c.max-worst.ensures
    (subst (λ (left : List Input). GoesOn g.J.Judge.finds_word c.args.words.now c.args.judge.now left c.loop-input.judge c.loop-input.worst) (left_at c.args.words.now c.loop-input.input-index _ _ here refl) c.loop-input.invariant)

pub returns-clause-each : goal.returns-clause-each
returns-clause-each g c =
    goes_whole g.J.Judge.finds_word c.args.words.now c.args.judge.now c.loop-input.judge c.loop-input.worst
    (none_left (GoesOn g.J.Judge.finds_word c.args.words.now c.args.judge.now) c.args.words.now c.loop-input.input-index (search rules) c.loop-input.judge c.loop-input.worst c.loop-input.invariant)
