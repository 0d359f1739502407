use Rattle.std.proofs.Common.{rules, ◌<◌, ℕ, List, length, subst}
use Rattle.mp4norm.specs.format.Lists.{ended_names}
use Rattle.mp4norm.proofs.ListNames.{part_first}
use Rattle.mp4norm.proofs.Judged.{GoesOn, goes_from, goes_on, goes_whole, none_ended}
use Rattle.mp4norm.proofs.judging.judge_names.Goals as goal

pub loop-left-init : goal.loop-left-init
loop-left-init g c = goes_from g.J.Judge.finds_name (ended_names c.args.list.now) c.args.judge.now

pub loop-left-preserved : goal.loop-left-preserved
loop-left-preserved g c =
    let some : 0 < length c.loop-left.left.now = search rules in
    let first = part_first 0 c.loop-left.left.now c.first_name.result.0.now c.first_name.result.1.now some c.first_name.ensures.name in
    goes_on g.J.Judge.finds_name (ended_names c.args.list.now) c.args.judge.now c.first_name.result.0.now (ended_names c.first_name.result.1.now) c.loop-left.judge c.judge_name.new.self c.loop-left.worst c.found_status.result c.max-worst.result c.in_ok-found.found
    c.in_ok-found.ensures.found c.found_status.ensures c.max-worst.ensures (subst (λ (names : List (List ℕ)). GoesOn g.J.Judge.finds_name (ended_names c.args.list.now) c.args.judge.now names c.loop-left.judge c.loop-left.worst) first c.loop-left.invariant)

pub returns-clause-each : goal.returns-clause-each
returns-clause-each g c =
    goes_whole g.J.Judge.finds_name (ended_names c.args.list.now) c.args.judge.now c.loop-left.judge c.loop-left.worst
    (subst (λ (names : List (List ℕ)). GoesOn g.J.Judge.finds_name (ended_names c.args.list.now) c.args.judge.now names c.loop-left.judge c.loop-left.worst) (none_ended c.loop-left.left.now (search rules)) c.loop-left.invariant)
