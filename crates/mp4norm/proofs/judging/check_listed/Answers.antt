use Rattle.std.proofs.Common.{rules, ◌<◌, ◌≤◌, ◌+◌, List, length, drop, subst}
use Rattle.mp4norm.specs.declared.judging.ListedFile.{ListedFile}
use Rattle.mp4norm.proofs.Judged.{SumsOn, left_at, sums_from, sums_on, sums_whole}
use Rattle.mp4norm.proofs.judging.check_listed.Goals as goal
use Rattle.mp4_boxes.proofs.Plain.{drop_all}

pub loop-file-init : goal.loop-file-init
loop-file-init g c =
    record {
      sums = sums_from g.J.SumJudge.finds c.args.files.now c.args.judge.now;
      all = search rules;
    }

pub loop-file-preserved : goal.loop-file-preserved
loop-file-preserved g c =
    let here : c.loop-file.file-index < length c.args.files.now = search rules in
    let file = c.file-item.result in
    let left = left_at c.args.files.now c.loop-file.file-index _ file here c.file-item.is in
    record {
      sums = sums_on g.J.SumJudge.finds c.args.files.now c.args.judge.now file (drop (c.loop-file.file-index + 1) c.args.files.now)
          c.loop-file.judge c.judge_sum.new.self c.loop-file.worst c.found_status.result c.max-worst.result
          c.loop-file.without c.counted-none.result.0 c.loop-file.other c.counted-none.result.1 c.in_ok-found.found
          c.in_ok-found.ensures.found c.found_status.ensures c.max-worst.ensures c.counted-none.ensures.none c.counted-none.ensures.another
          (subst (λ (files : List ListedFile). SumsOn g.J.SumJudge.finds c.args.files.now c.args.judge.now files c.loop-file.judge c.loop-file.worst c.loop-file.without c.loop-file.other) left c.loop-file.invariant.sums);
      all = search rules;
    }

pub returns-clause-each : goal.returns-clause-each
returns-clause-each g c =
    let end : length c.args.files.now ≤ c.loop-file.file-index = search rules in
    let none = drop_all c.args.files.now c.loop-file.file-index end in
    sums_whole g.J.SumJudge.finds c.args.files.now c.args.judge.now c.loop-file.judge c.loop-file.worst c.loop-file.without c.loop-file.other
    (subst (λ (files : List ListedFile). SumsOn g.J.SumJudge.finds c.args.files.now c.args.judge.now files c.loop-file.judge c.loop-file.worst c.loop-file.without c.loop-file.other) none c.loop-file.invariant.sums)
