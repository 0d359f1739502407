use Rattle.std.proofs.Common.{◌≡◌, ◌^◌, ◌<◌, length, replicate, arith, rules}
use Rattle.std.proofs.lemmas.Result.{err_from_is_err_and}
use Rattle.mp4_answers.proofs.BoxCounts.{counts_kept}
use Rattle.mp4_answers.proofs.HeadersUnder.{walk_finds}
use Rattle.mp4_answers.proofs.Stripped.{look_fails}
use Rattle.mp4_answers.proofs.commands.strip.count_named.Goals as goal

pub returns-clause-counts : goal.returns-clause-counts
returns-clause-counts g c told =
    let file = g.S.Store.file c.args.store.now in
    let counted = rw (c.whole_file-span.ensures, c.len.ensures) at c.in_ok-judge_boxes.ensures.counted in
    let begins : c.as_mut_slice.result.now ≡ replicate (length c.args.names.now) 0 = search rules in
    let long : c.in_ok-counts.counts.len ≡ length c.args.names.now = search rules in
    let small : length file < 2 ^ 64 = omega (arith, c.len.type_inv, c.len.ensures) in
    counts_kept c.args.names.now file c.in_ok-counts.counts.len c.as_mut_slice.result.now c.judge_boxes.new.counts c.in_ok-counts.counts.items (counted told) begins long small

pub returns-in_err-judge_boxes-clause-refusal : goal.returns-in_err-judge_boxes-clause-refusal
returns-in_err-judge_boxes-clause-refusal g c =
    let p = err_from_is_err_and c.from_residual-in_err-judge_boxes.result c.from_residual-in_err-judge_boxes.ensures.1 in
    let cause = rw (c.whole_file-span.ensures, c.len.ensures) at c.in_err-judge_boxes.ensures.refusal in
    let reads = g.S.Store.read_failures c.args.store.now in
    let after = g.S.Store.read_failures c.judge_boxes.new.store in
    rw (p.1, p.2) (look_fails c.args.names.now (g.S.Store.is_honest c.args.store.now) (g.S.Store.file c.args.store.now) reads after c.in_err-judge_boxes.field-0.0 (walk_finds c.args.names.now (g.S.Store.is_honest c.args.store.now) _ 0 _ reads after c.in_err-judge_boxes.field-0.0 cause))
