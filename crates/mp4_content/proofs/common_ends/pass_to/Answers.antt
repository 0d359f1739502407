use Rattle.std.proofs.Common.{List, drop, ap, subst, ◌∙◌, arith}
use Rattle.std.proofs.lemmas.List.{drop-drop, length-drop}
use Rattle.std.proofs.lemmas.Result.{err_from_is_err_and}
use Rattle.mp4_tables.specs.declared.sample.SampleAt.{SampleAt}
use Rattle.mp4_present.specs.words.SamplesComing.{Comes}
use Rattle.mp4_content.specs.words.Aligning.{due}
use Rattle.mp4_content.proofs.EndsPassed.{get_behind, takes_most, takes_then}
use Rattle.mp4_content.proofs.common_ends.pass_to.Goals as goal

pub returns-in_err-pass_samples-clause-unchanged : goal.returns-in_err-pass_samples-clause-unchanged
returns-in_err-pass_samples-clause-unchanged g c told tree t samples o come le =
    let e = err_from_is_err_and c.from_residual.result c.from_residual.ensures.1 in
    rw (e.1, e.2) (c.in_err-pass_samples.ensures.unchanged told tree t samples o come (omega (arith, le)))

pub returns-in_err-next-clause-unchanged : goal.returns-in_err-next-clause-unchanged
returns-in_err-next-clause-unchanged g c told tree t samples o come le =
    let first = c.in_ok-pass_samples.ensures in
    let e = err_from_is_err_and c.from_residual-in_err-next.result c.from_residual-in_err-next.ensures.1 in
    rw (e.1, e.2) ((rw (first.store.honesty, first.store.file) at c.in_err-next.ensures.unchanged) told tree t (drop c.args.front samples) o (first.coming told tree t samples o come))

pub returns-in_err-next-clause-work : goal.returns-in_err-next-clause-work
returns-in_err-next-clause-work g c told tree t n o may =
    let first = c.in_ok-pass_samples.ensures in
    let file = g.S.Store.file c.args.store.now in
    let e = err_from_is_err_and c.from_residual-in_err-next.result c.from_residual-in_err-next.ensures.1 in
    rw e.1 (takes_most file tree t n c.args.steps.now.passed c.pass_samples.new.steps.passed c.peek_sample.new.steps.passed c.pass_samples.new.walk (first.work told tree t n o may)
    (λ k hk. (rw (first.store.honesty, first.store.file) at c.in_err-next.ensures.work) told tree t k o hk))

pub returns-in_err-pass_samples-2-clause-unchanged : goal.returns-in_err-pass_samples-2-clause-unchanged
returns-in_err-pass_samples-2-clause-unchanged g c told tree t samples o come le =
    let first = c.in_ok-pass_samples.ensures in
    let then = c.in_ok-next.ensures in
    let e = err_from_is_err_and c.from_residual-in_err-pass_samples-2.result c.from_residual-in_err-pass_samples-2.ensures.1 in
    let shown = (rw (first.store.honesty, first.store.file) at then.coming) told tree t (drop c.args.front samples) o (first.coming told tree t samples o come) in
    let left = length-drop c.args.front samples in
    rw (e.1, e.2) ((rw (then.loads.store.honesty, then.loads.store.file, first.store.honesty, first.store.file) at c.in_err-pass_samples-2.ensures.unchanged) told tree t (drop c.args.front samples) o shown.0 (omega (arith, le, left)))

pub returns-in_err-pass_samples-2-clause-work : goal.returns-in_err-pass_samples-2-clause-work
returns-in_err-pass_samples-2-clause-work g c told tree t n o may =
    let first = c.in_ok-pass_samples.ensures in
    let then = c.in_ok-next.ensures in
    let file = g.S.Store.file c.args.store.now in
    let e = err_from_is_err_and c.from_residual-in_err-pass_samples-2.result c.from_residual-in_err-pass_samples-2.ensures.1 in
    let peeked = takes_then file tree t n c.args.steps.now.passed c.pass_samples.new.steps.passed c.peek_sample.new.steps.passed c.pass_samples.new.walk c.peek_sample.new.walk (first.work told tree t n o may)
    (λ k hk. (rw (first.store.honesty, first.store.file) at then.work) told tree t k o hk) in
    rw e.1 (takes_most file tree t n c.args.steps.now.passed c.peek_sample.new.steps.passed c.pass_samples-2.new.steps.passed c.peek_sample.new.walk peeked
    (λ k hk. (rw (then.loads.store.honesty, then.loads.store.file, first.store.honesty, first.store.file) at c.in_err-pass_samples-2.ensures.work) told tree t k o hk))

pub returns-clause-coming : goal.returns-clause-coming
returns-clause-coming g c told tree t samples o come =
    let first = c.in_ok-pass_samples.ensures in
    let then = c.in_ok-next.ensures in
    let file = g.S.Store.file c.args.store.now in
    let shown = (rw (first.store.honesty, first.store.file) at then.coming) told tree t (drop c.args.front samples) o (first.coming told tree t samples o come) in
    let at = (rw (then.loads.store.honesty, then.loads.store.file, first.store.honesty, first.store.file) at c.in_ok-pass_samples-2.ensures.coming) told tree t (drop c.args.front samples) o shown.0 in
    subst (λ (ss : List SampleAt). Comes file tree t c.args.movie.now c.pass_samples-2.new.walk ss) (drop-drop c.args.more c.args.front samples) at

pub returns-clause-time : goal.returns-clause-time
returns-clause-time g c told tree t samples o come =
    let first = c.in_ok-pass_samples.ensures in
    let then = c.in_ok-next.ensures in
    let shown = (rw (first.store.honesty, first.store.file) at then.coming) told tree t (drop c.args.front samples) o (first.coming told tree t samples o come) in
    c.due.ensures ∙ ap due (shown.1 ∙ get_behind c.args.front samples)

pub returns-clause-work : goal.returns-clause-work
returns-clause-work g c told tree t n o may =
    let first = c.in_ok-pass_samples.ensures in
    let then = c.in_ok-next.ensures in
    let file = g.S.Store.file c.args.store.now in
    let peeked = takes_then file tree t n c.args.steps.now.passed c.pass_samples.new.steps.passed c.peek_sample.new.steps.passed c.pass_samples.new.walk c.peek_sample.new.walk (first.work told tree t n o may)
    (λ k hk. (rw (first.store.honesty, first.store.file) at then.work) told tree t k o hk) in
    takes_then file tree t n c.args.steps.now.passed c.peek_sample.new.steps.passed c.pass_samples-2.new.steps.passed c.peek_sample.new.walk c.pass_samples-2.new.walk peeked
    (λ k hk. (rw (then.loads.store.honesty, then.loads.store.file, first.store.honesty, first.store.file) at c.in_ok-pass_samples-2.ensures.work) told tree t k o hk)
