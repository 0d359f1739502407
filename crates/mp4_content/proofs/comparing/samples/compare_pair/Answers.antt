use Rattle.std.proofs.Common.{◌≡◌, List, ap, subst, sym}
use Rattle.std.specs.Prelude.{slice_get}
use Rattle.std.proofs.lemmas.Result.{err_from_is_err_and}
use Rattle.mp4_tables.specs.declared.sample.SampleAt.{SampleAt}
use Rattle.mp4_content.specs.words.Aligning.{due}
use Rattle.mp4_content.specs.words.Differing.{differences_at}
use Rattle.mp4_present.specs.words.NextSample.{TakesFirst}
use Rattle.mp4_present.specs.declared.walking.Walk.{Walk}
use Rattle.mp4_content.specs.declared.comparing.differences.Subject.TheVariants as subjects
use Rattle.mp4_content.proofs.PairsCompared.{some_there, first_lies, found_then, first_most, both_take, second_most, both_most}
use Rattle.mp4_content.proofs.comparing.samples.compare_pair.Goals as goal

pub returns-in_err-x-clause-unchanged : goal.returns-in_err-x-clause-unchanged
returns-in_err-x-clause-unchanged g c told told_right tree other o p t u xs ys hx hy lx ly =
    let e = err_from_is_err_and c.from_residual.result c.from_residual.ensures.1 in
    rw (e.1, e.2) (c.in_err-x.ensures.unchanged told tree t xs o hx (some_there (g.S.Store.file c.args.left.now) xs lx))

pub returns-in_err-x-clause-work : goal.returns-in_err-x-clause-work
returns-in_err-x-clause-work g c told told_right tree other o p t u n m hx hy =
    let e = err_from_is_err_and c.from_residual.result c.from_residual.ensures.1 in
    rw e.1 (first_most n m c.args.steps.now.passed _ (c.in_err-x.ensures.work told tree t n o hx))

pub returns-in_err-y-clause-unchanged : goal.returns-in_err-y-clause-unchanged
returns-in_err-y-clause-unchanged g c told told_right tree other o p t u xs ys hx hy lx ly =
    let e = err_from_is_err_and c.from_residual-in_err-y.result c.from_residual-in_err-y.ensures.1 in
    rw (e.1, e.2) (c.in_err-y.ensures.unchanged told_right other u ys p hy (some_there (g.T.Store.file c.args.right.now) ys ly))

pub returns-in_err-y-clause-work : goal.returns-in_err-y-clause-work
returns-in_err-y-clause-work g c told told_right tree other o p t u n m hx hy =
    let e = err_from_is_err_and c.from_residual-in_err-y.result c.from_residual-in_err-y.ensures.1 in
    rw e.1 (second_most (g.S.Store.file c.args.left.now) tree t c.next_sample.new.self (g.T.Store.file c.args.right.now) other u c.args.sides.now.right.walk n m c.args.steps.now.passed _ _ (c.in_ok-x.ensures.work told tree t n o hx) (c.in_err-y.ensures.work told_right other u m p hy))

pub returns-in_err-compare_samples-clause-found : goal.returns-in_err-compare_samples-clause-found
returns-in_err-compare_samples-clause-found g c told told_right tree other o p t u xs ys hx hy =
    let e = err_from_is_err_and c.from_residual-in_err-compare_samples.result c.from_residual-in_err-compare_samples.ensures.1 in
    rw e.1 tt

pub returns-in_err-compare_samples-clause-work : goal.returns-in_err-compare_samples-clause-work
returns-in_err-compare_samples-clause-work g c told told_right tree other o p t u n m hx hy =
    let e = err_from_is_err_and c.from_residual-in_err-compare_samples.result c.from_residual-in_err-compare_samples.ensures.1 in
    let file = g.S.Store.file c.args.left.now in
    let right_file = g.T.Store.file c.args.right.now in
    rw e.1 (both_most file tree t c.next_sample.new.self right_file other u c.next_sample-2.new.self _ c.args.steps.now.passed _
    (both_take file tree t c.next_sample.new.self right_file other u c.next_sample-2.new.self n m c.args.steps.now.passed _ _ (c.in_ok-x.ensures.work told tree t n o hx) (c.in_ok-y.ensures.work told_right other u m p hy)))

pub returns-in_err-compare_bytes-clause-unchanged : goal.returns-in_err-compare_bytes-clause-unchanged
returns-in_err-compare_bytes-clause-unchanged g c told told_right tree other o p t u xs ys hx hy lx ly =
    let e = err_from_is_err_and c.from_residual-in_err-compare_bytes.result c.from_residual-in_err-compare_bytes.ensures.1 in
    let x = c.in_ok-x.ensures.next told tree t xs o hx in
    let y = c.in_ok-y.ensures.next told_right other u ys p hy in
    rw (e.1, e.2) ((rw (c.in_ok-x.ensures.store.file, c.in_ok-y.ensures.store.file) at c.in_err-compare_bytes.ensures.unchanged) (first_lies (g.S.Store.file c.args.left.now) xs x.0 c.in_ok-x.x x.1 lx) (first_lies (g.T.Store.file c.args.right.now) ys y.0 c.in_ok-y.y y.1 ly))

pub returns-in_err-compare_bytes-clause-work : goal.returns-in_err-compare_bytes-clause-work
returns-in_err-compare_bytes-clause-work g c told told_right tree other o p t u n m hx hy =
    let e = err_from_is_err_and c.from_residual-in_err-compare_bytes.result c.from_residual-in_err-compare_bytes.ensures.1 in
    let file = g.S.Store.file c.args.left.now in
    let right_file = g.T.Store.file c.args.right.now in
    rw e.1 (both_most file tree t c.next_sample.new.self right_file other u c.next_sample-2.new.self _ c.args.steps.now.passed _
    (both_take file tree t c.next_sample.new.self right_file other u c.next_sample-2.new.self n m c.args.steps.now.passed _ _ (c.in_ok-x.ensures.work told tree t n o hx) (c.in_ok-y.ensures.work told_right other u m p hy)))

pub returns-clause-found : goal.returns-clause-found
returns-clause-found g c told told_right tree other o p t u xs ys hx hy =
    let by = c.args.next.by.now in
    let samples : c.compare_samples.new.found.items ≡ differences_at by (subjects.Sample by.track c.args.next.number) c.in_ok-x.x c.in_ok-y.y =
    rw c.new-found.ensures.items at c.in_ok-compare_samples.ensures in
    let bytes = (rw (c.in_ok-x.ensures.store.honesty, c.in_ok-x.ensures.store.file, c.in_ok-y.ensures.store.honesty, c.in_ok-y.ensures.store.file) at c.in_ok-compare_bytes.ensures.bytes) told told_right in
    let file = g.S.Store.file c.args.left.now in
    let right_file = g.T.Store.file c.args.right.now in
    let movies = c.args.next.movies.now in
    let first = subst (λ (w : Walk). TakesFirst file tree t movies.left w xs c.in_ok-x.x) (sym c.in_ok-compare_bytes.ensures.walk) (c.in_ok-x.ensures.next told tree t xs o hx) in
    let second = subst (λ (w : Walk). TakesFirst right_file other u movies.right w ys c.in_ok-y.y) (sym c.in_ok-compare_bytes.ensures.right_walk) (c.in_ok-y.ensures.next told_right other u ys p hy) in
    (c.in_ok-x.x, c.in_ok-y.y, first, second, found_then _ _ _ _ samples bytes)

pub returns-in_err-compare_samples-clause-time : goal.returns-in_err-compare_samples-clause-time
returns-in_err-compare_samples-clause-time g c told told_right tree other o p t u xs ys hx hy =
    let e = err_from_is_err_and c.from_residual-in_err-compare_samples.result c.from_residual-in_err-compare_samples.ensures.1 in
    rw e.1 tt

pub returns-clause-time : goal.returns-clause-time
returns-clause-time g c told told_right tree other o p t u xs ys hx hy =
    let first = c.in_ok-x.ensures.next told tree t xs o hx in
    sym (ap (λ (ss : List SampleAt). due (slice_get ss 0)) first.1)

pub returns-clause-work : goal.returns-clause-work
returns-clause-work g c told told_right tree other o p t u n m hx hy =
    rw (c.in_ok-compare_bytes.ensures.walk, c.in_ok-compare_bytes.ensures.right_walk)
    (both_take (g.S.Store.file c.args.left.now) tree t c.next_sample.new.self (g.T.Store.file c.args.right.now) other u c.next_sample-2.new.self n m c.args.steps.now.passed _ _ (c.in_ok-x.ensures.work told tree t n o hx) (c.in_ok-y.ensures.work told_right other u m p hy))
