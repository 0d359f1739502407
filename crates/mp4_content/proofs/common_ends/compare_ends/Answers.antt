use Rattle.std.proofs.Common.{◌+◌, ◌-◌, ap, sym, ◌∙◌, arith}
use Rattle.std.proofs.lemmas.Result.{err_from_is_err_and}
use Rattle.mp4_present.specs.words.SamplesComing.{track_samples}
use Rattle.mp4_present.specs.words.WalkSteps.{walk_steps}
use Rattle.mp4_content.proofs.EndsCompared.{both_lie, ends_are, le_is, one_most, reach, samples_many, three_most}
use Rattle.mp4_content.proofs.SamplesShifted.{due_is}
use Rattle.mp4_content.proofs.common_ends.compare_ends.Goals as goal

pub returns-in_err-by-clause-unchanged : goal.returns-in_err-by-clause-unchanged
returns-in_err-by-clause-unchanged g c told told_right tree other o p t u at bt counts have =
    let e = err_from_is_err_and c.from_residual.result c.from_residual.ensures.1 in
    rw (e.1, e.2) (c.in_err-by.ensures.unchanged told told_right tree other o p t u at bt)

pub returns-in_err-time-clause-unchanged : goal.returns-in_err-time-clause-unchanged
returns-in_err-time-clause-unchanged g c told told_right tree other o p t u at bt counts have =
    let e0 = c.in_ok-by.ensures in
    let file = g.S.Store.file c.args.left.now in
    let right_file = g.T.Store.file c.args.right.now in
    let begun = e0.begun told told_right tree other o p t u at bt in
    let many = samples_many file tree t in
    let many_right = samples_many right_file other u in
    let e = err_from_is_err_and c.from_residual-in_err-time.result c.from_residual-in_err-time.ensures.1 in
    rw (e.1, e.2) ((rw (e0.stores.left.honesty, e0.stores.left.file) at c.in_err-time.ensures.unchanged) told tree t (track_samples tree t) o begun.comes
    (reach c.args.counts.left c.args.counts.right c.args.front c.saturating_sub-more.result _ c.saturating_sub-more.ensures (counts.0 ∙ sym many) (le_is _ _ _ (sym counts.0) have.0) (le_is _ _ _ (sym counts.1) have.1)))

pub returns-in_err-time-clause-work : goal.returns-in_err-time-clause-work
returns-in_err-time-clause-work g c told told_right tree other o p t u at bt =
    let e0 = c.in_ok-by.ensures in
    let file = g.S.Store.file c.args.left.now in
    let right_file = g.T.Store.file c.args.right.now in
    let begun = e0.begun told told_right tree other o p t u at bt in
    let le = begun.takes.4 in
    let most = (rw (e0.stores.left.honesty, e0.stores.left.file) at c.in_err-time.ensures.work) told tree t begun.takes.0 o begun.takes.2 in
    omega (arith, le, most)

pub returns-in_err-other_time-clause-ends : goal.returns-in_err-other_time-clause-ends
returns-in_err-other_time-clause-ends g c told told_right tree other o p t u at bt counts have =
    let e = err_from_is_err_and c.from_residual-in_err-other_time.result c.from_residual-in_err-other_time.ensures.1 in
    rw e.1 tt

pub returns-in_err-other_time-clause-unchanged : goal.returns-in_err-other_time-clause-unchanged
returns-in_err-other_time-clause-unchanged g c told told_right tree other o p t u at bt counts have =
    let e0 = c.in_ok-by.ensures in
    let file = g.S.Store.file c.args.left.now in
    let right_file = g.T.Store.file c.args.right.now in
    let begun = e0.begun told told_right tree other o p t u at bt in
    let many = samples_many file tree t in
    let many_right = samples_many right_file other u in
    let e = err_from_is_err_and c.from_residual-in_err-other_time.result c.from_residual-in_err-other_time.ensures.1 in
    rw (e.1, e.2) ((rw (e0.stores.right.honesty, e0.stores.right.file) at c.in_err-other_time.ensures.unchanged) told_right other u (track_samples other u) p begun.comes_right
    (reach c.args.counts.right c.args.counts.left c.args.front c.saturating_sub-more-2.result _ c.saturating_sub-more-2.ensures (counts.1 ∙ sym many_right) (le_is _ _ _ (sym counts.1) have.1) (le_is _ _ _ (sym counts.0) have.0)))

pub returns-in_err-other_time-clause-work : goal.returns-in_err-other_time-clause-work
returns-in_err-other_time-clause-work g c told told_right tree other o p t u at bt =
    let e0 = c.in_ok-by.ensures in
    let file = g.S.Store.file c.args.left.now in
    let right_file = g.T.Store.file c.args.right.now in
    let begun = e0.begun told told_right tree other o p t u at bt in
    let taken = (rw (e0.stores.left.honesty, e0.stores.left.file) at c.in_ok-time.ensures.work) told tree t begun.takes.0 o begun.takes.2 in
    let most = (rw (e0.stores.right.honesty, e0.stores.right.file) at c.in_err-other_time.ensures.work) told_right other u begun.takes.1 p begun.takes.3 in
    one_most file tree t right_file other c.pass_to.new.walk begun.takes.0 begun.takes.1 (walk_steps tree t + walk_steps other u) c.args.steps.now.passed c.begin_pairs.new.steps.passed c.pass_to.new.steps.passed c.pass_to-2.new.steps.passed begun.takes.4 taken most

pub returns-in_err-last-clause-ends : goal.returns-in_err-last-clause-ends
returns-in_err-last-clause-ends g c told told_right tree other o p t u at bt counts have =
    let e = err_from_is_err_and c.from_residual-in_err-last.result c.from_residual-in_err-last.ensures.1 in
    rw e.1 tt

pub returns-in_err-last-clause-unchanged : goal.returns-in_err-last-clause-unchanged
returns-in_err-last-clause-unchanged g c told told_right tree other o p t u at bt counts have =
    let e0 = c.in_ok-by.ensures in
    let e1 = c.in_ok-time.ensures.store in
    let e2 = c.in_ok-other_time.ensures.store in
    let file = g.S.Store.file c.args.left.now in
    let right_file = g.T.Store.file c.args.right.now in
    let begun = e0.begun told told_right tree other o p t u at bt in
    let first = (rw (e0.stores.left.honesty, e0.stores.left.file) at c.in_ok-time.ensures.coming) told tree t (track_samples tree t) o begun.comes in
    let second = (rw (e0.stores.right.honesty, e0.stores.right.file) at c.in_ok-other_time.ensures.coming) told_right other u (track_samples other u) p begun.comes_right in
    let e = err_from_is_err_and c.from_residual-in_err-last.result c.from_residual-in_err-last.ensures.1 in
    let lie = both_lie c.args.tracks.leaving c.args.tracks.divisors.left c.args.tracks.divisors.right c.args.tracks.place c.in_ok-by.by file right_file c.args.tracks.movies.now.left c.args.tracks.movies.now.right tree
    other t u o p at bt c.args.counts.left c.args.counts.right c.args.front c.saturating_sub-more.result
    c.saturating_sub-more-2.result c.saturating_sub-count.result
    c.saturating_sub-more.ensures c.saturating_sub-more-2.ensures (c.saturating_sub-count.ensures ∙ ap (λ n. n - c.args.front) c.min.ensures) counts.0 counts.1 have.0 have.1 in
    rw (e.1, e.2) ((rw (e1.honesty, e1.file, e0.stores.left.honesty, e0.stores.left.file, e2.honesty, e2.file, e0.stores.right.honesty, e0.stores.right.file) at c.in_err-last.ensures.unchanged) told told_right tree other o p t u _ _ first second lie)

pub returns-in_err-last-clause-work : goal.returns-in_err-last-clause-work
returns-in_err-last-clause-work g c told told_right tree other o p t u at bt =
    let e0 = c.in_ok-by.ensures in
    let e1 = c.in_ok-time.ensures.store in
    let e2 = c.in_ok-other_time.ensures.store in
    let file = g.S.Store.file c.args.left.now in
    let right_file = g.T.Store.file c.args.right.now in
    let begun = e0.begun told told_right tree other o p t u at bt in
    let taken = (rw (e0.stores.left.honesty, e0.stores.left.file) at c.in_ok-time.ensures.work) told tree t begun.takes.0 o begun.takes.2 in
    let taken_right = (rw (e0.stores.right.honesty, e0.stores.right.file) at c.in_ok-other_time.ensures.work) told_right other u begun.takes.1 p begun.takes.3 in
    three_most file tree t right_file other u c.pass_to.new.walk c.pass_to-2.new.walk begun.takes.0 begun.takes.1 (walk_steps tree t + walk_steps other u) c.args.steps.now.passed c.begin_pairs.new.steps.passed c.pass_to.new.steps.passed c.pass_to-2.new.steps.passed c.last_different.new.steps.passed
    begun.takes.4 taken taken_right (λ x y hx hy. (rw (e1.honesty, e1.file, e0.stores.left.honesty, e0.stores.left.file, e2.honesty, e2.file, e0.stores.right.honesty, e0.stores.right.file) at c.in_err-last.ensures.work) told told_right tree other o p t u x y hx hy)

pub returns-clause-ends : goal.returns-clause-ends
returns-clause-ends g c told told_right tree other o p t u at bt counts have =
    let e0 = c.in_ok-by.ensures in
    let e1 = c.in_ok-time.ensures.store in
    let e2 = c.in_ok-other_time.ensures.store in
    let file = g.S.Store.file c.args.left.now in
    let right_file = g.T.Store.file c.args.right.now in
    let begun = e0.begun told told_right tree other o p t u at bt in
    let first = (rw (e0.stores.left.honesty, e0.stores.left.file) at c.in_ok-time.ensures.coming) told tree t (track_samples tree t) o begun.comes in
    let second = (rw (e0.stores.right.honesty, e0.stores.right.file) at c.in_ok-other_time.ensures.coming) told_right other u (track_samples other u) p begun.comes_right in
    let is = (rw (e1.honesty, e1.file, e0.stores.left.honesty, e0.stores.left.file, e2.honesty, e2.file, e0.stores.right.honesty, e0.stores.right.file) at c.in_ok-last.ensures.last)
    told told_right tree other o p t u _ _ first second in
    record {
      end = ends_are c.args.tracks.leaving c.args.tracks.divisors.left c.args.tracks.divisors.right c.args.tracks.place c.in_ok-by.by file right_file c.args.tracks.movies.now.left c.args.tracks.movies.now.right tree
          other t u o p at bt c.args.counts.left c.args.counts.right c.args.front c.saturating_sub-more.result c.saturating_sub-more-2.result
          c.saturating_sub-count.result
          c.saturating_sub-more.ensures c.saturating_sub-more-2.ensures (c.saturating_sub-count.ensures ∙ ap (λ n. n - c.args.front) c.min.ensures) counts.0 counts.1 have.0 have.1 c.requires e0.pairing begun.reductions c.in_ok-last.last is;
      time = (rw (e0.stores.left.honesty, e0.stores.left.file) at c.in_ok-time.ensures.time) told tree t (track_samples tree t) o begun.comes ∙ due_is file _ c.args.front _ 1 _ _;
      other_time = (rw (e0.stores.right.honesty, e0.stores.right.file) at c.in_ok-other_time.ensures.time) told_right other u (track_samples other u) p begun.comes_right ∙ due_is right_file _ c.args.front _ 1 _ _;
    }

pub returns-clause-work : goal.returns-clause-work
returns-clause-work g c told told_right tree other o p t u at bt =
    let e0 = c.in_ok-by.ensures in
    let e1 = c.in_ok-time.ensures.store in
    let e2 = c.in_ok-other_time.ensures.store in
    let file = g.S.Store.file c.args.left.now in
    let right_file = g.T.Store.file c.args.right.now in
    let begun = e0.begun told told_right tree other o p t u at bt in
    let taken = (rw (e0.stores.left.honesty, e0.stores.left.file) at c.in_ok-time.ensures.work) told tree t begun.takes.0 o begun.takes.2 in
    let taken_right = (rw (e0.stores.right.honesty, e0.stores.right.file) at c.in_ok-other_time.ensures.work) told_right other u begun.takes.1 p begun.takes.3 in
    three_most file tree t right_file other u c.pass_to.new.walk c.pass_to-2.new.walk begun.takes.0 begun.takes.1 (walk_steps tree t + walk_steps other u) c.args.steps.now.passed c.begin_pairs.new.steps.passed c.pass_to.new.steps.passed c.pass_to-2.new.steps.passed c.last_different.new.steps.passed
    begun.takes.4 taken taken_right (λ x y hx hy. (rw (e1.honesty, e1.file, e0.stores.left.honesty, e0.stores.left.file, e2.honesty, e2.file, e0.stores.right.honesty, e0.stores.right.file) at c.in_ok-last.ensures.work) told told_right tree other o p t u x y hx hy)
