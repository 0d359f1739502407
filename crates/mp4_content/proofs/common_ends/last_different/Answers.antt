use Rattle.std.proofs.Common.{rules, ◌≡◌, ◌+◌, ◌<◌, ◌≤◌, [], subst, sym, ◌∙◌, arith}
use Rattle.std.proofs.lemmas.Result.{err_from_is_err_and}
use Rattle.mp4_content.specs.words.Aligning.{IsLast}
use Rattle.mp4_content.specs.words.Windows.{Shows}
use Rattle.mp4_content.specs.declared.file_window.FileWindow.{FileWindow}
use Rattle.mp4_content.proofs.LastPairs.{both_all, both_then, last_few, last_moved, last_next, last_passed, rest_lie, then_most}
use Rattle.mp4_content.proofs.common_ends.last_different.Goals as goal

pub returns-in_err-_same-clause-unchanged : goal.returns-in_err-_same-clause-unchanged
returns-in_err-_same-clause-unchanged g c told told_right tree other o p t u xs ys come come_right lie =
    let i = c.loop-number.invariant in
    let file = g.S.Store.file c.args.left.now in
    let right_file = g.T.Store.file c.args.right.now in
    let m = c.args.pairs.movies.now.left in
    let n = c.args.pairs.movies.now.right in
    let by = c.args.pairs.by.now in
    let passed = c.pass_same-passed in
    let k = c.loop-number.number + passed.result.count in
    let last = c.loop-number.last in
    let w = passed.new.sides.left.walk in
    let v = passed.new.sides.right.walk in
    let h = last_passed by file tree t m xs right_file other u n ys last c.loop-number.number passed.result.count c.loop-number.sides.left passed.new.sides.left c.loop-number.sides.right passed.new.sides.right c.loop-number.steps.passed passed.new.steps.passed
    (i.shows told) (i.shows_right told_right) passed.ensures.passed (i.going told told_right tree other o p t u xs ys come come_right) in
    let e = err_from_is_err_and c.from_residual.result c.from_residual.ensures.1 in
    let below : k < c.args.pairs.count = search rules in
    rw (e.1, e.2) ((rw (i.honesty, i.file, i.honesty_right, i.file_right) at c.in_err-_same.ensures.unchanged) told told_right tree other o p t u _ _ h.comes h.comes_right
    (rest_lie file k c.args.pairs.count xs below lie.left lie.lie) (rest_lie right_file k c.args.pairs.count ys below lie.right lie.lie_right))

pub returns-in_err-_same-clause-work : goal.returns-in_err-_same-clause-work
returns-in_err-_same-clause-work g c told told_right tree other o p t u a b may may_right =
    let i = c.loop-number.invariant in
    let file = g.S.Store.file c.args.left.now in
    let right_file = g.T.Store.file c.args.right.now in
    let m = c.args.pairs.movies.now.left in
    let n = c.args.pairs.movies.now.right in
    let by = c.args.pairs.by.now in
    let passed = c.pass_same-passed in
    let k = c.loop-number.number + passed.result.count in
    let last = c.loop-number.last in
    let w = passed.new.sides.left.walk in
    let v = passed.new.sides.right.walk in
    let h = both_then file tree t right_file other u (a + b) c.args.steps.now.passed c.loop-number.steps.passed passed.new.steps.passed c.loop-number.sides.left.walk c.loop-number.sides.right.walk w v
    (i.takes told told_right tree other o p t u a b may may_right) (λ q r hq hr. passed.ensures.passed.takes file right_file tree other t u q r o p hq hr) in
    let e = err_from_is_err_and c.from_residual.result c.from_residual.ensures.1 in
    then_most file tree t right_file other u (a + b) c.args.steps.now.passed passed.new.steps.passed c.refill_both.new.steps.passed w v h
    (λ q r hq hr. (rw (i.honesty, i.file, i.honesty_right, i.file_right) at c.in_err-_same.ensures.work) told told_right tree other o p t u q r hq hr)

pub loop-number-preserved-then-passed : goal.loop-number-preserved-then-passed
loop-number-preserved-then-passed g c =
    let i = c.loop-number.invariant in
    let file = g.S.Store.file c.args.left.now in
    let right_file = g.T.Store.file c.args.right.now in
    let m = c.args.pairs.movies.now.left in
    let n = c.args.pairs.movies.now.right in
    let by = c.args.pairs.by.now in
    let passed = c.pass_same-passed in
    let k = c.loop-number.number + passed.result.count in
    let last = c.loop-number.last in
    let w = passed.new.sides.left.walk in
    let v = passed.new.sides.right.walk in
    record {
      within = omega arith;
      few = (let le = i.few in omega (arith, le));
      honesty = search rules;
      file = search rules;
      reads = search rules;
      honesty_right = search rules;
      file_right = search rules;
      reads_right = search rules;
      looks = search rules;
      grows = (let more = c.in_ok-_same.ensures.grows in omega (arith, more));
      walk = search rules;
      walk_right = search rules;
      shows = search rules;
      shows_right = search rules;
      going = λ told told_right tree other o p t u xs ys come come_right.
          let h = last_passed by file tree t m xs right_file other u n ys last c.loop-number.number passed.result.count c.loop-number.sides.left passed.new.sides.left c.loop-number.sides.right passed.new.sides.right c.loop-number.steps.passed passed.new.steps.passed
          (i.shows told) (i.shows_right told_right) passed.ensures.passed (i.going told told_right tree other o p t u xs ys come come_right) in
          last_moved by file tree t m xs right_file other u n ys last k w v c.refill_both.new.sides.left.walk c.refill_both.new.sides.right.walk h
          ((rw (i.honesty, i.file, i.honesty_right, i.file_right) at c.in_ok-_same.ensures.coming) told told_right tree other o p t u _ _ h.comes h.comes_right);
      takes = λ told told_right tree other o p t u a b may may_right.
          let h = both_then file tree t right_file other u (a + b) c.args.steps.now.passed c.loop-number.steps.passed passed.new.steps.passed c.loop-number.sides.left.walk c.loop-number.sides.right.walk w v
          (i.takes told told_right tree other o p t u a b may may_right) (λ q r hq hr. passed.ensures.passed.takes file right_file tree other t u q r o p hq hr) in
          both_then file tree t right_file other u (a + b) c.args.steps.now.passed passed.new.steps.passed c.refill_both.new.steps.passed w v c.refill_both.new.sides.left.walk c.refill_both.new.sides.right.walk h
          (λ q r hq hr. (rw (i.honesty, i.file, i.honesty_right, i.file_right) at c.in_ok-_same.ensures.work) told told_right tree other o p t u q r hq hr);
    }

pub returns-in_err-found-clause-unchanged : goal.returns-in_err-found-clause-unchanged
returns-in_err-found-clause-unchanged g c told told_right tree other o p t u xs ys come come_right lie =
    let i = c.loop-number.invariant in
    let file = g.S.Store.file c.args.left.now in
    let right_file = g.T.Store.file c.args.right.now in
    let m = c.args.pairs.movies.now.left in
    let n = c.args.pairs.movies.now.right in
    let by = c.args.pairs.by.now in
    let passed = c.pass_same-passed in
    let k = c.loop-number.number + passed.result.count in
    let last = c.loop-number.last in
    let w = passed.new.sides.left.walk in
    let v = passed.new.sides.right.walk in
    let h = last_passed by file tree t m xs right_file other u n ys last c.loop-number.number passed.result.count c.loop-number.sides.left passed.new.sides.left c.loop-number.sides.right passed.new.sides.right c.loop-number.steps.passed passed.new.steps.passed
    (i.shows told) (i.shows_right told_right) passed.ensures.passed (i.going told told_right tree other o p t u xs ys come come_right) in
    let e = err_from_is_err_and c.from_residual-in_err-found.result c.from_residual-in_err-found.ensures.1 in
    let below : k < c.args.pairs.count = search rules in
    rw (e.1, e.2) ((rw (i.honesty, i.file, i.honesty_right, i.file_right) at c.in_err-found.ensures.unchanged) told told_right tree other o p t u _ _ h.comes h.comes_right
    (rest_lie file k c.args.pairs.count xs below lie.left lie.lie) (rest_lie right_file k c.args.pairs.count ys below lie.right lie.lie_right))

pub returns-in_err-found-clause-work : goal.returns-in_err-found-clause-work
returns-in_err-found-clause-work g c told told_right tree other o p t u a b may may_right =
    let i = c.loop-number.invariant in
    let file = g.S.Store.file c.args.left.now in
    let right_file = g.T.Store.file c.args.right.now in
    let m = c.args.pairs.movies.now.left in
    let n = c.args.pairs.movies.now.right in
    let by = c.args.pairs.by.now in
    let passed = c.pass_same-passed in
    let k = c.loop-number.number + passed.result.count in
    let last = c.loop-number.last in
    let w = passed.new.sides.left.walk in
    let v = passed.new.sides.right.walk in
    let h = both_then file tree t right_file other u (a + b) c.args.steps.now.passed c.loop-number.steps.passed passed.new.steps.passed c.loop-number.sides.left.walk c.loop-number.sides.right.walk w v
    (i.takes told told_right tree other o p t u a b may may_right) (λ q r hq hr. passed.ensures.passed.takes file right_file tree other t u q r o p hq hr) in
    let e = err_from_is_err_and c.from_residual-in_err-found.result c.from_residual-in_err-found.ensures.1 in
    then_most file tree t right_file other u (a + b) c.args.steps.now.passed passed.new.steps.passed c.compare_pair.new.steps.passed w v h
    (λ q r hq hr. (rw (i.honesty, i.file, i.honesty_right, i.file_right) at c.in_err-found.ensures.work) told told_right tree other o p t u q r hq hr)

pub loop-number-preserved-else-passed : goal.loop-number-preserved-else-passed
loop-number-preserved-else-passed g c =
    let i = c.loop-number.invariant in
    let file = g.S.Store.file c.args.left.now in
    let right_file = g.T.Store.file c.args.right.now in
    let m = c.args.pairs.movies.now.left in
    let n = c.args.pairs.movies.now.right in
    let by = c.args.pairs.by.now in
    let passed = c.pass_same-passed in
    let k = c.loop-number.number + passed.result.count in
    let last = c.loop-number.last in
    let w = passed.new.sides.left.walk in
    let v = passed.new.sides.right.walk in
    let found = c.in_ok-found.found.differences.items in
    let seen : c.as_slice.result.now ≡ found = c.as_slice.ensures.value in
    let with = c.last_with-last.ensures in
    let same : found ≡ [] → c.last_with-last.result ≡ last = λ none. with.same (seen ∙ none) in
    let differs : (found ≡ [] → ⊥) → c.last_with-last.result ≡ k + 1 = λ some. with.differs (λ none. some (sym seen ∙ none)) in
    record {
      within = omega arith;
      few = last_few found last k c.last_with-last.result (let le = i.few in omega (arith, le)) same differs;
      honesty = search rules;
      file = search rules;
      reads = search rules;
      honesty_right = search rules;
      file_right = search rules;
      reads_right = search rules;
      looks = search rules;
      grows = (let more = c.in_ok-found.ensures.grows in omega (arith, more));
      walk = search rules;
      walk_right = search rules;
      shows = search rules;
      shows_right = search rules;
      going = λ told told_right tree other o p t u xs ys come come_right.
          let h = last_passed by file tree t m xs right_file other u n ys last c.loop-number.number passed.result.count c.loop-number.sides.left passed.new.sides.left c.loop-number.sides.right passed.new.sides.right c.loop-number.steps.passed passed.new.steps.passed
          (i.shows told) (i.shows_right told_right) passed.ensures.passed (i.going told told_right tree other o p t u xs ys come come_right) in
          last_next by file tree t m xs right_file other u n ys last k w v c.compare_pair.new.sides.left.walk c.compare_pair.new.sides.right.walk found h
          ((rw (i.honesty, i.file, i.honesty_right, i.file_right) at c.in_ok-found.ensures.found) told told_right tree other o p t u _ _ h.comes h.comes_right) c.last_with-last.result same differs;
      takes = λ told told_right tree other o p t u a b may may_right.
          let h = both_then file tree t right_file other u (a + b) c.args.steps.now.passed c.loop-number.steps.passed passed.new.steps.passed c.loop-number.sides.left.walk c.loop-number.sides.right.walk w v
          (i.takes told told_right tree other o p t u a b may may_right) (λ q r hq hr. passed.ensures.passed.takes file right_file tree other t u q r o p hq hr) in
          both_then file tree t right_file other u (a + b) c.args.steps.now.passed passed.new.steps.passed c.compare_pair.new.steps.passed w v c.compare_pair.new.sides.left.walk c.compare_pair.new.sides.right.walk h
          (λ q r hq hr. (rw (i.honesty, i.file, i.honesty_right, i.file_right) at c.in_ok-found.ensures.work) told told_right tree other o p t u q r hq hr);
    }

pub loop-number-preserved : goal.loop-number-preserved
loop-number-preserved g c =
    let i = c.loop-number.invariant in
    let file = g.S.Store.file c.args.left.now in
    let right_file = g.T.Store.file c.args.right.now in
    let m = c.args.pairs.movies.now.left in
    let n = c.args.pairs.movies.now.right in
    let by = c.args.pairs.by.now in
    let passed = c.pass_same-passed in
    let k = c.loop-number.number + passed.result.count in
    let last = c.loop-number.last in
    let w = passed.new.sides.left.walk in
    let v = passed.new.sides.right.walk in
    let e = passed.ensures.passed in
    record {
      within = omega arith;
      few = (let le = i.few in omega (arith, le));
      honesty = search rules;
      file = search rules;
      reads = search rules;
      honesty_right = search rules;
      file_right = search rules;
      reads_right = search rules;
      looks = search rules;
      grows = omega arith;
      walk = e.walk;
      walk_right = e.walk_right;
      shows = λ told. subst (λ (x : FileWindow). Shows file x) (sym e.window) (i.shows told);
      shows_right = λ told. subst (λ (x : FileWindow). Shows right_file x) (sym e.window_right) (i.shows_right told);
      going = λ told told_right tree other o p t u xs ys come come_right.
          let h = last_passed by file tree t m xs right_file other u n ys last c.loop-number.number passed.result.count c.loop-number.sides.left passed.new.sides.left c.loop-number.sides.right passed.new.sides.right c.loop-number.steps.passed passed.new.steps.passed
          (i.shows told) (i.shows_right told_right) passed.ensures.passed (i.going told told_right tree other o p t u xs ys come come_right) in
          h;
      takes = λ told told_right tree other o p t u a b may may_right.
          let h = both_then file tree t right_file other u (a + b) c.args.steps.now.passed c.loop-number.steps.passed passed.new.steps.passed c.loop-number.sides.left.walk c.loop-number.sides.right.walk w v
          (i.takes told told_right tree other o p t u a b may may_right) (λ q r hq hr. passed.ensures.passed.takes file right_file tree other t u q r o p hq hr) in
          h;
    }

pub returns-clause-last : goal.returns-clause-last
returns-clause-last g c told told_right tree other o p t u xs ys come come_right =
    let i = c.loop-number.invariant in
    let file = g.S.Store.file c.args.left.now in
    let right_file = g.T.Store.file c.args.right.now in
    let le = i.within in
    let all : c.loop-number.number ≡ c.args.pairs.count = (let no : c.args.pairs.count ≤ c.loop-number.number = search rules in omega (arith, le, no)) in
    let h = i.going told told_right tree other o p t u xs ys come come_right in
    subst (λ k. IsLast c.args.pairs.by.now file xs right_file ys c.loop-number.last k) all h.is_last

pub returns-clause-work : goal.returns-clause-work
returns-clause-work g c told told_right tree other o p t u a b may may_right =
    let i = c.loop-number.invariant in
    both_all (g.S.Store.file c.args.left.now) tree t (g.T.Store.file c.args.right.now) other u (a + b) c.args.steps.now.passed c.loop-number.steps.passed c.loop-number.sides.left.walk c.loop-number.sides.right.walk
    (i.takes told told_right tree other o p t u a b may may_right)
