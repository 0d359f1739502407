use Rattle.std.proofs.Common.{rules, refl, List, ◌≡◌, ◌+◌, ◌<◌, ◌≤◌, ◌++◌, min, slice_index_or, ap, sym, subst, ◌∙◌, arith}
use Rattle.std.proofs.lemmas.Result.{err_from_is_err_and}
use Rattle.mp4_content.specs.words.Compared.{TakesFront}
use Rattle.mp4_content.specs.words.Windows.{Shows}
use Rattle.mp4_content.specs.declared.comparing.differences.Difference.{Difference}
use Rattle.mp4_content.specs.declared.file_window.FileWindow.{FileWindow}
use Rattle.mp4_present.proofs.TrafTaken.{at_place}
use Rattle.mp4_content.proofs.PairsCompared.{both_most}
use Rattle.mp4_present.specs.format.Denotes.{presentation_of}
use Rattle.mp4_content.proofs.MeasuredTracks.{count_is}
use Rattle.mp4_content.proofs.TimesTaken.{pair_timed}
use Rattle.mp4_content.proofs.SamplesShifted.{differ_behind}
use Rattle.mp4_content.proofs.TracksCompared.{takes_nothing, grows_front, rest_lies, pairs_first, pairs_pass, pairs_moved, pairs_next, pairs_stop, pairs_most, pairs_work, pairs_all, min_over}
use Rattle.mp4_content.proofs.comparing.compare_track_samples.Goals as goal

pub returns-in_err-by-clause-handed : goal.returns-in_err-by-clause-handed
returns-in_err-by-clause-handed g c =
    record {
      goes = search rules;
      all = search rules;
      front = λ told told_right tree other o p t u at bt. takes_nothing (g.D.Differences.taken c.args.seen.now) _;
    }

pub returns-in_err-by-clause-unchanged : goal.returns-in_err-by-clause-unchanged
returns-in_err-by-clause-unchanged g c =
    let e = err_from_is_err_and c.from_residual.result c.from_residual.ensures.1 in
    rw (e.1, e.2) c.in_err-by.ensures.unchanged

pub loop-number-init : goal.loop-number-init
loop-number-init g c =
    let e = c.in_ok-by.ensures in
    record {
      within = omega arith;
      honesty = e.stores.left.honesty;
      file = e.stores.left.file;
      reads = e.stores.left.reads;
      honesty_right = e.stores.right.honesty;
      file_right = e.stores.right.file;
      reads_right = e.stores.right.reads;
      goes = c.requires.goes;
      looks = search rules;
      grows = omega arith;
      walk = e.sides.left.walk;
      walk_right = e.sides.right.walk;
      shows = e.sides.left.shows;
      shows_right = e.sides.right.shows;
      going = λ told told_right tree other o p t u at bt.
          pairs_first c.in_ok-by.by (g.S.Store.file c.args.left.now) tree t c.args.tracks.movies.now.left (g.T.Store.file c.args.right.now) other u c.args.tracks.movies.now.right (g.D.Differences.taken c.args.seen.now) c.args.steps.now.passed c.args.tracks.leaving c.args.tracks.divisors
          c.in_ok-by.sides.left.walk c.in_ok-by.sides.right.walk c.begin_pairs.new.steps.passed (e.begun told told_right tree other o p t u at bt);
      timed = λ told told_right tree other o p t u at bt before. before;
    }

pub loop-number-preserved-then-passed : goal.loop-number-preserved-then-passed
loop-number-preserved-then-passed g c = record {
  within = search rules;
  honesty = search rules;
  file = search rules;
  reads = search rules;
  honesty_right = search rules;
  file_right = search rules;
  reads_right = search rules;
  goes = search rules;
  looks = search rules;
  grows = let more = c.in_ok-_same.ensures.grows in omega (arith, more);
  walk = search rules;
  walk_right = search rules;
  shows = search rules;
  shows_right = search rules;
  going = λ told told_right tree other o p t u at bt.
      let i = c.loop-number.invariant in
      let file = g.S.Store.file c.args.left.now in
      let right_file = g.T.Store.file c.args.right.now in
      let left = c.args.tracks.movies.now.left in
      let right = c.args.tracks.movies.now.right in
      let by = c.in_ok-by.by in
      let before = g.D.Differences.taken c.args.seen.now in
      let now = g.D.Differences.taken c.loop-number.seen in
      let passed = c.pass_same-passed in
      let number = c.loop-number.number + passed.result.count in
      let h = pairs_pass by file tree t left right_file other u right before c.args.steps.now.passed c.loop-number.number
      passed.result.count c.loop-number.sides.left passed.new.sides.left c.loop-number.sides.right passed.new.sides.right now c.loop-number.steps.passed passed.new.steps.passed
      o p (i.shows told) (i.shows_right told_right) passed.ensures.passed (i.going told told_right tree other o p t u at bt) in
      let w = passed.new.sides.left.walk in
      let v = passed.new.sides.right.walk in
      pairs_moved by file tree t left right_file other u right before c.args.steps.now.passed number w v c.refill_both.new.sides.left.walk c.refill_both.new.sides.right.walk now passed.new.steps.passed c.refill_both.new.steps.passed h
      ((rw (i.honesty, i.file, i.honesty_right, i.file_right) at c.in_ok-_same.ensures.coming) told told_right tree other o p t u _ _ h.comes h.comes_right)
      (λ q r hx hy. (rw (i.honesty, i.file, i.honesty_right, i.file_right) at c.in_ok-_same.ensures.work) told told_right tree other o p t u q r hx hy);
  timed = c.loop-number.invariant.timed;
}

pub returns-in_err-_same-clause-handed : goal.returns-in_err-_same-clause-handed
returns-in_err-_same-clause-handed g c =
    record {
      goes = search rules;
      all = search rules;
      front = λ told told_right tree other o p t u at bt.
          let i = c.loop-number.invariant in
          let file = g.S.Store.file c.args.left.now in
          let right_file = g.T.Store.file c.args.right.now in
          let left = c.args.tracks.movies.now.left in
          let right = c.args.tracks.movies.now.right in
          let by = c.in_ok-by.by in
          let before = g.D.Differences.taken c.args.seen.now in
          let now = g.D.Differences.taken c.loop-number.seen in
          let passed = c.pass_same-passed in
          let number = c.loop-number.number + passed.result.count in
          let h = pairs_pass by file tree t left right_file other u right before c.args.steps.now.passed c.loop-number.number
          passed.result.count c.loop-number.sides.left passed.new.sides.left c.loop-number.sides.right passed.new.sides.right now c.loop-number.steps.passed passed.new.steps.passed
          o p (i.shows told) (i.shows_right told_right) passed.ensures.passed (i.going told told_right tree other o p t u at bt) in
          let info = c.index-tracks-place.result in
          let other_info = c.index-tracks-place-2.result in
          let is : info ≡ slice_index_or left.tracks c.args.tracks.place info = search rules in
          let is_right : other_info ≡ slice_index_or right.tracks c.args.tracks.place other_info = search rules in
          let there = at_place left.tracks c.args.tracks.place info c.requires.tracks.left is in
          let there_right = at_place right.tracks c.args.tracks.place other_info c.requires.tracks.right is_right in
          let begun = (c.in_ok-by.ensures.begun told told_right tree other o p t u at bt).reductions in
          let are = differ_behind c.args.tracks.leaving c.args.tracks.divisors.left c.args.tracks.divisors.right c.args.tracks.place by file right_file left right tree other t u info other_info (c.in_ok-by.ensures.pairing info other_info there there_right) o p at bt there there_right begun 0 0 1 in
          subst (TakesFront before now) are (grows_front _ _ _ _ h.grows);
    }

pub returns-in_err-_same-clause-unchanged : goal.returns-in_err-_same-clause-unchanged
returns-in_err-_same-clause-unchanged g c told told_right tree other o p t u at bt =
    let i = c.loop-number.invariant in
    let file = g.S.Store.file c.args.left.now in
    let right_file = g.T.Store.file c.args.right.now in
    let left = c.args.tracks.movies.now.left in
    let right = c.args.tracks.movies.now.right in
    let by = c.in_ok-by.by in
    let before = g.D.Differences.taken c.args.seen.now in
    let now = g.D.Differences.taken c.loop-number.seen in
    let passed = c.pass_same-passed in
    let number = c.loop-number.number + passed.result.count in
    let h = pairs_pass by file tree t left right_file other u right before c.args.steps.now.passed c.loop-number.number
    passed.result.count c.loop-number.sides.left passed.new.sides.left c.loop-number.sides.right passed.new.sides.right now c.loop-number.steps.passed passed.new.steps.passed
    o p (i.shows told) (i.shows_right told_right) passed.ensures.passed (i.going told told_right tree other o p t u at bt) in
    let info = c.index-tracks-place.result in
    let other_info = c.index-tracks-place-2.result in
    let is : info ≡ slice_index_or left.tracks c.args.tracks.place info = search rules in
    let is_right : other_info ≡ slice_index_or right.tracks c.args.tracks.place other_info = search rules in
    let there = at_place left.tracks c.args.tracks.place info c.requires.tracks.left is in
    let there_right = at_place right.tracks c.args.tracks.place other_info c.requires.tracks.right is_right in
    let e = err_from_is_err_and c.from_residual-in_err-_same.result c.from_residual-in_err-_same.ensures.1 in
    let lt : number < info.samples = search rules in
    let lt_right : number < other_info.samples = search rules in
    rw (e.1, e.2) ((rw (i.honesty, i.file, i.honesty_right, i.file_right) at c.in_err-_same.ensures.unchanged) told told_right tree other o p t u _ _ h.comes h.comes_right
    (rest_lies file left tree t c.args.tracks.place number info o at there lt) (rest_lies right_file right other u c.args.tracks.place number other_info p bt there_right lt_right))

pub returns-in_err-_same-clause-work : goal.returns-in_err-_same-clause-work
returns-in_err-_same-clause-work g c told told_right tree other o p t u at bt =
    let i = c.loop-number.invariant in
    let file = g.S.Store.file c.args.left.now in
    let right_file = g.T.Store.file c.args.right.now in
    let left = c.args.tracks.movies.now.left in
    let right = c.args.tracks.movies.now.right in
    let by = c.in_ok-by.by in
    let before = g.D.Differences.taken c.args.seen.now in
    let now = g.D.Differences.taken c.loop-number.seen in
    let passed = c.pass_same-passed in
    let number = c.loop-number.number + passed.result.count in
    let h = pairs_pass by file tree t left right_file other u right before c.args.steps.now.passed c.loop-number.number
    passed.result.count c.loop-number.sides.left passed.new.sides.left c.loop-number.sides.right passed.new.sides.right now c.loop-number.steps.passed passed.new.steps.passed
    o p (i.shows told) (i.shows_right told_right) passed.ensures.passed (i.going told told_right tree other o p t u at bt) in
    let w = passed.new.sides.left.walk in
    let v = passed.new.sides.right.walk in
    let e = err_from_is_err_and c.from_residual-in_err-_same.result c.from_residual-in_err-_same.ensures.1 in
    pairs_most by file tree t left right_file other u right before c.args.steps.now.passed number w v now passed.new.steps.passed c.refill_both.new.steps.passed h
    (λ q r hx hy. (rw (i.honesty, i.file, i.honesty_right, i.file_right) at c.in_err-_same.ensures.work) told told_right tree other o p t u q r hx hy)

pub loop-number-preserved-else-passed : goal.loop-number-preserved-else-passed
loop-number-preserved-else-passed g c = record {
  within = search rules;
  honesty = search rules;
  file = search rules;
  reads = search rules;
  honesty_right = search rules;
  file_right = search rules;
  reads_right = search rules;
  goes = search rules;
  looks = search rules;
  grows = let more = c.in_ok-found.ensures.grows in omega (arith, more);
  walk = search rules;
  walk_right = search rules;
  shows = search rules;
  shows_right = search rules;
  going = λ told told_right tree other o p t u at bt.
      let i = c.loop-number.invariant in
      let file = g.S.Store.file c.args.left.now in
      let right_file = g.T.Store.file c.args.right.now in
      let left = c.args.tracks.movies.now.left in
      let right = c.args.tracks.movies.now.right in
      let by = c.in_ok-by.by in
      let before = g.D.Differences.taken c.args.seen.now in
      let now = g.D.Differences.taken c.loop-number.seen in
      let passed = c.pass_same-passed in
      let number = c.loop-number.number + passed.result.count in
      let h = pairs_pass by file tree t left right_file other u right before c.args.steps.now.passed c.loop-number.number
      passed.result.count c.loop-number.sides.left passed.new.sides.left c.loop-number.sides.right passed.new.sides.right now c.loop-number.steps.passed passed.new.steps.passed
      o p (i.shows told) (i.shows_right told_right) passed.ensures.passed (i.going told told_right tree other o p t u at bt) in
      let w = passed.new.sides.left.walk in
      let v = passed.new.sides.right.walk in
      pairs_next by file tree t left right_file other u right before c.args.steps.now.passed number w v c.compare_pair.new.sides.left.walk c.compare_pair.new.sides.right.walk now
      (g.D.Differences.taken c.hand_over.new.seen) c.in_ok-found.found.differences.items passed.new.steps.passed c.compare_pair.new.steps.passed h
      ((rw (i.honesty, i.file, i.honesty_right, i.file_right) at c.in_ok-found.ensures.found) told told_right tree other o p t u _ _ h.comes h.comes_right) ((rw c.as_slice.ensures.value at c.if-not-hand_over.ensures.all) refl)
      (λ q r hx hy. (rw (i.honesty, i.file, i.honesty_right, i.file_right) at c.in_ok-found.ensures.work) told told_right tree other o p t u q r hx hy);
  timed = λ told told_right tree other o p t u at bt before.
      let i = c.loop-number.invariant in
      let file = g.S.Store.file c.args.left.now in
      let right_file = g.T.Store.file c.args.right.now in
      let left = c.args.tracks.movies.now.left in
      let right = c.args.tracks.movies.now.right in
      let by = c.in_ok-by.by in
      let now = g.D.Differences.taken c.loop-number.seen in
      let passed = c.pass_same-passed in
      let number = c.loop-number.number + passed.result.count in
      let h = pairs_pass by file tree t left right_file other u right (g.D.Differences.taken c.args.seen.now) c.args.steps.now.passed c.loop-number.number
      passed.result.count c.loop-number.sides.left passed.new.sides.left c.loop-number.sides.right passed.new.sides.right now c.loop-number.steps.passed passed.new.steps.passed
      o p (i.shows told) (i.shows_right told_right) passed.ensures.passed (i.going told told_right tree other o p t u at bt) in
      let info = c.index-tracks-place.result in
      let other_info = c.index-tracks-place-2.result in
      let is : info ≡ slice_index_or left.tracks c.args.tracks.place info = search rules in
      let is_right : other_info ≡ slice_index_or right.tracks c.args.tracks.place other_info = search rules in
      let there = at_place left.tracks c.args.tracks.place info c.requires.tracks.left is in
      let there_right = at_place right.tracks c.args.tracks.place other_info c.requires.tracks.right is_right in
      let lt : number < info.samples = search rules in
      let taken = (rw (i.honesty, i.file, i.honesty_right, i.file_right) at c.in_ok-found.ensures.found) told told_right tree other o p t u _ _ h.comes h.comes_right in
      let due_then = (rw (i.honesty, i.file, i.honesty_right, i.file_right) at c.in_ok-found.ensures.time) told told_right tree other o p t u _ _ h.comes h.comes_right in
      (rw c.as_slice.ensures.value at c.hand_over.ensures.timed) (presentation_of file tree)
      (pair_timed file left tree t c.args.tracks.place info o at there by right_file number c.in_ok-found.found.time taken.0 taken.1 c.in_ok-found.found.differences.items (c.in_ok-by.ensures.pairing info other_info there there_right).number lt taken.4 due_then)
      (i.timed told told_right tree other o p t u at bt before);
}

pub loop-number-preserved : goal.loop-number-preserved
loop-number-preserved g c =
    let i = c.loop-number.invariant in
    let e = c.pass_same-passed.ensures.passed in
    let file = g.S.Store.file c.args.left.now in
    let right_file = g.T.Store.file c.args.right.now in
    record {
      within = search rules;
      honesty = i.honesty;
      file = i.file;
      reads = i.reads;
      honesty_right = i.honesty_right;
      file_right = i.file_right;
      reads_right = i.reads_right;
      goes = i.goes;
      looks = search rules;
      grows = omega arith;
      walk = e.walk;
      walk_right = e.walk_right;
      shows = λ told. subst (λ (w : FileWindow). Shows file w) (sym e.window) (i.shows told);
      shows_right = λ told. subst (λ (w : FileWindow). Shows right_file w) (sym e.window_right) (i.shows_right told);
      going = λ told told_right tree other o p t u at bt.
          pairs_pass c.in_ok-by.by file tree t c.args.tracks.movies.now.left right_file other u c.args.tracks.movies.now.right (g.D.Differences.taken c.args.seen.now)
          c.args.steps.now.passed c.loop-number.number c.pass_same-passed.result.count c.loop-number.sides.left c.pass_same-passed.new.sides.left c.loop-number.sides.right c.pass_same-passed.new.sides.right
          (g.D.Differences.taken c.loop-number.seen) c.loop-number.steps.passed c.pass_same-passed.new.steps.passed o p (i.shows told) (i.shows_right told_right) e (i.going told told_right tree other o p t u at bt);
      timed = i.timed;
    }

pub returns-in_err-found-clause-handed : goal.returns-in_err-found-clause-handed
returns-in_err-found-clause-handed g c =
    record {
      goes = search rules;
      all = search rules;
      front = λ told told_right tree other o p t u at bt.
          let i = c.loop-number.invariant in
          let file = g.S.Store.file c.args.left.now in
          let right_file = g.T.Store.file c.args.right.now in
          let left = c.args.tracks.movies.now.left in
          let right = c.args.tracks.movies.now.right in
          let by = c.in_ok-by.by in
          let before = g.D.Differences.taken c.args.seen.now in
          let now = g.D.Differences.taken c.loop-number.seen in
          let passed = c.pass_same-passed in
          let number = c.loop-number.number + passed.result.count in
          let h = pairs_pass by file tree t left right_file other u right before c.args.steps.now.passed c.loop-number.number
          passed.result.count c.loop-number.sides.left passed.new.sides.left c.loop-number.sides.right passed.new.sides.right now c.loop-number.steps.passed passed.new.steps.passed
          o p (i.shows told) (i.shows_right told_right) passed.ensures.passed (i.going told told_right tree other o p t u at bt) in
          let info = c.index-tracks-place.result in
          let other_info = c.index-tracks-place-2.result in
          let is : info ≡ slice_index_or left.tracks c.args.tracks.place info = search rules in
          let is_right : other_info ≡ slice_index_or right.tracks c.args.tracks.place other_info = search rules in
          let there = at_place left.tracks c.args.tracks.place info c.requires.tracks.left is in
          let there_right = at_place right.tracks c.args.tracks.place other_info c.requires.tracks.right is_right in
          let begun = (c.in_ok-by.ensures.begun told told_right tree other o p t u at bt).reductions in
          let are = differ_behind c.args.tracks.leaving c.args.tracks.divisors.left c.args.tracks.divisors.right c.args.tracks.place by file right_file left right tree other t u info other_info (c.in_ok-by.ensures.pairing info other_info there there_right) o p at bt there there_right begun 0 0 1 in
          subst (TakesFront before now) are (grows_front _ _ _ _ h.grows);
    }

pub returns-in_err-found-clause-unchanged : goal.returns-in_err-found-clause-unchanged
returns-in_err-found-clause-unchanged g c told told_right tree other o p t u at bt =
    let i = c.loop-number.invariant in
    let file = g.S.Store.file c.args.left.now in
    let right_file = g.T.Store.file c.args.right.now in
    let left = c.args.tracks.movies.now.left in
    let right = c.args.tracks.movies.now.right in
    let by = c.in_ok-by.by in
    let before = g.D.Differences.taken c.args.seen.now in
    let now = g.D.Differences.taken c.loop-number.seen in
    let passed = c.pass_same-passed in
    let number = c.loop-number.number + passed.result.count in
    let h = pairs_pass by file tree t left right_file other u right before c.args.steps.now.passed c.loop-number.number
    passed.result.count c.loop-number.sides.left passed.new.sides.left c.loop-number.sides.right passed.new.sides.right now c.loop-number.steps.passed passed.new.steps.passed
    o p (i.shows told) (i.shows_right told_right) passed.ensures.passed (i.going told told_right tree other o p t u at bt) in
    let info = c.index-tracks-place.result in
    let other_info = c.index-tracks-place-2.result in
    let is : info ≡ slice_index_or left.tracks c.args.tracks.place info = search rules in
    let is_right : other_info ≡ slice_index_or right.tracks c.args.tracks.place other_info = search rules in
    let there = at_place left.tracks c.args.tracks.place info c.requires.tracks.left is in
    let there_right = at_place right.tracks c.args.tracks.place other_info c.requires.tracks.right is_right in
    let e = err_from_is_err_and c.from_residual-in_err-found.result c.from_residual-in_err-found.ensures.1 in
    let lt : number < info.samples = search rules in
    let lt_right : number < other_info.samples = search rules in
    rw (e.1, e.2) ((rw (i.honesty, i.file, i.honesty_right, i.file_right) at c.in_err-found.ensures.unchanged) told told_right tree other o p t u _ _ h.comes h.comes_right
    (rest_lies file left tree t c.args.tracks.place number info o at there lt) (rest_lies right_file right other u c.args.tracks.place number other_info p bt there_right lt_right))

pub returns-in_err-found-clause-work : goal.returns-in_err-found-clause-work
returns-in_err-found-clause-work g c told told_right tree other o p t u at bt =
    let i = c.loop-number.invariant in
    let file = g.S.Store.file c.args.left.now in
    let right_file = g.T.Store.file c.args.right.now in
    let left = c.args.tracks.movies.now.left in
    let right = c.args.tracks.movies.now.right in
    let by = c.in_ok-by.by in
    let before = g.D.Differences.taken c.args.seen.now in
    let now = g.D.Differences.taken c.loop-number.seen in
    let passed = c.pass_same-passed in
    let number = c.loop-number.number + passed.result.count in
    let h = pairs_pass by file tree t left right_file other u right before c.args.steps.now.passed c.loop-number.number
    passed.result.count c.loop-number.sides.left passed.new.sides.left c.loop-number.sides.right passed.new.sides.right now c.loop-number.steps.passed passed.new.steps.passed
    o p (i.shows told) (i.shows_right told_right) passed.ensures.passed (i.going told told_right tree other o p t u at bt) in
    let w = passed.new.sides.left.walk in
    let v = passed.new.sides.right.walk in
    let e = err_from_is_err_and c.from_residual-in_err-found.result c.from_residual-in_err-found.ensures.1 in
    pairs_most by file tree t left right_file other u right before c.args.steps.now.passed number w v now passed.new.steps.passed c.compare_pair.new.steps.passed h
    (λ q r hx hy. (rw (i.honesty, i.file, i.honesty_right, i.file_right) at c.in_err-found.ensures.work) told told_right tree other o p t u q r hx hy)

pub returns-then-not-hand_over-clause-handed : goal.returns-then-not-hand_over-clause-handed
returns-then-not-hand_over-clause-handed g c =
    record {
      goes = search rules;
      all = search rules;
      front = λ told told_right tree other o p t u at bt.
          let i = c.loop-number.invariant in
          let file = g.S.Store.file c.args.left.now in
          let right_file = g.T.Store.file c.args.right.now in
          let left = c.args.tracks.movies.now.left in
          let right = c.args.tracks.movies.now.right in
          let by = c.in_ok-by.by in
          let before = g.D.Differences.taken c.args.seen.now in
          let now = g.D.Differences.taken c.loop-number.seen in
          let passed = c.pass_same-passed in
          let number = c.loop-number.number + passed.result.count in
          let h = pairs_pass by file tree t left right_file other u right before c.args.steps.now.passed c.loop-number.number
          passed.result.count c.loop-number.sides.left passed.new.sides.left c.loop-number.sides.right passed.new.sides.right now c.loop-number.steps.passed passed.new.steps.passed
          o p (i.shows told) (i.shows_right told_right) passed.ensures.passed (i.going told told_right tree other o p t u at bt) in
          let w = passed.new.sides.left.walk in
          let v = passed.new.sides.right.walk in
          let info = c.index-tracks-place.result in
          let other_info = c.index-tracks-place-2.result in
          let is : info ≡ slice_index_or left.tracks c.args.tracks.place info = search rules in
          let is_right : other_info ≡ slice_index_or right.tracks c.args.tracks.place other_info = search rules in
          let there = at_place left.tracks c.args.tracks.place info c.requires.tracks.left is in
          let there_right = at_place right.tracks c.args.tracks.place other_info c.requires.tracks.right is_right in
          let begun = (c.in_ok-by.ensures.begun told told_right tree other o p t u at bt).reductions in
          let are = differ_behind c.args.tracks.leaving c.args.tracks.divisors.left c.args.tracks.divisors.right c.args.tracks.place by file right_file left right tree other t u info other_info (c.in_ok-by.ensures.pairing info other_info there there_right) o p at bt there there_right begun 0 0 1 in
          subst (TakesFront before (g.D.Differences.taken c.hand_over.new.seen)) are
          (pairs_stop by file tree t left right_file other u right before c.args.steps.now.passed number w v c.compare_pair.new.sides.left.walk c.compare_pair.new.sides.right.walk now
          (g.D.Differences.taken c.hand_over.new.seen) c.in_ok-found.found.differences.items passed.new.steps.passed h
          ((rw (i.honesty, i.file, i.honesty_right, i.file_right) at c.in_ok-found.ensures.found) told told_right tree other o p t u _ _ h.comes h.comes_right) (rw c.as_slice.ensures.value at c.hand_over.ensures.front));
    }

pub returns-then-not-hand_over-clause-work : goal.returns-then-not-hand_over-clause-work
returns-then-not-hand_over-clause-work g c told told_right tree other o p t u at bt =
    let i = c.loop-number.invariant in
    let file = g.S.Store.file c.args.left.now in
    let right_file = g.T.Store.file c.args.right.now in
    let left = c.args.tracks.movies.now.left in
    let right = c.args.tracks.movies.now.right in
    let by = c.in_ok-by.by in
    let before = g.D.Differences.taken c.args.seen.now in
    let now = g.D.Differences.taken c.loop-number.seen in
    let passed = c.pass_same-passed in
    let number = c.loop-number.number + passed.result.count in
    let h = pairs_pass by file tree t left right_file other u right before c.args.steps.now.passed c.loop-number.number
    passed.result.count c.loop-number.sides.left passed.new.sides.left c.loop-number.sides.right passed.new.sides.right now c.loop-number.steps.passed passed.new.steps.passed
    o p (i.shows told) (i.shows_right told_right) passed.ensures.passed (i.going told told_right tree other o p t u at bt) in
    let w = passed.new.sides.left.walk in
    let v = passed.new.sides.right.walk in
    pairs_most by file tree t left right_file other u right before c.args.steps.now.passed number w v now passed.new.steps.passed c.compare_pair.new.steps.passed h
    (λ q r hx hy. both_most file tree t c.compare_pair.new.sides.left.walk right_file other u c.compare_pair.new.sides.right.walk _ passed.new.steps.passed c.compare_pair.new.steps.passed
    ((rw (i.honesty, i.file, i.honesty_right, i.file_right) at c.in_ok-found.ensures.work) told told_right tree other o p t u q r hx hy))

pub returns-then-not-hand_over-clause-timed : goal.returns-then-not-hand_over-clause-timed
returns-then-not-hand_over-clause-timed g c told told_right tree other o p t u at bt before =
    let i = c.loop-number.invariant in
    let file = g.S.Store.file c.args.left.now in
    let right_file = g.T.Store.file c.args.right.now in
    let left = c.args.tracks.movies.now.left in
    let right = c.args.tracks.movies.now.right in
    let by = c.in_ok-by.by in
    let now = g.D.Differences.taken c.loop-number.seen in
    let passed = c.pass_same-passed in
    let number = c.loop-number.number + passed.result.count in
    let h = pairs_pass by file tree t left right_file other u right (g.D.Differences.taken c.args.seen.now) c.args.steps.now.passed c.loop-number.number
    passed.result.count c.loop-number.sides.left passed.new.sides.left c.loop-number.sides.right passed.new.sides.right now c.loop-number.steps.passed passed.new.steps.passed
    o p (i.shows told) (i.shows_right told_right) passed.ensures.passed (i.going told told_right tree other o p t u at bt) in
    let info = c.index-tracks-place.result in
    let other_info = c.index-tracks-place-2.result in
    let is : info ≡ slice_index_or left.tracks c.args.tracks.place info = search rules in
    let is_right : other_info ≡ slice_index_or right.tracks c.args.tracks.place other_info = search rules in
    let there = at_place left.tracks c.args.tracks.place info c.requires.tracks.left is in
    let there_right = at_place right.tracks c.args.tracks.place other_info c.requires.tracks.right is_right in
    let lt : number < info.samples = search rules in
    let taken = (rw (i.honesty, i.file, i.honesty_right, i.file_right) at c.in_ok-found.ensures.found) told told_right tree other o p t u _ _ h.comes h.comes_right in
    let due_then = (rw (i.honesty, i.file, i.honesty_right, i.file_right) at c.in_ok-found.ensures.time) told told_right tree other o p t u _ _ h.comes h.comes_right in
    (rw c.as_slice.ensures.value at c.hand_over.ensures.timed) (presentation_of file tree)
    (pair_timed file left tree t c.args.tracks.place info o at there by right_file number c.in_ok-found.found.time taken.0 taken.1 c.in_ok-found.found.differences.items (c.in_ok-by.ensures.pairing info other_info there there_right).number lt taken.4 due_then)
    (i.timed told told_right tree other o p t u at bt before)

pub returns-clause-handed : goal.returns-clause-handed
returns-clause-handed g c =
    record {
      goes = search rules;
      all = λ whole told told_right tree other o p t u at bt.
          let i = c.loop-number.invariant in
          let file = g.S.Store.file c.args.left.now in
          let right_file = g.T.Store.file c.args.right.now in
          let left = c.args.tracks.movies.now.left in
          let right = c.args.tracks.movies.now.right in
          let by = c.in_ok-by.by in
          let h = i.going told told_right tree other o p t u at bt in
          let before = g.D.Differences.taken c.args.seen.now in
          let now = g.D.Differences.taken c.loop-number.seen in
          let w = c.loop-number.sides.left.walk in
          let v = c.loop-number.sides.right.walk in
          let info = c.index-tracks-place.result in
          let other_info = c.index-tracks-place-2.result in
          let is : info ≡ slice_index_or left.tracks c.args.tracks.place info = search rules in
          let is_right : other_info ≡ slice_index_or right.tracks c.args.tracks.place other_info = search rules in
          let there = at_place left.tracks c.args.tracks.place info c.requires.tracks.left is in
          let there_right = at_place right.tracks c.args.tracks.place other_info c.requires.tracks.right is_right in
          let begun = (c.in_ok-by.ensures.begun told told_right tree other o p t u at bt).reductions in
          let are = differ_behind c.args.tracks.leaving c.args.tracks.divisors.left c.args.tracks.divisors.right c.args.tracks.place by file right_file left right tree other t u info other_info (c.in_ok-by.ensures.pairing info other_info there there_right) o p at bt there there_right begun 0 0 1 in
          let le : min info.samples other_info.samples ≤ c.loop-number.number = search rules in
          pairs_all by file tree t left right_file other u right before c.args.steps.now.passed c.loop-number.number w v now c.loop-number.steps.passed h
          (min_over info.samples other_info.samples _ _ c.loop-number.number (count_is file left tree t c.args.tracks.place info o at there) (count_is right_file right other u c.args.tracks.place other_info p bt there_right) le)
          ∙ ap (λ (ds : List Difference). before ++ ds) are;
      front = λ told told_right tree other o p t u at bt.
          let i = c.loop-number.invariant in
          let file = g.S.Store.file c.args.left.now in
          let right_file = g.T.Store.file c.args.right.now in
          let left = c.args.tracks.movies.now.left in
          let right = c.args.tracks.movies.now.right in
          let by = c.in_ok-by.by in
          let h = i.going told told_right tree other o p t u at bt in
          let before = g.D.Differences.taken c.args.seen.now in
          let now = g.D.Differences.taken c.loop-number.seen in
          let info = c.index-tracks-place.result in
          let other_info = c.index-tracks-place-2.result in
          let is : info ≡ slice_index_or left.tracks c.args.tracks.place info = search rules in
          let is_right : other_info ≡ slice_index_or right.tracks c.args.tracks.place other_info = search rules in
          let there = at_place left.tracks c.args.tracks.place info c.requires.tracks.left is in
          let there_right = at_place right.tracks c.args.tracks.place other_info c.requires.tracks.right is_right in
          let begun = (c.in_ok-by.ensures.begun told told_right tree other o p t u at bt).reductions in
          let are = differ_behind c.args.tracks.leaving c.args.tracks.divisors.left c.args.tracks.divisors.right c.args.tracks.place by file right_file left right tree other t u info other_info (c.in_ok-by.ensures.pairing info other_info there there_right) o p at bt there there_right begun 0 0 1 in
          subst (TakesFront before now) are (grows_front _ _ _ _ h.grows);
    }

pub returns-clause-work : goal.returns-clause-work
returns-clause-work g c told told_right tree other o p t u at bt =
    let i = c.loop-number.invariant in
    let file = g.S.Store.file c.args.left.now in
    let right_file = g.T.Store.file c.args.right.now in
    let left = c.args.tracks.movies.now.left in
    let right = c.args.tracks.movies.now.right in
    let by = c.in_ok-by.by in
    let h = i.going told told_right tree other o p t u at bt in
    let before = g.D.Differences.taken c.args.seen.now in
    let now = g.D.Differences.taken c.loop-number.seen in
    let w = c.loop-number.sides.left.walk in
    let v = c.loop-number.sides.right.walk in
    pairs_work by file tree t left right_file other u right before c.args.steps.now.passed c.loop-number.number w v now c.loop-number.steps.passed h
