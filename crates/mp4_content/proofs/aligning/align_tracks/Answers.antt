use Rattle.std.proofs.Common.{rules, refl, ◌≡◌, ◌+◌, slice_index_or}
use Rattle.std.proofs.lemmas.Result.{err_from_is_err_and}
use Rattle.mp4_boxes.proofs.Plain.{get_zip}
use Rattle.mp4_present.specs.format.Denotes.{file_parts, track_of}
use Rattle.mp4_present.specs.words.OpenedMovie.{IsInfoOf}
use Rattle.mp4_present.specs.words.WalkSteps.{walk_steps}
use Rattle.mp4_present.proofs.TrafTaken.{at_place}
use Rattle.mp4_content.proofs.Aligned.{all_same, both_have, pair_is, twice, twice_most}
use Rattle.mp4_content.proofs.aligning.align_tracks.Goals as goal

pub returns-then-has_all-clause-aligned : goal.returns-then-has_all-clause-aligned
returns-then-has_all-clause-aligned g c told told_right tree other o p t u at bt =
    let file = g.S.Store.file c.args.left.now in
    let right_file = g.T.Store.file c.args.right.now in
    let l = c.args.tracks.leaving in
    let place = c.args.tracks.place in
    let m = c.args.tracks.movies.now.left in
    let n = c.args.tracks.movies.now.right in
    let e1 = c.in_ok-front.ensures.stores in
    let info = c.index-tracks-place.result in
    let other_info = c.index-tracks-place-2.result in
    let is : info ≡ slice_index_or m.tracks place info = search rules in
    let is_right : other_info ≡ slice_index_or n.tracks place other_info = search rules in
    let x = get_zip (IsInfoOf file tree) tree.movie.tracks m.tracks place t info o.tracks at (at_place m.tracks place info c.requires.left is) in
    let y = get_zip (IsInfoOf right_file other) other.movie.tracks n.tracks place u other_info p.tracks bt (at_place n.tracks place other_info c.requires.right is_right) in
    let h = c.in_ok-front.ensures.front told told_right tree other o p t u at bt (x.samples, y.samples) in
    let own = track_of file (file_parts tree) t in
    let others = track_of right_file (file_parts other) u in
    let all = c.if-has_all.ensures.all refl in
    all_same l c.args.tracks.divisors (place + 1) info.samples other_info.samples c.in_ok-front.front own others x.samples y.samples h all.0 all.1

pub returns-then-has_all-clause-work : goal.returns-then-has_all-clause-work
returns-then-has_all-clause-work g c told told_right tree other o p t u at bt =
    twice (walk_steps tree t + walk_steps other u) c.args.steps.now.passed c.same_in_front.new.steps.passed (c.in_ok-front.ensures.work told told_right tree other o p t u at bt)

pub returns-in_err-front-clause-work : goal.returns-in_err-front-clause-work
returns-in_err-front-clause-work g c told told_right tree other o p t u at bt =
    twice (walk_steps tree t + walk_steps other u) c.args.steps.now.passed c.same_in_front.new.steps.passed (c.in_err-front.ensures.work told told_right tree other o p t u at bt)

pub returns-in_err-ends-clause-unchanged : goal.returns-in_err-ends-clause-unchanged
returns-in_err-ends-clause-unchanged g c told told_right tree other o p t u at bt =
    let file = g.S.Store.file c.args.left.now in
    let right_file = g.T.Store.file c.args.right.now in
    let l = c.args.tracks.leaving in
    let place = c.args.tracks.place in
    let m = c.args.tracks.movies.now.left in
    let n = c.args.tracks.movies.now.right in
    let e1 = c.in_ok-front.ensures.stores in
    let info = c.index-tracks-place.result in
    let other_info = c.index-tracks-place-2.result in
    let is : info ≡ slice_index_or m.tracks place info = search rules in
    let is_right : other_info ≡ slice_index_or n.tracks place other_info = search rules in
    let x = get_zip (IsInfoOf file tree) tree.movie.tracks m.tracks place t info o.tracks at (at_place m.tracks place info c.requires.left is) in
    let y = get_zip (IsInfoOf right_file other) other.movie.tracks n.tracks place u other_info p.tracks bt (at_place n.tracks place other_info c.requires.right is_right) in
    let h = c.in_ok-front.ensures.front told told_right tree other o p t u at bt (x.samples, y.samples) in
    let own = track_of file (file_parts tree) t in
    let others = track_of right_file (file_parts other) u in
    let e = err_from_is_err_and c.from_residual-in_err-ends.result c.from_residual-in_err-ends.ensures.1 in
    rw (e.1, e.2) ((rw (e1.left.honesty, e1.left.file, e1.right.honesty, e1.right.file) at c.in_err-ends.ensures.unchanged) told told_right tree other o p t u at bt (x.samples, y.samples)
    (both_have l c.args.tracks.divisors (place + 1) info.samples other_info.samples c.in_ok-front.front own others x.samples y.samples h))

pub returns-in_err-ends-clause-work : goal.returns-in_err-ends-clause-work
returns-in_err-ends-clause-work g c told told_right tree other o p t u at bt =
    let e1 = c.in_ok-front.ensures.stores in
    twice_most (walk_steps tree t + walk_steps other u) c.args.steps.now.passed c.same_in_front.new.steps.passed c.compare_ends.new.steps.passed (c.in_ok-front.ensures.work told told_right tree other o p t u at bt)
    ((rw (e1.left.honesty, e1.left.file, e1.right.honesty, e1.right.file) at c.in_err-ends.ensures.work) told told_right tree other o p t u at bt)

pub returns-clause-aligned : goal.returns-clause-aligned
returns-clause-aligned g c told told_right tree other o p t u at bt =
    let file = g.S.Store.file c.args.left.now in
    let right_file = g.T.Store.file c.args.right.now in
    let l = c.args.tracks.leaving in
    let place = c.args.tracks.place in
    let m = c.args.tracks.movies.now.left in
    let n = c.args.tracks.movies.now.right in
    let e1 = c.in_ok-front.ensures.stores in
    let info = c.index-tracks-place.result in
    let other_info = c.index-tracks-place-2.result in
    let is : info ≡ slice_index_or m.tracks place info = search rules in
    let is_right : other_info ≡ slice_index_or n.tracks place other_info = search rules in
    let x = get_zip (IsInfoOf file tree) tree.movie.tracks m.tracks place t info o.tracks at (at_place m.tracks place info c.requires.left is) in
    let y = get_zip (IsInfoOf right_file other) other.movie.tracks n.tracks place u other_info p.tracks bt (at_place n.tracks place other_info c.requires.right is_right) in
    let h = c.in_ok-front.ensures.front told told_right tree other o p t u at bt (x.samples, y.samples) in
    let own = track_of file (file_parts tree) t in
    let others = track_of right_file (file_parts other) u in
    let ends = (rw (e1.left.honesty, e1.left.file, e1.right.honesty, e1.right.file) at c.in_ok-ends.ensures.ends) told told_right tree other o p t u at bt (x.samples, y.samples)
    (both_have l c.args.tracks.divisors (place + 1) info.samples other_info.samples c.in_ok-front.front own others x.samples y.samples h) in
    let some = c.if-has_all.ensures.some refl in
    pair_is l c.args.tracks.divisors (place + 1) info.samples other_info.samples c.in_ok-front.front own others x.samples y.samples h c.in_ok-ends.ends info.timescale other_info.timescale _ some ends x.timescale y.timescale
    refl refl refl c.stretch.ensures.samples c.stretch.ensures.time c.stretch.ensures.timescale c.stretch-2.ensures.samples c.stretch-2.ensures.time c.stretch-2.ensures.timescale

pub returns-clause-work : goal.returns-clause-work
returns-clause-work g c told told_right tree other o p t u at bt =
    let e1 = c.in_ok-front.ensures.stores in
    twice_most (walk_steps tree t + walk_steps other u) c.args.steps.now.passed c.same_in_front.new.steps.passed c.compare_ends.new.steps.passed (c.in_ok-front.ensures.work told told_right tree other o p t u at bt)
    ((rw (e1.left.honesty, e1.left.file, e1.right.honesty, e1.right.file) at c.in_ok-ends.ensures.work) told told_right tree other o p t u at bt)
