use Rattle.std.proofs.Common.{rules, refl, ◌≡◌, ◌+◌, ◌≤◌, ◌++◌, ◌∙◌, ℕ, List, length, min, sym, subst, arith}
use Rattle.std.specs.Prelude.{IsTrue}
use Rattle.std.proofs.lemmas.Result.{err_from_is_err_and}
use Rattle.mp4_present.specs.words.OpenedMovie.{IsOpenedAs}
use Rattle.mp4_present.specs.words.WalkSteps.{walk_steps}
use Rattle.mp4_content.specs.words.Compared.{TakesFront, tracks_differ}
use Rattle.mp4_present.specs.format.Denotes.{presentation_of}
use Rattle.mp4_content.proofs.TimesTaken.{movie_untimed}
use Rattle.mp4_content.proofs.TracksCompared.{takes_nothing}
use Rattle.mp4_content.proofs.MeasuredTracks.{own_divisor_at}
use Rattle.mp4_content.proofs.RemainingHeads.{says_remaining}
use Rattle.mp4_content.proofs.FilesCompared.{err_if_ok, first_part, of_same, movie_begun, track_at, all_over, files_first, files_next, files_stop, files_most, files_all, files_front, files_work, infos_all, heads_all}
use Rattle.mp4_content.proofs.comparing.compare_scaled.Goals as goal

pub returns-in_err-read-clause-handed : goal.returns-in_err-read-clause-handed
returns-in_err-read-clause-handed g c = record {
  goes = search rules;
  all = search rules;
  front = λ told told_right tree other o p are are_right. takes_nothing (g.D.Differences.taken c.args.seen.now) _;
}

pub returns-in_err-own-clause-handed : goal.returns-in_err-own-clause-handed
returns-in_err-own-clause-handed g c = record {
  goes = search rules;
  all = search rules;
  front = λ told told_right tree other o p are are_right. takes_nothing (g.D.Differences.taken c.args.seen.now) _;
}

pub returns-in_err-head-clause-handed : goal.returns-in_err-head-clause-handed
returns-in_err-head-clause-handed g c = record {
  goes = search rules;
  all = search rules;
  front = λ told told_right tree other o p are are_right. takes_nothing (g.D.Differences.taken c.args.seen.now) _;
}

pub returns-in_err-other_read-clause-handed : goal.returns-in_err-other_read-clause-handed
returns-in_err-other_read-clause-handed g c = record {
  goes = search rules;
  all = search rules;
  front = λ told told_right tree other o p are are_right. takes_nothing (g.D.Differences.taken c.args.seen.now) _;
}

pub returns-in_err-other_own-clause-handed : goal.returns-in_err-other_own-clause-handed
returns-in_err-other_own-clause-handed g c = record {
  goes = search rules;
  all = search rules;
  front = λ told told_right tree other o p are are_right. takes_nothing (g.D.Differences.taken c.args.seen.now) _;
}

pub returns-in_err-other_head-clause-handed : goal.returns-in_err-other_head-clause-handed
returns-in_err-other_head-clause-handed g c = record {
  goes = search rules;
  all = search rules;
  front = λ told told_right tree other o p are are_right. takes_nothing (g.D.Differences.taken c.args.seen.now) _;
}

pub returns-in_err-found-clause-handed : goal.returns-in_err-found-clause-handed
returns-in_err-found-clause-handed g c =
    let e = err_from_is_err_and c.from_residual-in_err-found.result c.from_residual-in_err-found.ensures.1 in
    record {
      goes = err_if_ok _ e.0 _ e.1;
      all = err_if_ok _ e.0 _ e.1;
      front = λ told told_right tree other o p are are_right. takes_nothing (g.D.Differences.taken c.args.seen.now) _;
    }

pub returns-in_err-own-clause-unchanged : goal.returns-in_err-own-clause-unchanged
returns-in_err-own-clause-unchanged g c told told_right tree other o p are are_right =
    let e = err_from_is_err_and c.from_residual-in_err-own.result c.from_residual-in_err-own.ensures.1 in
    rw (e.1, e.2) (λ f. absurd cc)

pub returns-in_err-head-clause-unchanged : goal.returns-in_err-head-clause-unchanged
returns-in_err-head-clause-unchanged g c told told_right tree other o p are are_right =
    let e = err_from_is_err_and c.from_residual-in_err-head.result c.from_residual-in_err-head.ensures.1 in
    rw (e.1, e.2) (λ f. absurd cc)

pub returns-in_err-other_own-clause-unchanged : goal.returns-in_err-other_own-clause-unchanged
returns-in_err-other_own-clause-unchanged g c told told_right tree other o p are are_right =
    let e = err_from_is_err_and c.from_residual-in_err-other_own.result c.from_residual-in_err-other_own.ensures.1 in
    rw (e.1, e.2) (λ f. absurd cc)

pub returns-in_err-other_head-clause-unchanged : goal.returns-in_err-other_head-clause-unchanged
returns-in_err-other_head-clause-unchanged g c told told_right tree other o p are are_right =
    let e = err_from_is_err_and c.from_residual-in_err-other_head.result c.from_residual-in_err-other_head.ensures.1 in
    rw (e.1, e.2) (λ f. absurd cc)

pub returns-in_err-found-clause-unchanged : goal.returns-in_err-found-clause-unchanged
returns-in_err-found-clause-unchanged g c told told_right tree other o p are are_right =
    let e = err_from_is_err_and c.from_residual-in_err-found.result c.from_residual-in_err-found.ensures.1 in
    rw (e.1, e.2) (λ f. absurd cc)

pub returns-then-not-hand_over-clause-handed : goal.returns-then-not-hand_over-clause-handed
returns-then-not-hand_over-clause-handed g c = record {
  goes = search rules;
  all = search rules;
  front = λ told told_right tree other o p are are_right.
      let file = g.S.Store.file c.args.left.now in
      let right_file = g.T.Store.file c.args.right.now in
      let says = says_remaining c.args.by.leaving file tree c.args.movies.now.left c.args.by.scales.now.left c.in_ok-read.read c.in_ok-head.head o are c.in_ok-read.ensures c.in_ok-head.ensures.movie c.in_ok-head.ensures.tracks in
      let other_says = says_remaining c.args.by.leaving right_file other c.args.movies.now.right c.args.by.scales.now.right c.in_ok-other_read.other_read c.in_ok-other_head.other_head p are_right c.in_ok-other_read.ensures c.in_ok-other_head.ensures.movie c.in_ok-other_head.ensures.tracks in
      let begun = movie_begun c.args.by.aligned c.args.by.leaving file right_file tree other c.in_ok-head.head c.in_ok-other_head.other_head says other_says c.in_ok-found.found.items c.in_ok-found.ensures in
      first_part (g.D.Differences.taken c.args.seen.now) (g.D.Differences.taken c.hand_over.new.seen) _ c.in_ok-found.found.items _ begun (rw c.as_slice-3.ensures.value at c.hand_over.ensures.front);
}

pub loop-track-init : goal.loop-track-init
loop-track-init g c = record {
  honesty = refl;
  file = refl;
  reads = refl;
  honesty_right = refl;
  file_right = refl;
  reads_right = refl;
  goes = search rules;
  looks = search rules;
  grows = omega arith;
  going = λ told told_right tree other o p are are_right.
      let file = g.S.Store.file c.args.left.now in
      let right_file = g.T.Store.file c.args.right.now in
      let says = says_remaining c.args.by.leaving file tree c.args.movies.now.left c.args.by.scales.now.left c.in_ok-read.read c.in_ok-head.head o are c.in_ok-read.ensures c.in_ok-head.ensures.movie c.in_ok-head.ensures.tracks in
      let other_says = says_remaining c.args.by.leaving right_file other c.args.movies.now.right c.args.by.scales.now.right c.in_ok-other_read.other_read c.in_ok-other_head.other_head p are_right c.in_ok-other_read.ensures c.in_ok-other_head.ensures.movie c.in_ok-other_head.ensures.tracks in
      let begun = movie_begun c.args.by.aligned c.args.by.leaving file right_file tree other c.in_ok-head.head c.in_ok-other_head.other_head says other_says c.in_ok-found.found.items c.in_ok-found.ensures in
      files_first c.args.by.aligned c.args.by.leaving file tree right_file other (g.D.Differences.taken c.args.seen.now) c.args.steps.now.passed (g.D.Differences.taken c.hand_over.new.seen) c.in_ok-found.found.items begun ((rw c.as_slice-3.ensures.value at c.if-not-hand_over.ensures.all) refl);
  timed = λ told told_right tree other o p are are_right before.
      let file = g.S.Store.file c.args.left.now in
      let untimed = movie_untimed (presentation_of file tree) c.in_ok-head.head c.in_ok-other_head.other_head c.in_ok-found.found.items c.in_ok-found.ensures in
      (rw c.as_slice-3.ensures.value at c.hand_over.ensures.timed) (presentation_of file tree) untimed before;
}

pub returns-in_err-compare_tracks-clause-stores : goal.returns-in_err-compare_tracks-clause-stores
returns-in_err-compare_tracks-clause-stores g c =
    let i = c.loop-track.invariant in
    let s = c.in_err-compare_tracks.ensures.stores in
    let e = err_from_is_err_and c.from_residual-in_err-compare_tracks.result c.from_residual-in_err-compare_tracks.ensures.1 in
    record {
      left = record { honesty = s.left.honesty ∙ i.honesty; file = s.left.file ∙ i.file; reads = err_if_ok _ e.0 _ e.1 };
      right = record { honesty = s.right.honesty ∙ i.honesty_right; file = s.right.file ∙ i.file_right; reads = err_if_ok _ e.0 _ e.1 };
    }

pub returns-in_err-compare_tracks-clause-handed : goal.returns-in_err-compare_tracks-clause-handed
returns-in_err-compare_tracks-clause-handed g c =
    let e = err_from_is_err_and c.from_residual-in_err-compare_tracks.result c.from_residual-in_err-compare_tracks.ensures.1 in
    record {
      goes = err_if_ok _ e.0 _ e.1;
      all = err_if_ok _ e.0 _ e.1;
      front = λ told told_right tree other o p are are_right.
          let i = c.loop-track.invariant in
          let file = g.S.Store.file c.args.left.now in
          let right_file = g.T.Store.file c.args.right.now in
          let before = g.D.Differences.taken c.args.seen.now in
          let now = g.D.Differences.taken c.loop-track.seen in
          let h = i.going told told_right tree other o p are are_right in
          let track = c.loop-track.track in
          let says = says_remaining c.args.by.leaving file tree c.args.movies.now.left c.args.by.scales.now.left c.in_ok-read.read c.in_ok-head.head o are c.in_ok-read.ensures c.in_ok-head.ensures.movie c.in_ok-head.ensures.tracks in
          let other_says = says_remaining c.args.by.leaving right_file other c.args.movies.now.right c.args.by.scales.now.right c.in_ok-other_read.other_read c.in_ok-other_head.other_head p are_right c.in_ok-other_read.ensures c.in_ok-other_head.ensures.movie c.in_ok-other_head.ensures.tracks in
          let t = track_at c.args.by.leaving file tree c.in_ok-head.head says track c.index-first.result.now (search rules) (search rules) in
          let u = track_at c.args.by.leaving right_file other c.in_ok-other_head.other_head other_says track c.index-second.result.now (search rules) (search rules) in
          files_stop c.args.by.aligned c.args.by.leaving file tree right_file other before c.args.steps.now.passed track now c.loop-track.steps.passed h t.0 u.0 t.1 u.1 c.of_tracks.result c.index-first.result.now c.index-second.result.now t.2 u.2 (c.of_tracks.ensures.left
          ∙ own_divisor_at c.args.by.leaving file tree c.args.by.scales.now.left track t.0 are t.1) (c.of_tracks.ensures.right ∙ own_divisor_at c.args.by.leaving right_file other c.args.by.scales.now.right track u.0 are_right u.1) (g.D.Differences.taken c.compare_tracks.new.seen)
          (of_same (λ x y. TakesFront now (g.D.Differences.taken c.compare_tracks.new.seen)
          (tracks_differ c.args.by.aligned c.args.by.leaving c.of_tracks.result (track + 1) c.index-first.result.now x tree t.0 c.index-second.result.now y other u.0)) c.args.movies.now.left c.args.movies.now.right tree other _ _ _ _ _ _ _ _ i.honesty i.file i.honesty_right i.file_right
          (λ q r v w. c.in_err-compare_tracks.ensures.handed.front q r tree other v w t.0 u.0 t.1 u.1) told told_right o p);
    }

pub returns-in_err-compare_tracks-clause-unchanged : goal.returns-in_err-compare_tracks-clause-unchanged
returns-in_err-compare_tracks-clause-unchanged g c told told_right tree other o p are are_right =
    let i = c.loop-track.invariant in
    let file = g.S.Store.file c.args.left.now in
    let right_file = g.T.Store.file c.args.right.now in
    let track = c.loop-track.track in
    let says = says_remaining c.args.by.leaving file tree c.args.movies.now.left c.args.by.scales.now.left c.in_ok-read.read c.in_ok-head.head o are c.in_ok-read.ensures c.in_ok-head.ensures.movie c.in_ok-head.ensures.tracks in
    let other_says = says_remaining c.args.by.leaving right_file other c.args.movies.now.right c.args.by.scales.now.right c.in_ok-other_read.other_read c.in_ok-other_head.other_head p are_right c.in_ok-other_read.ensures c.in_ok-other_head.ensures.movie c.in_ok-other_head.ensures.tracks in
    let t = track_at c.args.by.leaving file tree c.in_ok-head.head says track c.index-first.result.now (search rules) (search rules) in
    let u = track_at c.args.by.leaving right_file other c.in_ok-other_head.other_head other_says track c.index-second.result.now (search rules) (search rules) in
    let e = err_from_is_err_and c.from_residual-in_err-compare_tracks.result c.from_residual-in_err-compare_tracks.ensures.1 in
    rw (e.1, e.2) (c.in_err-compare_tracks.ensures.unchanged (subst IsTrue (sym i.honesty) told) (subst IsTrue (sym i.honesty_right) told_right) tree other
    (subst (λ (x : List ℕ). IsOpenedAs x c.args.movies.now.left tree) (sym i.file) o) (subst (λ (x : List ℕ). IsOpenedAs x c.args.movies.now.right other) (sym i.file_right) p) t.0 u.0 t.1 u.1)

pub returns-in_err-compare_tracks-clause-work : goal.returns-in_err-compare_tracks-clause-work
returns-in_err-compare_tracks-clause-work g c told told_right tree other o p are are_right =
    let i = c.loop-track.invariant in
    let file = g.S.Store.file c.args.left.now in
    let right_file = g.T.Store.file c.args.right.now in
    let before = g.D.Differences.taken c.args.seen.now in
    let now = g.D.Differences.taken c.loop-track.seen in
    let h = i.going told told_right tree other o p are are_right in
    let track = c.loop-track.track in
    let says = says_remaining c.args.by.leaving file tree c.args.movies.now.left c.args.by.scales.now.left c.in_ok-read.read c.in_ok-head.head o are c.in_ok-read.ensures c.in_ok-head.ensures.movie c.in_ok-head.ensures.tracks in
    let other_says = says_remaining c.args.by.leaving right_file other c.args.movies.now.right c.args.by.scales.now.right c.in_ok-other_read.other_read c.in_ok-other_head.other_head p are_right c.in_ok-other_read.ensures c.in_ok-other_head.ensures.movie c.in_ok-other_head.ensures.tracks in
    let t = track_at c.args.by.leaving file tree c.in_ok-head.head says track c.index-first.result.now (search rules) (search rules) in
    let u = track_at c.args.by.leaving right_file other c.in_ok-other_head.other_head other_says track c.index-second.result.now (search rules) (search rules) in
    files_most c.args.by.aligned c.args.by.leaving file tree right_file other before c.args.steps.now.passed track now c.loop-track.steps.passed h t.0 u.0 t.1 u.1 c.compare_tracks.new.steps.passed
    (of_same (λ x y. c.compare_tracks.new.steps.passed ≤ c.loop-track.steps.passed + (walk_steps tree t.0 + walk_steps other u.0)) c.args.movies.now.left c.args.movies.now.right tree other _ _ _ _ _ _ _ _ i.honesty i.file i.honesty_right i.file_right
    (λ q r v w. c.in_err-compare_tracks.ensures.work q r tree other v w t.0 u.0 t.1 u.1) told told_right o p)

pub returns-then-not-branch-clause-handed : goal.returns-then-not-branch-clause-handed
returns-then-not-branch-clause-handed g c = record {
  goes = search rules;
  all = search rules;
  front = λ told told_right tree other o p are are_right.
      let i = c.loop-track.invariant in
      let file = g.S.Store.file c.args.left.now in
      let right_file = g.T.Store.file c.args.right.now in
      let before = g.D.Differences.taken c.args.seen.now in
      let now = g.D.Differences.taken c.loop-track.seen in
      let h = i.going told told_right tree other o p are are_right in
      let track = c.loop-track.track in
      let says = says_remaining c.args.by.leaving file tree c.args.movies.now.left c.args.by.scales.now.left c.in_ok-read.read c.in_ok-head.head o are c.in_ok-read.ensures c.in_ok-head.ensures.movie c.in_ok-head.ensures.tracks in
      let other_says = says_remaining c.args.by.leaving right_file other c.args.movies.now.right c.args.by.scales.now.right c.in_ok-other_read.other_read c.in_ok-other_head.other_head p are_right c.in_ok-other_read.ensures c.in_ok-other_head.ensures.movie c.in_ok-other_head.ensures.tracks in
      let t = track_at c.args.by.leaving file tree c.in_ok-head.head says track c.index-first.result.now (search rules) (search rules) in
      let u = track_at c.args.by.leaving right_file other c.in_ok-other_head.other_head other_says track c.index-second.result.now (search rules) (search rules) in
      files_stop c.args.by.aligned c.args.by.leaving file tree right_file other before c.args.steps.now.passed track now c.loop-track.steps.passed h t.0 u.0 t.1 u.1 c.of_tracks.result c.index-first.result.now c.index-second.result.now t.2 u.2 (c.of_tracks.ensures.left
      ∙ own_divisor_at c.args.by.leaving file tree c.args.by.scales.now.left track t.0 are t.1) (c.of_tracks.ensures.right ∙ own_divisor_at c.args.by.leaving right_file other c.args.by.scales.now.right track u.0 are_right u.1) (g.D.Differences.taken c.compare_tracks.new.seen)
      (of_same (λ x y. TakesFront now (g.D.Differences.taken c.compare_tracks.new.seen)
      (tracks_differ c.args.by.aligned c.args.by.leaving c.of_tracks.result (track + 1) c.index-first.result.now x tree t.0 c.index-second.result.now y other u.0)) c.args.movies.now.left c.args.movies.now.right tree other _ _ _ _ _ _ _ _ i.honesty i.file i.honesty_right i.file_right
      (λ q r v w. c.in_ok-compare_tracks.ensures.handed.front q r tree other v w t.0 u.0 t.1 u.1) told told_right o p);
}

pub returns-then-not-branch-clause-work : goal.returns-then-not-branch-clause-work
returns-then-not-branch-clause-work g c told told_right tree other o p are are_right =
    let i = c.loop-track.invariant in
    let file = g.S.Store.file c.args.left.now in
    let right_file = g.T.Store.file c.args.right.now in
    let before = g.D.Differences.taken c.args.seen.now in
    let now = g.D.Differences.taken c.loop-track.seen in
    let h = i.going told told_right tree other o p are are_right in
    let track = c.loop-track.track in
    let says = says_remaining c.args.by.leaving file tree c.args.movies.now.left c.args.by.scales.now.left c.in_ok-read.read c.in_ok-head.head o are c.in_ok-read.ensures c.in_ok-head.ensures.movie c.in_ok-head.ensures.tracks in
    let other_says = says_remaining c.args.by.leaving right_file other c.args.movies.now.right c.args.by.scales.now.right c.in_ok-other_read.other_read c.in_ok-other_head.other_head p are_right c.in_ok-other_read.ensures c.in_ok-other_head.ensures.movie c.in_ok-other_head.ensures.tracks in
    let t = track_at c.args.by.leaving file tree c.in_ok-head.head says track c.index-first.result.now (search rules) (search rules) in
    let u = track_at c.args.by.leaving right_file other c.in_ok-other_head.other_head other_says track c.index-second.result.now (search rules) (search rules) in
    files_most c.args.by.aligned c.args.by.leaving file tree right_file other before c.args.steps.now.passed track now c.loop-track.steps.passed h t.0 u.0 t.1 u.1 c.compare_tracks.new.steps.passed
    (of_same (λ x y. c.compare_tracks.new.steps.passed ≤ c.loop-track.steps.passed + (walk_steps tree t.0 + walk_steps other u.0)) c.args.movies.now.left c.args.movies.now.right tree other _ _ _ _ _ _ _ _ i.honesty i.file i.honesty_right i.file_right
    (λ q r v w. c.in_ok-compare_tracks.ensures.work q r tree other v w t.0 u.0 t.1 u.1) told told_right o p)

pub loop-track-preserved : goal.loop-track-preserved
loop-track-preserved g c = record {
  honesty = search rules;
  file = search rules;
  reads = search rules;
  honesty_right = search rules;
  file_right = search rules;
  reads_right = search rules;
  goes = search rules;
  looks = search rules;
  grows = let more = c.in_ok-compare_tracks.ensures.grows in omega (arith, more);
  going = λ told told_right tree other o p are are_right.
      let i = c.loop-track.invariant in
      let file = g.S.Store.file c.args.left.now in
      let right_file = g.T.Store.file c.args.right.now in
      let before = g.D.Differences.taken c.args.seen.now in
      let now = g.D.Differences.taken c.loop-track.seen in
      let h = i.going told told_right tree other o p are are_right in
      let track = c.loop-track.track in
      let says = says_remaining c.args.by.leaving file tree c.args.movies.now.left c.args.by.scales.now.left c.in_ok-read.read c.in_ok-head.head o are c.in_ok-read.ensures c.in_ok-head.ensures.movie c.in_ok-head.ensures.tracks in
      let other_says = says_remaining c.args.by.leaving right_file other c.args.movies.now.right c.args.by.scales.now.right c.in_ok-other_read.other_read c.in_ok-other_head.other_head p are_right c.in_ok-other_read.ensures c.in_ok-other_head.ensures.movie c.in_ok-other_head.ensures.tracks in
      let t = track_at c.args.by.leaving file tree c.in_ok-head.head says track c.index-first.result.now (search rules) (search rules) in
      let u = track_at c.args.by.leaving right_file other c.in_ok-other_head.other_head other_says track c.index-second.result.now (search rules) (search rules) in
      files_next c.args.by.aligned c.args.by.leaving file tree right_file other before c.args.steps.now.passed track now c.loop-track.steps.passed h t.0 u.0 t.1 u.1 c.of_tracks.result c.index-first.result.now c.index-second.result.now t.2 u.2 (c.of_tracks.ensures.left
      ∙ own_divisor_at c.args.by.leaving file tree c.args.by.scales.now.left track t.0 are t.1) (c.of_tracks.ensures.right ∙ own_divisor_at c.args.by.leaving right_file other c.args.by.scales.now.right track u.0 are_right u.1)
      (g.D.Differences.taken c.compare_tracks.new.seen) c.compare_tracks.new.steps.passed
      (of_same (λ x y. (g.D.Differences.taken c.compare_tracks.new.seen) ≡ now ++ tracks_differ c.args.by.aligned c.args.by.leaving c.of_tracks.result
      (track + 1) c.index-first.result.now x tree t.0 c.index-second.result.now y other u.0) c.args.movies.now.left c.args.movies.now.right tree other _ _ _ _ _ _ _ _ i.honesty i.file i.honesty_right i.file_right
      (λ q r v w. c.in_ok-compare_tracks.ensures.handed.all c.if-not-branch.false q r tree other v w t.0 u.0 t.1 u.1) told told_right o p)
      (of_same (λ x y. c.compare_tracks.new.steps.passed ≤ c.loop-track.steps.passed + (walk_steps tree t.0 + walk_steps other u.0)) c.args.movies.now.left c.args.movies.now.right tree other _ _ _ _ _ _ _ _ i.honesty i.file i.honesty_right i.file_right
      (λ q r v w. c.in_ok-compare_tracks.ensures.work q r tree other v w t.0 u.0 t.1 u.1) told told_right o p);
  timed = λ told told_right tree other o p are are_right before.
      let i = c.loop-track.invariant in
      let file = g.S.Store.file c.args.left.now in
      let right_file = g.T.Store.file c.args.right.now in
      let track = c.loop-track.track in
      let says = says_remaining c.args.by.leaving file tree c.args.movies.now.left c.args.by.scales.now.left c.in_ok-read.read c.in_ok-head.head o are c.in_ok-read.ensures c.in_ok-head.ensures.movie c.in_ok-head.ensures.tracks in
      let other_says = says_remaining c.args.by.leaving right_file other c.args.movies.now.right c.args.by.scales.now.right c.in_ok-other_read.other_read c.in_ok-other_head.other_head p are_right c.in_ok-other_read.ensures c.in_ok-other_head.ensures.movie c.in_ok-other_head.ensures.tracks in
      let t = track_at c.args.by.leaving file tree c.in_ok-head.head says track c.index-first.result.now (search rules) (search rules) in
      let u = track_at c.args.by.leaving right_file other c.in_ok-other_head.other_head other_says track c.index-second.result.now (search rules) (search rules) in
      (rw (i.honesty, i.file, i.honesty_right, i.file_right) at c.in_ok-compare_tracks.ensures.timed) told told_right tree other o p t.0 u.0 t.1 u.1 (i.timed told told_right tree other o p are are_right before);
}

pub returns-clause-handed : goal.returns-clause-handed
returns-clause-handed g c = record {
  goes = search rules;
  all = λ whole told told_right tree other o p are are_right.
      let i = c.loop-track.invariant in
      let file = g.S.Store.file c.args.left.now in
      let right_file = g.T.Store.file c.args.right.now in
      let before = g.D.Differences.taken c.args.seen.now in
      let now = g.D.Differences.taken c.loop-track.seen in
      let h = i.going told told_right tree other o p are are_right in
      let says = says_remaining c.args.by.leaving file tree c.args.movies.now.left c.args.by.scales.now.left c.in_ok-read.read c.in_ok-head.head o are c.in_ok-read.ensures c.in_ok-head.ensures.movie c.in_ok-head.ensures.tracks in
      let other_says = says_remaining c.args.by.leaving right_file other c.args.movies.now.right c.args.by.scales.now.right c.in_ok-other_read.other_read c.in_ok-other_head.other_head p are_right c.in_ok-other_read.ensures c.in_ok-other_head.ensures.movie c.in_ok-other_head.ensures.tracks in
      let le : min (min (min (length c.args.movies.now.left.tracks) (length c.args.movies.now.right.tracks)) (length c.in_ok-head.head.tracks.items)) (length c.in_ok-other_head.other_head.tracks.items) ≤ c.loop-track.track = search rules in
      files_all c.args.by.aligned c.args.by.leaving file tree right_file other before c.args.steps.now.passed c.loop-track.track now c.loop-track.steps.passed h
      (all_over _ _ _ _ _ _ c.loop-track.track (infos_all file c.args.movies.now.left tree o) (infos_all right_file c.args.movies.now.right other p) (heads_all c.args.by.leaving file tree c.in_ok-head.head says)
      (heads_all c.args.by.leaving right_file other c.in_ok-other_head.other_head other_says) le);
  front = λ told told_right tree other o p are are_right.
      let i = c.loop-track.invariant in
      let file = g.S.Store.file c.args.left.now in
      let right_file = g.T.Store.file c.args.right.now in
      let before = g.D.Differences.taken c.args.seen.now in
      let now = g.D.Differences.taken c.loop-track.seen in
      let h = i.going told told_right tree other o p are are_right in
      files_front c.args.by.aligned c.args.by.leaving file tree right_file other before c.args.steps.now.passed c.loop-track.track now c.loop-track.steps.passed h;
}

pub returns-clause-work : goal.returns-clause-work
returns-clause-work g c told told_right tree other o p are are_right =
    let i = c.loop-track.invariant in
    let file = g.S.Store.file c.args.left.now in
    let right_file = g.T.Store.file c.args.right.now in
    let before = g.D.Differences.taken c.args.seen.now in
    let now = g.D.Differences.taken c.loop-track.seen in
    let h = i.going told told_right tree other o p are are_right in
    files_work c.args.by.aligned c.args.by.leaving file tree right_file other before c.args.steps.now.passed c.loop-track.track now c.loop-track.steps.passed h

pub returns-then-not-hand_over-clause-timed : goal.returns-then-not-hand_over-clause-timed
returns-then-not-hand_over-clause-timed g c told told_right tree other o p are are_right before =
    let file = g.S.Store.file c.args.left.now in
    let untimed = movie_untimed (presentation_of file tree) c.in_ok-head.head c.in_ok-other_head.other_head c.in_ok-found.found.items c.in_ok-found.ensures in
    (rw c.as_slice-3.ensures.value at c.hand_over.ensures.timed) (presentation_of file tree) untimed before

pub returns-in_err-compare_tracks-clause-timed : goal.returns-in_err-compare_tracks-clause-timed
returns-in_err-compare_tracks-clause-timed g c told told_right tree other o p are are_right before =
    let i = c.loop-track.invariant in
    let file = g.S.Store.file c.args.left.now in
    let right_file = g.T.Store.file c.args.right.now in
    let track = c.loop-track.track in
    let says = says_remaining c.args.by.leaving file tree c.args.movies.now.left c.args.by.scales.now.left c.in_ok-read.read c.in_ok-head.head o are c.in_ok-read.ensures c.in_ok-head.ensures.movie c.in_ok-head.ensures.tracks in
    let other_says = says_remaining c.args.by.leaving right_file other c.args.movies.now.right c.args.by.scales.now.right c.in_ok-other_read.other_read c.in_ok-other_head.other_head p are_right c.in_ok-other_read.ensures c.in_ok-other_head.ensures.movie c.in_ok-other_head.ensures.tracks in
    let t = track_at c.args.by.leaving file tree c.in_ok-head.head says track c.index-first.result.now (search rules) (search rules) in
    let u = track_at c.args.by.leaving right_file other c.in_ok-other_head.other_head other_says track c.index-second.result.now (search rules) (search rules) in
    (rw (i.honesty, i.file, i.honesty_right, i.file_right) at c.in_err-compare_tracks.ensures.timed) told told_right tree other o p t.0 u.0 t.1 u.1 (i.timed told told_right tree other o p are are_right before)

pub returns-then-not-branch-clause-timed : goal.returns-then-not-branch-clause-timed
returns-then-not-branch-clause-timed g c told told_right tree other o p are are_right before =
    let i = c.loop-track.invariant in
    let file = g.S.Store.file c.args.left.now in
    let right_file = g.T.Store.file c.args.right.now in
    let track = c.loop-track.track in
    let says = says_remaining c.args.by.leaving file tree c.args.movies.now.left c.args.by.scales.now.left c.in_ok-read.read c.in_ok-head.head o are c.in_ok-read.ensures c.in_ok-head.ensures.movie c.in_ok-head.ensures.tracks in
    let other_says = says_remaining c.args.by.leaving right_file other c.args.movies.now.right c.args.by.scales.now.right c.in_ok-other_read.other_read c.in_ok-other_head.other_head p are_right c.in_ok-other_read.ensures c.in_ok-other_head.ensures.movie c.in_ok-other_head.ensures.tracks in
    let t = track_at c.args.by.leaving file tree c.in_ok-head.head says track c.index-first.result.now (search rules) (search rules) in
    let u = track_at c.args.by.leaving right_file other c.in_ok-other_head.other_head other_says track c.index-second.result.now (search rules) (search rules) in
    (rw (i.honesty, i.file, i.honesty_right, i.file_right) at c.in_ok-compare_tracks.ensures.timed) told told_right tree other o p t.0 u.0 t.1 u.1 (i.timed told told_right tree other o p are are_right before)
