use Rattle.std.proofs.Common.{rules, refl, ◌≡◌, ◌+◌, List, ◌++◌, slice_index_or, sym, ap, ◌∙◌}
use Rattle.std.proofs.lemmas.List.{append-nil}
use Rattle.mp4_present.proofs.TrafTaken.{at_place}
use Rattle.mp4_present.specs.format.Denotes.{presentation_of}
use Rattle.mp4_content.proofs.TimesTaken.{track_untimed}
use Rattle.mp4_content.proofs.TracksCompared.{takes_nothing}
use Rattle.mp4_content.proofs.FilesCompared.{takes_all, first_part, second_part, both_parts, not_by, skipped_by, track_begun}
use Rattle.mp4_content.specs.declared.comparing.differences.Difference.{Difference}
use Rattle.mp4_content.proofs.comparing.compare_tracks.Goals as goal
use Rattle.mp4_content.proofs.FirstBoxes.{if_ok}

pub returns-in_err-found-clause-handed : goal.returns-in_err-found-clause-handed
returns-in_err-found-clause-handed g c =
    record {
      goes = search rules;
      all = search rules;
      front = λ told told_right tree other o p t u at bt. takes_nothing (g.D.Differences.taken c.args.seen.now) _;
    }

pub returns-then-not-hand_over-clause-handed : goal.returns-then-not-hand_over-clause-handed
returns-then-not-hand_over-clause-handed g c =
    record {
      goes = search rules;
      all = search rules;
      front = λ told told_right tree other o p t u at bt.
          let file = g.S.Store.file c.args.left.now in
          let right_file = g.T.Store.file c.args.right.now in
          let left = c.args.tracks.movies.now.left in
          let right = c.args.tracks.movies.now.right in
          let info = c.index-tracks-place.result in
          let other_info = c.index-tracks-place-2.result in
          let is : info ≡ slice_index_or left.tracks c.args.tracks.place info = search rules in
          let is_right : other_info ≡ slice_index_or right.tracks c.args.tracks.place other_info = search rules in
          let there = at_place left.tracks c.args.tracks.place info c.requires.tracks.left is in
          let there_right = at_place right.tracks c.args.tracks.place other_info c.requires.tracks.right is_right in
          let begun = track_begun c.args.aligned c.args.tracks.leaving c.args.tracks.divisors (c.args.tracks.place + 1) c.args.tracks.place file right_file left right tree other t u info other_info c.args.heads.left.now c.args.heads.right.now o p at bt there there_right c.in_ok-found.found.items
          c.in_ok-found.ensures in
          let before = g.D.Differences.taken c.args.seen.now in
          let mid = g.D.Differences.taken c.hand_over.new.seen in
          first_part before mid _ c.in_ok-found.found.items _ begun (rw c.as_slice.ensures.value at c.hand_over.ensures.front);
    }

pub returns-then-skips_samples-clause-handed : goal.returns-then-skips_samples-clause-handed
returns-then-skips_samples-clause-handed g c =
    record {
      goes = search rules;
      all = λ whole told told_right tree other o p t u at bt.
          let file = g.S.Store.file c.args.left.now in
          let right_file = g.T.Store.file c.args.right.now in
          let left = c.args.tracks.movies.now.left in
          let right = c.args.tracks.movies.now.right in
          let info = c.index-tracks-place.result in
          let other_info = c.index-tracks-place-2.result in
          let is : info ≡ slice_index_or left.tracks c.args.tracks.place info = search rules in
          let is_right : other_info ≡ slice_index_or right.tracks c.args.tracks.place other_info = search rules in
          let there = at_place left.tracks c.args.tracks.place info c.requires.tracks.left is in
          let there_right = at_place right.tracks c.args.tracks.place other_info c.requires.tracks.right is_right in
          let begun = track_begun c.args.aligned c.args.tracks.leaving c.args.tracks.divisors (c.args.tracks.place + 1) c.args.tracks.place file right_file left right tree other t u info other_info c.args.heads.left.now c.args.heads.right.now o p at bt there there_right c.in_ok-found.found.items
          c.in_ok-found.ensures in
          let skipped = begun ∙ ap (λ (ds : List Difference). c.in_ok-found.found.items ++ ds) (skipped_by _ _ (sym c.skips_samples.ensures ∙ c.if-skips_samples.true)) in
          let before = g.D.Differences.taken c.args.seen.now in
          let mid = g.D.Differences.taken c.hand_over.new.seen in
          let handed = (rw c.as_slice.ensures.value at c.if-not-hand_over.ensures.all) refl in
          let whole_is = both_parts before mid mid _ c.in_ok-found.found.items _ skipped handed (sym (append-nil mid)) in
          whole_is;
      front = λ told told_right tree other o p t u at bt.
          let file = g.S.Store.file c.args.left.now in
          let right_file = g.T.Store.file c.args.right.now in
          let left = c.args.tracks.movies.now.left in
          let right = c.args.tracks.movies.now.right in
          let info = c.index-tracks-place.result in
          let other_info = c.index-tracks-place-2.result in
          let is : info ≡ slice_index_or left.tracks c.args.tracks.place info = search rules in
          let is_right : other_info ≡ slice_index_or right.tracks c.args.tracks.place other_info = search rules in
          let there = at_place left.tracks c.args.tracks.place info c.requires.tracks.left is in
          let there_right = at_place right.tracks c.args.tracks.place other_info c.requires.tracks.right is_right in
          let begun = track_begun c.args.aligned c.args.tracks.leaving c.args.tracks.divisors (c.args.tracks.place + 1) c.args.tracks.place file right_file left right tree other t u info other_info c.args.heads.left.now c.args.heads.right.now o p at bt there there_right c.in_ok-found.found.items
          c.in_ok-found.ensures in
          let skipped = begun ∙ ap (λ (ds : List Difference). c.in_ok-found.found.items ++ ds) (skipped_by _ _ (sym c.skips_samples.ensures ∙ c.if-skips_samples.true)) in
          let before = g.D.Differences.taken c.args.seen.now in
          let mid = g.D.Differences.taken c.hand_over.new.seen in
          let handed = (rw c.as_slice.ensures.value at c.if-not-hand_over.ensures.all) refl in
          let whole_is = both_parts before mid mid _ c.in_ok-found.found.items _ skipped handed (sym (append-nil mid)) in
          takes_all before mid _ whole_is;
    }

pub returns-clause-handed : goal.returns-clause-handed
returns-clause-handed g c =
    record {
      goes = c.compare_track_samples.ensures.handed.goes;
      all =
          if_ok _ _ c.compare_track_samples.result (λ all given whole told told_right tree other o p t u at bt.
          let file = g.S.Store.file c.args.left.now in
          let right_file = g.T.Store.file c.args.right.now in
          let left = c.args.tracks.movies.now.left in
          let right = c.args.tracks.movies.now.right in
          let info = c.index-tracks-place.result in
          let other_info = c.index-tracks-place-2.result in
          let is : info ≡ slice_index_or left.tracks c.args.tracks.place info = search rules in
          let is_right : other_info ≡ slice_index_or right.tracks c.args.tracks.place other_info = search rules in
          let there = at_place left.tracks c.args.tracks.place info c.requires.tracks.left is in
          let there_right = at_place right.tracks c.args.tracks.place other_info c.requires.tracks.right is_right in
          let begun = track_begun c.args.aligned c.args.tracks.leaving c.args.tracks.divisors (c.args.tracks.place + 1) c.args.tracks.place file right_file left right tree other t u info other_info c.args.heads.left.now c.args.heads.right.now o p at bt there there_right c.in_ok-found.found.items
          c.in_ok-found.ensures in
          let compared = begun ∙ ap (λ (ds : List Difference). c.in_ok-found.found.items ++ ds) (not_by _ _ (sym c.skips_samples.ensures ∙ c.if-skips_samples.false)) in
          let before = g.D.Differences.taken c.args.seen.now in
          let mid = g.D.Differences.taken c.hand_over.new.seen in
          let next = g.D.Differences.taken c.compare_track_samples.new.seen in
          let handed = (rw c.as_slice.ensures.value at c.if-not-hand_over.ensures.all) refl in
          both_parts before mid next _ c.in_ok-found.found.items _ compared handed (given whole told told_right tree other o p t u at bt))
          c.compare_track_samples.ensures.handed.all;
      front = λ told told_right tree other o p t u at bt.
          let file = g.S.Store.file c.args.left.now in
          let right_file = g.T.Store.file c.args.right.now in
          let left = c.args.tracks.movies.now.left in
          let right = c.args.tracks.movies.now.right in
          let info = c.index-tracks-place.result in
          let other_info = c.index-tracks-place-2.result in
          let is : info ≡ slice_index_or left.tracks c.args.tracks.place info = search rules in
          let is_right : other_info ≡ slice_index_or right.tracks c.args.tracks.place other_info = search rules in
          let there = at_place left.tracks c.args.tracks.place info c.requires.tracks.left is in
          let there_right = at_place right.tracks c.args.tracks.place other_info c.requires.tracks.right is_right in
          let begun = track_begun c.args.aligned c.args.tracks.leaving c.args.tracks.divisors (c.args.tracks.place + 1) c.args.tracks.place file right_file left right tree other t u info other_info c.args.heads.left.now c.args.heads.right.now o p at bt there there_right c.in_ok-found.found.items
          c.in_ok-found.ensures in
          let compared = begun ∙ ap (λ (ds : List Difference). c.in_ok-found.found.items ++ ds) (not_by _ _ (sym c.skips_samples.ensures ∙ c.if-skips_samples.false)) in
          let before = g.D.Differences.taken c.args.seen.now in
          let mid = g.D.Differences.taken c.hand_over.new.seen in
          let next = g.D.Differences.taken c.compare_track_samples.new.seen in
          let handed = (rw c.as_slice.ensures.value at c.if-not-hand_over.ensures.all) refl in
          second_part before mid next _ c.in_ok-found.found.items _ compared handed (c.compare_track_samples.ensures.handed.front told told_right tree other o p t u at bt);
    }

pub returns-then-not-hand_over-clause-timed : goal.returns-then-not-hand_over-clause-timed
returns-then-not-hand_over-clause-timed g c told told_right tree other o p t u at bt before =
    let file = g.S.Store.file c.args.left.now in
    let untimed = track_untimed (presentation_of file tree) c.args.tracks.leaving c.args.tracks.divisors (c.args.tracks.place + 1) c.args.heads.left.now c.args.heads.right.now c.index-tracks-place.result c.index-tracks-place-2.result c.in_ok-found.found.items c.in_ok-found.ensures in
    let heads = (rw c.as_slice.ensures.value at c.hand_over.ensures.timed) (presentation_of file tree) untimed before in
    heads

pub returns-then-skips_samples-clause-timed : goal.returns-then-skips_samples-clause-timed
returns-then-skips_samples-clause-timed g c told told_right tree other o p t u at bt before =
    let file = g.S.Store.file c.args.left.now in
    let untimed = track_untimed (presentation_of file tree) c.args.tracks.leaving c.args.tracks.divisors (c.args.tracks.place + 1) c.args.heads.left.now c.args.heads.right.now c.index-tracks-place.result c.index-tracks-place-2.result c.in_ok-found.found.items c.in_ok-found.ensures in
    let heads = (rw c.as_slice.ensures.value at c.hand_over.ensures.timed) (presentation_of file tree) untimed before in
    heads

pub returns-clause-timed : goal.returns-clause-timed
returns-clause-timed g c told told_right tree other o p t u at bt before =
    let file = g.S.Store.file c.args.left.now in
    let untimed = track_untimed (presentation_of file tree) c.args.tracks.leaving c.args.tracks.divisors (c.args.tracks.place + 1) c.args.heads.left.now c.args.heads.right.now c.index-tracks-place.result c.index-tracks-place-2.result c.in_ok-found.found.items c.in_ok-found.ensures in
    let heads = (rw c.as_slice.ensures.value at c.hand_over.ensures.timed) (presentation_of file tree) untimed before in
    c.compare_track_samples.ensures.timed told told_right tree other o p t u at bt heads
