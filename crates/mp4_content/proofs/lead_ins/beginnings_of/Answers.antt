use Rattle.std.proofs.Common.{rules, arith, true, false, ◌≡◌, ◌<◌, ◌≤◌, List, Some, length, subst, ◌∙◌}
use Rattle.std.proofs.lemmas.Result.{err_from_is_err_and}
use Rattle.mp4_boxes.proofs.Plain.{get_map, length_mapped, length_zip, take_everything}
use Rattle.mp4_present.specs.format.Denotes.{file_parts, presentation_of, track_of}
use Rattle.mp4_present.specs.format.Presentation.{Track}
use Rattle.mp4_present.specs.words.OpenedMovie.{IsInfoOf}
use Rattle.mp4_content.specs.format.LeadIns.{says_more}
use Rattle.mp4_content.specs.format.ReducedLaws.{nothing}
use Rattle.mp4_content.specs.words.Delays.{SayBeginnings}
use Rattle.mp4_content.proofs.MeasuredTracks.{is_at, steps_more, steps_within}
use Rattle.mp4_content.proofs.TrackDivisors.{edits_there}
use Rattle.mp4_content.proofs.TracksBegin.{all_behind, begin_more, info_at, more_found, more_there}
use Rattle.mp4_content.proofs.lead_ins.beginnings_of.Goals as goal

pub returns-then-says_more-clause-beginnings : goal.returns-then-says_more-clause-beginnings
returns-then-says_more-clause-beginnings g c told tree o same =
    let file = g.S.Store.file c.args.store.now in
    let m = c.args.movie.now in
    let k = c.loop-track.track in
    let lt : k < length m.tracks = search rules in
    let a = is_at nothing file m tree o k lt in
    let info = c.index-tracks-track.result in
    let edits = edits_there c.args.heads.now tree.movie.tracks k a.t c.edits_at-edits.result.now same a.is_tree c.edits_at-edits.ensures in
    let are = info_at file m tree k a.t info o lt a.is_tree (rw c.tracks-in-loop-track.ensures at c.index-tracks-track.is) in
    let more : says_more (track_of file (file_parts tree) a.t) ≡ true = more_found file tree a.t info _ c.says_more.result true are edits c.says_more.ensures c.if-says_more.true in
    more_there (presentation_of file tree).tracks k (track_of file (file_parts tree) a.t) (get_map (track_of file (file_parts tree)) tree.movie.tracks k a.t a.is_tree) more

pub returns-then-says_more-clause-work : goal.returns-then-says_more-clause-work
returns-then-says_more-clause-work g c told tree o = steps_within nothing (g.S.Store.file c.args.store.now) c.args.movie.now tree o c.loop-track.track _ _ (c.loop-track.invariant.work told tree o)

pub returns-in_err-first_beginning-clause-unchanged :
    goal.returns-in_err-first_beginning-clause-unchanged
returns-in_err-first_beginning-clause-unchanged g c told tree o =
    let p = err_from_is_err_and c.from_residual-in_err-first_beginning.result c.from_residual-in_err-first_beginning.ensures.1 in
    let i = c.loop-track.invariant in
    let lt : c.loop-track.track < length c.args.movie.now.tracks = search rules in
    let a = is_at nothing (g.S.Store.file c.args.store.now) c.args.movie.now tree o c.loop-track.track lt in
    rw (p.1, p.2) ((rw (i.honesty, i.file) at c.in_err-first_beginning.ensures.unchanged) told tree a.t o a.is_tree)

pub returns-in_err-first_beginning-clause-work : goal.returns-in_err-first_beginning-clause-work
returns-in_err-first_beginning-clause-work g c told tree o =
    let i = c.loop-track.invariant in
    let file = g.S.Store.file c.args.store.now in
    let m = c.args.movie.now in
    let k = c.loop-track.track in
    let lt : k < length m.tracks = search rules in
    let a = is_at nothing file m tree o k lt in
    steps_within nothing file m tree o _ _ _ (steps_more nothing file m tree o k _ _ _ a (i.work told tree o) ((rw (i.honesty, i.file) at c.in_err-first_beginning.ensures.work) told tree a.t o a.is_tree))

pub returns-in_err-push-clause-work : goal.returns-in_err-push-clause-work
returns-in_err-push-clause-work g c told tree o =
    let i = c.loop-track.invariant in
    let file = g.S.Store.file c.args.store.now in
    let m = c.args.movie.now in
    let k = c.loop-track.track in
    let lt : k < length m.tracks = search rules in
    let a = is_at nothing file m tree o k lt in
    steps_within nothing file m tree o _ _ _ (steps_more nothing file m tree o k _ _ _ a (i.work told tree o) ((rw (i.honesty, i.file) at c.in_ok-first_beginning.ensures.work) told tree a.t o a.is_tree))

pub loop-track-preserved : goal.loop-track-preserved
loop-track-preserved g c =
    let i = c.loop-track.invariant in
    let e = c.in_ok-first_beginning.ensures in
    let m = c.args.movie.now in
    let k = c.loop-track.track in
    let file = g.S.Store.file c.args.store.now in
    let lt : k < length m.tracks = search rules in
    let before = i.grows in
    let more = e.grows in
    record {
      many = search rules;
      can = rw c.in_ok-push.ensures.items (all_behind c.loop-track.found.items _ i.can e.can);
      honesty = e.store.honesty ∙ i.honesty;
      file = e.store.file ∙ i.file;
      reads = e.store.reads ∙ i.reads;
      looks = e.looks ∙ i.looks;
      grows = omega (arith, before, more);
      begin = λ told tree o same.
          let a = is_at nothing file m tree o k lt in
          let info = c.index-tracks-track.result in
          let edits = edits_there c.args.heads.now tree.movie.tracks k a.t c.edits_at-edits.result.now same a.is_tree c.edits_at-edits.ensures in
          let are = info_at file m tree k a.t info o lt a.is_tree (rw c.tracks-in-loop-track.ensures at c.index-tracks-track.is) in
          let no_more : says_more (track_of file (file_parts tree) a.t) ≡ false = more_found file tree a.t info _ c.says_more.result false are edits c.says_more.ensures c.if-says_more.false in
          let one = (rw (i.honesty, i.file) at e.beginning) told tree a.t o a.is_tree edits in
          rw c.in_ok-push.ensures.items
          (begin_more (presentation_of file tree).tracks k (track_of file (file_parts tree) a.t) c.loop-track.found.items _ (get_map (track_of file (file_parts tree)) tree.movie.tracks k a.t a.is_tree) (i.begin told tree o same) no_more one);
      work = λ told tree o.
          let a = is_at nothing file m tree o k lt in
          steps_more nothing file m tree o k _ _ _ a (i.work told tree o) ((rw (i.honesty, i.file) at e.work) told tree a.t o a.is_tree);
    }

pub returns-clause-beginnings : goal.returns-clause-beginnings
returns-clause-beginnings g c told tree o same =
    let file = g.S.Store.file c.args.store.now in
    let m = c.args.movie.now in
    let k = c.loop-track.track in
    let many = length_zip (IsInfoOf file tree) tree.movie.tracks m.tracks o.tracks in
    let as_many = length_mapped (track_of file (file_parts tree)) tree.movie.tracks in
    let le : length m.tracks ≤ k = search rules in
    subst (λ (ts : List Track). SayBeginnings ts (Some c.loop-track.found.items)) (take_everything (presentation_of file tree).tracks k (omega (arith, many, as_many, le))) (c.loop-track.invariant.begin told tree o same)

pub returns-clause-work : goal.returns-clause-work
returns-clause-work g c told tree o = steps_within nothing (g.S.Store.file c.args.store.now) c.args.movie.now tree o c.loop-track.track _ _ (c.loop-track.invariant.work told tree o)
