use Rattle.std.proofs.Common.{rules, List, Option, ◌≡◌, length, map, arith, ap, sym, subst, ◌∙◌}
use Rattle.std.proofs.lemmas.List.{with_items_is}
use Rattle.std.proofs.lemmas.Result.{err_from_is_err_and}
use Rattle.mp4_tables.specs.declared.sample.SampleAt.{SampleAt}
use Rattle.mp4_present.specs.words.WalkSteps.{walks_steps}
use Rattle.mp4_content.specs.words.ComingLess.{left_samples}
use Rattle.mp4_plan.specs.words.DueTracks.{IsDueAt}
use Rattle.mp4_content.specs.words.Contents.{tracks_left}
use Rattle.mp4_plan.proofs.InfosLeft.{tracks_many, tracks_samples}
use Rattle.mp4_plan.proofs.StepsOn.{all_within}
use Rattle.mp4_plan.proofs.plan_walks.PlanWalks.begin.Goals as goal

pub returns-clause-begins : goal.returns-clause-begins
returns-clause-begins g c =
    let m = c.args.movie.now in
    let walks = c.in_ok-walks.walks in
    let nexts = c.in_ok-nexts.nexts in
    let e = c.in_ok-peek_each.ensures in
    let before = c.in_ok-walks.ensures.walks.walks.count in
    let same = with_items_is walks c.peek_each.new.walks (e.walks.walks.count ∙ sym before ∙ sym walks.ok.0) in
    let many : length c.peek_each.new.nexts ≡ nexts.len = search rules in
    let noted = with_items_is nexts c.peek_each.new.nexts many in
    let l = c.args.content.now.leaving in
    let tracks = c.tracks-tracks.ensures ∙ c.requires.content.tracks in
    let s = rw tracks at c.new-schedule.ensures in
    record {
      walks = rw same e.walks.walks;
      nexts = (let long = ap length noted in let each : length c.peek_each.new.nexts ≡ length c.tracks-tracks.result.now = search rules in long ∙ each ∙ ap length tracks ∙ tracks_many l c.args.content.now.scales.tracks.items m.tracks);
      schedule = record { tracks = s.tracks ∙ tracks_many l c.args.content.now.scales.tracks.items m.tracks; first = s.first; left = s.left ∙ tracks_samples l c.args.content.now.scales.tracks.items m.tracks; track = s.starts.0; next = s.starts.2 };
      due = subst (λ (xs : List (Option SampleAt)). IsDueAt (tracks_left l c.args.content.now.scales.tracks.items m.tracks) xs c.new-schedule.result c.begin.new.due) c.as_slice-2.ensures.value (rw tracks at c.begin.ensures);
    }

pub returns-clause-first : goal.returns-clause-first
returns-clause-first g c told tree o are by near =
    let m = c.args.movie.now in
    let l = c.args.content.now.leaving in
    let walks = c.in_ok-walks.walks in
    let nexts = c.in_ok-nexts.nexts in
    let e = c.in_ok-peek_each.ensures in
    let before = c.in_ok-walks.ensures.walks.walks.count in
    let same = with_items_is walks c.peek_each.new.walks (e.walks.walks.count ∙ sym before ∙ sym walks.ok.0) in
    let many : length c.peek_each.new.nexts ≡ nexts.len = search rules in
    let noted = with_items_is nexts c.peek_each.new.nexts many in
    let file = g.S.Store.file c.args.store.now in
    let lefts = map (left_samples l file tree) tree.movie.tracks in
    let begin = c.in_ok-walks.ensures.start.begin file tree o l in
    let shown = e.shown told tree o lefts by (rw c.as_mut_slice-all.ensures.value begin) in
    let time = c.first_time-from.ensures lefts (c.as_slice.ensures.value ∙ noted ∙ shown.0) in
    record {
      come = rw same shown.1;
      shown = noted ∙ shown.0;
      from = c.new-schedule.ensures.starts.1 ∙ time;
    }

pub returns-clause-work : goal.returns-clause-work
returns-clause-work g c told tree o =
    let walks = c.in_ok-walks.walks in
    let e = c.in_ok-peek_each.ensures in
    let before = c.in_ok-walks.ensures.walks.walks.count in
    let same = with_items_is walks c.peek_each.new.walks (e.walks.walks.count ∙ sym before ∙ sym walks.ok.0) in
    let begin = c.in_ok-walks.ensures.start.may (g.S.Store.file c.args.store.now) tree o in
    rw same (all_within (g.S.Store.file c.args.store.now) tree c.peek_each.new.walks begin.0 (walks_steps tree) _ _ begin.2 (e.work.0 told tree o begin.0 (rw c.as_mut_slice-all.ensures.value begin.1)))

pub returns-in_err-peek_each-clause-unchanged : goal.returns-in_err-peek_each-clause-unchanged
returns-in_err-peek_each-clause-unchanged g c told tree o are by near =
    let p = err_from_is_err_and c.from_residual-in_err-peek_each.result c.from_residual-in_err-peek_each.ensures.1 in
    let l = c.args.content.now.leaving in
    let begin = c.in_ok-walks.ensures.start.begin (g.S.Store.file c.args.store.now) tree o l in
    rw (p.1, p.2) (c.in_err-peek_each.ensures.unchanged told tree o (map (left_samples l (g.S.Store.file c.args.store.now) tree) tree.movie.tracks) by (rw c.as_mut_slice-all.ensures.value begin))

pub returns-in_err-peek_each-clause-work : goal.returns-in_err-peek_each-clause-work
returns-in_err-peek_each-clause-work g c told tree o =
    let p = err_from_is_err_and c.from_residual-in_err-peek_each.result c.from_residual-in_err-peek_each.ensures.1 in
    let begin = c.in_ok-walks.ensures.start.may (g.S.Store.file c.args.store.now) tree o in
    let most = c.in_err-peek_each.ensures.work.0 told tree o begin.0 (rw c.as_mut_slice-all.ensures.value begin.1) in
    let few = begin.2 in
    rw p.1 (omega (arith, most, few))
