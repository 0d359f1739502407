use Rattle.std.proofs.Common.{ℕ, List, rules, ◌<◌, slice_set, length, arith, ap, sym, subst, refl, ◌∙◌, slice_get}
use Rattle.std.proofs.lemmas.Result.{err_from_is_err_and}
use Rattle.std.proofs.lemmas.Option.{slice_get_read}
use Rattle.mp4_present.specs.words.WalkSteps.{walks_steps}
use Rattle.mp4_plan.proofs.AllTake.{one_takes, one_stops}
use Rattle.mp4_content.proofs.AtPlaces.{one_there, read_at}
use Rattle.mp4_plan.proofs.HandsCounted.{piece_size_is}
use Rattle.mp4_plan.proofs.Planning.{reduced_there, walks_set}
use Rattle.mp4_plan.proofs.PlannedTurns.{has_turn, no_more, turn_leads, longest_first, longest_end, longest_next, longest_skips}
use Rattle.mp4_plan.specs.words.Turns.{first_scale, movie_turns, turned}
use Rattle.mp4_content.specs.words.Contents.{tracks_left}
use Rattle.mp4_plan.specs.words.DueTracks.{FindsMore, IsDueAt}
use Rattle.mp4_plan.proofs.LooksOn.{begins_within, looks_on, looks_within}
use Rattle.mp4_plan.proofs.SkippedTurns.{either}
use Rattle.mp4_plan.proofs.StepsOn.{all_taken, all_then, all_then_stop}
use Rattle.mp4_plan.proofs.piece_totals.longest_piece.Goals as goal

pub loop-turn-init : goal.loop-turn-init
loop-turn-init g c =
    let m = c.args.movie.now in
    let l = c.args.content.now.leaving in
    let plan = c.in_ok-plan.plan in
    let e = c.in_ok-plan.ensures in
    let b = e.begins in
    let s = b.schedule in (
      b.walks,
      s.tracks,
      e.store.file,
      e.store.reads,
      omega arith,
      e.store.honesty,
      λ told tree o are by near.
          let begun = e.first told tree o are by near in
          longest_first l (g.S.Store.file c.args.store.now) tree m plan.schedule plan.walks.items plan.nexts.items plan.schedule.from o near begun.come begun.shown begun.from s.tracks (s.first ∙ ap (λ (ds : List ℕ). first_scale (tracks_left l ds m.tracks)) are.tracks) s.left (s.track, refl, s.next),
      λ told tree o. e.work told tree o,
      b.nexts,
      rw e.looks (begins_within m.tracks plan.schedule c.args.steps.now.looks s.tracks s.left s.track),
      b.due,
      λ some lt. (let first = s.track in absurd (omega (arith, some, first))),
      e.grows,
    )

pub returns-in_err-plan-clause-unchanged : goal.returns-in_err-plan-clause-unchanged
returns-in_err-plan-clause-unchanged g c told tree o are by near =
    let p = err_from_is_err_and c.from_residual.result c.from_residual.ensures.1 in
    rw (p.1, p.2) (c.in_err-plan.ensures.unchanged told tree o are by near)

pub returns-in_err-plan-clause-work : goal.returns-in_err-plan-clause-work
returns-in_err-plan-clause-work g c told tree o = c.in_err-plan.ensures.work told tree o

pub returns-in_err-count-clause-unchanged : goal.returns-in_err-count-clause-unchanged
returns-in_err-count-clause-unchanged g c told tree o are by near =
    let e = err_from_is_err_and c.from_residual-in_err-count.result c.from_residual-in_err-count.ensures.1 in
    let file = g.S.Store.file c.args.store.now in
    let m = c.args.movie.now in
    let i = c.loop-turn.invariant in
    let s = c.loop-turn.plan.schedule in
    let turn = c.in-Some.turn in
    let at = c.in-Some.ensures.track in
    let h = i.6 told tree o are by near in
    let t = has_turn c.args.content.now.leaving file tree m s c.loop-turn.plan.walks.items c.loop-turn.plan.nexts.items h.lefts h.comings o h.at turn.track c.index_mut-walk.result.now turn.end turn.id at c.index_mut-walk.ensures.value i.0.count
    (rw (c.tracks-tracks.ensures ∙ c.requires.content.tracks ∙ ap (λ (ds : List ℕ). tracks_left c.args.content.now.leaving ds m.tracks) are.tracks) at c.in-Some.ensures.own) in
    let own = one_there c.args.content.now.of_tracks.items c.in-Some.turn.track _ _ c.reduction-reduction.ensures (reduced_there c.args.content.now.leaving file tree c.args.content.now.of_tracks.items c.in-Some.turn.track t.t by (ap (λ k. slice_get tree.movie.tracks k) t.place ∙ t.is_tree)) in
    rw (e.1, e.2) ((rw (i.5, i.2, own) at c.in_err-count.ensures.unchanged) told tree t.t t.left o t.comes t.few)

pub loop-turn-preserved : goal.loop-turn-preserved
loop-turn-preserved g c =
    let file = g.S.Store.file c.args.store.now in
    let m = c.args.movie.now in
    let i = c.loop-turn.invariant in
    let s = c.loop-turn.plan.schedule in
    let walks = c.loop-turn.plan.walks.items in
    let nexts = c.loop-turn.plan.nexts.items in
    let p = c.in_ok-count.ensures in
    let few = p.few in
    let due_at = (rw (c.tracks-tracks.ensures ∙ c.requires.content.tracks) at c.in_ok-pass.ensures.due) nexts i.10.times in
    let due_next = subst (λ k. IsDueAt (tracks_left c.args.content.now.leaving c.args.content.now.scales.tracks.items m.tracks) (slice_set nexts k c.count_turn.new.next) c.pass.new.self c.pass.new.due) (sym c.in-Some.ensures.track.0) due_at in (
      walks_set m walks c.in-Some.turn.track c.count_turn.new.walk i.0 p.loads.walk.walk,
      c.in_ok-pass.ensures.tracks ∙ i.1,
      p.loads.store.file ∙ i.2,
      p.loads.store.reads ∙ i.3,
      search rules,
      p.loads.store.honesty ∙ i.5,
      λ told tree o are by near.
          let turn = c.in-Some.turn in
          let at = c.in-Some.ensures.track in
          let h = i.6 told tree o are by near in
          let t = has_turn c.args.content.now.leaving file tree m s walks nexts h.lefts h.comings o h.at turn.track c.index_mut-walk.result.now turn.end turn.id at c.index_mut-walk.ensures.value i.0.count
          (rw (c.tracks-tracks.ensures ∙ c.requires.content.tracks ∙ ap (λ (ds : List ℕ). tracks_left c.args.content.now.leaving ds m.tracks) are.tracks) at c.in-Some.ensures.own) in
          let first = read_at nexts turn.track (slice_get t.left 0) c.index_mut-next.result.now (ap (λ k. slice_get nexts k) t.place ∙ t.shown) c.index_mut-next.ensures.value in
          let own = one_there c.args.content.now.of_tracks.items c.in-Some.turn.track _ _ c.reduction-reduction.ensures (reduced_there c.args.content.now.leaving file tree c.args.content.now.of_tracks.items c.in-Some.turn.track t.t by (ap (λ k. slice_get tree.movie.tracks k) t.place ∙ t.is_tree)) in
          let counted = (rw (i.5, i.2, own) at p.counted) told tree t.t t.left o t.comes first in
          longest_skips c.args.content.now.leaving file tree m (turned s turn.end c.in_ok-count.count c.count_turn.new.next) c.pass.new.self (slice_set walks turn.track c.count_turn.new.walk) (slice_set nexts turn.track c.count_turn.new.next)
          c.pass.new.due o c.in_ok-pass.ensures.turned (subst (λ (ds : List ℕ). IsDueAt (tracks_left c.args.content.now.leaving ds m.tracks) (slice_set nexts turn.track c.count_turn.new.next) c.pass.new.self c.pass.new.due) are.tracks due_next) c.max-longest.result
          (longest_next c.args.content.now.leaving file tree m s walks nexts h.lefts h.comings o h.at turn.track c.index_mut-walk.result.now turn.end t at.1 c.count_turn.new.walk c.in_ok-count.count c.count_turn.new.next (turned s turn.end c.in_ok-count.count c.count_turn.new.next)
          (piece_size_is turn.end t.left
          c.in_ok-count.count counted.counts) counted.comes counted.shown refl c.loop-turn.longest c.max-longest.result h.longest c.max-longest.ensures),
      λ told tree o.
          let k = c.in-Some.turn.track in
          let lt : k < length walks = search rules in
          let there = slice_get_read walks (length walks) k c.index_mut-walk.result.now refl lt c.index_mut-walk.ensures.value in
          all_then file tree walks (slice_set walks k c.count_turn.new.walk) (walks_steps tree) _ _ _ (i.7 told tree o)
          (λ rest h. one_takes file tree tree.movie.tracks walks k c.index_mut-walk.result.now c.count_turn.new.walk rest _ _ h there (λ t own may. (rw (i.5, i.2, c.in-Some.ensures.passed) at p.work) told tree t own o may)),
      search rules,
      looks_on s c.pass.new.self c.args.steps.now.looks _ _ (movie_turns m) i.9 (p.looks ∙ c.in-Some.ensures.looks) c.in_ok-pass.ensures.less.0,
      due_next,
      c.in_ok-pass.ensures.less.1,
      (let more = p.grows in let so = i.12 in let same = c.in-Some.ensures.passed in omega (arith, more, so, same)),
    )

pub returns-in_err-pass-clause-unchanged : goal.returns-in_err-pass-clause-unchanged
returns-in_err-pass-clause-unchanged g c told tree o are by near =
    let file = g.S.Store.file c.args.store.now in
    let m = c.args.movie.now in
    let i = c.loop-turn.invariant in
    let s = c.loop-turn.plan.schedule in
    let walks = c.loop-turn.plan.walks.items in
    let nexts = c.loop-turn.plan.nexts.items in
    let p = c.in_ok-count.ensures in
    let turn = c.in-Some.turn in
    let at = c.in-Some.ensures.track in
    let h = i.6 told tree o are by near in
    let t = has_turn c.args.content.now.leaving file tree m s walks nexts h.lefts h.comings o h.at turn.track c.index_mut-walk.result.now turn.end turn.id at c.index_mut-walk.ensures.value i.0.count
    (rw (c.tracks-tracks.ensures ∙ c.requires.content.tracks ∙ ap (λ (ds : List ℕ). tracks_left c.args.content.now.leaving ds m.tracks) are.tracks) at c.in-Some.ensures.own) in
    let first = read_at nexts turn.track (slice_get t.left 0) c.index_mut-next.result.now (ap (λ k. slice_get nexts k) t.place ∙ t.shown) c.index_mut-next.ensures.value in
    let own = one_there c.args.content.now.of_tracks.items c.in-Some.turn.track _ _ c.reduction-reduction.ensures (reduced_there c.args.content.now.leaving file tree c.args.content.now.of_tracks.items c.in-Some.turn.track t.t by (ap (λ k. slice_get tree.movie.tracks k) t.place ∙ t.is_tree)) in
    let counted = (rw (i.5, i.2, own) at p.counted) told tree t.t t.left o t.comes first in
    let is = piece_size_is turn.end t.left c.in_ok-count.count counted.counts in
    let sticks = rw (c.tracks-tracks.ensures ∙ c.requires.content.tracks) at c.in_err-pass.ensures.sticks in
    absurd (either (sticks nexts i.10.times)
    (turn_leads c.args.content.now.leaving file tree m s walks nexts h.lefts h.comings o h.at turn.track c.index_mut-walk.result.now turn.end t at.1 c.in_ok-count.count c.count_turn.new.next c.loop-turn.plan.due is counted.shown
    (subst (λ (ds : List ℕ). IsDueAt (tracks_left c.args.content.now.leaving ds m.tracks) nexts s c.loop-turn.plan.due) are.tracks i.10))
    (λ f. no_more c.args.content.now.leaving file tree m s walks nexts h.lefts h.comings o h.at turn.track c.index_mut-walk.result.now turn.end t at.1 c.count_turn.new.walk c.in_ok-count.count c.count_turn.new.next (turned s turn.end c.in_ok-count.count c.count_turn.new.next)
    is counted.comes counted.shown refl c.pass.new.due c.pass.new.self
    (subst (λ (ds : List ℕ). FindsMore (tracks_left c.args.content.now.leaving ds m.tracks) (slice_set nexts s.track c.count_turn.new.next) (turned s turn.end c.in_ok-count.count c.count_turn.new.next) c.pass.new.self c.pass.new.due) are.tracks f)))

pub returns-clause-longest : goal.returns-clause-longest
returns-clause-longest g c told tree o are by near =
    let i = c.loop-turn.invariant in
    longest_end c.args.content.now.leaving (g.S.Store.file c.args.store.now) tree c.args.movie.now c.loop-turn.plan.schedule c.loop-turn.plan.walks.items c.loop-turn.plan.nexts.items c.loop-turn.longest (i.6 told tree o are by near) (c.in_default.ensures.none refl)

pub returns-in_err-count-clause-work : goal.returns-in_err-count-clause-work
returns-in_err-count-clause-work g c told tree o =
    let file = g.S.Store.file c.args.store.now in
    let i = c.loop-turn.invariant in
    let walks = c.loop-turn.plan.walks.items in
    let k = c.in-Some.turn.track in
    let lt : k < length walks = search rules in
    let there = slice_get_read walks (length walks) k c.index_mut-walk.result.now refl lt c.index_mut-walk.ensures.value in
    all_then_stop file tree walks (walks_steps tree) _ _ _ (i.7 told tree o) (λ rest h. one_stops file tree tree.movie.tracks walks k c.index_mut-walk.result.now rest _ _ h there (λ t own may. (rw (i.5, i.2, c.in-Some.ensures.passed) at c.in_err-count.ensures.work) told tree t own o may))

pub returns-in_err-pass-clause-work : goal.returns-in_err-pass-clause-work
returns-in_err-pass-clause-work g c told tree o =
    let file = g.S.Store.file c.args.store.now in
    let i = c.loop-turn.invariant in
    let walks = c.loop-turn.plan.walks.items in
    let k = c.in-Some.turn.track in
    let lt : k < length walks = search rules in
    let there = slice_get_read walks (length walks) k c.index_mut-walk.result.now refl lt c.index_mut-walk.ensures.value in
    let p = c.in_ok-count.ensures in
    let on = all_then file tree walks (slice_set walks k c.count_turn.new.walk) (walks_steps tree) _ _ _ (i.7 told tree o)
    (λ rest h. one_takes file tree tree.movie.tracks walks k c.index_mut-walk.result.now c.count_turn.new.walk rest _ _ h there (λ t own may. (rw (i.5, i.2, c.in-Some.ensures.passed) at p.work) told tree t own o may)) in
    all_taken file tree (slice_set walks k c.count_turn.new.walk) (walks_steps tree) _ _ on

pub returns-clause-work : goal.returns-clause-work
returns-clause-work g c told tree o = rw c.in_default.ensures.passed (all_taken (g.S.Store.file c.args.store.now) tree c.loop-turn.plan.walks.items (walks_steps tree) _ _ (c.loop-turn.invariant.7 told tree o))

pub returns-in_err-count-clause-turns : goal.returns-in_err-count-clause-turns
returns-in_err-count-clause-turns g c = looks_within c.loop-turn.plan.schedule c.args.steps.now.looks _ _ (movie_turns c.args.movie.now) c.loop-turn.invariant.9 (c.in_err-count.ensures.looks ∙ c.in-Some.ensures.looks) c.in-Some.ensures.track.1 c.loop-turn.invariant.11

pub returns-in_err-pass-clause-turns : goal.returns-in_err-pass-clause-turns
returns-in_err-pass-clause-turns g c = looks_within c.loop-turn.plan.schedule c.args.steps.now.looks _ _ (movie_turns c.args.movie.now) c.loop-turn.invariant.9 (c.in_ok-count.ensures.looks ∙ c.in-Some.ensures.looks) c.in-Some.ensures.track.1 c.loop-turn.invariant.11

pub returns-clause-turns : goal.returns-clause-turns
returns-clause-turns g c =
    let within = c.loop-turn.invariant.9 in
    let same = c.in_default.ensures.looks in
    omega (arith, within, same)
