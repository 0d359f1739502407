use Rattle.std.proofs.Common.{rules, ◌≡◌, [], length, take, refl, sym, ap, subst, ◌∙◌, arith}
use Rattle.std.specs.Prelude.{slice_get}
use Rattle.std.proofs.lemmas.Option.{slice_get_read}
use Rattle.std.proofs.lemmas.Result.{err_from_is_err_and}
use Rattle.mp4_present.specs.words.Movies.{IsWalkOf, mark_of}
use Rattle.mp4_content.specs.words.ComingLess.{ComesLess, track_reduction}
use Rattle.mp4_content.specs.words.GoneOn.{ComesMarked}
use Rattle.mp4_content.specs.declared.reduced.Reduction.{Reduction}
use Rattle.mp4_present.specs.declared.walking.Walk.{Walk}
use Rattle.mp4_plan.specs.words.Gathering.{Planning, planned_of, piece_from}
use Rattle.mp4_plan.specs.words.Stretches.{Tells}
use Rattle.mp4_plan.specs.words.Writers.{turn_head}
use Rattle.mp4_plan.specs.words.WriterSteps.{MayWrite}
use Rattle.mp4_plan.specs.declared.planner.Planned.{Planned}
use Rattle.mp4_plan.proofs.AllMay.{one_ends}
use Rattle.mp4_content.proofs.AtPlaces.{one_there, read_at}
use Rattle.mp4_plan.proofs.ComeAt.{set_same}
use Rattle.mp4_plan.proofs.NextSamples.{none_goes, some_goes, no_head, no_rows}
use Rattle.mp4_plan.proofs.PlannerSteps.{fed_none}
use Rattle.mp4_content.proofs.WalksGone.{still_marked}
use Rattle.mp4_plan.proofs.WritingSteps.{all_noted, none_noted}
use Rattle.mp4_plan.proofs.writer.Writer.note_turn.Goals as goal
use Rattle.mp4_boxes.proofs.Plain.{get_every, get_some}

pub returns-then-not-first_goes-clause-noted : goal.returns-then-not-first_goes-clause-noted
returns-then-not-first_goes-clause-noted g c told tree o t walk left is by comes marked shown =
    let file = g.S.Store.file c.args.store.now in
    let m = c.args.movie.now in
    let k = c.args.turn.now.track in
    let end = c.args.turn.now.end in
    let l = track_reduction c.args.self.now.content.leaving file tree t in
    let first = read_at c.args.self.now.nexts.items k (slice_get left 0) c.index.result.now shown c.index.ensures in
    let none = none_goes end left c.index.result.now c.first_goes.result first c.first_goes.ensures c.if-not-first_goes.true in
    let fed = fed_none (piece_from end) left none in
    let empty = c.piece.ensures.is ∙ ap (λ (p : Planning). planned_of p.gathered) c.new.ensures in
    let count = ap (λ (p : Planned). p.count) empty in
    record {
      planned = empty ∙ ap (λ (p : Planning). planned_of p.gathered) (sym fed);
      head = no_head c.args.sequence c.args.turn.now.id c.piece.result.count (slice_get left 0) count;
      rows = no_rows c.piece.result.count c.args.self.now.notes.rows.items left count;
      walk = walk;
      walks = sym (set_same c.args.self.now.walks.items k walk is);
      comes = (still_marked l file tree t m walk c.piece.result.count left (get_every (IsWalkOf m) c.args.self.now.walks.items k walk is c.requires.writer.walks.each) comes marked count).0;
      none = λ _. marked;
      stretches = subst (λ k. Tells c.clear.new.self (take k left)) (sym count) c.clear.ensures.told;
    }

pub returns-then-not-first_goes-clause-work : goal.returns-then-not-first_goes-clause-work
returns-then-not-first_goes-clause-work g c told tree o n h =
    let file = g.S.Store.file c.args.store.now in
    let m = c.args.movie.now in
    let k = c.args.turn.now.track in
    let w = c.args.self.now in
    let lt = c.requires.track in
    let many = c.requires.writer.walks.count in
    let there = get_some w.walks.items k (omega (arith, lt, many)) in
    let empty = c.piece.ensures.is ∙ ap (λ (p : Planning). planned_of p.gathered) c.new.ensures in
    let many_by = c.requires.writer.content.many in
    let by = get_some w.content.of_tracks.items k (omega (arith, lt, many_by)) in
    none_noted w.content.of_tracks.items by.0 file m tree o w.walks.items k c.piece.result.count there.0 n h there.1 by.1 _ (get_every (IsWalkOf m) w.walks.items k there.0 there.1 c.requires.writer.walks.each) (ap (λ (p : Planned). p.count) empty)

pub returns-in_err-planned-clause-unchanged : goal.returns-in_err-planned-clause-unchanged
returns-in_err-planned-clause-unchanged g c told tree o t walk left is by comes marked shown few =
    let e = err_from_is_err_and c.from_residual.result c.from_residual.ensures.1 in
    let file = g.S.Store.file c.args.store.now in
    let m = c.args.movie.now in
    let l = track_reduction c.args.self.now.content.leaving file tree t in
    let own = one_there c.args.self.now.content.of_tracks.items c.args.turn.now.track _ _ c.reduction-reduction.ensures by in
    let same = read_at c.args.self.now.walks.items c.args.turn.now.track walk c.index_mut-walk.result.now is c.index_mut-walk.ensures.value in
    let here = subst (λ (r : Reduction). ComesLess r file tree t m c.index_mut-walk.result.now left) (sym own) (subst (λ (w : Walk). ComesLess l file tree t m w left) (sym same) comes) in
    let there = subst (λ (w : Walk). w.mark ≡ mark_of w (length left)) (sym same) marked in
    let first = read_at c.args.self.now.nexts.items c.args.turn.now.track (slice_get left 0) c.index.result.now shown c.index.ensures in
    let some = some_goes c.args.turn.now.end left c.index.result.now c.first_goes.result first c.first_goes.ensures (search rules) in
    rw (e.1, e.2) (c.in_err-planned.ensures.unchanged told tree t left o here there some few)

pub returns-clause-noted : goal.returns-clause-noted
returns-clause-noted g c told tree o t walk left is by comes marked shown =
    let file = g.S.Store.file c.args.store.now in
    let m = c.args.movie.now in
    let l = track_reduction c.args.self.now.content.leaving file tree t in
    let own = one_there c.args.self.now.content.of_tracks.items c.args.turn.now.track _ _ c.reduction-reduction.ensures by in
    let same = read_at c.args.self.now.walks.items c.args.turn.now.track walk c.index_mut-walk.result.now is c.index_mut-walk.ensures.value in
    let here = subst (λ (r : Reduction). ComesLess r file tree t m c.index_mut-walk.result.now left) (sym own) (subst (λ (w : Walk). ComesLess l file tree t m w left) (sym same) comes) in
    let there = subst (λ (w : Walk). w.mark ≡ mark_of w (length left)) (sym same) marked in
    let first = read_at c.args.self.now.nexts.items c.args.turn.now.track (slice_get left 0) c.index.result.now shown c.index.ensures in
    let p = c.in_ok-planned.ensures in
    let two = p.planned told tree t left o here in
    let some = p.some in
    record {
      planned = two.0;
      head = c.turn_head.ensures ∙ ap (turn_head c.args.sequence c.args.turn.now.id c.in_ok-planned.planned.count) first;
      rows = (p.noted told tree t left o here).seen;
      walk = c.note_marked.new.walk;
      walks = refl;
      comes = subst (λ (r : Reduction). ComesMarked r file tree t m c.note_marked.new.walk c.in_ok-planned.planned.count left) own (two.1 there);
      none = λ zero. absurd (omega (arith, some, zero));
      stretches = (p.noted told tree t left o here).joined [] c.clear.ensures.told;
    }

pub returns-clause-work : goal.returns-clause-work
returns-clause-work g c told tree o n h =
    let file = g.S.Store.file c.args.store.now in
    let m = c.args.movie.now in
    let w = c.args.self.now in
    let walks = w.walks.items in
    let k = c.args.turn.now.track in
    let lt = c.requires.track in
    let many = c.requires.writer.walks.count in
    let there = slice_get_read walks (length walks) k c.index_mut-walk.result.now refl (omega (arith, lt, many)) c.index_mut-walk.ensures.value in
    let many_by = c.requires.writer.content.many in
    let by = c.reduction-reduction.ensures in
    all_noted w.content.of_tracks.items c.reduction-reduction.result file m tree o walks k c.in_ok-planned.planned.count c.index_mut-walk.result.now n h there by c.note_marked.new.walk _ _ (λ t own may. c.in_ok-planned.ensures.work told tree t own o may)

pub returns-in_err-planned-clause-work : goal.returns-in_err-planned-clause-work
returns-in_err-planned-clause-work g c told tree o n h =
    let e = err_from_is_err_and c.from_residual.result c.from_residual.ensures.1 in
    let file = g.S.Store.file c.args.store.now in
    let m = c.args.movie.now in
    let walks = c.args.self.now.walks.items in
    let k = c.args.turn.now.track in
    let lt = c.requires.track in
    let many = c.requires.writer.walks.count in
    let there = slice_get_read walks (length walks) k c.index_mut-walk.result.now refl (omega (arith, lt, many)) c.index_mut-walk.ensures.value in
    rw e.1 (one_ends (MayWrite file tree m) tree.movie.tracks walks k c.index_mut-walk.result.now n _ _ h there (λ t own may. c.in_err-planned.ensures.work told tree t own o may))
