use Rattle.std.proofs.Common.{refl, sym, ap, subst, slice_set, drop}
use Rattle.std.proofs.lemmas.Result.{err_from_is_err_and}
use Rattle.mp4_present.specs.declared.walking.Walk.{Walk}
use Rattle.mp4_content.specs.words.GoneOn.{ComesMarked}
use Rattle.mp4_content.specs.words.ComingLess.{ComesLess, track_reduction}
use Rattle.mp4_plan.specs.words.WriterSteps.{MayFinish}
use Rattle.mp4_content.specs.declared.reduced.Reduction.{Reduction}
use Rattle.mp4_content.proofs.AtPlaces.{one_there, read_at}
use Rattle.mp4_plan.proofs.WritingSteps.{all_carried, all_carried_most}
use Rattle.mp4_plan.proofs.writer.Writer.carry_data.Goals as goal

pub returns-in_err-self-clause-put : goal.returns-in_err-self-clause-put
returns-in_err-self-clause-put g c told tree o samples noted =
    let e = err_from_is_err_and c.from_residual.result c.from_residual.ensures.1 in
    let file = g.S.Store.file c.args.store.now in
    let m = c.args.movie.now in
    let w = c.args.self.now in
    let same = read_at w.walks.items c.args.noted.now.track noted.walk c.index_mut.result.now noted.is_walk c.index_mut.ensures.value in
    let by = one_there w.content.of_tracks.items c.args.noted.now.track _ _ c.reduction.ensures noted.reduction in
    let comes = subst (λ (r : Reduction). ComesMarked r file tree noted.t m c.index_mut.result.now c.args.noted.now.planned.count samples) (sym by)
    (subst (λ (v : Walk). ComesMarked (track_reduction w.content.leaving file tree noted.t) file tree noted.t m v c.args.noted.now.planned.count samples) (sym same) noted.comes) in
    rw e.1 (c.in_err-self.ensures.put told tree noted.t samples o comes noted.stretches)

pub returns-in_err-self-clause-copied : goal.returns-in_err-self-clause-copied
returns-in_err-self-clause-copied g c told tree o samples noted =
    let e = err_from_is_err_and c.from_residual.result c.from_residual.ensures.1 in
    let file = g.S.Store.file c.args.store.now in
    let m = c.args.movie.now in
    let w = c.args.self.now in
    let same = read_at w.walks.items c.args.noted.now.track noted.walk c.index_mut.result.now noted.is_walk c.index_mut.ensures.value in
    let by = one_there w.content.of_tracks.items c.args.noted.now.track _ _ c.reduction.ensures noted.reduction in
    let comes = subst (λ (r : Reduction). ComesMarked r file tree noted.t m c.index_mut.result.now c.args.noted.now.planned.count samples) (sym by)
    (subst (λ (v : Walk). ComesMarked (track_reduction w.content.leaving file tree noted.t) file tree noted.t m v c.args.noted.now.planned.count samples) (sym same) noted.comes) in
    (rw e.1 tt, λ there. rw (e.1, e.2) (c.in_err-self.ensures.unchanged told tree noted.t samples o comes noted.stretches there))

pub returns-in_err-self-clause-work : goal.returns-in_err-self-clause-work
returns-in_err-self-clause-work g c told tree o n h =
    let e = err_from_is_err_and c.from_residual.result c.from_residual.ensures.1 in
    let file = g.S.Store.file c.args.store.now in
    let m = c.args.movie.now in
    let w = c.args.self.now in
    let count = c.args.noted.now.planned.count in
    let same = read_at w.walks.items c.args.noted.now.track h.walk c.index_mut.result.now h.is_walk c.index_mut.ensures.value in
    let by = one_there w.content.of_tracks.items c.args.noted.now.track _ _ c.reduction.ensures h.is_by in
    rw e.1 (all_carried_most w.content.of_tracks.items file m tree o w.walks.items c.args.noted.now.track count n h _ _
    (λ t own may. c.in_err-self.ensures.work told tree t own o (subst (λ (r : Reduction). MayFinish r file tree m count t c.index_mut.result.now own) (sym by) (subst (λ (v : Walk). MayFinish h.by file tree m count t v own) (sym same) may))))

pub returns-clause-put : goal.returns-clause-put
returns-clause-put g c told tree o samples noted =
    let file = g.S.Store.file c.args.store.now in
    let m = c.args.movie.now in
    let w = c.args.self.now in
    let same = read_at w.walks.items c.args.noted.now.track noted.walk c.index_mut.result.now noted.is_walk c.index_mut.ensures.value in
    let by = one_there w.content.of_tracks.items c.args.noted.now.track _ _ c.reduction.ensures noted.reduction in
    let comes = subst (λ (r : Reduction). ComesMarked r file tree noted.t m c.index_mut.result.now c.args.noted.now.planned.count samples) (sym by)
    (subst (λ (v : Walk). ComesMarked (track_reduction w.content.leaving file tree noted.t) file tree noted.t m v c.args.noted.now.planned.count samples) (sym same) noted.comes) in
    c.in_ok-self.ensures.put told tree noted.t samples o comes noted.stretches

pub returns-clause-copied : goal.returns-clause-copied
returns-clause-copied g c told tree o samples noted =
    let file = g.S.Store.file c.args.store.now in
    let m = c.args.movie.now in
    let w = c.args.self.now in
    let same = read_at w.walks.items c.args.noted.now.track noted.walk c.index_mut.result.now noted.is_walk c.index_mut.ensures.value in
    let by = one_there w.content.of_tracks.items c.args.noted.now.track _ _ c.reduction.ensures noted.reduction in
    let comes = subst (λ (r : Reduction). ComesMarked r file tree noted.t m c.index_mut.result.now c.args.noted.now.planned.count samples) (sym by)
    (subst (λ (v : Walk). ComesMarked (track_reduction w.content.leaving file tree noted.t) file tree noted.t m v c.args.noted.now.planned.count samples) (sym same) noted.comes) in
    let x = c.in_ok-self.ensures.next told tree noted.t samples o comes noted.stretches in
    let on = subst (λ (r : Reduction). ComesLess r file tree noted.t m c.carry_noted.new.walk (drop c.args.noted.now.planned.count samples)) by x.0 in
    ((c.carry_noted.new.walk, refl, ap (slice_set w.nexts.items c.args.noted.now.track) x.2, on, x.1), λ there. tt)

pub returns-clause-work : goal.returns-clause-work
returns-clause-work g c told tree o n h =
    let file = g.S.Store.file c.args.store.now in
    let m = c.args.movie.now in
    let w = c.args.self.now in
    let count = c.args.noted.now.planned.count in
    let same = read_at w.walks.items c.args.noted.now.track h.walk c.index_mut.result.now h.is_walk c.index_mut.ensures.value in
    let by = one_there w.content.of_tracks.items c.args.noted.now.track _ _ c.reduction.ensures h.is_by in
    all_carried w.content.of_tracks.items file m tree o w.walks.items c.args.noted.now.track count n h c.carry_noted.new.walk _ _
    (λ t own may. c.in_ok-self.ensures.work told tree t own o (subst (λ (r : Reduction). MayFinish r file tree m count t c.index_mut.result.now own) (sym by) (subst (λ (v : Walk). MayFinish h.by file tree m count t v own) (sym same) may)))
