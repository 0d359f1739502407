use Rattle.std.proofs.Common.{◌≡◌, length, refl, ap, ◌∙◌}
use Rattle.std.proofs.lemmas.Result.{err_from_is_err_and}
use Rattle.mp4_present.specs.words.Movies.{mark_of}
use Rattle.mp4_content.specs.words.ComingLess.{less}
use Rattle.mp4_content.proofs.WalksGone.{as_many_left, marked_ahead, marked_is, to_come_is}
use Rattle.mp4_plan.proofs.WritingSteps.{writes_next}
use Rattle.mp4_plan.proofs.track_pieces.next_marked.Goals as goal

pub returns-in_err-next-clause-unchanged : goal.returns-in_err-next-clause-unchanged
returns-in_err-next-clause-unchanged g c told tree t samples o h =
    let p = err_from_is_err_and c.from_residual.result c.from_residual.ensures.1 in
    rw (p.1, p.2) (c.in_err-next.ensures.unchanged told tree t samples o h)

pub returns-in_err-next-clause-work : goal.returns-in_err-next-clause-work
returns-in_err-next-clause-work g c told tree t n o h =
    let p = err_from_is_err_and c.from_residual.result c.from_residual.ensures.1 in
    rw p.1 (c.in_err-next.ensures.work told tree t n o h)

pub returns-clause-marked : goal.returns-clause-marked
returns-clause-marked g c = marked_is c.next_sample.new.walk c.mark.new.self c.to_come-left.result c.mark.ensures.mark ∙ ap (mark_of c.mark.new.self) c.to_come-left.ensures

pub returns-clause-coming : goal.returns-clause-coming
returns-clause-coming g c told tree t samples o h =
    let r = c.in_ok-next.ensures.coming told tree t samples o h in
    (record { samples = r.0.samples; comes = c.mark.ensures.coming (g.S.Store.file c.args.store.now) tree t c.args.movie.now r.0.samples r.0.comes; is_left = r.0.is_left }, r.1)

pub returns-clause-work : goal.returns-clause-work
returns-clause-work g c told tree t n o h =
    let r = c.in_ok-next.ensures.work told tree t n o h in
    (r.0, c.mark.ensures.may (g.S.Store.file c.args.store.now) tree t r.0 r.1, r.2)

pub returns-clause-writes : goal.returns-clause-writes
returns-clause-writes g c told tree t n o h =
    let file = g.S.Store.file c.args.store.now in
    let m = c.args.movie.now in
    let e = c.in_ok-next.ensures in
    let now = c.mark.new.self in
    let r = (e.coming told tree t (less c.args.reduction h.samples) o (record { samples = h.samples; comes = h.comes; is_left = refl })).0 in
    let k = e.work told tree t h.own o h.may in
    let many : c.to_come-left.result ≡ length r.samples = c.to_come-left.ensures ∙ to_come_is c.args.walk.now (length h.samples) h.marked ∙ as_many_left c.args.reduction h.samples r.samples r.is_left in
    writes_next file m tree o t c.args.walk.now now n c.args.steps.now.passed _ r.samples h e.went.grows (marked_ahead m c.args.walk.now c.next_sample.new.walk now c.to_come-left.result c.mark.ensures.mark e.went.ahead)
    (k.0, c.mark.ensures.may file tree t k.0 k.1, k.2) (c.mark.ensures.coming file tree t m r.samples r.comes) (marked_is c.next_sample.new.walk now c.to_come-left.result c.mark.ensures.mark ∙ ap (mark_of now) many)
