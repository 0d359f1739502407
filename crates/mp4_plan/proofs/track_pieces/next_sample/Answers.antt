use Rattle.std.proofs.Common.{List, sym, ap, ◌∙◌}
use Rattle.std.specs.Prelude.{slice_get}
use Rattle.mp4_tables.specs.declared.sample.SampleAt.{SampleAt}
use Rattle.std.proofs.lemmas.Result.{err_from_is_err_and}
use Rattle.mp4_plan.proofs.track_pieces.next_sample.Goals as goal

pub returns-in_err-next-clause-unchanged : goal.returns-in_err-next-clause-unchanged
returns-in_err-next-clause-unchanged g c told tree t samples o h =
    let p = err_from_is_err_and c.from_residual.result c.from_residual.ensures.1 in
    rw (p.1, p.2) (c.in_err-next.ensures.unchanged told tree t h.samples o h.comes)

pub returns-in_err-next-clause-work : goal.returns-in_err-next-clause-work
returns-in_err-next-clause-work g c told tree t n o h =
    let p = err_from_is_err_and c.from_residual.result c.from_residual.ensures.1 in
    rw p.1 (c.in_err-next.ensures.work told tree t n o h)

pub returns-clause-coming : goal.returns-clause-coming
returns-clause-coming g c told tree t samples o h =
    let r = c.in_ok-next.ensures.coming told tree t h.samples o h.comes in
    (record { samples = h.samples; comes = r.0; is_left = h.is_left }, c.reduced_next.ensures.is h.samples r.1 ∙ ap (λ (ss : List SampleAt). slice_get ss 0) (sym h.is_left))

pub returns-clause-some : goal.returns-clause-some
returns-clause-some g c some = c.in_ok-next.ensures.some (λ none. some (c.reduced_next.ensures.none none))
