use Rattle.std.proofs.Common.{rules, ◌≡◌, ℕ, ◌-◌, ◌≤◌, List, length, drop, sym, ap, subst, ◌∙◌, arith}
use Rattle.std.proofs.lemmas.List.{length-drop}
use Rattle.std.proofs.lemmas.Result.{err_from_is_err_and}
use Rattle.mp4_tables.specs.declared.sample.SampleAt.{SampleAt}
use Rattle.mp4_present.specs.words.Carried.{waiting}
use Rattle.mp4_present.specs.words.Movies.{mark_of}
use Rattle.mp4_present.specs.declared.walking.Mark.{Mark}
use Rattle.mp4_present.proofs.FrontsPut.{front_put}
use Rattle.mp4_content.proofs.ReducedTaken.{less_length}
use Rattle.mp4_content.proofs.WalksGone.{marked_ahead, marked_has, marked_is, some_or_none}
use Rattle.mp4_plan.proofs.WritingSteps.{again_within, carries_rest, writes_on}
use Rattle.mp4_plan.proofs.carrying.carry_noted.Goals as goal

pub returns-in_err-carry_marked-clause-put : goal.returns-in_err-carry_marked-clause-put
returns-in_err-carry_marked-clause-put g c told tree t samples o h tells =
    let p = err_from_is_err_and c.from_residual.result c.from_residual.ensures.1 in
    rw p.1 (c.in_err-carry_marked.ensures.put c.args.reduction told tree t samples o h tells)

pub returns-in_err-carry_marked-clause-unchanged : goal.returns-in_err-carry_marked-clause-unchanged
returns-in_err-carry_marked-clause-unchanged g c told tree t samples o h tells there =
    let p = err_from_is_err_and c.from_residual.result c.from_residual.ensures.1 in
    rw (p.1, p.2) (c.in_err-carry_marked.ensures.unchanged c.args.reduction told tree t samples o h tells there)

pub returns-in_err-carry_marked-clause-work : goal.returns-in_err-carry_marked-clause-work
returns-in_err-carry_marked-clause-work g c told tree t n o h =
    let p = err_from_is_err_and c.from_residual.result c.from_residual.ensures.1 in
    let most = c.in_err-carry_marked.ensures.work told tree t h.marked.begun (length h.marked.samples) h.own o h.marked.back h.began in
    let within = again_within (g.S.Store.file c.args.store.now) c.args.movie.now tree o t c.args.reduction c.args.noted.load.samples c.args.walk.now n h c.requires in
    rw p.1 (omega (arith, most, within))

pub returns-in_err-next-clause-put : goal.returns-in_err-next-clause-put
returns-in_err-next-clause-put g c told tree t samples o h tells =
    let p = err_from_is_err_and c.from_residual-in_err-next.result c.from_residual-in_err-next.ensures.1 in
    let e = c.in_ok-carry_marked.ensures in
    rw p.1 (front_put (g.K.Sink.takes c.args.sink.now c.carry_marked.new.sink) (waiting c.args.carrier.now) (waiting c.carry_marked.new.carrier) _ (e.put c.args.reduction told tree t samples o h tells))

pub returns-in_err-next-clause-unchanged : goal.returns-in_err-next-clause-unchanged
returns-in_err-next-clause-unchanged g c told tree t samples o h tells there =
    let p = err_from_is_err_and c.from_residual-in_err-next.result c.from_residual-in_err-next.ensures.1 in
    let e = c.in_ok-carry_marked.ensures in
    rw (p.1, p.2) ((rw (e.piece.devices.honesty, e.piece.devices.file) at c.in_err-next.ensures.unchanged) told tree t (drop c.args.noted.load.samples samples) o (e.comes c.args.reduction told tree t samples o h))

pub returns-in_err-next-clause-work : goal.returns-in_err-next-clause-work
returns-in_err-next-clause-work g c told tree t n o h =
    let p = err_from_is_err_and c.from_residual-in_err-next.result c.from_residual-in_err-next.ensures.1 in
    let e = c.in_ok-carry_marked.ensures in
    let x = e.work told tree t h.marked.begun (length h.marked.samples) h.own o h.marked.back h.began h.now h.may h.less in
    let k = carries_rest (g.S.Store.file c.args.store.now) c.args.movie.now tree o t c.args.reduction c.args.noted.load.samples c.args.walk.now n h c.requires c.carry_marked.new.walk _ _ x in
    let most = (rw (e.piece.devices.honesty, e.piece.devices.file) at c.in_err-next.ensures.work) told tree t k.0 o k.1 in
    let within = k.2 in
    rw p.1 (omega (arith, most, within))

pub returns-clause-put : goal.returns-clause-put
returns-clause-put g c told tree t samples o h tells = c.in_ok-carry_marked.ensures.put c.args.reduction told tree t samples o h tells

pub returns-clause-next : goal.returns-clause-next
returns-clause-next g c told tree t samples o h tells =
    let file = g.S.Store.file c.args.store.now in
    let m = c.args.movie.now in
    let e = c.in_ok-carry_marked.ensures in
    let count = c.args.noted.load.samples in
    let r = (rw (e.piece.devices.honesty, e.piece.devices.file) at c.in_ok-next.ensures.coming) told tree t (drop count samples) o (e.comes c.args.reduction told tree t samples o h) in
    let now = c.mark.new.self in
    let to_come = ap (λ (k : Mark). k.to_come) h.back.mark in
    let all = ap (λ (ss : List SampleAt). length ss) h.is_left ∙ less_length c.args.reduction h.samples in
    let first = c.to_come.ensures in
    let less : c.saturating_sub-left.result ≡ c.to_come.result - count = search rules in
    let many : c.saturating_sub-left.result ≡ length (drop count samples) = omega (arith, to_come, all, first, less, length-drop count samples) in (
      record { samples = r.0.samples; comes = c.mark.ensures.coming file tree t m r.0.samples r.0.comes; is_left = r.0.is_left },
      marked_is c.next_sample.new.walk now c.saturating_sub-left.result c.mark.ensures.mark ∙ ap (mark_of now) many,
      r.1,
    )

pub returns-clause-work : goal.returns-clause-work
returns-clause-work g c told tree t n o h =
    let file = g.S.Store.file c.args.store.now in
    let m = c.args.movie.now in
    let w = c.args.walk.now in
    let mid = c.carry_marked.new.walk in
    let last = c.next_sample.new.walk in
    let now = c.mark.new.self in
    let e = c.in_ok-carry_marked.ensures in
    let f = c.in_ok-next.ensures in
    let count = c.args.noted.load.samples in
    let x = e.work told tree t h.marked.begun (length h.marked.samples) h.own o h.marked.back h.began h.now h.may h.less in
    let comes = e.comes c.args.reduction told tree t h.left o h.marked in
    let r = (rw (e.piece.devices.honesty, e.piece.devices.file) at f.coming) told tree t (drop count h.left) o comes in
    let takes = rw (e.piece.devices.honesty, e.piece.devices.file) at f.work in
    let to_come = ap (λ (k : Mark). k.to_come) h.marked.back.mark in
    let all = ap (λ (ss : List SampleAt). length ss) h.marked.is_left ∙ less_length c.args.reduction h.marked.samples in
    let first = c.to_come.ensures in
    let less : c.saturating_sub-left.result ≡ c.to_come.result - count = search rules in
    let left : c.saturating_sub-left.result ≡ length (drop count h.left) = omega (arith, to_come, all, first, less, length-drop count h.left) in
    let same = ap (λ (ss : List SampleAt). length ss) r.0.is_left ∙ less_length c.args.reduction r.0.samples in
    let next = ap (λ (k : Mark). k.next) h.marked.back.mark in
    let on = e.on in
    let number = c.saturating_sub-left.result in
    let walk = f.loads.walk.walk in
    writes_on file m tree o t c.args.reduction count w n h c.requires mid now _ _ _ (λ rest may. (let k = takes told tree t rest o may in (k.0, c.mark.ensures.may file tree t k.0 k.1, k.2)))
    f.went.grows (marked_ahead m mid last now number c.mark.ensures.mark f.went.ahead) r.0.samples (c.mark.ensures.coming file tree t m r.0.samples r.0.comes) (marked_is last now number c.mark.ensures.mark ∙ ap (mark_of now) (left ∙ same))
    (c.mark.ensures.walk m walk.goes_on walk.place walk.rest)
    (some_or_none c.args.reduction m now c.in_ok-next.next (drop count h.left) r.0.samples r.0.is_left r.1 (λ some. marked_has m last now number c.mark.ensures.mark (f.some some))) (sym same) (subst (λ (k : ℕ). k ≤ mid.next) next on) x
