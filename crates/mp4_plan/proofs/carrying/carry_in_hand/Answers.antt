use Rattle.std.proofs.Common.{length, drop, refl, ap, ◌∙◌, arith, if◌then◌else◌}
use Rattle.std.proofs.lemmas.Result.{err_from_is_err_and}
use Rattle.mp4_present.specs.words.GoingBack.{GoesBackTo, is_mark_farther}
use Rattle.mp4_present.specs.declared.walking.Mark.{Mark}
use Rattle.mp4_present.specs.declared.walking.Walk.{Walk}
use Rattle.mp4_plan.proofs.CarriedLess.{carried_less, comes_either, prefix_less, there_less}
use Rattle.mp4_plan.proofs.WritingSteps.{no_farther_back, farther_fits, farther_mark, farther_walk}
use Rattle.mp4_plan.proofs.carrying.carry_in_hand.Goals as goal

pub carry_piece-requires : goal.carry_piece-requires
carry_piece-requires g c = c.turn_back.ensures.walk c.args.movie.now c.requires.walk

pub returns-in_err-carry_piece-clause-put : goal.returns-in_err-carry_piece-clause-put
returns-in_err-carry_piece-clause-put g c l told tree t samples o h =
    let p = err_from_is_err_and c.from_residual.result c.from_residual.ensures.1 in
    let file = g.S.Store.file c.args.store.now in
    let m = c.args.movie.now in
    let back = c.turn_back.ensures.back file tree t m h.begun (length h.samples) h.samples h.back c.requires.walk h.from in
    rw p.1 (prefix_less l file tree t m c.args.walk.now c.args.load.samples samples h (g.K.Sink.takes c.args.sink.now c.carry_piece.new.sink) _ (c.in_err-carry_piece.ensures.put told tree t h.samples o back))

pub returns-in_err-carry_piece-clause-unchanged : goal.returns-in_err-carry_piece-clause-unchanged
returns-in_err-carry_piece-clause-unchanged g c l told tree t samples o h there =
    let p = err_from_is_err_and c.from_residual.result c.from_residual.ensures.1 in
    let file = g.S.Store.file c.args.store.now in
    let m = c.args.movie.now in
    let back = c.turn_back.ensures.back file tree t m h.begun (length h.samples) h.samples h.back c.requires.walk h.from in
    rw (p.1, p.2) (c.in_err-carry_piece.ensures.unchanged told tree t h.samples o back (there_less l file tree t m c.args.walk.now c.args.load.samples samples h c.args.load.bytes there))

pub returns-in_err-carry_piece-clause-work : goal.returns-in_err-carry_piece-clause-work
returns-in_err-carry_piece-clause-work g c told tree t begun before own o back may =
    let p = err_from_is_err_and c.from_residual.result c.from_residual.ensures.1 in
    let m = c.args.movie.now in
    rw p.1 (c.in_err-carry_piece.ensures.work told tree t own o (c.turn_back.ensures.may (g.S.Store.file c.args.store.now) tree t m begun before own back c.requires.walk may))

pub returns-clause-put : goal.returns-clause-put
returns-clause-put g c l told tree t samples o h =
    let file = g.S.Store.file c.args.store.now in
    let m = c.args.movie.now in
    let back = c.turn_back.ensures.back file tree t m h.begun (length h.samples) h.samples h.back c.requires.walk h.from in
    carried_less l file tree t m c.args.walk.now c.args.load.samples samples h _ _ _ (c.in_ok-carry_piece.ensures.put told tree t h.samples o back)

pub returns-clause-comes : goal.returns-clause-comes
returns-clause-comes g c l told tree t samples o h =
    let file = g.S.Store.file c.args.store.now in
    let m = c.args.movie.now in
    let w = c.args.walk.now in
    let e = c.in_ok-carry_piece.ensures in
    let back = c.turn_back.ensures.back file tree t m h.begun (length h.samples) h.samples h.back c.requires.walk h.from in
    let x = e.comes told tree t h.samples o back in
    let mark = e.went.mark ∙ ap (λ (v : Walk). v.mark) c.turn_back.ensures.is in
    let there : GoesBackTo file tree t m w c.carry_piece.new.walk w.mark.to_come = record { is_walk = c.requires.walk; mark = mark; earlier = x.0; later = x.1; stands = x.3.0 } in
    let on = c.go_farther.ensures.coming file tree t m w w.mark.to_come h.comes.samples (drop c.args.load.samples h.samples) there e.piece.walk.walk h.comes.comes x in
    comes_either l file tree t m w c.args.load.samples samples h (is_mark_farther c.carry_piece.new.walk) c.go_farther.new.self on

pub returns-clause-on : goal.returns-clause-on
returns-clause-on g c =
    let e = c.in_ok-carry_piece.ensures in
    let more = no_farther_back c.args.movie.now c.turn_back.new.self c.carry_piece.new.walk e.went.ahead in
    let set = ap (λ (v : Walk). v.next) c.turn_back.ensures.is in
    let same = c.go_farther.ensures.next in
    omega (arith, more, set, same)

pub returns-clause-work : goal.returns-clause-work
returns-clause-work g c told tree t begun before own o back began now may =
    let file = g.S.Store.file c.args.store.now in
    let m = c.args.movie.now in
    let w = c.args.walk.now in
    let set = c.turn_back.new.self in
    let mid = c.carry_piece.new.walk in
    let e = c.in_ok-carry_piece.ensures in
    let k = e.work told tree t own o (c.turn_back.ensures.may file tree t m begun before own back c.requires.walk began) in
    let mark = e.went.mark ∙ ap (λ (v : Walk). v.mark) c.turn_back.ensures.is in
    let there : GoesBackTo file tree t m w mid w.mark.to_come = record { is_walk = c.requires.walk; mark = mark; earlier = k.1.earlier; later = k.1.later; stands = k.1.stands } in
    let far = is_mark_farther mid in
    let on = c.go_farther.ensures.may file tree t m w w.mark.to_come now k.0 there e.piece.walk.walk may k.1 in
    let next = ap (λ (v : Walk). v.next) c.turn_back.ensures.is in
    let kind = ap (λ (v : Walk). v.before) c.turn_back.ensures.is in
    let fits = farther_fits file m tree o t w set mid now k.0 far refl (ap (λ (x : Mark). x.next) mark) (ap (λ (x : Mark). x.place) mark)
    (farther_mark file m tree o t w set mid c.requires.walk e.piece.walk.walk c.requires.marked next kind e.went.ahead now k.0 may k.1) (farther_walk file m tree o t w set mid c.requires.walk e.piece.walk.walk c.requires.marked next kind e.went.ahead now k.0 may k.1) e.went.ahead _ _ own k.2 in
    ((if far then now else k.0), on, fits.0, fits.1)
