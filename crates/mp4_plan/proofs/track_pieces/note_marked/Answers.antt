use Rattle.std.proofs.Common.{rules, ◌<◌, length, drop, refl, sym, ap, subst, ◌∙◌, arith}
use Rattle.std.proofs.lemmas.Result.{err_from_is_err_and}
use Rattle.mp4_present.specs.words.Movies.{mark_of}
use Rattle.mp4_content.specs.words.ComingLess.{ComesLess, less}
use Rattle.mp4_plan.specs.declared.planner.Planned.{Planned}
use Rattle.mp4_plan.proofs.PieceCounts.{piece_counts, piece_within}
use Rattle.mp4_content.proofs.ReducedTaken.{less_length}
use Rattle.mp4_content.proofs.WalksGone.{comes_marked, to_come_is}
use Rattle.mp4_plan.proofs.WritingSteps.{finishes_noted}
use Rattle.mp4_plan.proofs.track_pieces.note_marked.Goals as goal
use Rattle.mp4_plan.proofs.track_pieces.note_marked.Goals.{then-planned-eq0-via-then-planned-eq0, then-planned-eq0-via-else-planned-eq0+then-planned-left}

pub returns-in_err-planned-clause-unchanged : goal.returns-in_err-planned-clause-unchanged
returns-in_err-planned-clause-unchanged g c told tree t samples o h marked some few =
    let p = err_from_is_err_and c.from_residual.result c.from_residual.ensures.1 in
    rw (p.1, p.2) (c.in_err-planned.ensures.unchanged told tree t samples o h few)

pub returns-in_err-planned-clause-work : goal.returns-in_err-planned-clause-work
returns-in_err-planned-clause-work g c told tree t n o h =
    let p = err_from_is_err_and c.from_residual.result c.from_residual.ensures.1 in
    let most = c.in_err-planned.ensures.work told tree t h.own o h.may in
    let sum = h.sum in
    rw p.1 (omega (arith, most, sum))

pub returns-then-planned-eq0-clause-unchanged : goal.returns-then-planned-eq0-clause-unchanged
returns-then-planned-eq0-clause-unchanged g c told tree t samples o h marked some few e =
    let p = c.in_ok-planned.ensures.planned told tree t samples o h in
    let counted = ap (λ (q : Planned). q.count) p.0 ∙ piece_counts c.args.portion.end samples in
    let within = piece_within c.args.portion.end samples in
    let left = c.to_come-left.ensures ∙ to_come_is c.args.walk.now (length samples) marked in
    elim c.then-planned-eq0.branch [
      | then-planned-eq0-via-then-planned-eq0 v ↦ (let none = v.if-planned-eq0.true in absurd (omega (arith, none, counted, some)))
      | then-planned-eq0-via-else-planned-eq0+then-planned-left v ↦ (let more = v.if-planned-left.true in absurd (omega (arith, more, counted, within, left)))
    ]

pub returns-then-planned-eq0-clause-work : goal.returns-then-planned-eq0-clause-work
returns-then-planned-eq0-clause-work g c told tree t n o h =
    let k = c.in_ok-planned.ensures.work told tree t h.own o h.may in
    let within = k.2 in
    let sum = h.sum in
    omega (arith, within, sum)

pub returns-clause-planned : goal.returns-clause-planned
returns-clause-planned g c told tree t samples o h =
    let file = g.S.Store.file c.args.store.now in
    let m = c.args.movie.now in
    let p = c.in_ok-planned.ensures.planned told tree t samples o h in
    let counted = ap (λ (q : Planned). q.count) p.0 ∙ piece_counts c.args.portion.end samples in
    let rest = subst (λ n. ComesLess c.args.portion.reduction file tree t m c.note_piece.new.walk (drop n samples)) (sym counted) p.1 in
    (p.0, λ marked. (comes_marked c.args.portion.reduction file tree t m c.args.walk.now c.note_piece.new.walk c.in_ok-planned.planned.count samples c.requires.walk h marked _ _ c.in_ok-planned.ensures.went rest).0)

pub returns-clause-work : goal.returns-clause-work
returns-clause-work g c told tree t n o h =
    let file = g.S.Store.file c.args.store.now in
    let m = c.args.movie.now in
    let e = c.in_ok-planned.ensures in
    let left = less c.args.portion.reduction h.samples in
    let own : ComesLess c.args.portion.reduction file tree t m c.args.walk.now left = record { samples = h.samples; comes = h.comes; is_left = refl } in
    let p = e.planned told tree t left o own in
    let counted = ap (λ (q : Planned). q.count) p.0 ∙ piece_counts c.args.portion.end left in
    let rest = subst (λ n. ComesLess c.args.portion.reduction file tree t m c.note_piece.new.walk (drop n left)) (sym counted) p.1 in
    let marked = h.marked ∙ ap (λ n. mark_of c.args.walk.now n) (sym (less_length c.args.portion.reduction h.samples)) in
    let k = comes_marked c.args.portion.reduction file tree t m c.args.walk.now c.note_piece.new.walk c.in_ok-planned.planned.count left c.requires.walk own marked _ _ e.went rest in
    let some : 0 < c.in_ok-planned.planned.count = search rules in
    finishes_noted file m tree o t c.args.portion.reduction c.in_ok-planned.planned.count c.args.walk.now c.note_piece.new.walk n _ _ left h k.0 k.1 e.went (e.work told tree t h.own o h.may) (λ zero. absurd (omega (arith, some, zero)))
