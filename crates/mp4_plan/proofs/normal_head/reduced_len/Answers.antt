use Rattle.std.proofs.Common.{◌≡◌, List, ℕ, length, subst, sym, arith}
use Rattle.std.proofs.lemmas.Result.{err_from_is_err_and}
use Rattle.std.specs.Prelude.{IsTrue}
use Rattle.mp4_present.specs.words.OpenedMovie.{IsOpenedAs}
use Rattle.mp4_content.specs.words.ComingLess.{reductions_of}
use Rattle.mp4_content.specs.words.Contents.{content_left}
use Rattle.mp4_content.specs.words.Scales.{AreScales}
use Rattle.mp4_present.specs.format.Denotes.{presentation_of}
use Rattle.mp4_present.specs.format.Presentation.{movie_length}
use Rattle.mp4_content.specs.format.Remaining.{RemainsInLimits, RemainsInRange, remaining}
use Rattle.mp4_content.specs.declared.without.Without.{Without}
use Rattle.mp4_plan.specs.format.Normal.{normal}
use Rattle.mp4_plan.specs.words.Writers.{ArePiecesLong}
use Rattle.mp4_plan.proofs.NormalHead as less
use Rattle.mp4_plan.proofs.NormalHead.{less_long}
use Rattle.mp4_plan.proofs.LeftRefused.{plan_names}
use Rattle.mp4_plan.proofs.normal_head.reduced_len.Goals as goal

pub returns-clause-length : goal.returns-clause-length
returns-clause-length g c told tree o =
    let file = g.S.Store.file c.args.store.now in
    let made = c.in_ok-content.ensures in
    let left = made.left told tree o in
    let l = c.in_ok-content.content.leaving in
    let mehd = movie_length (remaining l (presentation_of file tree)) in
    let m = c.args.movie.now in
    let content = c.in_ok-content.content in
    let back = sym made.store.file in
    let long = subst (λ (f : List ℕ). ArePiecesLong (content_left content f tree) c.in_ok-len.len) made.store.file (c.in_ok-len.ensures.length (subst IsTrue (sym made.store.honesty) told) tree (subst (λ (f : List ℕ). IsOpenedAs f m tree) back o)
    (subst (λ (f : List ℕ). AreScales l f tree content.scales) back left.scales) (subst (λ (f : List ℕ). content.of_tracks.items ≡ reductions_of l f tree) back left.reductions) (subst (λ (f : List ℕ). RemainsInRange l (presentation_of f tree)) back left.in_limits.in_range)) in
    subst (λ (k : Without). c.saturating_add.result ≡ length (normal (remaining k (presentation_of file tree)))) made.leaving
    (less_long _ c.in_ok-head.head mehd c.in_ok-len.len c.head_len.result c.min.result c.saturating_add.result
    (less.head_left l file c.args.movie.now tree c.in_ok-content.content.scales c.in_ok-read.read c.in_ok-head.head o c.in_ok-read.ensures c.in_ok-head.ensures.movie c.in_ok-head.ensures.tracks left.scales)
    long (c.head_len.ensures.length mehd) c.min.ensures c.saturating_add.ensures)

pub returns-clause-in_limits : goal.returns-clause-in_limits
returns-clause-in_limits g c told tree o =
    let made = c.in_ok-content.ensures in
    subst (λ (l : Without). RemainsInLimits l (presentation_of (g.S.Store.file c.args.store.now) tree)) made.leaving (made.left told tree o).in_limits

pub returns-in_err-own-clause-work : goal.returns-in_err-own-clause-work
returns-in_err-own-clause-work g c told tree o =
    let same = c.in_ok-content.ensures.store in
    let first = c.in_ok-content.ensures.work told tree o in
    let then = (rw (same.honesty, same.file) at c.in_ok-len.ensures.work) told tree o in
    omega (arith, first, then)

pub returns-in_err-head-clause-work : goal.returns-in_err-head-clause-work
returns-in_err-head-clause-work g c told tree o =
    let same = c.in_ok-content.ensures.store in
    let first = c.in_ok-content.ensures.work told tree o in
    let then = (rw (same.honesty, same.file) at c.in_ok-len.ensures.work) told tree o in
    omega (arith, first, then)

pub returns-clause-work : goal.returns-clause-work
returns-clause-work g c told tree o =
    let same = c.in_ok-content.ensures.store in
    let first = c.in_ok-content.ensures.work told tree o in
    let then = (rw (same.honesty, same.file) at c.in_ok-len.ensures.work) told tree o in
    omega (arith, first, then)

pub returns-in_err-head-clause-fault : goal.returns-in_err-head-clause-fault
returns-in_err-head-clause-fault g c told tree o =
    let p = err_from_is_err_and c.from_residual-in_err-head.result c.from_residual-in_err-head.ensures.1 in
    rw (p.1, p.2) tt

pub returns-in_err-own-clause-fault : goal.returns-in_err-own-clause-fault
returns-in_err-own-clause-fault g c told tree o =
    let p = err_from_is_err_and c.from_residual-in_err-own.result c.from_residual-in_err-own.ensures.1 in
    rw (p.1, p.2) tt

pub returns-in_err-own-clause-unchanged : goal.returns-in_err-own-clause-unchanged
returns-in_err-own-clause-unchanged g c told tree o =
    let p = err_from_is_err_and c.from_residual-in_err-own.result c.from_residual-in_err-own.ensures.1 in
    rw (p.1, p.2) (λ e. absurd cc)

pub returns-in_err-head-clause-unchanged : goal.returns-in_err-head-clause-unchanged
returns-in_err-head-clause-unchanged g c told tree o =
    let p = err_from_is_err_and c.from_residual-in_err-head.result c.from_residual-in_err-head.ensures.1 in
    rw (p.1, p.2) (λ e. absurd cc)

pub returns-in_err-len-clause-fault : goal.returns-in_err-len-clause-fault
returns-in_err-len-clause-fault g c told tree o =
    let p = err_from_is_err_and c.from_residual-in_err-len.result c.from_residual-in_err-len.ensures.1 in
    rw (p.1, p.2) (plan_names c.args.leaving (g.S.Store.file c.args.store.now) tree _ _ _ c.in_err-len.ensures.refusal)

pub returns-in_err-len-clause-unchanged : goal.returns-in_err-len-clause-unchanged
returns-in_err-len-clause-unchanged g c told tree o =
    let p = err_from_is_err_and c.from_residual-in_err-len.result c.from_residual-in_err-len.ensures.1 in
    let made = c.in_ok-content.ensures in
    let left = made.left told tree o in
    let content = c.in_ok-content.content in
    let l = content.leaving in
    let back = sym made.store.file in
    rw (p.1, p.2) (c.in_err-len.ensures.unchanged (subst IsTrue (sym made.store.honesty) told) tree (subst (λ (f : List ℕ). IsOpenedAs f c.args.movie.now tree) back o)
    (subst (λ (f : List ℕ). AreScales l f tree content.scales) back left.scales) (subst (λ (f : List ℕ). content.of_tracks.items ≡ reductions_of l f tree) back left.reductions) (subst (λ (f : List ℕ). RemainsInRange l (presentation_of f tree)) back left.in_limits.in_range))

pub returns-in_err-len-clause-work : goal.returns-in_err-len-clause-work
returns-in_err-len-clause-work g c told tree o =
    let same = c.in_ok-content.ensures.store in
    let first = c.in_ok-content.ensures.work told tree o in
    let then = (rw (same.honesty, same.file) at c.in_err-len.ensures.work) told tree o in
    omega (arith, first, then)

pub returns-in_err-read-clause-work : goal.returns-in_err-read-clause-work
returns-in_err-read-clause-work g c told tree o =
    let same = c.in_ok-content.ensures.store in
    let first = c.in_ok-content.ensures.work told tree o in
    let then = (rw (same.honesty, same.file) at c.in_ok-len.ensures.work) told tree o in
    omega (arith, first, then)
