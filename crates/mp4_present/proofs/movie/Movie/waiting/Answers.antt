use Rattle.std.proofs.Common.{Some, sym, ap, subst}
use Rattle.std.proofs.lemmas.Result.{err_from_is_err_and}
use Rattle.mp4_present.specs.words.Movies.{MovieSeen}
use Rattle.mp4_present.specs.words.OpenedMovie.{IsOpenedAs}
use Rattle.mp4_present.specs.words.Waits.{HasLimits}
use Rattle.mp4_present.proofs.ToldTrees.{told_presents}
use Rattle.mp4_present.proofs.WaitsTold.{has_limits, is_opened, is_told, told}
use Rattle.mp4_present.proofs.movie.Movie.waiting.Goals as goal

pub returns-in_err-mehd-clause-fault : goal.returns-in_err-mehd-clause-fault
returns-in_err-mehd-clause-fault c file tree o own fits =
    let p = err_from_is_err_and c.from_residual.result c.from_residual.ensures.1 in
    let ws = c.args.waits.items in
    let m = c.args.self in
    let t = told ws file m tree o own fits in
    let limits = subst (λ (v : MovieSeen). HasLimits file v t) (ap (λ (v : MovieSeen). record v { waits = Some ws }) (sym c.self.view_is)) (has_limits ws file m tree o own fits m.mehd) in
    rw (p.1, p.2) (t, is_told ws file m tree o own fits, c.in_err-mehd.ensures.fault file t limits)

pub returns-in_err-mehd-clause-unchanged : goal.returns-in_err-mehd-clause-unchanged
returns-in_err-mehd-clause-unchanged c file tree o own fits =
    let p = err_from_is_err_and c.from_residual.result c.from_residual.ensures.1 in
    let ws = c.args.waits.items in
    let m = c.args.self in
    let t = told ws file m tree o own fits in
    let limits = subst (λ (v : MovieSeen). HasLimits file v t) (ap (λ (v : MovieSeen). record v { waits = Some ws }) (sym c.self.view_is)) (has_limits ws file m tree o own fits m.mehd) in
    rw (p.1, p.2) (c.in_err-mehd.ensures.unchanged file t limits)

pub returns-clause-movie : goal.returns-clause-movie
returns-clause-movie c file tree o own fits =
    let ws = c.args.waits.items in
    let m = c.args.self in
    let n = c.in_ok-mehd.mehd in
    let t = told ws file m tree o own fits in
    let limits = subst (λ (v : MovieSeen). HasLimits file v t) (ap (λ (v : MovieSeen). record v { waits = Some ws }) (sym c.self.view_is)) (has_limits ws file m tree o own fits m.mehd) in (
      t,
      subst (λ (v : MovieSeen). IsOpenedAs file v t) (ap (λ (v : MovieSeen). record v { waits = Some ws; mehd = n }) (sym c.self.view_is)) (is_opened ws file m tree o own fits n (c.in_ok-mehd.ensures.within file t limits)),
      is_told ws file m tree o own fits,
      told_presents ws file tree t (is_told ws file m tree o own fits),
    )
