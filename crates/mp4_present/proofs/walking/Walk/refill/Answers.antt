use Rattle.std.proofs.Common.{rules, ◌≡◌, false, subst, sym, ◌∙◌}
use Rattle.std.specs.Prelude.{is_some}
use Rattle.std.proofs.lemmas.Result.{err_from_is_err_and}
use Rattle.mp4_present.specs.words.SamplesComing.{Comes}
use Rattle.mp4_present.proofs.NextSample.{none_is, none_left}
use Rattle.mp4_present.proofs.WalkCopied.{loads_more, loads_none}
use Rattle.mp4_present.proofs.WayThrough.{takes_most}
use Rattle.mp4_present.proofs.walking.Walk.refill.Goals as goal

pub returns-then-not-branch-clause-unchanged : goal.returns-then-not-branch-clause-unchanged
returns-then-not-branch-clause-unchanged g c told tree t samples o h some e =
    let file = g.S.Store.file c.args.store.now in
    let hand = c.in_hand.result in
    let no : is_some c.peek.result ≡ false = search rules in
    let none = none_is c.peek.result _ c.peek.ensures no in
    let all = none_left file tree t c.args.movie.now c.args.self.now hand samples c.in_hand.ensures.hand none h in
    some (all ∙ loads_none file tree t c.args.movie.now _ c.load.new.self c.in_ok-load.field-0 c.if-not-branch.true (c.in_ok-load.ensures.loaded told tree t h.0 h.1 o h.3.0))

pub returns-in_err-load-clause-unchanged : goal.returns-in_err-load-clause-unchanged
returns-in_err-load-clause-unchanged g c =
    let p = err_from_is_err_and c.from_residual.result c.from_residual.ensures.1 in
    rw (p.1, p.2) (λ told tree t samples o h some. c.in_err-load.ensures.loaded told tree t h.0 h.1 o h.3.0)

pub returns-in_err-load-clause-work : goal.returns-in_err-load-clause-work
returns-in_err-load-clause-work g c =
    let p = err_from_is_err_and c.from_residual.result c.from_residual.ensures.1 in
    rw p.1 (λ told tree t n o h. c.in_err-load.ensures.work told tree t n o h)

pub returns-then-not-branch-clause-work : goal.returns-then-not-branch-clause-work
returns-then-not-branch-clause-work g c told tree t n o h =
    takes_most (g.S.Store.file c.args.store.now) tree t n c.args.steps.now.passed _ c.load.new.self (c.in_ok-load.ensures.work told tree t n o h)

pub returns-clause-coming : goal.returns-clause-coming
returns-clause-coming g c told tree t samples o h =
    let file = g.S.Store.file c.args.store.now in
    let m = c.args.movie.now in
    let hand = c.in_hand.result in
    let no : is_some c.peek.result ≡ false = search rules in
    let none = none_is c.peek.result _ c.peek.ensures no in
    let all = none_left file tree t m c.args.self.now hand samples c.in_hand.ensures.hand none h in
    subst (Comes file tree t m c.load.new.self) (sym all)
    (loads_more file tree t m _ c.load.new.self c.in_ok-load.field-0 c.if-not-branch.false (c.in_ok-load.ensures.loaded told tree t h.0 h.1 o h.3.0))
