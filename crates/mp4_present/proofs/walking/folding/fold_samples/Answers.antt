use Rattle.std.proofs.Common.{◌∙◌, refl, arith}
use Rattle.std.proofs.lemmas.Result.{err_from_is_err_and}
use Rattle.mp4_present.specs.words.SamplesComing.{samples_behind}
use Rattle.mp4_present.proofs.WalkCopied.{loads_more, loads_none}
use Rattle.mp4_present.proofs.WayThrough.{takes_then, takes_most, most_then}
use Rattle.mp4_present.proofs.Folded.{all_handed, hand_added, none_handed, rest_stays}
use Rattle.mp4_present.proofs.walking.folding.fold_samples.Goals as goal

pub loop-into-init : goal.loop-into-init
loop-into-init g c =
    let e = c.fold_hand.ensures in
    record {
      walk = e.walk.walk;
      honesty = refl;
      file = refl;
      reads = refl;
      looks = e.looks;
      grows = e.grows;
      takes = λ told tree t n o may. e.work (g.S.Store.file c.args.store.now) tree t n o may;
      added = λ told tree t samples o k.
          hand_added g.F.Fold.takes (g.S.Store.file c.args.store.now) tree t c.args.movie.now c.args.into.now c.args.into.now c.fold_hand.new.into c.args.walk.now c.fold_hand.new.walk samples samples (none_handed g.F.Fold.takes c.args.into.now samples) k e.added
          (e.walk.stands (g.S.Store.file c.args.store.now) tree t);
    }

pub loop-into-preserved : goal.loop-into-preserved
loop-into-preserved g c =
    let i = c.loop-into.invariant in
    let l = c.in_ok-load.ensures in
    let e = c.fold_hand-in-loop-into.ensures in
    let file = g.S.Store.file c.args.store.now in
    record {
      walk = e.walk.walk;
      honesty = l.store.honesty ∙ i.honesty;
      file = l.store.file ∙ i.file;
      reads = l.store.reads ∙ i.reads;
      looks = e.looks ∙ l.looks ∙ i.looks;
      grows =
          let before = i.grows in
          let loaded = l.grows in
          let more = e.grows in
          omega (arith, before, loaded, more);
      takes = λ told tree t n o may.
          let loads = takes_then file tree t n _ _ _ c.loop-into.walk c.load.new.self (i.takes told tree t n o may) (λ k may. (rw (i.honesty, i.file) at l.work) told tree t k o may) in
          takes_then file tree t n _ _ _ c.load.new.self c.fold_hand-in-loop-into.new.walk loads (λ k may. e.work file tree t k o may);
      added = λ told tree t samples o k.
          let u = i.added told tree t samples o k in
          let to_come = samples_behind tree t u.earlier u.later in
          let comes = loads_more file tree t c.args.movie.now to_come c.load.new.self c.in_ok-load.field-0 c.if-branch.true ((rw (i.honesty, i.file) at l.loaded) told tree t u.earlier u.later o u.stands) in
          hand_added g.F.Fold.takes file tree t c.args.movie.now c.args.into.now c.loop-into.into c.fold_hand-in-loop-into.new.into c.load.new.self c.fold_hand-in-loop-into.new.walk samples to_come u.added comes e.added (e.walk.stands file tree t);
    }

pub returns-in_err-load-clause-unchanged : goal.returns-in_err-load-clause-unchanged
returns-in_err-load-clause-unchanged g c told tree t samples o k =
    let p = err_from_is_err_and c.from_residual.result c.from_residual.ensures.1 in
    let i = c.loop-into.invariant in
    let u = i.added told tree t samples o k in
    rw (p.1, p.2) ((rw (i.honesty, i.file) at c.in_err-load.ensures.loaded) told tree t u.earlier u.later o u.stands)

pub returns-clause-added : goal.returns-clause-added
returns-clause-added g c told tree t samples o k =
    let i = c.loop-into.invariant in
    let u = i.added told tree t samples o k in
    let to_come = samples_behind tree t u.earlier u.later in
    let none = loads_none (g.S.Store.file c.args.store.now) tree t c.args.movie.now to_come c.load.new.self c.in_ok-load.field-0 c.if-branch.false ((rw (i.honesty, i.file) at c.in_ok-load.ensures.loaded) told tree t u.earlier u.later o u.stands) in
    all_handed g.F.Fold.takes c.args.into.now c.loop-into.into samples to_come u.added none

pub returns-then-not-goes_on-clause-added : goal.returns-then-not-goes_on-clause-added
returns-then-not-goes_on-clause-added g c told tree t samples o k =
    let u = c.loop-into.invariant.added told tree t samples o k in
    rest_stays g.F.Fold.takes c.args.into.now c.loop-into.into samples (samples_behind tree t u.earlier u.later) u.added (c.goes_on.ensures c.if-not-goes_on.true)

pub returns-in_err-load-clause-work : goal.returns-in_err-load-clause-work
returns-in_err-load-clause-work g c told tree t n o may =
    let i = c.loop-into.invariant in
    most_then (g.S.Store.file c.args.store.now) tree t n _ _ _ c.loop-into.walk (i.takes told tree t n o may) (λ k may. (rw (i.honesty, i.file) at c.in_err-load.ensures.work) told tree t k o may)

pub returns-clause-work : goal.returns-clause-work
returns-clause-work g c told tree t n o may =
    let i = c.loop-into.invariant in
    let file = g.S.Store.file c.args.store.now in
    let loads = takes_then file tree t n _ _ _ c.loop-into.walk c.load.new.self (i.takes told tree t n o may) (λ k may. (rw (i.honesty, i.file) at c.in_ok-load.ensures.work) told tree t k o may) in
    takes_most file tree t n _ _ c.load.new.self loads

pub returns-then-not-goes_on-clause-work : goal.returns-then-not-goes_on-clause-work
returns-then-not-goes_on-clause-work g c told tree t n o may =
    let i = c.loop-into.invariant in
    let file = g.S.Store.file c.args.store.now in
    let loads = takes_then file tree t n _ _ _ c.loop-into.walk c.load.new.self (i.takes told tree t n o may) (λ k may. (rw (i.honesty, i.file) at c.in_ok-load.ensures.work) told tree t k o may) in
    takes_most file tree t n _ _ c.load.new.self loads
