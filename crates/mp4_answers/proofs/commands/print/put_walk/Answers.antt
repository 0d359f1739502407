use Rattle.std.proofs.Common.{◌∙◌, ap, length, arith}
use Rattle.std.specs.Prelude.{flat_map}
use Rattle.std.proofs.lemmas.Result.{err_from_is_err_and}
use Rattle.mp4_present.specs.words.Carried.{waiting}
use Rattle.mp4_present.specs.words.SamplesComing.{samples_behind}
use Rattle.mp4_present.proofs.WalkCopied.{loads_more, loads_none}
use Rattle.mp4_present.proofs.WayThrough.{takes_then, takes_most, most_then}
use Rattle.mp4_answers.specs.words.ToldSamples.{told_sample}
use Rattle.mp4_answers.proofs.TextsGoOn.{texts_all, texts_front}
use Rattle.mp4_answers.proofs.ToldWalks.{hand_begun, hand_fails, hand_told, left_lie}
use Rattle.mp4_answers.proofs.commands.print.put_walk.Goals as goal

pub loop-of-init : goal.loop-of-init
loop-of-init g c =
    let e = c.in_ok-put_hand.ensures in
    record {
      walk = e.walk.walk;
      honesty = e.store.honesty;
      file = e.store.file;
      reads = e.store.reads;
      looks = e.looks;
      puts = e.store.puts;
      empty = e.empty;
      grows = e.grows;
      takes = λ told tree t n o may. e.work (g.S.Store.file c.args.store.now) tree t n o may;
      told = λ told tree t samples o k lie.
          let file = g.S.Store.file c.args.store.now in
          let f = told_sample c.args.of.style.now file in
          let h = hand_begun f (length file) _ (g.met.K.Sink.takes_nothing c.args.sink.now) (waiting c.args.desk.now.text) samples lie in
          let x = e.told in
          let own = left_lie f file tree t c.args.of.movie.now g.met.K.Sink.takes_on _ _ c.put_hand.new.sink _ _ c.args.walk.now samples samples h k x.0 x.1 in
          hand_told f file tree t c.args.of.movie.now g.met.K.Sink.takes_on _ _ _ _ _ c.args.walk.now samples samples h k x.0 x.1 (waiting c.put_hand.new.desk.text) c.put_hand.new.walk (x.2 told own).text.all e.walk.stands;
    }

pub loop-of-preserved : goal.loop-of-preserved
loop-of-preserved g c =
    let i = c.loop-of.invariant in
    let l = c.in_ok-load.ensures in
    let e = c.in_ok-put_hand-2.ensures in
    let file = g.S.Store.file c.args.store.now in
    record {
      walk = e.walk.walk;
      honesty = e.store.honesty ∙ l.store.honesty ∙ i.honesty;
      file = e.store.file ∙ l.store.file ∙ i.file;
      reads = e.store.reads ∙ l.store.reads ∙ i.reads;
      looks = e.looks ∙ l.looks ∙ i.looks;
      puts = e.store.puts ∙ i.puts;
      empty = e.empty;
      grows =
          let before = i.grows in
          let loaded = l.grows in
          let put = e.grows in
          omega (arith, before, loaded, put);
      takes = λ told tree t n o may.
          let loads = takes_then file tree t n _ _ _ c.loop-of.walk c.load.new.self (i.takes told tree t n o may) (λ k may. (rw (i.honesty, i.file) at l.work) told tree t k o may) in
          takes_then file tree t n _ _ _ c.load.new.self c.put_hand-in-loop-of.new.walk loads (λ k may. e.work file tree t k o may);
      told = λ told tree t samples o k lie.
          let f = told_sample c.args.of.style.now file in
          let m = c.args.of.movie.now in
          let u = i.told told tree t samples o k lie in
          let to_come = samples_behind tree t u.earlier u.later in
          let comes = loads_more file tree t m to_come c.load.new.self c.in_ok-load.field-0 c.if-branch.true ((rw (i.honesty, i.file) at l.loaded) told tree t u.earlier u.later o u.stands) in
          let x = (rw (l.store.honesty ∙ i.honesty, l.store.file ∙ i.file) at e.told) in
          let own = left_lie f file tree t m g.met.K.Sink.takes_on _ _ c.put_hand-in-loop-of.new.sink _ _ c.load.new.self samples to_come u.told comes x.0 x.1 in
          hand_told f file tree t m g.met.K.Sink.takes_on _ _ _ _ _ c.load.new.self samples to_come u.told comes x.0 x.1 (waiting c.put_hand-in-loop-of.new.desk.text) c.put_hand-in-loop-of.new.walk (x.2 told own).text.all e.walk.stands;
    }

-- ---- lines

pub returns-in_err-put_hand-clause-told : goal.returns-in_err-put_hand-clause-told
returns-in_err-put_hand-clause-told g c =
    let p = err_from_is_err_and c.from_residual.result c.from_residual.ensures.1 in
    rw (p.1, p.2) (λ told tree t samples o k lie.
    let file = g.S.Store.file c.args.store.now in
    let f = told_sample c.args.of.style.now file in
    let m = c.args.of.movie.now in
    let h = hand_begun f (length file) _ (g.met.K.Sink.takes_nothing c.args.sink.now) (waiting c.args.desk.now.text) samples lie in
    let x = c.in_err-put_hand.ensures.told in
    let y = x.2 told (left_lie f file tree t m g.met.K.Sink.takes_on _ _ c.put_hand.new.sink _ _ c.args.walk.now samples samples h k x.0 x.1) in
    record {
      text = record { all = tt; front = hand_fails f file tree t m g.met.K.Sink.takes_on _ _ _ _ _ c.args.walk.now samples samples h k x.0 x.1 y.text.front };
      unchanged = y.unchanged;
    })

pub returns-in_err-load-clause-told : goal.returns-in_err-load-clause-told
returns-in_err-load-clause-told g c =
    let p = err_from_is_err_and c.from_residual-in_err-load.result c.from_residual-in_err-load.ensures.1 in
    let i = c.loop-of.invariant in
    rw (p.1, p.2) (λ told tree t samples o k lie.
    let u = i.told told tree t samples o k lie in
    record {
      text = record { all = tt; front = texts_front _ _ _ _ _ u.told.goes };
      unchanged = (rw (i.honesty, i.file) at c.in_err-load.ensures.loaded) told tree t u.earlier u.later o u.stands;
    })

pub returns-in_err-put_hand-2-clause-told : goal.returns-in_err-put_hand-2-clause-told
returns-in_err-put_hand-2-clause-told g c =
    let p = err_from_is_err_and c.from_residual-in_err-put_hand-2.result c.from_residual-in_err-put_hand-2.ensures.1 in
    let i = c.loop-of.invariant in
    let l = c.in_ok-load.ensures in
    rw (p.1, p.2) (λ told tree t samples o k lie.
    let file = g.S.Store.file c.args.store.now in
    let f = told_sample c.args.of.style.now file in
    let m = c.args.of.movie.now in
    let u = i.told told tree t samples o k lie in
    let to_come = samples_behind tree t u.earlier u.later in
    let comes = loads_more file tree t m to_come c.load.new.self c.in_ok-load.field-0 c.if-branch.true ((rw (i.honesty, i.file) at l.loaded) told tree t u.earlier u.later o u.stands) in
    let x = (rw (l.store.honesty ∙ i.honesty, l.store.file ∙ i.file) at c.in_err-put_hand-2.ensures.told) in
    let y = x.2 told (left_lie f file tree t m g.met.K.Sink.takes_on _ _ c.put_hand-in-loop-of.new.sink _ _ c.load.new.self samples to_come u.told comes x.0 x.1) in
    record {
      text = record { all = tt; front = hand_fails f file tree t m g.met.K.Sink.takes_on _ _ _ _ _ c.load.new.self samples to_come u.told comes x.0 x.1 y.text.front };
      unchanged = y.unchanged;
    })

pub returns-clause-told : goal.returns-clause-told
returns-clause-told g c told tree t samples o k lie =
    let i = c.loop-of.invariant in
    let file = g.S.Store.file c.args.store.now in
    let f = told_sample c.args.of.style.now file in
    let u = i.told told tree t samples o k lie in
    let to_come = samples_behind tree t u.earlier u.later in
    let none = loads_none file tree t c.args.of.movie.now to_come c.load.new.self c.in_ok-load.field-0 c.if-branch.false ((rw (i.honesty, i.file) at c.in_ok-load.ensures.loaded) told tree t u.earlier u.later o u.stands) in
    record {
      text = record { all = texts_all _ _ _ _ _ u.told.goes (ap (flat_map f) none); front = tt };
      unchanged = tt;
    }

-- ---- steps

pub returns-in_err-put_hand-clause-work : goal.returns-in_err-put_hand-clause-work
returns-in_err-put_hand-clause-work g c told tree t n o may = let idle = c.in_err-put_hand.ensures.work in omega (arith, idle)

pub returns-in_err-load-clause-work : goal.returns-in_err-load-clause-work
returns-in_err-load-clause-work g c told tree t n o may =
    let i = c.loop-of.invariant in
    most_then (g.S.Store.file c.args.store.now) tree t n _ _ _ c.loop-of.walk (i.takes told tree t n o may) (λ k may. (rw (i.honesty, i.file) at c.in_err-load.ensures.work) told tree t k o may)

pub returns-in_err-put_hand-2-clause-work : goal.returns-in_err-put_hand-2-clause-work
returns-in_err-put_hand-2-clause-work g c told tree t n o may =
    let i = c.loop-of.invariant in
    let file = g.S.Store.file c.args.store.now in
    let loads = takes_then file tree t n _ _ _ c.loop-of.walk c.load.new.self (i.takes told tree t n o may) (λ k may. (rw (i.honesty, i.file) at c.in_ok-load.ensures.work) told tree t k o may) in
    let most = takes_most file tree t n _ _ c.load.new.self loads in
    let idle = c.in_err-put_hand-2.ensures.work in
    omega (arith, most, idle)

pub returns-clause-work : goal.returns-clause-work
returns-clause-work g c told tree t n o may =
    let i = c.loop-of.invariant in
    let file = g.S.Store.file c.args.store.now in
    let loads = takes_then file tree t n _ _ _ c.loop-of.walk c.load.new.self (i.takes told tree t n o may) (λ k may. (rw (i.honesty, i.file) at c.in_ok-load.ensures.work) told tree t k o may) in
    takes_most file tree t n _ _ c.load.new.self loads
