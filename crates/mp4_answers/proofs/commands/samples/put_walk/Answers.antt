use Rattle.std.proofs.Common.{refl, ◌∙◌, arith, length}
use Rattle.std.proofs.lemmas.Result.{err_from_is_err_and}
use Rattle.mp4_present.specs.words.Carried.{waiting}
use Rattle.mp4_present.specs.words.SamplesComing.{samples_behind}
use Rattle.mp4_present.proofs.WalkCopied.{on_ok, on_err, if_err, put_unchanged, loads_more, loads_none}
use Rattle.mp4_answers.specs.format.Texts.{lines_in_fragments}
use Rattle.mp4_answers.specs.words.ListedWalks.{numbers_of_last}
use Rattle.mp4_answers.proofs.Going.{going_none}
use Rattle.mp4_answers.proofs.WalkLines.{first_numbers, lines_next, lines_fail, lines_stop, lines_whole, lines_not_put, next_numbers, numbers_behind}
use Rattle.mp4_present.proofs.WayThrough.{takes_then, takes_most, most_then}
use Rattle.mp4_answers.proofs.commands.samples.put_walk.Goals as goal

pub returns-in_err-put_hand-clause-lines : goal.returns-in_err-put_hand-clause-lines
returns-in_err-put_hand-clause-lines g c =
    let p = err_from_is_err_and c.from_residual.result c.from_residual.ensures.1 in
    let file = g.S.Store.file c.args.store.now in
    let sink = c.args.sink.now in
    let held = waiting c.args.text.now.carrier in
    let m = c.args.movie.now in
    let w = c.args.walk.now in
    let form = c.args.text.now.form in
    let x = c.in_err-put_hand.ensures.lines in
    rw (p.1, p.2) (λ told tree t samples o k few.
    let numbers = numbers_of_last tree t (length samples) in
    let lie = first_numbers file tree t m w samples x.0 c.requires.begun o x.1 k x.2.0 x.2.1 in
    record {
      all = tt;
      front = lines_fail form file tree t m g.met.K.Sink.takes_on sink sink _ held held w 1 x.0 numbers numbers samples samples (going_none _ (g.met.K.Sink.takes_nothing sink) held (lines_in_fragments form 1 numbers samples)) refl few k x.2.0 x.2.1 lie x.2.2;
      unchanged = put_unchanged _ _ c.in_err-put_hand.field-0.0 c.in_err-put_hand.ensures.puts;
    })

pub loop-text-init : goal.loop-text-init
loop-text-init g c =
    let e = c.in_ok-put_hand.ensures in
    let file = g.S.Store.file c.args.store.now in
    let sink = c.args.sink.now in
    let held = waiting c.args.text.now.carrier in
    let m = c.args.movie.now in
    let w = c.args.walk.now in
    let form = c.args.text.now.form in
    let x = e.lines in
    record {
      walk = e.walk.walk;
      form = e.form;
      honesty = refl;
      file = refl;
      reads = refl;
      looks = e.looks;
      puts = e.puts;
      going = λ told tree t samples o k few.
          let numbers = numbers_of_last tree t (length samples) in
          let lie = first_numbers file tree t m w samples x.0 c.requires.begun o x.1 k x.2.0 x.2.1 in
          lines_next form file tree t m g.met.K.Sink.takes_on sink sink _ held held w 1 x.0 numbers numbers samples samples (going_none _ (g.met.K.Sink.takes_nothing sink) held (lines_in_fragments form 1 numbers samples)) refl few k x.2.0 x.2.1 lie
          (waiting c.put_hand.new.text.carrier) c.put_hand.new.walk c.put_hand.new.number x.2.2 e.walk.stands;
      grows = e.grows;
      takes = λ told tree t n o may. e.work file tree t n o may;
    }

pub returns-in_err-load-clause-lines : goal.returns-in_err-load-clause-lines
returns-in_err-load-clause-lines g c =
    let p = err_from_is_err_and c.from_residual-in_err-load.result c.from_residual-in_err-load.ensures.1 in
    let i = c.loop-text.invariant in
    rw (p.1, p.2) (λ told tree t samples o k few.
    let u = i.going told tree t samples o k few in
    let form = c.args.text.now.form in
    record {
      all = tt;
      front = lines_stop _ (waiting c.args.text.now.carrier) (waiting c.loop-text.text.carrier) (lines_in_fragments form c.loop-text.number (numbers_behind tree t u.earlier u.later) (samples_behind tree t u.earlier u.later))
          (lines_in_fragments form 1 (numbers_of_last tree t (length samples)) samples) u.goes;
      unchanged = (rw (i.honesty, i.file) at c.in_err-load.ensures.loaded) told tree t u.earlier u.later o u.stands;
    })

pub loop-text-preserved : goal.loop-text-preserved
loop-text-preserved g c =
    let i = c.loop-text.invariant in
    let l = c.in_ok-load.ensures in
    let e = c.in_ok-put_hand-2.ensures in
    let x = rw i.form at e.lines in
    let file = g.S.Store.file c.args.store.now in
    let m = c.args.movie.now in
    record {
      walk = e.walk.walk;
      form = e.form ∙ i.form;
      honesty = l.store.honesty ∙ i.honesty;
      file = l.store.file ∙ i.file;
      reads = l.store.reads ∙ i.reads;
      looks = e.looks ∙ l.looks ∙ i.looks;
      puts = e.puts ∙ i.puts;
      going = λ told tree t samples o k few.
          let u = i.going told tree t samples o k few in
          let to_come = samples_behind tree t u.earlier u.later in
          let comes = loads_more file tree t m to_come c.load.new.self c.in_ok-load.field-0 c.if-branch.true ((rw (i.honesty, i.file) at l.loaded) told tree t u.earlier u.later o u.stands) in
          let lie = next_numbers file tree t m c.loop-text.walk c.load.new.self x.0 u.earlier u.later u.stands (l.behind c.if-branch.true) o x.1 comes x.2.0 x.2.1 in
          lines_next c.args.text.now.form file tree t m g.met.K.Sink.takes_on _ _ _ (waiting c.args.text.now.carrier) (waiting c.loop-text.text.carrier) c.load.new.self c.loop-text.number x.0
          (numbers_of_last tree t (length samples)) (numbers_behind tree t u.earlier u.later) samples to_come u.goes u.count few comes x.2.0 x.2.1 lie
          (waiting c.put_hand-in-loop-text.new.text.carrier) c.put_hand-in-loop-text.new.walk c.put_hand-in-loop-text.new.number x.2.2 e.walk.stands;
      grows =
          let before = i.grows in
          let loaded = l.grows in
          let put = e.grows in
          omega (arith, before, loaded, put);
      takes = λ told tree t n o may.
          let loads = takes_then file tree t n _ _ _ c.loop-text.walk c.load.new.self (i.takes told tree t n o may) (λ k may. (rw (i.honesty, i.file) at l.work) told tree t k o may) in
          takes_then file tree t n _ _ _ c.load.new.self c.put_hand-in-loop-text.new.walk loads (λ k may. e.work file tree t k o may);
    }

pub returns-in_err-put_hand-2-clause-lines : goal.returns-in_err-put_hand-2-clause-lines
returns-in_err-put_hand-2-clause-lines g c =
    let p = err_from_is_err_and c.from_residual-in_err-put_hand-2.result c.from_residual-in_err-put_hand-2.ensures.1 in
    let i = c.loop-text.invariant in
    let l = c.in_ok-load.ensures in
    let file = g.S.Store.file c.args.store.now in
    let m = c.args.movie.now in
    let x = rw i.form at c.in_err-put_hand-2.ensures.lines in
    rw (p.1, p.2) (λ told tree t samples o k few.
    let u = i.going told tree t samples o k few in
    let to_come = samples_behind tree t u.earlier u.later in
    let comes = loads_more file tree t m to_come c.load.new.self c.in_ok-load.field-0 c.if-branch.true ((rw (i.honesty, i.file) at l.loaded) told tree t u.earlier u.later o u.stands) in
    let lie = next_numbers file tree t m c.loop-text.walk c.load.new.self x.0 u.earlier u.later u.stands (l.behind c.if-branch.true) o x.1 comes x.2.0 x.2.1 in
    record {
      all = tt;
      front = lines_fail c.args.text.now.form file tree t m g.met.K.Sink.takes_on _ _ _ (waiting c.args.text.now.carrier) (waiting c.loop-text.text.carrier) c.load.new.self c.loop-text.number x.0
          (numbers_of_last tree t (length samples)) (numbers_behind tree t u.earlier u.later) samples to_come u.goes u.count few comes x.2.0 x.2.1 lie x.2.2;
      unchanged = put_unchanged _ _ c.in_err-put_hand-2.field-0.0 c.in_err-put_hand-2.ensures.puts;
    })

pub returns-clause-lines : goal.returns-clause-lines
returns-clause-lines g c told tree t samples o k few =
    let i = c.loop-text.invariant in
    let file = g.S.Store.file c.args.store.now in
    let u = i.going told tree t samples o k few in
    let to_come = samples_behind tree t u.earlier u.later in
    let numbers = numbers_behind tree t u.earlier u.later in
    let lines = lines_in_fragments c.args.text.now.form 1 (numbers_of_last tree t (length samples)) samples in
    let none = loads_none file tree t c.args.movie.now to_come c.load.new.self c.in_ok-load.field-0 c.if-branch.false ((rw (i.honesty, i.file) at c.in_ok-load.ensures.loaded) told tree t u.earlier u.later o u.stands) in
    record {
      all = on_ok _ _ c.flush.result (λ p. lines_whole c.args.text.now.form g.met.K.Sink.takes_on _ _ _ (waiting c.args.text.now.carrier) (waiting c.loop-text.text.carrier) c.loop-text.number numbers to_come lines u.goes none p) c.flush.ensures.bytes;
      front = on_err _ _ c.flush.result (λ p. lines_not_put c.args.text.now.form g.met.K.Sink.takes_on _ _ _ (waiting c.args.text.now.carrier) (waiting c.loop-text.text.carrier) c.loop-text.number numbers to_come lines u.goes none p) c.flush.ensures.prefix;
      unchanged = if_err _ _ c.flush.result (λ r w. put_unchanged _ _ r w) c.flush.ensures.refusal;
    }

-- ---- steps

pub returns-in_err-put_hand-clause-work : goal.returns-in_err-put_hand-clause-work
returns-in_err-put_hand-clause-work g c told tree t n o may = let idle = c.in_err-put_hand.ensures.work in omega (arith, idle)

pub returns-in_err-load-clause-work : goal.returns-in_err-load-clause-work
returns-in_err-load-clause-work g c told tree t n o may =
    let i = c.loop-text.invariant in
    most_then (g.S.Store.file c.args.store.now) tree t n _ _ _ c.loop-text.walk (i.takes told tree t n o may) (λ k may. (rw (i.honesty, i.file) at c.in_err-load.ensures.work) told tree t k o may)

pub returns-in_err-put_hand-2-clause-work : goal.returns-in_err-put_hand-2-clause-work
returns-in_err-put_hand-2-clause-work g c told tree t n o may =
    let i = c.loop-text.invariant in
    let file = g.S.Store.file c.args.store.now in
    let loads = takes_then file tree t n _ _ _ c.loop-text.walk c.load.new.self (i.takes told tree t n o may) (λ k may. (rw (i.honesty, i.file) at c.in_ok-load.ensures.work) told tree t k o may) in
    let most = takes_most file tree t n _ _ c.load.new.self loads in
    let idle = c.in_err-put_hand-2.ensures.work in
    omega (arith, most, idle)

pub returns-clause-work : goal.returns-clause-work
returns-clause-work g c told tree t n o may =
    let i = c.loop-text.invariant in
    let file = g.S.Store.file c.args.store.now in
    let loads = takes_then file tree t n _ _ _ c.loop-text.walk c.load.new.self (i.takes told tree t n o may) (λ k may. (rw (i.honesty, i.file) at c.in_ok-load.ensures.work) told tree t k o may) in
    takes_most file tree t n _ _ c.load.new.self loads
