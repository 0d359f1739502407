use Rattle.std.proofs.Common.{arith, subst, ◌∙◌, [], ◌++◌}
use Rattle.std.proofs.lemmas.Result.{err_from_is_err_and, on_ok_weaker}
use Rattle.mp4_head.specs.format.Head.{MovieHead}
use Rattle.mp4_store.specs.words.Device.{TakesPrefix}
use Rattle.mp4_present.specs.words.Carried.{BytesGoOn, waiting}
use Rattle.mp4_present.proofs.WalkCopied.{on_err, on_ok}
use Rattle.mp4_answers.specs.format.Told.{IsFaultTold}
use Rattle.mp4_answers.specs.format.FileTexts.{PrintsText}
use Rattle.mp4_answers.specs.format.Selected.{LacksNamed}
use Rattle.mp4_answers.specs.format.Run.{run_of}
use Rattle.mp4_answers.specs.format.Text.{movie_lines}
use Rattle.mp4_answers.proofs.Matched.{ok_anyway, told_ok}
use Rattle.mp4_answers.proofs.Printed.{all_printed, end_fails, first_fails, heads_remain, last_fails, movie_fails, tracks_fail}
use Rattle.mp4_answers.proofs.RunParts.{carry_fails, plan_fails, put_answers, put_fails, told_fails}
use Rattle.mp4_answers.proofs.StepSums.{opened_least}
use Rattle.mp4_answers.proofs.StepsTaken.{looked_prints, printed_within}
use Rattle.mp4_answers.proofs.commands.print.print.Goals as goal

pub returns-in_err-movie-clause-answer : goal.returns-in_err-movie-clause-answer
returns-in_err-movie-clause-answer g c =
    let p = err_from_is_err_and c.from_residual.result c.from_residual.ensures.1 in
    let r = run_of g.S.Store c.args.store.now c.open_told.new.store g.K.Sink c.args.sink.now c.args.sink.now in
    rw (p.1, p.2) (told_fails (Unit {0}) r (PrintsText c.args.selection r.file) (IsFaultTold c.args.selection r.file) (LacksNamed c.args.selection.track r.honest r.file) c.args.selection.track c.args.selection.leaving.lead_ins c.in_err-movie.field-0.0 (λ f s. s) (λ w. w)
    (g.met.K.Sink.takes_nothing c.args.sink.now) c.in_err-movie.ensures.refusal)

pub returns-in_err-scales-clause-answer : goal.returns-in_err-scales-clause-answer
returns-in_err-scales-clause-answer g c =
    let p = err_from_is_err_and c.from_residual-in_err-scales.result c.from_residual-in_err-scales.ensures.1 in
    let e = c.in_ok-movie.ensures.store in
    let r = run_of g.S.Store c.args.store.now c.of.new.store g.K.Sink c.args.sink.now c.args.sink.now in
    let unchanged = rw (e.honesty, e.file) at c.in_err-scales.ensures.unchanged in
    rw (p.1, p.2) (plan_fails (Unit {0}) r (PrintsText c.args.selection r.file) (IsFaultTold c.args.selection r.file) (LacksNamed c.args.selection.track r.honest r.file) c.in_err-scales.field-0.0 (g.met.K.Sink.takes_nothing c.args.sink.now) (rw e.reads at c.in_err-scales.ensures.refusal)
    (λ told. let o = c.in_ok-movie.ensures.movie told in unchanged told o.0 o.1.opened))

pub returns-in_err-head-clause-answer : goal.returns-in_err-head-clause-answer
returns-in_err-head-clause-answer g c =
    let p = err_from_is_err_and c.from_residual-in_err-head.result c.from_residual-in_err-head.ensures.1 in
    rw (p.1, p.2) (g.met.K.Sink.takes_nothing c.args.sink.now)

pub returns-in_err-own-clause-answer : goal.returns-in_err-own-clause-answer
returns-in_err-own-clause-answer g c =
    let p = err_from_is_err_and c.from_residual-in_err-own.result c.from_residual-in_err-own.ensures.1 in
    rw (p.1, p.2) (g.met.K.Sink.takes_nothing c.args.sink.now)

pub returns-in_err-left-clause-answer : goal.returns-in_err-left-clause-answer
returns-in_err-left-clause-answer g c =
    let p = err_from_is_err_and c.from_residual-in_err-left.result c.from_residual-in_err-left.ensures.1 in
    rw (p.1, p.2) (g.met.K.Sink.takes_nothing c.args.sink.now)

pub returns-in_err-front-clause-answer : goal.returns-in_err-front-clause-answer
returns-in_err-front-clause-answer g c =
    let p = err_from_is_err_and c.from_residual-in_err-front.result c.from_residual-in_err-front.ensures.1 in
    rw (p.1, p.2) (g.met.K.Sink.takes_nothing c.args.sink.now)

pub returns-in_err-walks-clause-answer : goal.returns-in_err-walks-clause-answer
returns-in_err-walks-clause-answer g c =
    let p = err_from_is_err_and c.from_residual-in_err-walks.result c.from_residual-in_err-walks.ensures.1 in
    rw (p.1, p.2) (g.met.K.Sink.takes_nothing c.args.sink.now)

pub returns-in_err-desk-clause-answer : goal.returns-in_err-desk-clause-answer
returns-in_err-desk-clause-answer g c =
    let p = err_from_is_err_and c.from_residual-in_err-desk.result c.from_residual-in_err-desk.ensures.1 in
    rw (p.1, p.2) (g.met.K.Sink.takes_nothing c.args.sink.now)

pub returns-in_err-carry-clause-answer : goal.returns-in_err-carry-clause-answer
returns-in_err-carry-clause-answer g c =
    let p = err_from_is_err_and c.from_residual-in_err-carry.result c.from_residual-in_err-carry.ensures.1 in
    let file = g.S.Store.file c.args.store.now in
    let l = c.args.selection in
    let m = c.in_ok-movie.movie in
    let head = c.in_ok-head.head in
    let says = c.in_ok-head.ensures in
    let scales = c.in_ok-scales.scales in
    let e = c.in_ok-movie.ensures.store in
    let f = c.in_ok-scales.ensures.store in
    let are = rw (e.honesty, e.file, c.when_told-words.ensures) at c.in_ok-scales.ensures.scales in
    let sink = c.args.sink.now in
    let joins = g.met.K.Sink.takes_on in
    let nothing = g.met.K.Sink.takes_nothing sink in
    let r = run_of g.S.Store c.args.store.now c.of.new.store g.K.Sink sink c.carry.new.sink in
    let new = c.carry.new.sink in
    let first = rw (c.in_ok-desk.ensures.text, c.as_slice-2.ensures.value, c.in_ok-front.ensures) at c.in_err-carry.ensures.prefix in
    rw (p.1, p.2) (put_fails (Unit {0}) r (PrintsText l file) (IsFaultTold l file) (LacksNamed l.track r.honest file) c.in_err-carry.field-0.0 c.in_err-carry.ensures.refusal
    (λ told. let o = c.in_ok-movie.ensures.movie told in first_fails l file m o.0 head o.1 says scales (are told o.0 o.1.opened) joins sink new new new new new nothing [] [] [] [] first))

pub returns-in_err-put_movie-clause-answer : goal.returns-in_err-put_movie-clause-answer
returns-in_err-put_movie-clause-answer g c =
    let p = err_from_is_err_and c.from_residual-in_err-put_movie.result c.from_residual-in_err-put_movie.ensures.1 in
    let file = g.S.Store.file c.args.store.now in
    let l = c.args.selection in
    let m = c.in_ok-movie.movie in
    let head = c.in_ok-head.head in
    let says = c.in_ok-head.ensures in
    let scales = c.in_ok-scales.scales in
    let e = c.in_ok-movie.ensures.store in
    let f = c.in_ok-scales.ensures.store in
    let are = rw (e.honesty, e.file, c.when_told-words.ensures) at c.in_ok-scales.ensures.scales in
    let sink = c.args.sink.now in
    let joins = g.met.K.Sink.takes_on in
    let nothing = g.met.K.Sink.takes_nothing sink in
    let new = c.put_movie.new.sink in
    let r = run_of g.S.Store c.args.store.now c.of.new.store g.K.Sink sink new in
    let first = rw (c.in_ok-desk.ensures.text, c.as_slice-2.ensures.value, c.in_ok-front.ensures) at c.in_ok-carry.ensures.bytes in
    rw (p.1, p.2) (put_fails (Unit {0}) r (PrintsText l file) (IsFaultTold l file) (LacksNamed l.track r.honest file) c.in_err-put_movie.field-0.0 (rw c.in_ok-carry.ensures.puts at c.in_err-put_movie.ensures.refusal)
    (λ told. let o = c.in_ok-movie.ensures.movie told in
    movie_fails l file m o.0 head o.1 says scales (are told o.0 o.1.opened) joins sink c.carry.new.sink new new new new nothing (waiting c.carry.new.self) [] [] [] first
    (subst (λ (x : MovieHead). TakesPrefix (g.K.Sink.takes c.carry.new.sink new) (waiting c.carry.new.self ++ movie_lines x)) (rw c.when_told-words.ensures at c.in_ok-left.ensures.movie) c.in_err-put_movie.ensures.front)))

pub returns-in_err-put_tracks-clause-answer : goal.returns-in_err-put_tracks-clause-answer
returns-in_err-put_tracks-clause-answer g c =
    let p = err_from_is_err_and c.from_residual-in_err-put_tracks.result c.from_residual-in_err-put_tracks.ensures.1 in
    let file = g.S.Store.file c.args.store.now in
    let l = c.args.selection in
    let m = c.in_ok-movie.movie in
    let head = c.in_ok-head.head in
    let says = c.in_ok-head.ensures in
    let scales = c.in_ok-scales.scales in
    let e = c.in_ok-movie.ensures.store in
    let f = c.in_ok-scales.ensures.store in
    let are = rw (e.honesty, e.file, c.when_told-words.ensures) at c.in_ok-scales.ensures.scales in
    let sink = c.args.sink.now in
    let joins = g.met.K.Sink.takes_on in
    let nothing = g.met.K.Sink.takes_nothing sink in
    let new = c.put_tracks.new.sink in
    let y = c.in_err-put_tracks.ensures in
    let r = run_of g.S.Store c.args.store.now c.put_tracks.new.store g.K.Sink sink new in
    let first = rw (c.in_ok-desk.ensures.text, c.as_slice-2.ensures.value, c.in_ok-front.ensures) at c.in_ok-carry.ensures.bytes in
    let movie = subst (λ (x : MovieHead). BytesGoOn (g.K.Sink.takes c.carry.new.sink c.put_movie.new.sink) (waiting c.carry.new.self) (waiting c.put_movie.new.text) (movie_lines x))
    (rw c.when_told-words.ensures at c.in_ok-left.ensures.movie) c.in_ok-put_movie.ensures.all in
    let tracks = rw (f.honesty, f.file, e.honesty, e.file, c.as_slice-heads.ensures.value, c.when_told-words.ensures) at y.told in
    rw (p.1, p.2) (carry_fails (Unit {0}) r (PrintsText l file) (IsFaultTold l file) (LacksNamed l.track r.honest file) c.in_err-put_tracks.field-0.0 (rw (f.reads, e.reads, c.in_ok-put_movie.ensures.puts ∙ c.in_ok-carry.ensures.puts) at y.refusal)
    (λ told.
    let o = c.in_ok-movie.ensures.movie told in
    let t = tracks told o.0 o.1.opened (heads_remain l file m o.0 head o.1 says scales (are told o.0 o.1.opened) _ (rw c.when_told-words.ensures at c.in_ok-left.ensures.tracks)) in
    tracks_fail l file m o.0 head o.1 says scales (are told o.0 o.1.opened) joins sink c.carry.new.sink c.put_movie.new.sink new new new nothing (waiting c.carry.new.self) (waiting c.put_movie.new.text) [] [] first movie t.lines.text.front)
    (λ told. let o = c.in_ok-movie.ensures.movie told in (tracks told o.0 o.1.opened (heads_remain l file m o.0 head o.1 says scales (are told o.0 o.1.opened) _ (rw c.when_told-words.ensures at c.in_ok-left.ensures.tracks))).lines.unchanged))

pub returns-in_err-carry-2-clause-answer : goal.returns-in_err-carry-2-clause-answer
returns-in_err-carry-2-clause-answer g c =
    let p = err_from_is_err_and c.from_residual-in_err-carry-2.result c.from_residual-in_err-carry-2.ensures.1 in
    let file = g.S.Store.file c.args.store.now in
    let l = c.args.selection in
    let m = c.in_ok-movie.movie in
    let head = c.in_ok-head.head in
    let says = c.in_ok-head.ensures in
    let scales = c.in_ok-scales.scales in
    let e = c.in_ok-movie.ensures.store in
    let f = c.in_ok-scales.ensures.store in
    let are = rw (e.honesty, e.file, c.when_told-words.ensures) at c.in_ok-scales.ensures.scales in
    let sink = c.args.sink.now in
    let joins = g.met.K.Sink.takes_on in
    let nothing = g.met.K.Sink.takes_nothing sink in
    let new = c.carry-2.new.sink in
    let y = c.in_ok-put_tracks.ensures in
    let r = run_of g.S.Store c.args.store.now c.put_tracks.new.store g.K.Sink sink new in
    let first = rw (c.in_ok-desk.ensures.text, c.as_slice-2.ensures.value, c.in_ok-front.ensures) at c.in_ok-carry.ensures.bytes in
    let movie = subst (λ (x : MovieHead). BytesGoOn (g.K.Sink.takes c.carry.new.sink c.put_movie.new.sink) (waiting c.carry.new.self) (waiting c.put_movie.new.text) (movie_lines x))
    (rw c.when_told-words.ensures at c.in_ok-left.ensures.movie) c.in_ok-put_movie.ensures.all in
    let tracks = rw (f.honesty, f.file, e.honesty, e.file, c.as_slice-heads.ensures.value, c.when_told-words.ensures) at y.told in
    rw (p.1, p.2) (put_fails (Unit {0}) r (PrintsText l file) (IsFaultTold l file) (LacksNamed l.track r.honest file) c.in_err-carry-2.field-0.0 (rw (y.store.puts ∙ c.in_ok-put_movie.ensures.puts ∙ c.in_ok-carry.ensures.puts) at c.in_err-carry-2.ensures.refusal)
    (λ told.
    let o = c.in_ok-movie.ensures.movie told in
    let t = tracks told o.0 o.1.opened (heads_remain l file m o.0 head o.1 says scales (are told o.0 o.1.opened) _ (rw c.when_told-words.ensures at c.in_ok-left.ensures.tracks)) in
    last_fails l file m o.0 head o.1 says scales (are told o.0 o.1.opened) joins sink c.carry.new.sink c.put_movie.new.sink c.put_tracks.new.sink new new nothing (waiting c.carry.new.self) (waiting c.put_movie.new.text) (waiting c.put_tracks.new.desk.text) [] first movie t.lines.text.all
    c.in_err-carry-2.ensures.prefix))

pub returns-clause-answer : goal.returns-clause-answer
returns-clause-answer g c =
    let file = g.S.Store.file c.args.store.now in
    let l = c.args.selection in
    let m = c.in_ok-movie.movie in
    let head = c.in_ok-head.head in
    let says = c.in_ok-head.ensures in
    let scales = c.in_ok-scales.scales in
    let e = c.in_ok-movie.ensures.store in
    let f = c.in_ok-scales.ensures.store in
    let are = rw (e.honesty, e.file, c.when_told-words.ensures) at c.in_ok-scales.ensures.scales in
    let sink = c.args.sink.now in
    let joins = g.met.K.Sink.takes_on in
    let nothing = g.met.K.Sink.takes_nothing sink in
    let new = c.flush.new.sink in
    let y = c.in_ok-put_tracks.ensures in
    let r = run_of g.S.Store c.args.store.now c.put_tracks.new.store g.K.Sink sink new in
    let first = rw (c.in_ok-desk.ensures.text, c.as_slice-2.ensures.value, c.in_ok-front.ensures) at c.in_ok-carry.ensures.bytes in
    let movie = subst (λ (x : MovieHead). BytesGoOn (g.K.Sink.takes c.carry.new.sink c.put_movie.new.sink) (waiting c.carry.new.self) (waiting c.put_movie.new.text) (movie_lines x))
    (rw c.when_told-words.ensures at c.in_ok-left.ensures.movie) c.in_ok-put_movie.ensures.all in
    let tracks = rw (f.honesty, f.file, e.honesty, e.file, c.as_slice-heads.ensures.value, c.when_told-words.ensures) at y.told in
    let same = c.in_ok-carry-2.ensures.puts ∙ y.store.puts ∙ c.in_ok-put_movie.ensures.puts ∙ c.in_ok-carry.ensures.puts in
    put_answers (Unit {0}) r (PrintsText l file) (IsFaultTold l file) (LacksNamed l.track r.honest file) c.flush.result (ok_anyway _ c.flush.result (y.store.reads ∙ f.reads ∙ e.reads)) (rw same at c.flush.ensures.puts)
    (told_ok _ _ c.flush.result (λ told.
    let o = c.in_ok-movie.ensures.movie told in
    let t = tracks told o.0 o.1.opened (heads_remain l file m o.0 head o.1 says scales (are told o.0 o.1.opened) _ (rw c.when_told-words.ensures at c.in_ok-left.ensures.tracks)) in
    on_ok _ _ c.flush.result
    (λ put. all_printed l file m o.0 head o.1 says scales (are told o.0 o.1.opened) joins sink c.carry.new.sink c.put_movie.new.sink c.put_tracks.new.sink c.carry-2.new.sink new nothing (waiting c.carry.new.self) (waiting c.put_movie.new.text) (waiting c.put_tracks.new.desk.text)
    (waiting c.carry-2.new.self)
    first movie t.lines.text.all c.in_ok-carry-2.ensures.bytes put)
    c.flush.ensures.bytes))
    (rw same at c.flush.ensures.refusal)
    (λ told.
    let o = c.in_ok-movie.ensures.movie told in
    let t = tracks told o.0 o.1.opened (heads_remain l file m o.0 head o.1 says scales (are told o.0 o.1.opened) _ (rw c.when_told-words.ensures at c.in_ok-left.ensures.tracks)) in
    on_err _ _ c.flush.result
    (λ put. end_fails l file m o.0 head o.1 says scales (are told o.0 o.1.opened) joins sink c.carry.new.sink c.put_movie.new.sink c.put_tracks.new.sink c.carry-2.new.sink new nothing (waiting c.carry.new.self) (waiting c.put_movie.new.text) (waiting c.put_tracks.new.desk.text)
    (waiting c.carry-2.new.self)
    first movie t.lines.text.all c.in_ok-carry-2.ensures.bytes put)
    c.flush.ensures.prefix)

-- ---- the store

pub returns-in_err-put_tracks-clause-store : goal.returns-in_err-put_tracks-clause-store
returns-in_err-put_tracks-clause-store g c =
    let e = c.in_ok-movie.ensures.store in
    let f = c.in_ok-scales.ensures.store in
    let y = c.in_err-put_tracks.ensures.store in
    record { honesty = y.honesty ∙ f.honesty ∙ e.honesty; file = y.file ∙ f.file ∙ e.file }

pub returns-in_err-carry-2-clause-store : goal.returns-in_err-carry-2-clause-store
returns-in_err-carry-2-clause-store g c =
    let e = c.in_ok-movie.ensures.store in
    let f = c.in_ok-scales.ensures.store in
    let y = c.in_ok-put_tracks.ensures.store in
    record { honesty = y.honesty ∙ f.honesty ∙ e.honesty; file = y.file ∙ f.file ∙ e.file }

pub returns-clause-store : goal.returns-clause-store
returns-clause-store g c =
    let e = c.in_ok-movie.ensures.store in
    let f = c.in_ok-scales.ensures.store in
    let y = c.in_ok-put_tracks.ensures.store in
    record { honesty = y.honesty ∙ f.honesty ∙ e.honesty; file = y.file ∙ f.file ∙ e.file }

-- ---- steps

pub returns-in_err-movie-clause-work : goal.returns-in_err-movie-clause-work
returns-in_err-movie-clause-work g c = λ told.
    looked_prints c.args.selection.leaving _ _ _ (c.in_err-movie.ensures.work told)

pub returns-in_err-scales-clause-work : goal.returns-in_err-scales-clause-work
returns-in_err-scales-clause-work g c = λ told.
    let o = c.in_ok-movie.ensures.movie told in
    let e = c.in_ok-movie.ensures.store in
    let scaled = rw (e.honesty, e.file, c.when_told-words.ensures) at c.in_err-scales.ensures.work in
    printed_within c.args.selection _ c.in_ok-movie.movie o.0 _ _ _ _ o.1 (c.in_ok-movie.ensures.work told) (scaled told o.0 o.1.opened) (omega arith)

pub returns-in_err-head-clause-work : goal.returns-in_err-head-clause-work
returns-in_err-head-clause-work g c = λ told.
    let o = c.in_ok-movie.ensures.movie told in
    let e = c.in_ok-movie.ensures.store in
    let scaled = rw (e.honesty, e.file, c.when_told-words.ensures) at c.in_ok-scales.ensures.work in
    printed_within c.args.selection _ c.in_ok-movie.movie o.0 _ _ _ _ o.1 (c.in_ok-movie.ensures.work told) (scaled told o.0 o.1.opened) (omega arith)

pub returns-in_err-own-clause-work : goal.returns-in_err-own-clause-work
returns-in_err-own-clause-work g c = λ told.
    let o = c.in_ok-movie.ensures.movie told in
    let e = c.in_ok-movie.ensures.store in
    let scaled = rw (e.honesty, e.file, c.when_told-words.ensures) at c.in_ok-scales.ensures.work in
    printed_within c.args.selection _ c.in_ok-movie.movie o.0 _ _ _ _ o.1 (c.in_ok-movie.ensures.work told) (scaled told o.0 o.1.opened) (omega arith)

pub returns-in_err-left-clause-work : goal.returns-in_err-left-clause-work
returns-in_err-left-clause-work g c = λ told.
    let o = c.in_ok-movie.ensures.movie told in
    let e = c.in_ok-movie.ensures.store in
    let scaled = rw (e.honesty, e.file, c.when_told-words.ensures) at c.in_ok-scales.ensures.work in
    printed_within c.args.selection _ c.in_ok-movie.movie o.0 _ _ _ _ o.1 (c.in_ok-movie.ensures.work told) (scaled told o.0 o.1.opened) (omega arith)

pub returns-in_err-front-clause-work : goal.returns-in_err-front-clause-work
returns-in_err-front-clause-work g c = λ told.
    let o = c.in_ok-movie.ensures.movie told in
    let e = c.in_ok-movie.ensures.store in
    let scaled = rw (e.honesty, e.file, c.when_told-words.ensures) at c.in_ok-scales.ensures.work in
    printed_within c.args.selection _ c.in_ok-movie.movie o.0 _ _ _ _ o.1 (c.in_ok-movie.ensures.work told) (scaled told o.0 o.1.opened) (omega arith)

pub returns-in_err-walks-clause-work : goal.returns-in_err-walks-clause-work
returns-in_err-walks-clause-work g c = λ told.
    let o = c.in_ok-movie.ensures.movie told in
    let e = c.in_ok-movie.ensures.store in
    let scaled = rw (e.honesty, e.file, c.when_told-words.ensures) at c.in_ok-scales.ensures.work in
    printed_within c.args.selection _ c.in_ok-movie.movie o.0 _ _ _ _ o.1 (c.in_ok-movie.ensures.work told) (scaled told o.0 o.1.opened) (omega arith)

pub returns-in_err-desk-clause-work : goal.returns-in_err-desk-clause-work
returns-in_err-desk-clause-work g c = λ told.
    let o = c.in_ok-movie.ensures.movie told in
    let e = c.in_ok-movie.ensures.store in
    let scaled = rw (e.honesty, e.file, c.when_told-words.ensures) at c.in_ok-scales.ensures.work in
    printed_within c.args.selection _ c.in_ok-movie.movie o.0 _ _ _ _ o.1 (c.in_ok-movie.ensures.work told) (scaled told o.0 o.1.opened) (omega arith)

pub returns-in_err-carry-clause-work : goal.returns-in_err-carry-clause-work
returns-in_err-carry-clause-work g c = λ told.
    let o = c.in_ok-movie.ensures.movie told in
    let e = c.in_ok-movie.ensures.store in
    let scaled = rw (e.honesty, e.file, c.when_told-words.ensures) at c.in_ok-scales.ensures.work in
    printed_within c.args.selection _ c.in_ok-movie.movie o.0 _ _ _ _ o.1 (c.in_ok-movie.ensures.work told) (scaled told o.0 o.1.opened) (omega arith)

pub returns-in_err-put_movie-clause-work : goal.returns-in_err-put_movie-clause-work
returns-in_err-put_movie-clause-work g c = λ told.
    let o = c.in_ok-movie.ensures.movie told in
    let e = c.in_ok-movie.ensures.store in
    let scaled = rw (e.honesty, e.file, c.when_told-words.ensures) at c.in_ok-scales.ensures.work in
    printed_within c.args.selection _ c.in_ok-movie.movie o.0 _ _ _ _ o.1 (c.in_ok-movie.ensures.work told) (scaled told o.0 o.1.opened) (omega arith)

pub returns-in_err-put_tracks-clause-work : goal.returns-in_err-put_tracks-clause-work
returns-in_err-put_tracks-clause-work g c = λ told.
    let file = g.S.Store.file c.args.store.now in
    let o = c.in_ok-movie.ensures.movie told in
    let e = c.in_ok-movie.ensures.store in
    let f = c.in_ok-scales.ensures.store in
    let are = rw (e.honesty, e.file, c.when_told-words.ensures) at c.in_ok-scales.ensures.scales in
    let scaled = rw (e.honesty, e.file, c.when_told-words.ensures) at c.in_ok-scales.ensures.work in
    let walks = ((rw (f.honesty, f.file, e.honesty, e.file, c.as_slice-heads.ensures.value, c.when_told-words.ensures) at c.in_err-put_tracks.ensures.told) told o.0 o.1.opened
    (heads_remain c.args.selection file c.in_ok-movie.movie o.0 c.in_ok-head.head o.1 c.in_ok-head.ensures c.in_ok-scales.scales (are told o.0 o.1.opened) _ (rw c.when_told-words.ensures at c.in_ok-left.ensures.tracks))).steps in
    printed_within c.args.selection file c.in_ok-movie.movie o.0 _ _ _ _ o.1 (c.in_ok-movie.ensures.work told) (scaled told o.0 o.1.opened) walks

pub returns-in_err-carry-2-clause-work : goal.returns-in_err-carry-2-clause-work
returns-in_err-carry-2-clause-work g c = λ told.
    let file = g.S.Store.file c.args.store.now in
    let o = c.in_ok-movie.ensures.movie told in
    let e = c.in_ok-movie.ensures.store in
    let f = c.in_ok-scales.ensures.store in
    let are = rw (e.honesty, e.file, c.when_told-words.ensures) at c.in_ok-scales.ensures.scales in
    let scaled = rw (e.honesty, e.file, c.when_told-words.ensures) at c.in_ok-scales.ensures.work in
    let walks = ((rw (f.honesty, f.file, e.honesty, e.file, c.as_slice-heads.ensures.value, c.when_told-words.ensures) at c.in_ok-put_tracks.ensures.told) told o.0 o.1.opened
    (heads_remain c.args.selection file c.in_ok-movie.movie o.0 c.in_ok-head.head o.1 c.in_ok-head.ensures c.in_ok-scales.scales (are told o.0 o.1.opened) _ (rw c.when_told-words.ensures at c.in_ok-left.ensures.tracks))).steps in
    printed_within c.args.selection file c.in_ok-movie.movie o.0 _ _ _ _ o.1 (c.in_ok-movie.ensures.work told) (scaled told o.0 o.1.opened) walks

pub returns-clause-work : goal.returns-clause-work
returns-clause-work g c = λ told.
    let file = g.S.Store.file c.args.store.now in
    let o = c.in_ok-movie.ensures.movie told in
    let e = c.in_ok-movie.ensures.store in
    let f = c.in_ok-scales.ensures.store in
    let are = rw (e.honesty, e.file, c.when_told-words.ensures) at c.in_ok-scales.ensures.scales in
    let scaled = rw (e.honesty, e.file, c.when_told-words.ensures) at c.in_ok-scales.ensures.work in
    let walks = ((rw (f.honesty, f.file, e.honesty, e.file, c.as_slice-heads.ensures.value, c.when_told-words.ensures) at c.in_ok-put_tracks.ensures.told) told o.0 o.1.opened
    (heads_remain c.args.selection file c.in_ok-movie.movie o.0 c.in_ok-head.head o.1 c.in_ok-head.ensures c.in_ok-scales.scales (are told o.0 o.1.opened) _ (rw c.when_told-words.ensures at c.in_ok-left.ensures.tracks))).steps in
    printed_within c.args.selection file c.in_ok-movie.movie o.0 _ _ _ _ o.1 (c.in_ok-movie.ensures.work told) (scaled told o.0 o.1.opened) walks

pub returns-clause-least : goal.returns-clause-least
returns-clause-least g c = on_ok_weaker c.flush.result
    (λ put told p d.
    let taken = c.in_ok-movie.ensures.least told d.tree d.is_tree in
    let scaled = c.in_ok-scales.ensures.grows in
    let grown = c.in_ok-put_tracks.ensures.grows in
    omega (arith, taken, scaled, grown, opened_least _ p d))
    c.flush.ensures.puts

-- ---- looks

pub returns-in_err-movie-clause-looks : goal.returns-in_err-movie-clause-looks
returns-in_err-movie-clause-looks g c = λ told. c.in_err-movie.ensures.looks told

pub returns-in_err-scales-clause-looks : goal.returns-in_err-scales-clause-looks
returns-in_err-scales-clause-looks g c = λ told.
    rw c.in_err-scales.ensures.looks (c.in_ok-movie.ensures.looks told)

pub returns-in_err-head-clause-looks : goal.returns-in_err-head-clause-looks
returns-in_err-head-clause-looks g c = λ told.
    rw c.in_ok-scales.ensures.looks (c.in_ok-movie.ensures.looks told)

pub returns-in_err-own-clause-looks : goal.returns-in_err-own-clause-looks
returns-in_err-own-clause-looks g c = λ told.
    rw c.in_ok-scales.ensures.looks (c.in_ok-movie.ensures.looks told)

pub returns-in_err-left-clause-looks : goal.returns-in_err-left-clause-looks
returns-in_err-left-clause-looks g c = λ told.
    rw c.in_ok-scales.ensures.looks (c.in_ok-movie.ensures.looks told)

pub returns-in_err-front-clause-looks : goal.returns-in_err-front-clause-looks
returns-in_err-front-clause-looks g c = λ told.
    rw c.in_ok-scales.ensures.looks (c.in_ok-movie.ensures.looks told)

pub returns-in_err-walks-clause-looks : goal.returns-in_err-walks-clause-looks
returns-in_err-walks-clause-looks g c = λ told.
    rw c.in_ok-scales.ensures.looks (c.in_ok-movie.ensures.looks told)

pub returns-in_err-desk-clause-looks : goal.returns-in_err-desk-clause-looks
returns-in_err-desk-clause-looks g c = λ told.
    rw c.in_ok-scales.ensures.looks (c.in_ok-movie.ensures.looks told)

pub returns-in_err-carry-clause-looks : goal.returns-in_err-carry-clause-looks
returns-in_err-carry-clause-looks g c = λ told.
    rw c.in_ok-scales.ensures.looks (c.in_ok-movie.ensures.looks told)

pub returns-in_err-put_movie-clause-looks : goal.returns-in_err-put_movie-clause-looks
returns-in_err-put_movie-clause-looks g c = λ told.
    rw c.in_ok-scales.ensures.looks (c.in_ok-movie.ensures.looks told)

pub returns-in_err-put_tracks-clause-looks : goal.returns-in_err-put_tracks-clause-looks
returns-in_err-put_tracks-clause-looks g c = λ told.
    rw (c.in_err-put_tracks.ensures.looks, c.in_ok-scales.ensures.looks) (c.in_ok-movie.ensures.looks told)

pub returns-in_err-carry-2-clause-looks : goal.returns-in_err-carry-2-clause-looks
returns-in_err-carry-2-clause-looks g c = λ told.
    rw (c.in_ok-put_tracks.ensures.looks, c.in_ok-scales.ensures.looks) (c.in_ok-movie.ensures.looks told)

pub returns-clause-looks : goal.returns-clause-looks
returns-clause-looks g c = λ told.
    rw (c.in_ok-put_tracks.ensures.looks, c.in_ok-scales.ensures.looks) (c.in_ok-movie.ensures.looks told)
