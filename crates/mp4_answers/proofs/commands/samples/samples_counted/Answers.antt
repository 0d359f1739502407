use Rattle.std.proofs.Common.{arith, ◌++◌, ◌∙◌}
use Rattle.std.proofs.lemmas.Result.{err_from_is_err_and}
use Rattle.mp4_present.specs.words.SamplesComing.{track_samples}
use Rattle.mp4_present.proofs.WalkCopied.{on_ok, on_err, if_err}
use Rattle.mp4_present.proofs.Causes.{copy_not_carried}
use Rattle.mp4_present.proofs.ToldTrees.{file_tree_is}
use Rattle.mp4_answers.specs.format.Answers.{IsFaultOf}
use Rattle.mp4_answers.specs.format.FileTexts.{ListsSamples}
use Rattle.mp4_answers.specs.format.Selected.{LacksTrack}
use Rattle.mp4_answers.specs.format.Run.{run_of, Honest}
use Rattle.mp4_answers.specs.format.Texts.{lines_in_fragments, listing_head}
use Rattle.mp4_present.specs.format.SamplePlaces.{sample_fragments}
use Rattle.mp4_answers.proofs.InFragments.{all_numbers}
use Rattle.mp4_answers.proofs.RunParts.{copy_answers, open_fails, put_fails}
use Rattle.mp4_answers.proofs.TrackTexts.{track_found, lacks, lists}
use Rattle.mp4_answers.proofs.WalkLines.{headed_whole, headed_fails}
use Rattle.mp4_store.proofs.Known.{TakesPrefix-longer}
use Rattle.mp4_answers.proofs.LookedAt.{not_judged, on_judged}
use Rattle.mp4_answers.proofs.StepSums.{opened_least}
use Rattle.mp4_answers.proofs.StepsTaken.{not_looked, looked_within, walked_within}
use Rattle.mp4_answers.proofs.LooksTaken.{not_found, finds_taken}
use Rattle.mp4_answers.proofs.Matched.{told_ok}
use Rattle.mp4_answers.proofs.commands.samples.samples_counted.Goals as goal

pub returns-in_err-movie-clause-answer : goal.returns-in_err-movie-clause-answer
returns-in_err-movie-clause-answer g c =
    let p = err_from_is_err_and c.from_residual.result c.from_residual.ensures.1 in
    let r = run_of g.S.Store c.args.store.now c.open_movie.new.store g.K.Sink c.args.sink.now c.args.sink.now in
    rw (p.1, p.2) (open_fails (Unit {0}) r (ListsSamples r.file c.args.id c.args.form) (IsFaultOf r.file) (Honest r → LacksTrack r.file c.args.id) c.in_err-movie.field-0.0 (λ f s. s) (g.met.K.Sink.takes_nothing c.args.sink.now) c.in_err-movie.ensures.refusal)

pub returns-in_err-track-clause-answer : goal.returns-in_err-track-clause-answer
returns-in_err-track-clause-answer g c =
    let p = err_from_is_err_and c.from_residual-in_err-track.result c.from_residual-in_err-track.ensures.1 in
    let e = c.in_ok-movie.ensures in
    let n = rw c.tracks.ensures at c.in_err-track.ensures.none in
    rw (p.1, p.2, n.0) (g.met.K.Sink.takes_nothing c.args.sink.now, λ told. (let o = e.movie told in lacks (g.S.Store.file c.args.store.now) c.in_ok-movie.movie o.0 c.args.id o.1 n.1))

pub returns-in_err-walk-clause-answer : goal.returns-in_err-walk-clause-answer
returns-in_err-walk-clause-answer g c =
    let p = err_from_is_err_and c.from_residual-in_err-walk.result c.from_residual-in_err-walk.ensures.1 in
    rw (p.1, p.2) (g.met.K.Sink.takes_nothing c.args.sink.now)

pub returns-in_err-carrier-clause-answer : goal.returns-in_err-carrier-clause-answer
returns-in_err-carrier-clause-answer g c =
    let p = err_from_is_err_and c.from_residual-in_err-carrier.result c.from_residual-in_err-carrier.ensures.1 in
    rw (p.1, p.2) (g.met.K.Sink.takes_nothing c.args.sink.now)

pub returns-in_err-carry-clause-answer : goal.returns-in_err-carry-clause-answer
returns-in_err-carry-clause-answer g c =
    let p = err_from_is_err_and c.from_residual-in_err-carry.result c.from_residual-in_err-carry.ensures.1 in
    let e = c.in_ok-movie.ensures in
    let file = g.S.Store.file c.args.store.now in
    let form = c.args.form in
    let front = rw (c.in_ok-carrier.ensures.empty, c.head_of.ensures) at c.in_err-carry.ensures.prefix in
    let r = run_of g.S.Store c.args.store.now c.open_movie.new.store g.K.Sink c.args.sink.now c.carry.new.sink in
    rw (p.1, p.2) (put_fails (Unit {0}) r (ListsSamples file c.args.id form) (IsFaultOf file) (Honest r → LacksTrack file c.args.id) c.in_err-carry.field-0.0 c.in_err-carry.ensures.refusal
    (λ told.
    let o = e.movie told in
    let f = track_found file c.in_ok-movie.movie o.0 c.in_ok-track.track c.args.id o.1 (rw c.tracks.ensures at c.in_ok-track.ensures.within) (rw c.tracks.ensures at c.in_ok-track.ensures.track) in
    let lines = lines_in_fragments form 1 (sample_fragments o.0 f.t) (track_samples o.0 f.t) in
    (listing_head form ++ lines, lists form file c.in_ok-movie.movie o.0 c.in_ok-track.track c.args.id o.1 f, TakesPrefix-longer (g.K.Sink.takes c.args.sink.now c.carry.new.sink) (listing_head form) lines front)))

pub returns-clause-answer : goal.returns-clause-answer
returns-clause-answer g c =
    let file = g.S.Store.file c.args.store.now in
    let form = c.args.form in
    let e = c.in_ok-movie.ensures in
    let y = c.put_walk.ensures in
    let went = rw (c.in_ok-carrier.ensures.empty, c.head_of.ensures) at c.in_ok-carry.ensures.bytes in
    let walked = rw (e.store.honesty, e.store.file) at y.lines in
    let cause = rw (e.store.reads, c.in_ok-carry.ensures.puts) at y.refusal in
    let r = run_of g.S.Store c.args.store.now c.put_walk.new.store g.K.Sink c.args.sink.now c.put_walk.new.sink in
    copy_answers _ r (ListsSamples file c.args.id form) (IsFaultOf file) (Honest r → LacksTrack file c.args.id) c.put_walk.result (rw e.store.reads at y.store.reads) (rw c.in_ok-carry.ensures.puts at y.puts)
    (told_ok _ _ c.put_walk.result (λ told.
    let o = e.movie told in
    let f = track_found file c.in_ok-movie.movie o.0 c.in_ok-track.track c.args.id o.1 (rw c.tracks.ensures at c.in_ok-track.ensures.within) (rw c.tracks.ensures at c.in_ok-track.ensures.track) in
    let samples = track_samples o.0 f.t in
    let lines = lines_in_fragments form 1 (sample_fragments o.0 f.t) samples in
    on_ok _ _ c.put_walk.result (λ all. (listing_head form ++ lines, lists form file c.in_ok-movie.movie o.0 c.in_ok-track.track c.args.id o.1 f, headed_whole g.met.K.Sink.takes_on _ _ _ _ (listing_head form) lines went all))
    (rw (all_numbers file c.in_ok-movie.movie o.0 f.t o.1.opened) at (walked told o.0 f.t samples o.1.opened (c.in_ok-walk.ensures.coming file o.0 f.t o.1.opened f.is_there) f.few)).all))
    (if_err _ _ c.put_walk.result (λ e x. copy_not_carried r.took _ _ _ _ e x) cause)
    (λ told.
    let o = e.movie told in
    let f = track_found file c.in_ok-movie.movie o.0 c.in_ok-track.track c.args.id o.1 (rw c.tracks.ensures at c.in_ok-track.ensures.within) (rw c.tracks.ensures at c.in_ok-track.ensures.track) in
    let samples = track_samples o.0 f.t in
    let lines = lines_in_fragments form 1 (sample_fragments o.0 f.t) samples in
    on_err _ _ c.put_walk.result (λ all. (listing_head form ++ lines, lists form file c.in_ok-movie.movie o.0 c.in_ok-track.track c.args.id o.1 f, headed_fails g.met.K.Sink.takes_on _ _ _ _ (listing_head form) lines went all))
    (rw (all_numbers file c.in_ok-movie.movie o.0 f.t o.1.opened) at (walked told o.0 f.t samples o.1.opened (c.in_ok-walk.ensures.coming file o.0 f.t o.1.opened f.is_there) f.few)).front)
    (λ told.
    let o = e.movie told in
    let f = track_found file c.in_ok-movie.movie o.0 c.in_ok-track.track c.args.id o.1 (rw c.tracks.ensures at c.in_ok-track.ensures.within) (rw c.tracks.ensures at c.in_ok-track.ensures.track) in
    (walked told o.0 f.t (track_samples o.0 f.t) o.1.opened (c.in_ok-walk.ensures.coming file o.0 f.t o.1.opened f.is_there) f.few).unchanged)

pub returns-clause-store : goal.returns-clause-store
returns-clause-store g c =
    let e = c.in_ok-movie.ensures.store in
    let y = c.put_walk.ensures.store in
    record { honesty = y.honesty ∙ e.honesty; file = y.file ∙ e.file }

-- ---- steps

pub returns-in_err-movie-clause-work : goal.returns-in_err-movie-clause-work
returns-in_err-movie-clause-work g c = λ told.
    not_looked _ _ _ _ _ _ c.in_err-movie.field-0.0 told c.in_err-movie.ensures.refusal (c.in_err-movie.ensures.work told).work (c.in_err-movie.ensures.work told).within

pub returns-in_err-track-clause-work : goal.returns-in_err-track-clause-work
returns-in_err-track-clause-work g c = λ told.
    let o = c.in_ok-movie.ensures.movie told in
    looked_within _ _ _ c.in_ok-movie.movie o.0 o.1 ((c.in_ok-movie.ensures.work told).work o.0 (file_tree_is _ _ o.0 o.1))

pub returns-in_err-walk-clause-work : goal.returns-in_err-walk-clause-work
returns-in_err-walk-clause-work g c = λ told.
    let o = c.in_ok-movie.ensures.movie told in
    looked_within _ _ _ c.in_ok-movie.movie o.0 o.1 ((c.in_ok-movie.ensures.work told).work o.0 (file_tree_is _ _ o.0 o.1))

pub returns-in_err-carrier-clause-work : goal.returns-in_err-carrier-clause-work
returns-in_err-carrier-clause-work g c = λ told.
    let o = c.in_ok-movie.ensures.movie told in
    looked_within _ _ _ c.in_ok-movie.movie o.0 o.1 ((c.in_ok-movie.ensures.work told).work o.0 (file_tree_is _ _ o.0 o.1))

pub returns-in_err-carry-clause-work : goal.returns-in_err-carry-clause-work
returns-in_err-carry-clause-work g c = λ told.
    let o = c.in_ok-movie.ensures.movie told in
    looked_within _ _ _ c.in_ok-movie.movie o.0 o.1 ((c.in_ok-movie.ensures.work told).work o.0 (file_tree_is _ _ o.0 o.1))

pub returns-clause-work : goal.returns-clause-work
returns-clause-work g c = λ told.
    let file = g.S.Store.file c.args.store.now in
    let o = c.in_ok-movie.ensures.movie told in
    let f = track_found file c.in_ok-movie.movie o.0 c.in_ok-track.track c.args.id o.1 (rw c.tracks.ensures at c.in_ok-track.ensures.within) (rw c.tracks.ensures at c.in_ok-track.ensures.track) in
    let may = c.in_ok-walk.ensures.may file o.0 f.t o.1.opened f.is_there in
    let few = may.2 in
    let walk = (rw (c.in_ok-movie.ensures.store.honesty, c.in_ok-movie.ensures.store.file) at c.put_walk.ensures.work) told o.0 f.t may.0 o.1.opened may.1 in
    walked_within file _ _ c.in_ok-movie.movie o.0 _ c.in_ok-track.track f.t o.1 ((c.in_ok-movie.ensures.work told).work o.0 (file_tree_is _ _ o.0 o.1)) f.is_there (omega (arith, few, walk))

pub returns-in_err-movie-clause-least : goal.returns-in_err-movie-clause-least
returns-in_err-movie-clause-least g c =
    let p = err_from_is_err_and c.from_residual.result c.from_residual.ensures.1 in
    rw (p.1, p.2) (not_judged (Unit {0}) _ (g.S.Store.is_honest c.args.store.now) (g.S.Store.file c.args.store.now) (g.S.Store.read_failures c.args.store.now) (g.S.Store.read_failures c.open_movie.new.store) c.in_err-movie.field-0.0 c.in_err-movie.ensures.refusal)

pub returns-in_err-track-clause-least : goal.returns-in_err-track-clause-least
returns-in_err-track-clause-least g c = on_judged c.from_residual-in_err-track.result
    (λ told p d.
    let taken = c.in_ok-movie.ensures.least told d.tree d.is_tree in
    omega (arith, taken, opened_least _ p d))

pub returns-in_err-walk-clause-least : goal.returns-in_err-walk-clause-least
returns-in_err-walk-clause-least g c = on_judged c.from_residual-in_err-walk.result
    (λ told p d.
    let taken = c.in_ok-movie.ensures.least told d.tree d.is_tree in
    omega (arith, taken, opened_least _ p d))

pub returns-in_err-carrier-clause-least : goal.returns-in_err-carrier-clause-least
returns-in_err-carrier-clause-least g c = on_judged c.from_residual-in_err-carrier.result
    (λ told p d.
    let taken = c.in_ok-movie.ensures.least told d.tree d.is_tree in
    omega (arith, taken, opened_least _ p d))

pub returns-in_err-carry-clause-least : goal.returns-in_err-carry-clause-least
returns-in_err-carry-clause-least g c = on_judged c.from_residual-in_err-carry.result
    (λ told p d.
    let taken = c.in_ok-movie.ensures.least told d.tree d.is_tree in
    omega (arith, taken, opened_least _ p d))

pub returns-clause-least : goal.returns-clause-least
returns-clause-least g c = on_judged c.put_walk.result
    (λ told p d.
    let taken = c.in_ok-movie.ensures.least told d.tree d.is_tree in
    let grown = c.put_walk.ensures.grows in
    omega (arith, taken, grown, opened_least _ p d))

-- ---- looks

pub returns-in_err-movie-clause-looks : goal.returns-in_err-movie-clause-looks
returns-in_err-movie-clause-looks g c = λ told.
    let l = (c.in_err-movie.ensures.work told).looks in
    not_found _ _ _ _ _ _ c.in_err-movie.field-0.0 told c.in_err-movie.ensures.refusal l.said l.within

pub returns-in_err-track-clause-looks : goal.returns-in_err-track-clause-looks
returns-in_err-track-clause-looks g c = λ told.
    finds_taken _ c.in_ok-movie.movie _ _ (c.in_ok-movie.ensures.movie told) (c.in_ok-movie.ensures.work told).looks.said

pub returns-in_err-walk-clause-looks : goal.returns-in_err-walk-clause-looks
returns-in_err-walk-clause-looks g c = λ told.
    finds_taken _ c.in_ok-movie.movie _ _ (c.in_ok-movie.ensures.movie told) (c.in_ok-movie.ensures.work told).looks.said

pub returns-in_err-carrier-clause-looks : goal.returns-in_err-carrier-clause-looks
returns-in_err-carrier-clause-looks g c = λ told.
    finds_taken _ c.in_ok-movie.movie _ _ (c.in_ok-movie.ensures.movie told) (c.in_ok-movie.ensures.work told).looks.said

pub returns-in_err-carry-clause-looks : goal.returns-in_err-carry-clause-looks
returns-in_err-carry-clause-looks g c = λ told.
    finds_taken _ c.in_ok-movie.movie _ _ (c.in_ok-movie.ensures.movie told) (c.in_ok-movie.ensures.work told).looks.said

pub returns-clause-looks : goal.returns-clause-looks
returns-clause-looks g c = λ told.
    rw c.put_walk.ensures.looks (finds_taken _ c.in_ok-movie.movie _ _ (c.in_ok-movie.ensures.movie told) (c.in_ok-movie.ensures.work told).looks.said)
