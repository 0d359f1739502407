use Rattle.std.proofs.Common.{arith, ◌∙◌}
use Rattle.std.proofs.lemmas.Result.{err_from_is_err_and}
use Rattle.mp4_present.specs.words.SamplesComing.{track_samples}
use Rattle.mp4_present.proofs.WalkCopied.{on_ok, on_err}
use Rattle.mp4_present.specs.words.Joined.{sample_bytes}
use Rattle.mp4_present.proofs.ToldTrees.{file_tree_is}
use Rattle.mp4_answers.specs.format.Answers.{IsFaultOf}
use Rattle.mp4_answers.specs.format.FileTexts.{HasData}
use Rattle.mp4_answers.specs.format.Selected.{LacksTrack}
use Rattle.mp4_answers.specs.format.Run.{run_of, Honest}
use Rattle.mp4_answers.proofs.RunParts.{copy_answers, open_fails}
use Rattle.mp4_answers.proofs.TrackTexts.{track_found, lacks, has_data}
use Rattle.mp4_answers.proofs.LookedAt.{not_judged, on_judged}
use Rattle.mp4_answers.proofs.StepSums.{opened_least}
use Rattle.mp4_answers.proofs.StepsTaken.{not_looked, looked_within, walked_within}
use Rattle.mp4_answers.proofs.LooksTaken.{not_found, finds_taken}
use Rattle.mp4_answers.proofs.commands.extract.extract_counted.Goals as goal

pub returns-in_err-movie-clause-answer : goal.returns-in_err-movie-clause-answer
returns-in_err-movie-clause-answer g c =
    let p = err_from_is_err_and c.from_residual.result c.from_residual.ensures.1 in
    let r = run_of g.S.Store c.args.store.now c.open_movie.new.store g.K.Sink c.args.sink.now c.args.sink.now in
    rw (p.1, p.2) (open_fails (Unit {0}) r (HasData r.file c.args.id) (IsFaultOf r.file) (Honest r → LacksTrack r.file c.args.id) c.in_err-movie.field-0.0 (λ f s. s) (g.met.K.Sink.takes_nothing c.args.sink.now) c.in_err-movie.ensures.refusal)

pub returns-in_err-track-clause-answer : goal.returns-in_err-track-clause-answer
returns-in_err-track-clause-answer g c =
    let p = err_from_is_err_and c.from_residual-in_err-track.result c.from_residual-in_err-track.ensures.1 in
    let e = c.in_ok-movie.ensures in
    let n = rw c.tracks.ensures at c.in_err-track.ensures.none in
    rw (p.1, p.2, n.0) (g.met.K.Sink.takes_nothing c.args.sink.now, λ told. (let o = e.movie told in lacks (g.S.Store.file c.args.store.now) c.in_ok-movie.movie o.0 c.args.id o.1 n.1))

pub returns-clause-answer : goal.returns-clause-answer
returns-clause-answer g c =
    let file = g.S.Store.file c.args.store.now in
    let e = c.in_ok-movie.ensures in
    let y = c.copy_track.ensures in
    let bytes = rw (e.store.honesty, e.store.file) at y.bytes in
    let prefix = rw (e.store.honesty, e.store.file) at y.prefix in
    let unchanged = rw (e.store.honesty, e.store.file) at y.unchanged in
    let r = run_of g.S.Store c.args.store.now c.copy_track.new.store g.K.Sink c.args.sink.now c.copy_track.new.sink in
    copy_answers _ r (HasData file c.args.id) (IsFaultOf file) (Honest r → LacksTrack file c.args.id) c.copy_track.result (rw e.store.reads at y.store.reads) y.puts
    (on_ok _ _ c.copy_track.result (λ all told.
    let o = e.movie told in
    let f = track_found file c.in_ok-movie.movie o.0 c.in_ok-track.track c.args.id o.1 (rw c.tracks.ensures at c.in_ok-track.ensures.within) (rw c.tracks.ensures at c.in_ok-track.ensures.track) in
    (sample_bytes file (track_samples o.0 f.t), has_data file o.0 c.in_ok-track.track c.args.id f, all told o.0 f.t o.1.opened f.is_there)) bytes)
    (rw e.store.reads at y.refusal)
    (λ told.
    let o = e.movie told in
    let f = track_found file c.in_ok-movie.movie o.0 c.in_ok-track.track c.args.id o.1 (rw c.tracks.ensures at c.in_ok-track.ensures.within) (rw c.tracks.ensures at c.in_ok-track.ensures.track) in
    on_err _ _ c.copy_track.result (λ all. (sample_bytes file (track_samples o.0 f.t), has_data file o.0 c.in_ok-track.track c.args.id f, all told o.0 f.t o.1.opened f.is_there)) prefix)
    (λ told.
    let o = e.movie told in
    let f = track_found file c.in_ok-movie.movie o.0 c.in_ok-track.track c.args.id o.1 (rw c.tracks.ensures at c.in_ok-track.ensures.within) (rw c.tracks.ensures at c.in_ok-track.ensures.track) in
    unchanged told o.0 f.t o.1.opened f.is_there)

pub returns-clause-store : goal.returns-clause-store
returns-clause-store g c =
    let e = c.in_ok-movie.ensures.store in
    let y = c.copy_track.ensures.store in
    record { honesty = y.honesty ∙ e.honesty; file = y.file ∙ e.file }

-- ---- steps

pub returns-in_err-movie-clause-work : goal.returns-in_err-movie-clause-work
returns-in_err-movie-clause-work g c = λ told.
    not_looked _ _ _ _ _ _ c.in_err-movie.field-0.0 told c.in_err-movie.ensures.refusal (c.in_err-movie.ensures.work told).work (c.in_err-movie.ensures.work told).within

pub returns-in_err-track-clause-work : goal.returns-in_err-track-clause-work
returns-in_err-track-clause-work g c = λ told.
    let o = c.in_ok-movie.ensures.movie told in
    looked_within _ _ _ c.in_ok-movie.movie o.0 o.1 ((c.in_ok-movie.ensures.work told).work o.0 (file_tree_is _ _ o.0 o.1))

pub returns-clause-work : goal.returns-clause-work
returns-clause-work g c = λ told.
    let file = g.S.Store.file c.args.store.now in
    let o = c.in_ok-movie.ensures.movie told in
    let f = track_found file c.in_ok-movie.movie o.0 c.in_ok-track.track c.args.id o.1 (rw c.tracks.ensures at c.in_ok-track.ensures.within) (rw c.tracks.ensures at c.in_ok-track.ensures.track) in
    let walk = (rw (c.in_ok-movie.ensures.store.honesty, c.in_ok-movie.ensures.store.file) at c.copy_track.ensures.work) told o.0 f.t o.1.opened f.is_there in
    walked_within file _ _ c.in_ok-movie.movie o.0 _ c.in_ok-track.track f.t o.1 ((c.in_ok-movie.ensures.work told).work o.0 (file_tree_is _ _ o.0 o.1)) f.is_there walk

pub returns-in_err-movie-clause-least : goal.returns-in_err-movie-clause-least
returns-in_err-movie-clause-least g c =
    let p = err_from_is_err_and c.from_residual.result c.from_residual.ensures.1 in
    rw (p.1, p.2) (not_judged (Unit {0}) _ (g.S.Store.is_honest c.args.store.now) (g.S.Store.file c.args.store.now) (g.S.Store.read_failures c.args.store.now) (g.S.Store.read_failures c.open_movie.new.store) c.in_err-movie.field-0.0 c.in_err-movie.ensures.refusal)

pub returns-in_err-track-clause-least : goal.returns-in_err-track-clause-least
returns-in_err-track-clause-least g c = on_judged c.from_residual-in_err-track.result
    (λ told p d.
    let taken = c.in_ok-movie.ensures.least told d.tree d.is_tree in
    omega (arith, taken, opened_least _ p d))

pub returns-clause-least : goal.returns-clause-least
returns-clause-least g c = on_judged c.copy_track.result
    (λ told p d.
    let taken = c.in_ok-movie.ensures.least told d.tree d.is_tree in
    let grown = c.copy_track.ensures.steps.0 in
    omega (arith, taken, grown, opened_least _ p d))

-- ---- looks

pub returns-in_err-movie-clause-looks : goal.returns-in_err-movie-clause-looks
returns-in_err-movie-clause-looks g c = λ told.
    let l = (c.in_err-movie.ensures.work told).looks in
    not_found _ _ _ _ _ _ c.in_err-movie.field-0.0 told c.in_err-movie.ensures.refusal l.said l.within

pub returns-in_err-track-clause-looks : goal.returns-in_err-track-clause-looks
returns-in_err-track-clause-looks g c = λ told.
    finds_taken _ c.in_ok-movie.movie _ _ (c.in_ok-movie.ensures.movie told) (c.in_ok-movie.ensures.work told).looks.said

pub returns-clause-looks : goal.returns-clause-looks
returns-clause-looks g c = λ told.
    rw c.copy_track.ensures.steps.1 (finds_taken _ c.in_ok-movie.movie _ _ (c.in_ok-movie.ensures.movie told) (c.in_ok-movie.ensures.work told).looks.said)
