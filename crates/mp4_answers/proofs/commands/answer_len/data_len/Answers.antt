use Rattle.std.proofs.Common.{refl}
use Rattle.std.proofs.lemmas.Result.{err_from_is_err_and}
use Rattle.mp4_answers.specs.format.Answers.{IsFaultOf}
use Rattle.mp4_answers.specs.format.FileTexts.{HasData}
use Rattle.mp4_answers.specs.format.Selected.{LacksTrack}
use Rattle.mp4_answers.specs.format.Run.{look_of, Honest}
use Rattle.mp4_answers.proofs.RunParts.{open_fails}
use Rattle.mp4_answers.proofs.TrackTexts.{lacks}
use Rattle.mp4_answers.proofs.Lengths.{data_counted}
use Rattle.mp4_answers.proofs.commands.answer_len.data_len.Goals as goal

pub returns-clause-length : goal.returns-clause-length
returns-clause-length g c = λ told.
    let o = c.in_ok-movie.ensures.movie told in
    let found = rw c.tracks.ensures at c.in_ok-place.ensures.track in
    let within = rw c.tracks.ensures at c.in_ok-place.ensures.within in
    rw c.tracks-2.ensures (data_counted (g.S.Store.file c.args.store.now) c.in_ok-movie.movie o.0 c.in_ok-place.place c.args.id _ o.1 within found)

pub returns-in_err-movie-clause-refusal : goal.returns-in_err-movie-clause-refusal
returns-in_err-movie-clause-refusal g c =
    let p = err_from_is_err_and c.from_residual.result c.from_residual.ensures.1 in
    let r = look_of g.S.Store c.args.store.now c.open_movie.new.store in
    rw (p.1, p.2) (open_fails (Unit {0}) r (HasData r.file c.args.id) (IsFaultOf r.file) (Honest r → LacksTrack r.file c.args.id) c.in_err-movie.field-0.0 (λ f s. s) refl c.in_err-movie.ensures.refusal)

pub returns-in_err-place-clause-refusal : goal.returns-in_err-place-clause-refusal
returns-in_err-place-clause-refusal g c =
    let p = err_from_is_err_and c.from_residual-in_err-place.result c.from_residual-in_err-place.ensures.1 in
    let e = c.in_ok-movie.ensures in
    let n = rw c.tracks.ensures at c.in_err-place.ensures.none in
    rw (p.1, p.2, n.0) (refl, λ told. (let o = e.movie told in lacks (g.S.Store.file c.args.store.now) c.in_ok-movie.movie o.0 c.args.id o.1 n.1))
