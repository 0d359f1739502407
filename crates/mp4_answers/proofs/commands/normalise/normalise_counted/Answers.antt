use Rattle.std.proofs.Common.{◌∙◌, arith, false, None}
use Rattle.std.proofs.lemmas.Result.{err_from_is_err_and, on_ok_weaker}
use Rattle.mp4_content.specs.format.ReducedLaws.{nothing}
use Rattle.mp4_answers.proofs.StepSums.{opened_least}
use Rattle.mp4_answers.proofs.StepsTaken.{not_opened, not_told, opening_told, written_within}
use Rattle.mp4_answers.proofs.OpenedTold.{own_told}
use Rattle.mp4_answers.proofs.LooksTaken.{finds_taken, not_found, not_turned, turns_taken}
use Rattle.mp4_answers.specs.format.Answers.{IsFaultOf}
use Rattle.mp4_answers.specs.format.Headline.{HasNormalForm}
use Rattle.mp4_answers.specs.format.Run.{run_of}
use Rattle.mp4_answers.specs.format.Selected.{whole}
use Rattle.mp4_answers.proofs.Normalised.{all_written, front_written, unchanged_written}
use Rattle.mp4_answers.proofs.RunParts.{copy_answers, open_fails}
use Rattle.mp4_answers.proofs.WholePut.{whole_put}
use Rattle.mp4_answers.proofs.commands.normalise.normalise_counted.Goals as goal

pub returns-in_err-movie-clause-answer : goal.returns-in_err-movie-clause-answer
returns-in_err-movie-clause-answer g c =
    let p = err_from_is_err_and c.from_residual.result c.from_residual.ensures.1 in
    let r = run_of g.S.Store c.args.store.now c.open_movie.new.store g.K.Sink c.args.sink.now c.args.sink.now in
    rw (p.1, p.2) (open_fails (Unit {0}) r (HasNormalForm r.file) (IsFaultOf r.file) ⊥ c.in_err-movie.field-0.0 (λ f s. s) (g.met.K.Sink.takes_nothing c.args.sink.now) c.in_err-movie.ensures.refusal)

pub returns-clause-answer : goal.returns-clause-answer
returns-clause-answer g c =
    let o = c.in_ok-movie.ensures in
    let w = c.write_normal.ensures in
    let r = run_of g.S.Store c.args.store.now c.write_normal.new.store g.K.Sink c.args.sink.now c.write_normal.new.sink in
    copy_answers _ r (HasNormalForm r.file) (IsFaultOf r.file) ⊥ c.write_normal.result (rw o.store.reads at w.devices.reads) w.devices.puts
    (all_written r _ _ _ o.store.honesty o.store.file o.movie c.write_normal.result w.bytes)
    (rw o.store.reads at w.refusal)
    (front_written r _ _ _ o.store.honesty o.store.file o.movie c.write_normal.result w.prefix)
    (unchanged_written r _ _ _ o.store.honesty o.store.file o.movie c.write_normal.result w.unchanged)

pub returns-clause-store : goal.returns-clause-store
returns-clause-store g c =
    let o = c.in_ok-movie.ensures.store in
    let w = c.write_normal.ensures.devices in
    record { honesty = w.honesty ∙ o.honesty; file = w.file ∙ o.file }

pub returns-in_err-movie-clause-work : goal.returns-in_err-movie-clause-work
returns-in_err-movie-clause-work g c = λ told.
    not_opened nothing _ _ _ (not_told false _ _ _ _ _ _ c.in_err-movie.field-0.0 told c.in_err-movie.ensures.refusal (c.in_err-movie.ensures.work told).work (c.in_err-movie.ensures.work told).within)

pub returns-clause-work : goal.returns-clause-work
returns-clause-work g c = λ told.
    let write = rw (c.in_ok-movie.ensures.store.honesty, c.in_ok-movie.ensures.store.file) at c.write_normal.ensures.work in
    let o = c.in_ok-movie.ensures.movie told in
    written_within (whole nothing) _ c.in_ok-movie.movie _ _ _ (o.0, own_told _ _ o.0 o.1) (opening_told _ _ o.0 _ _ o.1 (c.in_ok-movie.ensures.work told).work) (λ tree o. let w = write told tree o in omega (arith, w))

pub returns-in_err-movie-clause-looks : goal.returns-in_err-movie-clause-looks
returns-in_err-movie-clause-looks g c = λ told.
    let l = (c.in_err-movie.ensures.work told).looks in
    not_turned _ _ _ (not_found _ _ _ _ _ _ c.in_err-movie.field-0.0 told c.in_err-movie.ensures.refusal l.said l.within)

pub returns-clause-looks : goal.returns-clause-looks
returns-clause-looks g c = λ told.
    let o = c.in_ok-movie.ensures.movie told in
    turns_taken None false _ c.in_ok-movie.movie _ _ _ (o.0, own_told _ _ o.0 o.1) (finds_taken _ c.in_ok-movie.movie _ _ o (c.in_ok-movie.ensures.work told).looks.said) c.write_normal.ensures.turns

pub returns-in_err-movie-clause-whole : goal.returns-in_err-movie-clause-whole
returns-in_err-movie-clause-whole g c =
    let p = err_from_is_err_and c.from_residual.result c.from_residual.ensures.1 in
    rw p.1 tt

pub returns-clause-whole : goal.returns-clause-whole
returns-clause-whole g c = whole_put _ _ _ c.write_normal.result c.write_normal.ensures.whole

pub returns-clause-least : goal.returns-clause-least
returns-clause-least g c = on_ok_weaker c.write_normal.result
    (λ grown told p d.
    let taken = c.in_ok-movie.ensures.least told d.tree d.is_tree in
    omega (arith, taken, grown, opened_least _ p d))
    c.write_normal.ensures.grows
