use Rattle.std.proofs.Common.{inl, ◌∙◌, arith}
use Rattle.std.proofs.lemmas.Result.{err_from_is_err_and, on_ok_weaker}
use Rattle.mp4_answers.proofs.StepSums.{opened_least}
use Rattle.mp4_answers.proofs.StepsTaken.{not_opened, written_within}
use Rattle.mp4_answers.proofs.LooksTaken.{not_turned, turns_taken}
use Rattle.mp4_answers.specs.format.ReducedHeadline.{HasReducedForm}
use Rattle.mp4_answers.specs.format.Run.{run_of}
use Rattle.mp4_answers.specs.format.Selected.{LacksNamed}
use Rattle.mp4_answers.proofs.ReducedNormalised.{IsReducedFault, none_too_long, reduced_begun, reduced_written, reduced_front, reduced_unchanged, reduced_too_long, refused_so, write_answers}
use Rattle.mp4_answers.proofs.RunParts.{told_fails}
use Rattle.mp4_answers.proofs.WholePut.{whole_put}
use Rattle.mp4_answers.proofs.commands.normalise_reduced.normalise_reduced.Goals as goal

pub returns-in_err-movie-clause-answer : goal.returns-in_err-movie-clause-answer
returns-in_err-movie-clause-answer g c =
    let p = err_from_is_err_and c.from_residual.result c.from_residual.ensures.1 in
    let r = run_of g.S.Store c.args.store.now c.open_told.new.store g.K.Sink c.args.sink.now c.args.sink.now in
    let s = c.args.selection in
    let none = g.met.K.Sink.takes_nothing c.args.sink.now in
    rw (p.1, p.2) (told_fails (Unit {0}) r (HasReducedForm s r.file) (IsReducedFault s r.file) (LacksNamed s.track r.honest r.file) s.track s.leaving.lead_ins c.in_err-movie.field-0.0 (λ f x. inl x) (λ w. w) none c.in_err-movie.ensures.refusal, λ told late. none)

pub returns-clause-answer : goal.returns-clause-answer
returns-clause-answer g c =
    let s = c.args.selection in
    let o = c.in_ok-movie.ensures in
    let w = c.write_reduced.ensures in
    let x = c.when_told-words.result in
    let same = c.when_told-words.ensures in
    let answer = c.write_reduced.result in
    let r = run_of g.S.Store c.args.store.now c.write_reduced.new.store g.K.Sink c.args.sink.now c.write_reduced.new.sink in (
      write_answers _ s r answer (rw o.store.reads at w.devices.reads) w.devices.puts
          (reduced_written s r _ _ _ o.store.honesty o.store.file o.movie x same answer w.bytes w.long)
          (refused_so s r _ _ _ o.store.honesty o.store.file o.movie x same answer (rw o.store.reads at w.refusal))
          (reduced_front s r _ _ _ o.store.honesty o.store.file o.movie x same answer w.prefix w.long)
          (reduced_begun s r _ _ _ o.store.honesty o.store.file o.movie x same answer w.prefix w.long)
          (reduced_unchanged s r _ _ _ o.store.honesty o.store.file o.movie answer w.unchanged)
          (reduced_too_long s r _ _ _ o.store.honesty o.store.file o.movie x same answer (λ told tree o. (w.long told tree o).fault)),
      none_too_long s r _ _ _ o.store.honesty o.store.file o.movie x same answer w.long,
    )

pub returns-clause-store : goal.returns-clause-store
returns-clause-store g c =
    let o = c.in_ok-movie.ensures.store in
    let w = c.write_reduced.ensures.devices in
    record { honesty = w.honesty ∙ o.honesty; file = w.file ∙ o.file }

pub returns-in_err-movie-clause-work : goal.returns-in_err-movie-clause-work
returns-in_err-movie-clause-work g c = λ told. not_opened c.args.selection.leaving _ _ _ (c.in_err-movie.ensures.work told)

pub returns-clause-work : goal.returns-clause-work
returns-clause-work g c = λ told.
    let write = rw (c.in_ok-movie.ensures.store.honesty, c.in_ok-movie.ensures.store.file, c.when_told-words.ensures) at c.write_reduced.ensures.work in
    written_within c.args.selection _ _ _ _ _ (c.in_ok-movie.ensures.movie told) (c.in_ok-movie.ensures.work told) (write told)

pub returns-in_err-movie-clause-looks : goal.returns-in_err-movie-clause-looks
returns-in_err-movie-clause-looks g c = λ told. not_turned _ _ _ (c.in_err-movie.ensures.looks told)

pub returns-clause-looks : goal.returns-clause-looks
returns-clause-looks g c = λ told.
    turns_taken c.args.selection.track c.args.selection.leaving.lead_ins _ c.in_ok-movie.movie _ _ _ (c.in_ok-movie.ensures.movie told) (c.in_ok-movie.ensures.looks told) c.write_reduced.ensures.turns

pub returns-in_err-movie-clause-whole : goal.returns-in_err-movie-clause-whole
returns-in_err-movie-clause-whole g c =
    let p = err_from_is_err_and c.from_residual.result c.from_residual.ensures.1 in
    rw p.1 tt

pub returns-clause-whole : goal.returns-clause-whole
returns-clause-whole g c = whole_put c.args.selection.leaving _ _ c.write_reduced.result (rw c.when_told-words.ensures at c.write_reduced.ensures.whole)

pub returns-clause-least : goal.returns-clause-least
returns-clause-least g c = on_ok_weaker c.write_reduced.result
    (λ grown told p d.
    let taken = c.in_ok-movie.ensures.least told d.tree d.is_tree in
    omega (arith, taken, grown, opened_least _ p d))
    c.write_reduced.ensures.grows
