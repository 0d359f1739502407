use Rattle.std.proofs.Common.{sym, ap, ◌∙◌}
use Rattle.std.proofs.lemmas.Result.{err_from_is_err_and}
use Rattle.std.specs.Prelude.{option_map}
use Rattle.mp4_answers.proofs.OpenedTold.{not_found_told, told_made, told_names, untold}
use Rattle.mp4_answers.proofs.commands.opening.tell.Goals as goal

pub returns-in_err-found-clause-told : goal.returns-in_err-found-clause-told
returns-in_err-found-clause-told g c =
    let p = err_from_is_err_and c.from_residual.result c.from_residual.ensures.1 in
    let e = c.in_err-found.ensures in
    rw (p.1, p.2) (λ told tree o own. record {
      movie = tt;
      fault = not_found_told (g.S.Store.file c.args.store.now) tree _ _ c.in_err-found.field-0.0 e.refusal;
      unchanged = e.unchanged told tree o;
      work = e.work told tree o;
    })

pub returns-in-Some-clause-told : goal.returns-in-Some-clause-told
returns-in-Some-clause-told g c = λ told tree o own.
    let file = g.S.Store.file c.args.store.now in
    let e = c.in_ok-found.ensures in
    let w = c.waiting.ensures in
    let is = sym (e.waits told tree o) ∙ ap (option_map (λ ws. ws.items)) c.in-Some.is in
    let fit = rw c.in-Some.is at e.fit in
    record {
      movie = told_made file tree c.args.movie c.in-Some.found.items is c.waiting.result (w.movie file tree o own fit) w.kept;
      fault = told_names file tree c.args.movie c.in-Some.found.items is c.waiting.result (w.fault file tree o own fit);
      unchanged = w.unchanged file tree o own fit;
      work = e.work told tree o;
    }

pub returns-in-None-clause-told : goal.returns-in-None-clause-told
returns-in-None-clause-told g c = λ told tree o own.
    let file = g.S.Store.file c.args.store.now in
    let e = c.in_ok-found.ensures in
    let is = sym (e.waits told tree o) ∙ ap (option_map (λ ws. ws.items)) c.in-None.is in
    record {
      movie = untold file tree c.args.movie o own is;
      fault = tt;
      unchanged = tt;
      work = e.work told tree o;
    }
