use Rattle.std.proofs.lemmas.Result.{err_from_is_err_and}
use Rattle.mp4_answers.proofs.FirstLosses.{whole_lost}
use Rattle.mp4_answers.proofs.Stripped.{look_fails}
use Rattle.mp4_answers.proofs.commands.freed_boxes.find_freed.Goals as goal

pub returns-clause-first : goal.returns-clause-first
returns-clause-first g c told =
    let found = rw (c.whole_file-span.ensures, c.len.ensures) at c.in_ok-find_boxes.ensures.first in
    whole_lost c.args.names.now (g.S.Store.file c.args.store.now) _ _ c.finish.new.self.first_loss (found told) c.none-found.ensures c.finish.ensures

pub returns-in_err-find_boxes-clause-refusal : goal.returns-in_err-find_boxes-clause-refusal
returns-in_err-find_boxes-clause-refusal g c =
    let p = err_from_is_err_and c.from_residual.result c.from_residual.ensures.1 in
    let cause = rw (c.whole_file-span.ensures, c.len.ensures) at c.in_err-find_boxes.ensures.refusal in
    rw (p.1, p.2) (look_fails c.args.names.now (g.S.Store.is_honest c.args.store.now) (g.S.Store.file c.args.store.now) (g.S.Store.read_failures c.args.store.now) (g.S.Store.read_failures c.find_boxes.new.store) c.in_err-find_boxes.field-0.0 cause)
