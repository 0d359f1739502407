use Rattle.std.proofs.Common.{◌++◌, ◌∙◌, append_assoc, ap, arith, refl, sym}
use Rattle.std.proofs.lemmas.List.{append-nil, drop_all}
use Rattle.std.proofs.lemmas.Result.{err_from_is_err_and}
use Rattle.mp4_answers.specs.words.SampleMessages.{told_lines}
use Rattle.mp4_answers.proofs.SampleLists.{lines_next}
use Rattle.mp4_answers.proofs.Told.{told_all, told_more, told_none, told_stops}
use Rattle.mp4_answers.proofs.commands.print.put_lines.Goals as goal

pub lines-init : goal.lines-init
lines-init g c = record { done = _; told = told_none g.K.Sink g.met.K.Sink.takes_on _ _ (g.met.K.Sink.takes_nothing _); whole = refl }

pub returns-in_err-put_line : goal.returns-in_err-put_line
returns-in_err-put_line g c =
    let p = err_from_is_err_and c.from_residual.result c.from_residual.ensures.1 in
    let e = c.in_err-put_line.ensures in
    let i = c.lines.invariant in
    let next = lines_next c.args.style.now c.args.digests.now c.args.samples.now c.lines.k (omega arith) in
    rw (p.1, p.2) (told_stops g.K.Sink g.met.K.Sink.takes_on _ _ _ _ _ _ _ _ _ _ _ i.told e.front e.refusal (i.whole ∙ ap (λ bs. i.done ++ bs) next))

pub lines-preserved : goal.lines-preserved
lines-preserved g c =
    let e = c.in_ok-put_line.ensures in
    let i = c.lines.invariant in
    let next = lines_next c.args.style.now c.args.digests.now c.args.samples.now c.lines.k (omega arith) in
    record {
      done = _;
      told = told_more g.K.Sink g.met.K.Sink.takes_on _ _ _ _ _ _ _ _ _ i.told e.all e.puts refl;
      whole = i.whole ∙ ap (λ bs. i.done ++ bs) next ∙ sym (append_assoc i.done _ _);
    }

pub returns : goal.returns
returns g c =
    let i = c.lines.invariant in
    told_all g.K.Sink g.met.K.Sink.takes_on _ _ _ _ _ _ _ i.told
    (sym (i.whole ∙ ap (λ ss. i.done ++ told_lines c.args.style.now c.args.digests.now c.lines.k ss) (drop_all c.lines.k c.args.samples.now (omega arith)) ∙ append-nil i.done))
