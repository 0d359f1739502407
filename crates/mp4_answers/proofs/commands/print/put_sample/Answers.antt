use Rattle.std.proofs.Common.{ap, subst}
use Rattle.std.specs.Prelude.{OnErr, OnOk}
use Rattle.std.proofs.lemmas.Result.{err_from_is_err_and}
use Rattle.mp4_store.proofs.Known.{TakesPrefix-nothing}
use Rattle.mp4_present.specs.words.OutBuffers.{PutsFrontOf, TakesBytes}
use Rattle.mp4_answers.specs.words.ToldSamples.{told_line}
use Rattle.mp4_answers.proofs.commands.print.put_sample.Goals as goal

pub returns-in_err-digest-clause-told : goal.returns-in_err-digest-clause-told
returns-in_err-digest-clause-told g c honest =
    let p = err_from_is_err_and c.from_residual.result c.from_residual.ensures.1 in
    rw p.1 (record { all = tt; front = TakesPrefix-nothing (g.K.Sink.takes c.args.sink.now c.args.sink.now) (g.met.K.Sink.takes_nothing c.args.sink.now) _ })

pub returns-clause-told : goal.returns-clause-told
returns-clause-told g c honest =
    let line = ap (λ ds. told_line c.args.style.now ds c.args.sample.now) (c.in_ok-digest.ensures.digest honest) in
    record {
      all = subst (λ bs. OnOk c.put_line.result (TakesBytes g.K.Sink c.args.sink.now c.put_line.new.sink c.args.desk.now.text c.put_line.new.text bs)) line c.put_line.ensures.all;
      front = subst (λ bs. OnErr c.put_line.result (PutsFrontOf g.K.Sink c.args.sink.now c.put_line.new.sink c.args.desk.now.text bs)) line c.put_line.ensures.front;
    }
