use Rattle.std.proofs.Common.{◌∙◌, subst}
use Rattle.std.specs.Prelude.{OnErr, OnOk}
use Rattle.std.proofs.lemmas.List.{append-nil}
use Rattle.mp4_present.specs.words.OutBuffers.{PutsFrontOf, TakesBytes}
use Rattle.mp4_answers.specs.words.ToldSamples.{told_line}
use Rattle.mp4_answers.proofs.commands.print.put_line.Goals as goal

pub returns : goal.returns
returns g c =
    let line = c.split_at.ensures.back ∙ c.write_sample-start.ensures.written ∙ append-nil (told_line c.args.style.now c.args.digest.now c.args.sample.now) in
    record {
      all = subst (λ bs. OnOk c.carry.result (TakesBytes g.K.Sink c.args.sink.now c.carry.new.sink c.args.text.now c.carry.new.self bs)) line c.carry.ensures.bytes;
      front = subst (λ bs. OnErr c.carry.result (PutsFrontOf g.K.Sink c.args.sink.now c.carry.new.sink c.args.text.now bs)) line c.carry.ensures.prefix;
      puts = c.carry.ensures.puts;
      refusal = c.carry.ensures.refusal;
    }
