use Rattle.std.proofs.Common.{drop, flat_map}
use Rattle.std.proofs.lemmas.Result.{err_from_is_err_and}
use Rattle.mp4_present.specs.words.Carried.{waiting}
use Rattle.mp4_answers.specs.words.SampleMessages.{sample_at}
use Rattle.mp4_answers.specs.words.ToldSamples.{told_sample}
use Rattle.mp4_answers.proofs.SampleLists.{first_apart, front_of_more}
use Rattle.mp4_answers.proofs.commands.print.put_first.Goals as goal

pub returns-in_err-put_sample-clause-front : goal.returns-in_err-put_sample-clause-front
returns-in_err-put_sample-clause-front g c =
    let p = err_from_is_err_and c.from_residual.result c.from_residual.ensures.1 in
    let samples = c.args.samples.now in
    rw p.1 (λ honest.
    let f = told_sample c.args.style.now (g.S.Store.file c.args.store.now) in
    front_of_more (g.K.Sink.takes c.args.sink.now c.put_sample.new.sink) (waiting c.args.desk.now.text) (f (sample_at samples 0)) (flat_map f (drop 1 samples)) (flat_map f samples) (first_apart f samples c.requires.some) (c.in_err-put_sample.ensures.told honest).front)
