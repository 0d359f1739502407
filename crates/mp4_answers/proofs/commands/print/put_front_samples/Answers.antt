use Rattle.std.proofs.Common.{◌∙◌, ◌++◌, ap, drop, flat_map, subst, sym, take}
use Rattle.std.proofs.lemmas.Result.{err_from_is_err_and}
use Rattle.mp4_present.specs.words.Carried.{waiting}
use Rattle.mp4_present.specs.words.OutBuffers.{TakesBytes}
use Rattle.mp4_answers.specs.words.SampleMessages.{told_lines}
use Rattle.mp4_answers.specs.words.ToldSamples.{told_sample}
use Rattle.mp4_answers.proofs.SampleLists.{front_lines_are, front_of_gone, front_of_more, texts_apart}
use Rattle.mp4_answers.proofs.commands.print.put_front_samples.Goals as goal

pub returns-in_err-put_lines-clause-front : goal.returns-in_err-put_lines-clause-front
returns-in_err-put_lines-clause-front g c =
    let p = err_from_is_err_and c.from_residual.result c.from_residual.ensures.1 in
    let count = c.read_front-count.result.0 in
    let samples = c.args.samples.now in
    let read = c.read_front-count.ensures in
    rw p.1 (λ honest.
    let file = g.S.Store.file c.args.store.now in
    let f = told_sample c.args.style.now file in
    let lines = front_lines_are c.args.style.now file _ _ _ samples count read.samples read.messages (read.bytes honest) c.find_digests.ensures.found in
    let told = told_lines c.args.style.now c.find_digests.new.digests 0 (take count samples) in
    let rest = flat_map f (drop count samples) in
    front_of_more (g.K.Sink.takes c.args.sink.now c.put_lines.new.sink) (waiting c.args.text.now) told rest (flat_map f samples) (texts_apart f samples count ∙ ap (λ bs. bs ++ rest) (sym lines)) c.in_err-put_lines.ensures.front)

pub returns-in_err-outcome-clause-front : goal.returns-in_err-outcome-clause-front
returns-in_err-outcome-clause-front g c =
    let p = err_from_is_err_and c.from_residual-in_err-outcome.result c.from_residual-in_err-outcome.ensures.1 in
    let count = c.read_front-count.result.0 in
    let samples = c.args.samples.now in
    let read = c.read_front-count.ensures in
    rw p.1 (λ honest.
    let file = g.S.Store.file c.args.store.now in
    let f = told_sample c.args.style.now file in
    let lines = front_lines_are c.args.style.now file _ _ _ samples count read.samples read.messages (read.bytes honest) c.find_digests.ensures.found in
    let told = told_lines c.args.style.now c.find_digests.new.digests 0 (take count samples) in
    let rest = flat_map f (drop count samples) in
    front_of_gone (g.K.Sink.takes c.args.sink.now c.put_lines.new.sink) (waiting c.args.text.now) _ told rest (flat_map f samples) (texts_apart f samples count ∙ ap (λ bs. bs ++ rest) (sym lines)) c.in_ok-put_lines.ensures.all)

pub returns-clause-told : goal.returns-clause-told
returns-clause-told g c honest =
    let read = c.read_front-count.ensures in
    let lines = front_lines_are c.args.style.now (g.S.Store.file c.args.store.now) _ _ _ c.args.samples.now c.read_front-count.result.0 read.samples read.messages (read.bytes honest) c.find_digests.ensures.found in
    subst (λ bs. TakesBytes g.K.Sink c.args.sink.now c.put_lines.new.sink c.args.text.now c.put_lines.new.text bs) lines c.in_ok-put_lines.ensures.all
