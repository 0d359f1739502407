use Rattle.std.proofs.Common.{refl}
use Rattle.std.proofs.lemmas.Result.{IfOk-weaker}
use Rattle.mp4norm_c.specs.words.Comparing.{Took}
use Rattle.mp4norm_c.proofs.Comparing.{refused_two, same_put}
use Rattle.mp4norm_c.proofs.compared.compared.Goals as goal

pub returns-clause-verdict : goal.returns-clause-verdict
returns-clause-verdict g c =
    let found = rw (c.new-left.ensures, c.new-right.ensures) at c.compare_files.ensures.verdict in
    IfOk-weaker c.compare_files.result _ _ (λ same is. is refl refl) found

pub returns-clause-same : goal.returns-clause-same
returns-clause-same g c = IfOk-weaker c.compare_files.result _ _ (λ same is. same_put c.args.asked _ same is) c.compare_files.ensures.answer.put

pub returns-clause-differ : goal.returns-clause-differ
returns-clause-differ g c =
    let found = rw (c.new-left.ensures, c.new-right.ensures) at c.compare_files.ensures.told in
    IfOk-weaker c.compare_files.result _ _ (λ same is e. is e refl refl) found

pub returns-clause-refusal : goal.returns-clause-refusal
returns-clause-refusal g c =
    refused_two c.args.asked c.args.file.now c.args.other.now (Took c.args.text.now c.compare_files.new.sink) c.args.text.now.failed c.compare_files.new.sink.failed c.compare_files.result (rw (c.new-left.ensures, c.new-right.ensures) at c.compare_files.ensures.answer.refusal)
