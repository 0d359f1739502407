use Rattle.std.proofs.Common.{ℕ, List, [], ◌++◌, refl}
use Rattle.std.proofs.lemmas.Result.{err_from_is_err_and}
use Rattle.sha2.specs.Hashers.{Holds256}
use Rattle.mp4_answers.specs.format.ReducedHeadline.{HasReducedForm}
use Rattle.mp4_answers.specs.format.Run.{Run}
use Rattle.mp4_answers.specs.format.Selected.{LacksNamed}
use Rattle.mp4_answers.proofs.ReducedNormalised.{IsReducedFault}
use Rattle.mp4_answers.proofs.Summed.{hash_fails}
use Rattle.mp4_answers.proofs.commands.sum.sum_file.Goals as goal

pub returns-in_err-normalise_reduced-clause-answer : goal.returns-in_err-normalise_reduced-clause-answer
returns-in_err-normalise_reduced-clause-answer g c =
    let p = err_from_is_err_and c.from_residual.result c.from_residual.ensures.1 in
    let e = c.in_err-normalise_reduced in
    let l = c.args.selection in
    let r : Run = record {
      honest = g.S.Store.is_honest c.args.store.now;
      file = g.S.Store.file c.args.store.now;
      reads = g.S.Store.read_failures c.args.store.now;
      reads_after = g.S.Store.read_failures c.normalise_reduced.new.store;
      puts = 0;
      puts_after = 0;
      took = λ xs. (m : List ℕ) → Holds256 c.new-sink.result.hasher m → Holds256 c.normalise_reduced.new.sink.hasher (m ++ xs);
    } in
    rw (p.1, p.2) (hash_fails (Unit {0}) (List ℕ) r (HasReducedForm l r.file) (IsReducedFault l r.file) (LacksNamed l.track r.honest r.file) e.field-0.0 e.ensures.answer.0 refl refl, tt)

-- the digest is that of the bytes that the sink took
pub returns-clause-answer : goal.returns-clause-answer
returns-clause-answer g c =
    let a = c.in_ok-normalise_reduced.ensures.answer.0 in (
      ((a.0.0, refl), λ told. ([], refl, refl)),
      λ told. let t = a.1 told in (t.0, t.1, c.digest.ensures.digest t.0 (t.2 [] c.new-sink.ensures.empty)),
    )
