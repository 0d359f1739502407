use Rattle.std.proofs.Common.{ap}
use Rattle.std.specs.Prelude.{option_map}
use Rattle.mp4_content.specs.declared.comparing.Found.{Found}
use Rattle.std.proofs.lemmas.Result.{err_from_is_err_and}
use Rattle.mp4_answers.specs.words.TwoFiles.{differ_without}
use Rattle.mp4_answers.proofs.ComparedFiles.{compared_at_most}
use Rattle.mp4_answers.proofs.ComparedTexts.{first_differs, same_none, same_some}
use Rattle.mp4_answers.proofs.commands.compare.is_enough.Goals as goal

pub returns-in_err-compare-clause-opened : goal.returns-in_err-compare-clause-opened
returns-in_err-compare-clause-opened g c =
    let p = err_from_is_err_and c.from_residual.result c.from_residual.ensures.1 in
    rw (p.1, p.2) (λ told right tree other o u.
    (c.in_err-compare.ensures.unchanged told right tree other o u, compared_at_most c.args.leaving tree other _ _ (c.in_err-compare.ensures.work told right tree other o u)))

pub returns-in-None-clause-enough : goal.returns-in-None-clause-enough
returns-in-None-clause-enough g c = λ told right tree other o u.
    same_none c.args.leaving (differ_without (g.S.Store.file c.args.left.now) tree (g.T.Store.file c.args.right.now) other) (option_map (λ (f : Found). f.difference) c.in_ok-compare.field-0)
    (first_differs c.args.leaving _ tree _ other (option_map (λ (f : Found). f.difference) c.in_ok-compare.field-0) (c.in_ok-compare.ensures.first told right tree other o u)) (ap (option_map (λ (f : Found). f.difference)) c.in-None.is)

pub returns-in-None-clause-opened : goal.returns-in-None-clause-opened
returns-in-None-clause-opened g c = λ told right tree other o u. (tt, compared_at_most c.args.leaving tree other _ _ (c.in_ok-compare.ensures.work told right tree other o u))

pub returns-in-Some-clause-enough : goal.returns-in-Some-clause-enough
returns-in-Some-clause-enough g c = λ told right tree other o u.
    same_some c.args.leaving (differ_without (g.S.Store.file c.args.left.now) tree (g.T.Store.file c.args.right.now) other) (option_map (λ (f : Found). f.difference) c.in_ok-compare.field-0) c.in-Some.field-0.difference
    (first_differs c.args.leaving _ tree _ other (option_map (λ (f : Found). f.difference) c.in_ok-compare.field-0) (c.in_ok-compare.ensures.first told right tree other o u)) (ap (option_map (λ (f : Found). f.difference)) c.in-Some.is)

pub returns-in-Some-clause-opened : goal.returns-in-Some-clause-opened
returns-in-Some-clause-opened g c = λ told right tree other o u. (tt, compared_at_most c.args.leaving tree other _ _ (c.in_ok-compare.ensures.work told right tree other o u))
