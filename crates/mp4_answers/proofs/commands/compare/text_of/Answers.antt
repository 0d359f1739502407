use Rattle.std.proofs.Common.{sym, ap, ◌∙◌}
use Rattle.std.specs.Prelude.{Option, option_map}
use Rattle.mp4_content.specs.declared.comparing.Found.{Found}
use Rattle.mp4_content.specs.declared.comparing.differences.DecodeTime.{DecodeTime}
use Rattle.mp4_answers.specs.format.CompareHeadline.{difference_in}
use Rattle.std.proofs.lemmas.Result.{err_from_is_err_and}
use Rattle.mp4_answers.specs.words.TwoFiles.{differ_without}
use Rattle.mp4_answers.proofs.ComparedTexts.{first_differs}
use Rattle.mp4_answers.proofs.ComparedFiles.{compared_once, first_said}
use Rattle.mp4_answers.proofs.commands.compare.text_of.Goals as goal

pub returns-in_err-compare-in-First-clause-opened : goal.returns-in_err-compare-in-First-clause-opened
returns-in_err-compare-in-First-clause-opened g c =
    let p = err_from_is_err_and c.from_residual.result c.from_residual.ensures.1 in
    rw (p.1, p.2) (λ told right tree other o u.
    let e = c.in_err-compare-in-First.ensures in (
      e.unchanged told right tree other o u,
      rw c.in-First.is (compared_once c.args.files.now.given tree other _ _ (e.work told right tree other o u)),
    ))

pub returns-in_err-first_text-in-Some-clause-opened : goal.returns-in_err-first_text-in-Some-clause-opened
returns-in_err-first_text-in-Some-clause-opened g c =
    let p = err_from_is_err_and c.from_residual-in_err-first_text-in-Some.result c.from_residual-in_err-first_text-in-Some.ensures.1 in
    rw (p.1, p.2) (λ told right tree other o u. (
      (λ e. cc),
      rw c.in-First.is (compared_once c.args.files.now.given tree other _ _ (c.in_ok-compare-in-First.ensures.work told right tree other o u)),
    ))

pub returns-in-None-clause-said : goal.returns-in-None-clause-said
returns-in-None-clause-said g c = λ told right tree other o u.
    let is = c.in_ok-compare-in-First in
    let differ = differ_without (g.S.Store.file c.args.left.now) tree (g.T.Store.file c.args.right.now) other in
    let said = first_said (option_map (λ (f : Found). f.difference) is.field-0) (differ c.args.files.now.given)
    (first_differs c.args.files.now.given _ tree _ other (option_map (λ (f : Found). f.difference) is.field-0) (is.ensures.first told right tree other o u)) in
    rw c.in-None.is at said

pub returns-in-None-clause-opened : goal.returns-in-None-clause-opened
returns-in-None-clause-opened g c = λ told right tree other o u. (
  tt,
  rw c.in-First.is (compared_once c.args.files.now.given tree other _ _ (c.in_ok-compare-in-First.ensures.work told right tree other o u)),
)

pub returns-in_ok-first_text-in-Some-clause-said : goal.returns-in_ok-first_text-in-Some-clause-said
returns-in_ok-first_text-in-Some-clause-said g c = λ told right tree other o u.
    let is = c.in_ok-compare-in-First in
    let differ = differ_without (g.S.Store.file c.args.left.now) tree (g.T.Store.file c.args.right.now) other in
    let said = first_said (option_map (λ (f : Found). f.difference) is.field-0) (differ c.args.files.now.given)
    (first_differs c.args.files.now.given _ tree _ other (option_map (λ (f : Found). f.difference) is.field-0) (is.ensures.first told right tree other o u)) in
    rw c.in-Some.is at said

pub returns-in_ok-first_text-in-Some-clause-opened : goal.returns-in_ok-first_text-in-Some-clause-opened
returns-in_ok-first_text-in-Some-clause-opened g c = λ told right tree other o u. (
  tt,
  rw c.in-First.is (compared_once c.args.files.now.given tree other _ _ (c.in_ok-compare-in-First.ensures.work told right tree other o u)),
)

-- ---- the first

pub returns-in_ok-first_text-in-Some-clause-told : goal.returns-in_ok-first_text-in-Some-clause-told
returns-in_ok-first_text-in-Some-clause-told g c = λ told right tree other o u.
    let first = c.in_ok-compare-in-First.ensures.first told right tree other o u in
    let timed = rw c.in-Some.is at c.in_ok-compare-in-First.ensures.timed told right tree other o u in
    let found = c.in-Some.found in
    rw c.in-First.is (
      found.difference,
      sym first ∙ ap (option_map (λ (f : Found). f.difference)) c.in-Some.is,
      c.in_ok-first_text-in-Some.ensures.line ∙ ap (λ (time : Option DecodeTime). difference_in c.in-First.form time found.difference) timed,
    )

pub returns-in-All-clause-told : goal.returns-in-All-clause-told
returns-in-All-clause-told g c = rw c.in-All.is c.all_text.ensures.told

pub returns-in-All-clause-opened : goal.returns-in-All-clause-opened
returns-in-All-clause-opened g c = rw c.in-All.is c.all_text.ensures.opened
