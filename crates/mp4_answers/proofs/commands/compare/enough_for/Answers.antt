use Rattle.std.proofs.Common.{◌*◌, length, arith}
use Rattle.std.proofs.lemmas.Result.{err_from_is_err_and}
use Rattle.mp4_present.specs.words.WalkSteps.{walks_steps}
use Rattle.mp4_answers.specs.format.CompareHeadline.{trying_walks}
use Rattle.mp4_answers.specs.words.SingleWords.{single_words}
use Rattle.mp4_answers.specs.words.TwoFiles.{differ_without}
use Rattle.mp4_answers.proofs.ComparedFiles.{few_times_of, walks_joined}
use Rattle.mp4_answers.proofs.ComparedTexts.{least_enough, none_enough}
use Rattle.mp4_answers.proofs.commands.compare.enough_for.Goals as goal

pub returns-in_err-first-clause-opened : goal.returns-in_err-first-clause-opened
returns-in_err-first-clause-opened g c =
    let p = err_from_is_err_and c.from_residual.result c.from_residual.ensures.1 in
    rw (p.1, p.2) (λ told right tree other o u.
    let e = c.in_err-first.ensures.opened told right tree other o u in
    (e.0, few_times_of _ _ (walks_steps tree) (walks_steps other) 4 trying_walks (omega arith) e.1))

pub returns-in_default-clause-enough : goal.returns-in_default-clause-enough
returns-in_default-clause-enough g c = λ told right tree other o u.
    none_enough c.args.files.now.given (differ_without (g.S.Store.file c.args.left.now) tree (g.T.Store.file c.args.right.now) other) c.in_ok-first.field-0 c.in_default.is (c.in_ok-first.ensures.enough told right tree other o u)

pub returns-in_default-clause-opened : goal.returns-in_default-clause-opened
returns-in_default-clause-opened g c = λ told right tree other o u.
    (tt, few_times_of _ _ (walks_steps tree) (walks_steps other) 4 trying_walks (omega arith) (c.in_ok-first.ensures.opened told right tree other o u).1)

pub returns-in_err-least-clause-opened : goal.returns-in_err-least-clause-opened
returns-in_err-least-clause-opened g c =
    let p = err_from_is_err_and c.from_residual-in_err-least.result c.from_residual-in_err-least.ensures.1 in
    let is = c.in_ok-first.ensures in
    let more = rw (is.stores.left.honesty, is.stores.left.file, is.stores.right.honesty, is.stores.right.file) at c.in_err-least.ensures.opened in
    rw (p.1, p.2) (λ told right tree other o u.
    let e = more told right tree other o u in
    (e.0, walks_joined _ _ _ (walks_steps tree) (walks_steps other) 4 (2 * length single_words) (is.opened told right tree other o u).1 e.1))

pub returns-clause-enough : goal.returns-clause-enough
returns-clause-enough g c = λ told right tree other o u.
    let is = c.in_ok-first.ensures in
    let more = rw (is.stores.left.honesty, is.stores.left.file, is.stores.right.honesty, is.stores.right.file) at c.in_ok-least.ensures.shrunk in
    least_enough c.args.files.now.given (differ_without (g.S.Store.file c.args.left.now) tree (g.T.Store.file c.args.right.now) other) c.in_ok-first.field-0 c.in-Some.first c.in_ok-least.least c.in-Some.is (is.enough told right tree other o u) (more told right tree other o u)

pub returns-clause-opened : goal.returns-clause-opened
returns-clause-opened g c = λ told right tree other o u.
    let is = c.in_ok-first.ensures in
    let more = rw (is.stores.left.honesty, is.stores.left.file, is.stores.right.honesty, is.stores.right.file) at c.in_ok-least.ensures.opened in
    (tt, walks_joined _ _ _ (walks_steps tree) (walks_steps other) 4 (2 * length single_words) (is.opened told right tree other o u).1 (more told right tree other o u).1)
