use Rattle.std.proofs.Common.{rules, ◌≡◌, ◌∷◌, length}
use Rattle.std.proofs.lemmas.Result.{err_from_is_err_and}
use Rattle.mp4_present.specs.words.WalkSteps.{walks_steps}
use Rattle.mp4_answers.specs.words.Compares.{IsShrunk}
use Rattle.mp4_answers.specs.words.TwoFiles.{OfBoth, differ_without}
use Rattle.mp4_answers.proofs.ComparedFiles.{one_of_more, one_more_time}
use Rattle.mp4_answers.proofs.ComparedTexts.{none_to_shrink, ok_weaker, shrunk_on}
use Rattle.mp4_answers.proofs.commands.compare.+shrink.Goals as goal

pub returns-in_default-clause-shrunk : goal.returns-in_default-clause-shrunk
returns-in_default-clause-shrunk g t c = λ told right tree other o u.
    let none : length c.args.from.words.now ≡ 0 = search rules in
    none_to_shrink c.args.from.words.now c.args.files.now.given (differ_without (g.S.Store.file c.args.left.now) tree (g.T.Store.file c.args.right.now) other) c.args.from.leaving none

pub returns-in_err-next-clause-opened : goal.returns-in_err-next-clause-opened
returns-in_err-next-clause-opened g t c =
    let p = err_from_is_err_and c.from_residual.result c.from_residual.ensures.1 in
    let list : c.args.from.words.now ≡ c.in-Some.word.now ∷ c.in-Some.more.now = search rules in
    rw (p.1, p.2) (λ told right tree other o u.
    let e = c.in_err-next.ensures.opened told right tree other o u in
    (e.0, one_of_more _ _ (walks_steps tree) (walks_steps other) c.in-Some.word.now c.in-Some.more.now c.args.from.words.now list e.1))

pub returns-clause-shrunk : goal.returns-clause-shrunk
returns-clause-shrunk g t c =
    let is = c.in_ok-next.ensures in
    let list : c.args.from.words.now ≡ c.in-Some.word.now ∷ c.in-Some.more.now = search rules in
    let more = rw (is.stores.left.honesty, is.stores.left.file, is.stores.right.honesty, is.stores.right.file) at c.shrink.ensures.shrunk in
    ok_weaker c.shrink.result
    (λ least. OfBoth g.S.Store c.args.left.now c.args.files.now.movies.left g.T.Store c.args.right.now c.args.files.now.movies.right (λ differ. IsShrunk c.in-Some.more.now c.args.files.now.given differ c.in_ok-next.next least))
    (λ least. OfBoth g.S.Store c.args.left.now c.args.files.now.movies.left g.T.Store c.args.right.now c.args.files.now.movies.right (λ differ. IsShrunk c.args.from.words.now c.args.files.now.given differ c.args.from.leaving least))
    (λ least k told right tree other o u. shrunk_on c.args.from.words.now c.args.files.now.given (differ_without (g.S.Store.file c.args.left.now) tree (g.T.Store.file c.args.right.now) other) c.args.from.leaving c.in-Some.word.now c.in-Some.more.now c.in_ok-next.next least list
    (is.tried told right tree other o u) (k told right tree other o u)) more

pub returns-clause-opened : goal.returns-clause-opened
returns-clause-opened g t c = λ told right tree other o u.
    let is = c.in_ok-next.ensures in
    let list : c.args.from.words.now ≡ c.in-Some.word.now ∷ c.in-Some.more.now = search rules in
    let more = rw (is.stores.left.honesty, is.stores.left.file, is.stores.right.honesty, is.stores.right.file) at c.shrink.ensures.opened in
    let e = more told right tree other o u in
    (e.0, one_more_time _ _ _ (walks_steps tree) (walks_steps other) c.in-Some.word.now c.in-Some.more.now c.args.from.words.now list (is.opened told right tree other o u).1 e.1)
