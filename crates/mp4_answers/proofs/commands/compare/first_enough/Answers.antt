use Rattle.std.proofs.Common.{arith, subst, sym}
use Rattle.std.proofs.lemmas.Result.{err_from_is_err_and}
use Rattle.mp4_present.specs.words.WalkSteps.{walks_steps}
use Rattle.mp4_content.specs.format.CoveringLaws.{Covers}
use Rattle.mp4_answers.specs.words.TwoFiles.{differ_without}
use Rattle.mp4_answers.proofs.ComparedFiles.{few_times_of, walks_joined}
use Rattle.mp4_answers.proofs.ComparedTexts.{none_found, some_found}
use Rattle.mp4_answers.proofs.WordSets.{covers_all}
use Rattle.mp4_answers.proofs.commands.compare.first_enough.Goals as goal

pub returns-in_err-is_enough-clause-opened : goal.returns-in_err-is_enough-clause-opened
returns-in_err-is_enough-clause-opened g c =
    let p = err_from_is_err_and c.from_residual.result c.from_residual.ensures.1 in
    rw (p.1, p.2) (λ told right tree other o u.
    let e = c.in_err-is_enough.ensures.opened told right tree other o u in
    (e.0, few_times_of _ _ (walks_steps tree) (walks_steps other) 2 4 (omega arith) e.1))

pub returns-then-branch-clause-enough : goal.returns-then-branch-clause-enough
returns-then-branch-clause-enough g c = λ told right tree other o u.
    some_found c.args.files.now.given c.guess-guessed.result (differ_without (g.S.Store.file c.args.left.now) tree (g.T.Store.file c.args.right.now) other) c.in_ok-is_enough.field-0 c.guess-guessed.ensures c.if-branch.true
    (c.in_ok-is_enough.ensures.enough told right tree other o u)

pub returns-then-branch-clause-opened : goal.returns-then-branch-clause-opened
returns-then-branch-clause-opened g c = λ told right tree other o u.
    (tt, few_times_of _ _ (walks_steps tree) (walks_steps other) 2 4 (omega arith) (c.in_ok-is_enough.ensures.opened told right tree other o u).1)

pub returns-in_err-is_enough-2-clause-opened : goal.returns-in_err-is_enough-2-clause-opened
returns-in_err-is_enough-2-clause-opened g c =
    let p = err_from_is_err_and c.from_residual-in_err-is_enough-2.result c.from_residual-in_err-is_enough-2.ensures.1 in
    let is = c.in_ok-is_enough.ensures in
    let more = rw (is.stores.left.honesty, is.stores.left.file, is.stores.right.honesty, is.stores.right.file) at c.in_err-is_enough-2.ensures.opened in
    rw (p.1, p.2) (λ told right tree other o u.
    let e = more told right tree other o u in
    (e.0, walks_joined _ _ _ (walks_steps tree) (walks_steps other) 2 2 (is.opened told right tree other o u).1 e.1))

pub returns-then-branch-2-clause-enough : goal.returns-then-branch-2-clause-enough
returns-then-branch-2-clause-enough g c = λ told right tree other o u.
    let is = c.in_ok-is_enough.ensures in
    let more = rw (is.stores.left.honesty, is.stores.left.file, is.stores.right.honesty, is.stores.right.file) at c.in_ok-is_enough-2.ensures.enough in
    some_found c.args.files.now.given c.everything-whole.result (differ_without (g.S.Store.file c.args.left.now) tree (g.T.Store.file c.args.right.now) other) c.in_ok-is_enough-2.field-0
    (subst (Covers c.args.files.now.given) (sym c.everything-whole.ensures) (covers_all c.args.files.now.given)) c.if-branch-2.true (more told right tree other o u)

pub returns-then-branch-2-clause-opened : goal.returns-then-branch-2-clause-opened
returns-then-branch-2-clause-opened g c = λ told right tree other o u.
    let is = c.in_ok-is_enough.ensures in
    let more = rw (is.stores.left.honesty, is.stores.left.file, is.stores.right.honesty, is.stores.right.file) at c.in_ok-is_enough-2.ensures.opened in
    (tt, walks_joined _ _ _ (walks_steps tree) (walks_steps other) 2 2 (is.opened told right tree other o u).1 (more told right tree other o u).1)

pub returns-clause-enough : goal.returns-clause-enough
returns-clause-enough g c = λ told right tree other o u.
    let is = c.in_ok-is_enough.ensures in
    let more = rw (is.stores.left.honesty, is.stores.left.file, is.stores.right.honesty, is.stores.right.file) at c.in_ok-is_enough-2.ensures.enough in
    none_found c.args.files.now.given c.everything-whole.result (differ_without (g.S.Store.file c.args.left.now) tree (g.T.Store.file c.args.right.now) other) c.in_ok-is_enough-2.field-0 c.everything-whole.ensures c.if-branch-2.false (more told right tree other o u)

pub returns-clause-opened : goal.returns-clause-opened
returns-clause-opened g c = λ told right tree other o u.
    let is = c.in_ok-is_enough.ensures in
    let more = rw (is.stores.left.honesty, is.stores.left.file, is.stores.right.honesty, is.stores.right.file) at c.in_ok-is_enough-2.ensures.opened in
    (tt, walks_joined _ _ _ (walks_steps tree) (walks_steps other) 2 2 (is.opened told right tree other o u).1 (more told right tree other o u).1)
