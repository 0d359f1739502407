use Rattle.std.proofs.Common.{rules}
use Rattle.std.proofs.lemmas.Result.{err_from_is_err_and}
use Rattle.mp4_answers.specs.words.TwoFiles.{differ_without}
use Rattle.mp4_answers.proofs.ComparedTexts.{no_word_taken, word_kept, word_taken}
use Rattle.mp4_answers.proofs.WordSets.{none_to_less}
use Rattle.mp4_answers.proofs.commands.compare.take_word.Goals as goal

pub returns-then-not-can_take-clause-tried : goal.returns-then-not-can_take-clause-tried
returns-then-not-can_take-clause-tried g c = λ told right tree other o u.
    no_word_taken c.args.trial.word c.args.files.now.given c.args.trial.leaving (differ_without (g.S.Store.file c.args.left.now) tree (g.T.Store.file c.args.right.now) other)
    (none_to_less c.args.files.now.given c.args.trial.leaving c.args.trial.word (search rules))

pub returns-in_err-is_enough-clause-opened : goal.returns-in_err-is_enough-clause-opened
returns-in_err-is_enough-clause-opened g c =
    let p = err_from_is_err_and c.from_residual.result c.from_residual.ensures.1 in
    rw (p.1, p.2) c.in_err-is_enough.ensures.opened

pub returns-then-branch-clause-tried : goal.returns-then-branch-clause-tried
returns-then-branch-clause-tried g c = λ told right tree other o u.
    word_taken c.args.trial.word c.args.files.now.given c.args.trial.leaving c.less_word-less.result (differ_without (g.S.Store.file c.args.left.now) tree (g.T.Store.file c.args.right.now) other) c.in_ok-is_enough.field-0 c.less_word-less.ensures c.if-branch.true
    (c.in_ok-is_enough.ensures.enough told right tree other o u)

pub returns-clause-tried : goal.returns-clause-tried
returns-clause-tried g c = λ told right tree other o u.
    word_kept c.args.trial.word c.args.files.now.given c.args.trial.leaving c.less_word-less.result (differ_without (g.S.Store.file c.args.left.now) tree (g.T.Store.file c.args.right.now) other) c.in_ok-is_enough.field-0 c.less_word-less.ensures c.if-branch.false
    (c.in_ok-is_enough.ensures.enough told right tree other o u)
