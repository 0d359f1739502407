use Rattle.std.proofs.Common.{rules, inl, inr, sym, ap, ◌∙◌}
use Rattle.mp4_present.specs.format.Denotes.{presentation_of}
use Rattle.mp4_content.specs.format.DecodeTimes.{decode_times}
use Rattle.std.proofs.lemmas.Result.{err_from_is_err_and}
use Rattle.mp4_content.specs.words.Compared.{files_listed}
use Rattle.mp4_answers.proofs.ComparedFiles.{compared_once, listed_front}
use Rattle.mp4_answers.proofs.commands.compare.all_of.Goals.{else-not-is_whole-via-then-not-is_whole+else-len-le-MOST, else-not-is_whole-via-else-not-is_whole}
use Rattle.mp4_answers.proofs.commands.compare.all_of.Goals as goal

pub returns-clause-all : goal.returns-clause-all
returns-clause-all g c = λ told right tree other o u.
    let is = c.in_ok-is_whole in
    listed_front c.in_ok-listed.listed.all.items c.compare_listed.new.seen.all.items is.is_whole
    (files_listed c.args.aligned c.args.leaving (g.S.Store.file c.args.left.now) tree (g.T.Store.file c.args.right.now) other) c.in_ok-listed.ensures.all
    (λ e. is.ensures.handed.all e told right tree other o u) (is.ensures.handed.front told right tree other o u)
    (elim c.else-not-is_whole.branch [ else-not-is_whole-via-then-not-is_whole+else-len-le-MOST w ↦ inr (search rules) | else-not-is_whole-via-else-not-is_whole w ↦ inl (search rules) ])

pub returns-in_err-is_whole-clause-opened : goal.returns-in_err-is_whole-clause-opened
returns-in_err-is_whole-clause-opened g c = λ told right tree other o u.
    let p = err_from_is_err_and c.from_residual-in_err-is_whole.result c.from_residual-in_err-is_whole.ensures.1 in
    (rw (p.1, p.2) (c.in_err-is_whole.ensures.unchanged told right tree other o u), compared_once c.args.leaving tree other _ _ (c.compare_listed.ensures.work told right tree other o u))

pub returns-then-len-le-MOST-clause-opened : goal.returns-then-len-le-MOST-clause-opened
returns-then-len-le-MOST-clause-opened g c = λ told right tree other o u. ((λ e. absurd cc), compared_once c.args.leaving tree other _ _ (c.compare_listed.ensures.work told right tree other o u))

pub returns-clause-opened : goal.returns-clause-opened
returns-clause-opened g c = λ told right tree other o u. (tt, compared_once c.args.leaving tree other _ _ (c.compare_listed.ensures.work told right tree other o u))

pub returns-clause-timed : goal.returns-clause-timed
returns-clause-timed g c = λ told right tree other o u.
    let none = c.in_ok-listed.ensures in
    let p = presentation_of (g.S.Store.file c.args.left.now) tree in
    c.in_ok-is_whole.ensures.timed told right tree other o u (none.times ∙ sym (ap (decode_times p) none.all))
