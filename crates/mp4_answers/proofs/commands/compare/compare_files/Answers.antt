use Rattle.std.proofs.Common.{arith, ◌∙◌}
use Rattle.mp4_answers.specs.words.OpenedTold.{RefusesTold}
use Rattle.mp4_answers.proofs.ComparedFiles.{both_looked, both_walked, first_alone, together, verdict}
use Rattle.mp4_answers.proofs.ComparedTexts.{told_of}
use Rattle.mp4_answers.proofs.LooksTaken.{finds_first, finds_both}
use Rattle.mp4_answers.proofs.StepSums.{opened_least}
use Rattle.mp4_answers.proofs.commands.compare.compare_files.Goals as goal

pub returns-in-Err-clause-work : goal.returns-in-Err-clause-work
returns-in-Err-clause-work g c = λ told right. first_alone c.args.asked.leaving c.args.asked.listing _ _ _ _ (c.in-Err.ensures.work told)

pub returns-in-Err-open_told-clause-work : goal.returns-in-Err-open_told-clause-work
returns-in-Err-open_told-clause-work g c = λ told right.
    both_looked c.args.asked.leaving c.args.asked.listing _ _ _ _ _ (c.in-Ok.ensures.work told) (c.in-Err-open_told.ensures.work right)

pub returns-in-Err-text_of-clause-answer : goal.returns-in-Err-text_of-clause-answer
returns-in-Err-text_of-clause-answer g c =
    let left = c.in-Ok.ensures in
    let next = c.in-Ok-open_told.ensures in
    let e = c.in-Err-text_of.ensures in
    let opened = rw (left.store.honesty, left.store.file, next.store.honesty, next.store.file, c.when_told.ensures) at e.opened in
    let cause = rw (left.store.reads, next.store.reads) at e.stores.refusal in
    record {
      left = record { honesty = e.stores.left.honesty ∙ left.store.honesty; file = e.stores.left.file ∙ left.store.file; reads = tt };
      right = record { honesty = e.stores.right.honesty ∙ next.store.honesty; file = e.stores.right.file ∙ next.store.file; reads = tt };
      puts = tt;
      put = tt;
      refusal = together (RefusesTold c.args.asked.first c.args.asked.leaving.lead_ins (g.S.Store.is_honest c.args.left.now) (g.S.Store.file c.args.left.now) (g.S.Store.read_failures c.args.left.now) (g.S.Store.read_failures c.text_of.new.left))
          (RefusesTold c.args.asked.second c.args.asked.leaving.lead_ins (g.T.Store.is_honest c.args.right.now) (g.T.Store.file c.args.right.now) (g.T.Store.read_failures c.args.right.now) (g.T.Store.read_failures c.text_of.new.right))
          _ _ _ _ _ _ (g.K.Sink.takes c.args.sink.now c.args.sink.now) (g.met.K.Sink.takes_nothing c.args.sink.now) (g.K.Sink.put_failures c.args.sink.now) c.in-Err-text_of.refusal c.failed_together.result c.failed_together.ensures.side c.failed_together.ensures.refusal cause
          (λ told right. let a = left.movie told in let b = next.movie right in (opened told right a.0 b.0 a.1.opened b.1.opened).0);
    }

pub returns-in-Err-text_of-clause-work : goal.returns-in-Err-text_of-clause-work
returns-in-Err-text_of-clause-work g c = λ told right.
    let left = c.in-Ok.ensures in
    let next = c.in-Ok-open_told.ensures in
    let walks = rw (left.store.honesty, left.store.file, next.store.honesty, next.store.file, c.when_told.ensures) at c.in-Err-text_of.ensures.opened in
    both_walked c.args.asked _ _ _ _ _ _ _ _ (left.movie told) (next.movie right) (left.work told) (next.work right) (λ tree other o u. (walks told right tree other o u).1)

pub returns-in-Ok-put_found-clause-verdict : goal.returns-in-Ok-put_found-clause-verdict
returns-in-Ok-put_found-clause-verdict g c = λ told right.
    let left = c.in-Ok.ensures in
    let next = c.in-Ok-open_told.ensures in
    let a = left.movie told in
    let b = next.movie right in
    let said = rw (left.store.honesty, left.store.file, next.store.honesty, next.store.file, c.when_told.ensures) at c.in-Ok-text_of.ensures.said in
    verdict c.args.asked _ _ _ _ c.in-Ok-text_of.found c.in-Ok-put_found.same c.in-Ok-put_found.ensures.is a b (said told right a.0 b.0 a.1.opened b.1.opened)

pub returns-in-Ok-put_found-clause-work : goal.returns-in-Ok-put_found-clause-work
returns-in-Ok-put_found-clause-work g c = λ told right.
    let left = c.in-Ok.ensures in
    let next = c.in-Ok-open_told.ensures in
    let walks = rw (left.store.honesty, left.store.file, next.store.honesty, next.store.file, c.when_told.ensures) at c.in-Ok-text_of.ensures.opened in
    both_walked c.args.asked _ _ _ _ _ _ _ _ (left.movie told) (next.movie right) (left.work told) (next.work right) (λ tree other o u. (walks told right tree other o u).1)

pub returns-clause-work : goal.returns-clause-work
returns-clause-work g c = λ told right.
    let left = c.in-Ok.ensures in
    let next = c.in-Ok-open_told.ensures in
    let walks = rw (left.store.honesty, left.store.file, next.store.honesty, next.store.file, c.when_told.ensures) at c.in-Ok-text_of.ensures.opened in
    both_walked c.args.asked _ _ _ _ _ _ _ _ (left.movie told) (next.movie right) (left.work told) (next.work right) (λ tree other o u. (walks told right tree other o u).1)

pub returns-in-Ok-put_found-clause-least : goal.returns-in-Ok-put_found-clause-least
returns-in-Ok-put_found-clause-least g c = λ told right p q d e.
    let first = c.in-Ok.ensures.least told d.tree d.is_tree in
    let second = c.in-Ok-open_told.ensures.least right e.tree e.is_tree in
    let grown = c.in-Ok-text_of.ensures.grows in
    omega (arith, first, second, grown, opened_least _ p d, opened_least _ q e)

-- ---- looks

pub returns-in-Err-clause-looks : goal.returns-in-Err-clause-looks
returns-in-Err-clause-looks g c = λ told right. finds_first _ _ _ _ (c.in-Err.ensures.looks told)

pub returns-in-Err-open_told-clause-looks : goal.returns-in-Err-open_told-clause-looks
returns-in-Err-open_told-clause-looks g c = λ told right. finds_both _ _ _ _ _ (c.in-Ok.ensures.looks told) (c.in-Err-open_told.ensures.looks right)

pub returns-in-Err-text_of-clause-looks : goal.returns-in-Err-text_of-clause-looks
returns-in-Err-text_of-clause-looks g c = λ told right. rw c.in-Err-text_of.ensures.looks (finds_both _ _ _ _ _ (c.in-Ok.ensures.looks told) (c.in-Ok-open_told.ensures.looks right))

pub returns-in-Ok-put_found-clause-looks : goal.returns-in-Ok-put_found-clause-looks
returns-in-Ok-put_found-clause-looks g c = λ told right. rw c.in-Ok-text_of.ensures.looks (finds_both _ _ _ _ _ (c.in-Ok.ensures.looks told) (c.in-Ok-open_told.ensures.looks right))

pub returns-clause-looks : goal.returns-clause-looks
returns-clause-looks g c = λ told right. rw c.in-Ok-text_of.ensures.looks (finds_both _ _ _ _ _ (c.in-Ok.ensures.looks told) (c.in-Ok-open_told.ensures.looks right))

-- ---- what is said

pub returns-in-Ok-put_found-clause-told : goal.returns-in-Ok-put_found-clause-told
returns-in-Ok-put_found-clause-told g c = λ differ told right.
    let left = c.in-Ok.ensures in
    let next = c.in-Ok-open_told.ensures in
    let a = left.movie told in
    let b = next.movie right in
    let found = rw (left.store.honesty, left.store.file, next.store.honesty, next.store.file, c.when_told.ensures) at c.in-Ok-text_of.ensures.told in
    told_of (λ bytes. bytes.items) c.args.asked _ _ _ _ c.in-Ok-text_of.found c.in-Ok-put_found.same _ c.in-Ok-put_found.ensures.is differ c.in-Ok-put_found.ensures.all a b (found told right a.0 b.0 a.1.opened b.1.opened)
