use Rattle.std.proofs.Common.{rules, ◌≡◌, ℕ, List, nat_le, length, take, sym, ap, subst, ◌∙◌}
use Rattle.mp4_content.specs.declared.comparing.differences.Difference.{Difference}
use Rattle.mp4_content.specs.declared.without.Without.{Without}
use Rattle.mp4_answers.specs.words.Compares.{IsEnough}
use Rattle.std.proofs.lemmas.Result.{err_from_is_err_and}
use Rattle.mp4_present.specs.format.Denotes.{presentation_of}
use Rattle.mp4_present.specs.words.WalkSteps.{walks_steps}
use Rattle.mp4_content.specs.format.Remaining.{remaining}
use Rattle.mp4_content.specs.words.Compared.{files_listed}
use Rattle.mp4_answers.proofs.ComparedFiles.{aligning_joined, all_joined, empty_listed, listing_alone, some_listed}
use Rattle.mp4_answers.specs.format.CompareHeadline.{listing_text, most_counted}
use Rattle.mp4_answers.proofs.ComparedTexts.{counted_listed, differ_at, differ_is}
use Rattle.mp4_answers.proofs.ListedAligned.{listed_none, none_listed}
use Rattle.mp4_answers.proofs.commands.compare.all_text.Goals as goal

pub returns-then-is_empty-clause-said : goal.returns-then-is_empty-clause-said
returns-then-is_empty-clause-said g c = λ told right tree other o u.
    let p = remaining c.args.files.now.given (presentation_of (g.S.Store.file c.args.left.now) tree) in
    let q = remaining c.args.files.now.given (presentation_of (g.T.Store.file c.args.right.now) other) in
    differ_at _ tree _ other c.args.files.now.given ∙ listed_none p q c.args.lines.aligned (empty_listed c.in_ok-listed.listed.all.items _ (c.in_ok-listed.ensures.all told right tree other o u) (sym c.is_empty.ensures ∙ c.if-is_empty.true))

pub returns-then-is_empty-clause-opened : goal.returns-then-is_empty-clause-opened
returns-then-is_empty-clause-opened g c = λ told right tree other o u.
    (tt, listing_alone _ _ (walks_steps tree) (walks_steps other) c.args.files.now.given c.args.lines (c.in_ok-listed.ensures.opened told right tree other o u).1)

pub returns-in_err-listed-clause-opened : goal.returns-in_err-listed-clause-opened
returns-in_err-listed-clause-opened g c =
    let p = err_from_is_err_and c.from_residual.result c.from_residual.ensures.1 in
    rw (p.1, p.2) (λ told right tree other o u.
    let e = c.in_err-listed.ensures.opened told right tree other o u in
    (e.0, listing_alone _ _ (walks_steps tree) (walks_steps other) c.args.files.now.given c.args.lines e.1))

pub returns-in_err-found-clause-opened : goal.returns-in_err-found-clause-opened
returns-in_err-found-clause-opened g c =
    let p = err_from_is_err_and c.from_residual-in_err-found.result c.from_residual-in_err-found.ensures.1 in
    let is = c.in_ok-listed.ensures in
    let more = rw (is.stores.left.honesty, is.stores.left.file, is.stores.right.honesty, is.stores.right.file) at c.in_err-found.ensures.opened in
    rw (p.1, p.2) (λ told right tree other o u.
    let e = more told right tree other o u in
    (e.0, aligning_joined _ _ _ (walks_steps tree) (walks_steps other) c.args.files.now.given c.args.lines (is.opened told right tree other o u).1 e.1))

pub returns-in_err-words-clause-opened : goal.returns-in_err-words-clause-opened
returns-in_err-words-clause-opened g c =
    let p = err_from_is_err_and c.from_residual-in_err-words.result c.from_residual-in_err-words.ensures.1 in
    let is = c.in_ok-listed.ensures in
    let next = c.in_ok-found.ensures in
    let beside = rw (is.stores.left.honesty, is.stores.left.file, is.stores.right.honesty, is.stores.right.file) at next.opened in
    let more = rw (next.stores.left.honesty, next.stores.left.file, next.stores.right.honesty, next.stores.right.file, is.stores.left.honesty, is.stores.left.file, is.stores.right.honesty, is.stores.right.file) at c.in_err-words.ensures.opened in
    rw (p.1, p.2) (λ told right tree other o u.
    let e = more told right tree other o u in
    (e.0, all_joined _ _ _ _ (walks_steps tree) (walks_steps other) c.args.files.now.given c.args.lines (is.opened told right tree other o u).1 (beside told right tree other o u).1 e.1))

pub returns-in_err-listed_text-clause-opened : goal.returns-in_err-listed_text-clause-opened
returns-in_err-listed_text-clause-opened g c =
    let p = err_from_is_err_and c.from_residual-in_err-listed_text.result c.from_residual-in_err-listed_text.ensures.1 in
    let is = c.in_ok-listed.ensures in
    let next = c.in_ok-found.ensures in
    let beside = rw (is.stores.left.honesty, is.stores.left.file, is.stores.right.honesty, is.stores.right.file) at next.opened in
    let more = rw (next.stores.left.honesty, next.stores.left.file, next.stores.right.honesty, next.stores.right.file, is.stores.left.honesty, is.stores.left.file, is.stores.right.honesty, is.stores.right.file) at c.in_ok-words.ensures.opened in
    rw (p.1, p.2) (λ told right tree other o u. (λ e. cc, all_joined _ _ _ _ (walks_steps tree) (walks_steps other) c.args.files.now.given c.args.lines (is.opened told right tree other o u).1 (beside told right tree other o u).1 (more told right tree other o u).1))

pub returns-clause-said : goal.returns-clause-said
returns-clause-said g c = λ told right tree other o u none.
    let p = remaining c.args.files.now.given (presentation_of (g.S.Store.file c.args.left.now) tree) in
    let q = remaining c.args.files.now.given (presentation_of (g.T.Store.file c.args.right.now) other) in
    some_listed c.in_ok-listed.listed.all.items _
    (c.in_ok-listed.ensures.all told right tree other o u) (sym c.is_empty.ensures ∙ c.if-is_empty.false) (none_listed p q c.args.lines.aligned (sym (differ_at _ tree _ other c.args.files.now.given) ∙ none))

pub returns-clause-opened : goal.returns-clause-opened
returns-clause-opened g c = λ told right tree other o u.
    let is = c.in_ok-listed.ensures in
    let next = c.in_ok-found.ensures in
    let beside = rw (is.stores.left.honesty, is.stores.left.file, is.stores.right.honesty, is.stores.right.file) at next.opened in
    let more = rw (next.stores.left.honesty, next.stores.left.file, next.stores.right.honesty, next.stores.right.file, is.stores.left.honesty, is.stores.left.file, is.stores.right.honesty, is.stores.right.file) at c.in_ok-words.ensures.opened in
    (tt, all_joined _ _ _ _ (walks_steps tree) (walks_steps other) c.args.files.now.given c.args.lines (is.opened told right tree other o u).1 (beside told right tree other o u).1 (more told right tree other o u).1)

-- ---- what is said

pub returns-clause-told : goal.returns-clause-told
returns-clause-told g c = λ told right tree other o u.
    let is = c.in_ok-listed.ensures in
    let next = c.in_ok-found.ensures in
    let beside = rw (is.stores.left.honesty, is.stores.left.file, is.stores.right.honesty, is.stores.right.file) at next.found in
    let named = rw (next.stores.left.honesty, next.stores.left.file, next.stores.right.honesty, next.stores.right.file, is.stores.left.honesty, is.stores.left.file, is.stores.right.honesty, is.stores.right.file) at c.in_ok-words.ensures.enough in
    let long : c.len-is_whole.result ≡ length c.in_ok-listed.listed.all.items = search rules in
    let ds = files_listed c.args.lines.aligned c.args.files.now.given (g.S.Store.file c.args.left.now) tree (g.T.Store.file c.args.right.now) other in
    let front = is.all told right tree other o u in
    let p = presentation_of (g.S.Store.file c.args.left.now) tree in
    let taken = c.first_of-all.ensures ∙ ap (take most_counted) c.as_slice.ensures.value in
    let whole = ap (λ (n : ℕ). nat_le n most_counted) long in (
      c.in_ok-found.found.items,
      beside told right tree other o u,
      c.in_ok-words.words,
      subst (λ (differ : Without → List Difference). IsEnough c.args.files.now.given differ c.in_ok-words.words) (differ_is _ tree _ other) (named told right tree other o u),
      counted_listed c.args.lines p c.in_ok-found.found.items c.in_ok-listed.listed.times.items c.in_ok-listed.listed.all.items ds c.first_of-all.result.now _ c.enough_asked-enough.result c.in_ok-listed_text.field-0.items front (is.timed told right tree other o u) taken whole
          (rw (c.as_slice-2.ensures.value, c.as_slice-3.ensures.value) at c.in_ok-listed_text.ensures.list) ∙ ap (listing_text c.args.lines p c.in_ok-found.found.items ds) c.enough_asked-enough.ensures,
    )
