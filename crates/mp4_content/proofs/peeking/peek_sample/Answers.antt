use Rattle.std.proofs.Common.{rules, ◌≡◌, ◌<◌, true, false, List, [], ◌∷◌, length, refl, sym, ap, ◌∙◌}
use Rattle.std.specs.Prelude.{slice_get}
use Rattle.std.specs.Option.{is_some}
use Rattle.std.proofs.lemmas.Result.{err_from_is_err_and}
use Rattle.mp4_tables.specs.declared.sample.SampleAt.{SampleAt}
use Rattle.mp4_present.specs.words.InHand.{left_in_hand}
use Rattle.mp4_content.proofs.WalksOn.{one_hand, none_left, loads_on, loads_none, ends_none, hand_none, peeked, by_test}
use Rattle.mp4_content.proofs.peeking.peek_sample.Goals as goal

is_more : (xs : List SampleAt) → 0 < length xs → xs ≡ [] → ⊥
is_more [] h e = search rules
is_more (x ∷ xs) h e = absurd cc

pub returns-then-is_some-clause-coming : goal.returns-then-is_some-clause-coming
returns-then-is_some-clause-coming g c told tree t samples o h =
    (h, peeked (g.S.Store.file c.args.store.now) c.args.movie.now tree t c.args.walk.now samples h c.in_hand.result c.in_hand.ensures.hand c.peek-next.result c.peek-next.ensures (search rules))

pub returns-in_err-load-clause-work : goal.returns-in_err-load-clause-work
returns-in_err-load-clause-work g c =
    let p = err_from_is_err_and c.from_residual.result c.from_residual.ensures.1 in
    rw p.1 (λ told tree t n o h. c.in_err-load.ensures.work told tree t n o h)

pub returns-then-not-branch-clause-coming : goal.returns-then-not-branch-clause-coming
returns-then-not-branch-clause-coming g c told tree t samples o h =
    let e = c.in_ok-load.ensures in
    let no : is_some c.peek-next.result ≡ false = search rules in
    let hand = c.in_hand.result in
    let is_hand = c.in_hand.ensures.hand in
    let none = none_left hand c.peek-next.result c.peek-next.ensures (by_test c.peek-next.result true no refl) in
    let file = g.S.Store.file c.args.store.now in
    let m = c.args.movie.now in
    let w = c.args.walk.now in
    let z = loads_none file m tree t w c.load.new.self samples h hand is_hand none c.in_ok-load.field-0 c.if-not-branch.true (e.loaded told tree t h.0 h.1 o h.3.0) in
    let was = hand_none file m tree t w c.load.new.self samples h hand is_hand none in (
      ends_none file m tree t w c.load.new.self samples h hand is_hand none z (e.answer.1 told tree t h.0 h.1 o h.3.0 h.2 h.3.1 was c.if-not-branch.true),
      sym (ap (λ ss. slice_get ss 0) z),
    )

pub returns-then-not-branch-clause-work : goal.returns-then-not-branch-clause-work
returns-then-not-branch-clause-work g c told tree t n o h =
    c.in_ok-load.ensures.work told tree t n o h

pub returns-clause-coming : goal.returns-clause-coming
returns-clause-coming g c told tree t samples o h =
    let e = c.in_ok-load.ensures in
    let no : is_some c.peek-next.result ≡ false = search rules in
    let was = none_left c.in_hand.result c.peek-next.result c.peek-next.ensures (by_test c.peek-next.result true no refl) in
    let file = g.S.Store.file c.args.store.now in
    let m = c.args.movie.now in
    let w = c.load.new.self in
    let k = loads_on file m tree t c.args.walk.now w samples h c.in_hand.result c.in_hand.ensures.hand was c.in_ok-load.field-0 c.if-not-branch.false (e.loaded told tree t h.0 h.1 o h.3.0) in
    let hand = c.in_hand-2.result in
    let is_hand = c.in_hand-2.ensures.hand in
    let more = e.answer.0.some c.if-not-branch.false in
    (k, peeked file m tree t w samples k hand is_hand c.peek.result c.peek.ensures (λ none. is_more (left_in_hand more.0) more.2 (one_hand m w more.0 hand more.1 is_hand ∙ none_left hand c.peek.result c.peek.ensures none)))
