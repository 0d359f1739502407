use Rattle.std.proofs.Common.{rules, ◌≡◌, ℕ, ◌<◌, ◌≤◌, ◌∙◌, List, [], ◌∷◌, ◌++◌, length, refl, subst, arith}
use Rattle.std.specs.Prelude.{bytes_eq, codes, true, false}
use Rattle.std.proofs.lemmas.Result.{err_from_is_err_and}
use Rattle.mp4_boxes.proofs.Among.{all_append}
use Rattle.mp4_present.specs.words.Reading.{top_box}
use Rattle.mp4_present.proofs.TopJudged.{refuses_top, top_unread, top_failed, top_goes_more, top_lacks, top_holds, top_ends}
use Rattle.mp4_present.proofs.Outlines.{begin_more, begin_other, outlining_none, outlining_more, outlined}
use Rattle.mp4_present.proofs.Refusals.{not_headed}
use Rattle.mp4_present.proofs.opening.outline.read_outline.Goals as goal

pub loop-at-init : goal.loop-at-init
loop-at-init g c =
    let file = g.S.Store.file c.args.store.now in
    let none : c.new-moofs.result.items ≡ [] = search rules in
    (refl, refl, refl, (λ _. rw none (outlining_none file)), tt, rw none tt)

pub returns-in_err-header-clause-refusal : goal.returns-in_err-header-clause-refusal
returns-in_err-header-clause-refusal g c =
    let p = err_from_is_err_and c.from_residual.result c.from_residual.ensures.1 in
    let i = c.loop-at.invariant in
    let e = rw (i.0, i.1, i.2) at c.in_err-header.ensures.refusal in
    rw (p.1, p.2) (not_headed (g.S.Store.is_honest c.args.store.now) (g.S.Store.file c.args.store.now) _ _ _ c.in_err-header.field-0.0 e)

pub loop-at-preserved : goal.loop-at-preserved
loop-at-preserved g c =
    let i = c.loop-at.invariant in
    let e = c.in_ok-header.ensures in
    let file = g.S.Store.file c.args.store.now in
    let w = e.within in
    let le : c.loop-at.at ≤ c.in_ok-header.header.end = omega (arith, w.0) in
    let end : c.in_ok-header.header.end ≤ length file = subst (λ (bs : List ℕ). c.in_ok-header.header.end ≤ length bs) i.1 w.2 in
    let lt : c.loop-at.at < length file = search rules in
    let other : bytes_eq (codes "moof") c.in_ok-header.header.kind.0 ≡ false = search rules in (
      e.honesty ∙ i.0,
      e.file ∙ i.1,
      e.reads ∙ i.2,
      (λ told.
          let o = i.3 told in
          let read = (rw (i.0, i.1) at e.header) told in
          let seen = c.in_ok-seen.ensures.noted file o.boxes o.front o.taken read o.are_seen in
          outlining_more file c.loop-at.at c.in_ok-header.header c.in_ok-seen.seen o.boxes o.front o.taken read le seen (top_goes_more file o.boxes c.loop-at.at o.front.0 o.taken o.goes c.in_ok-header.header lt read (c.in_ok-seen.ensures.exact file o.boxes o.front o.taken read o.are_seen).names)
          c.loop-at.moofs.items (begin_other o.boxes (top_box file c.loop-at.at c.in_ok-header.header) c.loop-at.moofs.items other o.begin)),
      c.in_ok-seen.ensures.within (length file) end i.4,
      i.5,
    )

pub loop-at-preserved-in_ok-push_spared : goal.loop-at-preserved-in_ok-push_spared
loop-at-preserved-in_ok-push_spared g c =
    let i = c.loop-at.invariant in
    let e = c.in_ok-header.ensures in
    let file = g.S.Store.file c.args.store.now in
    let w = e.within in
    let le : c.loop-at.at ≤ c.in_ok-header.header.end = omega (arith, w.0) in
    let end : c.in_ok-header.header.end ≤ length file = subst (λ (bs : List ℕ). c.in_ok-header.header.end ≤ length bs) i.1 w.2 in
    let lt : c.loop-at.at < length file = search rules in
    let this : bytes_eq (codes "moof") c.in_ok-header.header.kind.0 ≡ true = search rules in
    let pushed : c.push_spared.new.list.items ≡ c.loop-at.moofs.items ++ c.loop-at.at ∷ [] = search rules in (
      e.honesty ∙ i.0,
      e.file ∙ i.1,
      e.reads ∙ i.2,
      (λ told.
          let o = i.3 told in
          let read = (rw (i.0, i.1) at e.header) told in
          let seen = c.in_ok-seen.ensures.noted file o.boxes o.front o.taken read o.are_seen in
          outlining_more file c.loop-at.at c.in_ok-header.header c.in_ok-seen.seen o.boxes o.front o.taken read le seen (top_goes_more file o.boxes c.loop-at.at o.front.0 o.taken o.goes c.in_ok-header.header lt read (c.in_ok-seen.ensures.exact file o.boxes o.front o.taken read o.are_seen).names)
          c.push_spared.new.list.items (pushed ∙ begin_more o.boxes (top_box file c.loop-at.at c.in_ok-header.header) c.loop-at.moofs.items this o.begin)),
      c.in_ok-seen.ensures.within (length file) end i.4,
      rw pushed (all_append (λ (n : ℕ). n < length file) c.loop-at.moofs.items (c.loop-at.at ∷ []) i.5 (lt, tt)),
    )

pub returns-clause-outline : goal.returns-clause-outline
returns-clause-outline g c told =
    let file = g.S.Store.file c.args.store.now in
    let i = c.loop-at.invariant in
    let o = i.3 told in
    let r = outlined file c.loop-at.at c.loop-at.seen _ o (search rules) c.in-Some.is refl in
    (o.boxes, r.0, r.1, r.2)

pub returns-clause-within : goal.returns-clause-within
returns-clause-within g c = (rw c.in-Some.is at c.loop-at.invariant.4, c.loop-at.invariant.5)

-- ---- the first fault

pub returns-in_err-header-clause-exact : goal.returns-in_err-header-clause-exact
returns-in_err-header-clause-exact g c told =
    let p = err_from_is_err_and c.from_residual.result c.from_residual.ensures.1 in
    let i = c.loop-at.invariant in
    let file = g.S.Store.file c.args.store.now in
    let lt : c.loop-at.at < length file = search rules in
    let o = i.3 told in
    let e = rw (i.0, i.1, i.2) at c.in_err-header.ensures.refusal in
    record {
      names = rw (
        p.1,
        p.2,
      ) (refuses_top (g.S.Store.is_honest c.args.store.now) file c.loop-at.at (g.S.Store.read_failures c.args.store.now) (g.S.Store.read_failures c.read_top_header.new.store) c.in_err-header.field-0.0 told (λ f h. top_unread file o.boxes c.loop-at.at o.front.0 o.taken o.goes f lt h) e);
    }

pub returns-in_err-seen-clause-exact : goal.returns-in_err-seen-clause-exact
returns-in_err-seen-clause-exact g c told =
    let p = err_from_is_err_and c.from_residual-in_err-seen.result c.from_residual-in_err-seen.ensures.1 in
    let i = c.loop-at.invariant in
    let file = g.S.Store.file c.args.store.now in
    let lt : c.loop-at.at < length file = search rules in
    let o = i.3 told in
    let read = (rw (i.0, i.1) at c.in_ok-header.ensures.header) told in
    record { names = rw (p.1, p.2) (top_failed file o.boxes c.loop-at.at o.front.0 o.taken o.goes c.in_ok-header.header c.in_err-seen.field-0.0 lt read (c.in_err-seen.ensures.exact file o.boxes o.front o.taken read o.are_seen).names) }

pub returns-in_default-clause-exact : goal.returns-in_default-clause-exact
returns-in_default-clause-exact g c told =
    let file = g.S.Store.file c.args.store.now in
    let o = c.loop-at.invariant.3 told in
    record { names = rw c.new-fault.ensures (top_lacks file o.boxes c.loop-at.seen o.are_seen (search rules) (top_ends file o.boxes c.loop-at.at o.front.0 o.taken o.goes (search rules))) }

pub returns-clause-exact : goal.returns-clause-exact
returns-clause-exact g c told =
    let file = g.S.Store.file c.args.store.now in
    let o = c.loop-at.invariant.3 told in
    record { names = (o.boxes, top_holds file o.boxes c.loop-at.seen c.in-Some.moov o.are_seen c.in-Some.is (top_ends file o.boxes c.loop-at.at o.front.0 o.taken o.goes (search rules))) }
