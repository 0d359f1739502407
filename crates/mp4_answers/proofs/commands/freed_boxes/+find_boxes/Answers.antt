use Rattle.std.proofs.Common.{rules, ◌≡◌, ◌+◌, ◌≤◌, ℕ, List, length, ◌∙◌, sym, ap, subst, Some, None, true, false, arith}
use Rattle.std.proofs.lemmas.Result.{err_from_is_err_and}
use Rattle.mp4_answers.specs.format.BoxWalk.{rule_inside}
use Rattle.mp4_answers.specs.format.Losses.{earlier, lost_with}
use Rattle.mp4_answers.specs.format.Strips.{is_named}
use Rattle.mp4_answers.proofs.BoxLists.{inside_lower}
use Rattle.mp4_answers.proofs.FirstLosses.{earlier_all, earlier_none, lost_ends, lost_entered, lost_freed, lost_kept}
use Rattle.mp4_answers.proofs.HeadersUnder.{find_inside, refuses_walk, walk_finds}
use Rattle.mp4_answers.proofs.StripWalks.{halts_behind, halts_within, its_uuid}
use Rattle.mp4_answers.proofs.commands.freed_boxes.+find_boxes.Goals as goal

pub returns-in_err-has_time-clause-refusal : goal.returns-in_err-has_time-clause-refusal
returns-in_err-has_time-clause-refusal g t c =
    let p = err_from_is_err_and c.from_residual.result c.from_residual.ensures.1 in
    rw (p.1, p.2) (walk_finds c.args.names.now (g.S.Store.is_honest c.args.store.now) c.args.span.rule c.args.span.from _ (g.S.Store.read_failures c.args.store.now) (g.S.Store.read_failures c.keeps_time.new.store) c.in_err-has_time.field-0.0 c.in_err-has_time.ensures.refusal)

pub returns-in_err-header-clause-refusal : goal.returns-in_err-header-clause-refusal
returns-in_err-header-clause-refusal g t c =
    let p = err_from_is_err_and c.from_residual-in_err-header.result c.from_residual-in_err-header.ensures.1 in
    let i = c.loop-at.invariant in
    let file = g.S.Store.file c.args.store.now in
    let e = rw (i.honesty, i.file, i.reads) at c.in_err-header.ensures.refusal in
    rw (p.1, p.2) (walk_finds c.args.names.now (g.S.Store.is_honest c.args.store.now) c.args.span.rule c.args.span.from _ (g.S.Store.read_failures c.args.store.now) (g.S.Store.read_failures c.read_header.new.store) c.in_err-header.field-0.0
    (refuses_walk c.args.names.now (g.S.Store.is_honest c.args.store.now) c.args.span.rule file c.args.span.from c.loop-at.at c.args.span.end (g.S.Store.read_failures c.args.store.now) (g.S.Store.read_failures c.read_header.new.store) c.in_err-header.field-0.0
    c.loop-at-test.true c.requires.within i.halts e))

pub find_boxes-requires : goal.find_boxes-requires
find_boxes-requires g t c κs within =
    let i = c.loop-at.invariant in
    let e = c.in_ok-header.ensures in
    let u = c.in_ok-uuid.ensures in
    let h = c.in_ok-header.header in
    let w = e.fits in
    let into : rule_inside c.args.span.rule h.kind.0 ≡ Some c.in-Some.inner = search rules in
    let lower = inside_lower c.args.span.rule c.in-Some.inner h.kind.0 into in
    let d = c.decreases in
    let from : c.from.result ≡ h.header = c.from.ensures in
    let le = c.requires.within in (
      omega arith,
      (within, (omega (arith, from, w.0), subst (λ (xs : List ℕ). h.end ≤ length xs) (sym (u.store.file ∙ e.store.file ∙ i.file)) (omega (arith, w.2, le)))),
    )

pub returns-in_err-find_boxes-clause-refusal : goal.returns-in_err-find_boxes-clause-refusal
returns-in_err-find_boxes-clause-refusal g t c =
    let p = err_from_is_err_and c.from_residual-in_err-find_boxes.result c.from_residual-in_err-find_boxes.ensures.1 in
    let i = c.loop-at.invariant in
    let e = c.in_ok-header.ensures in
    let u = c.in_ok-uuid.ensures in
    let file = g.S.Store.file c.args.store.now in
    let h = c.in_ok-header.header in
    let w = e.fits in
    let read = rw (i.honesty, i.file) at e.header in
    let named : is_named c.args.names.now c.args.span.rule h.kind.0 c.in_ok-uuid.uuid ≡ false = search rules in
    let said = rw (e.store.honesty ∙ i.honesty, e.store.file ∙ i.file) at u.uuid in
    let into : rule_inside c.args.span.rule h.kind.0 ≡ Some c.in-Some.inner = search rules in
    let x = rw (c.from.ensures, u.store.honesty ∙ e.store.honesty ∙ i.honesty, u.store.file ∙ e.store.file ∙ i.file, u.store.reads ∙ e.store.reads ∙ i.reads) at c.in_err-find_boxes.ensures.refusal in
    rw (p.1, p.2) (find_inside c.args.names.now (g.S.Store.is_honest c.args.store.now) c.args.span.rule c.in-Some.inner file c.args.span.from c.loop-at.at c.args.span.end (c.loop-at.at + h.header) h.end (g.S.Store.read_failures c.args.store.now) (g.S.Store.read_failures c.find_boxes.new.store)
    c.in_err-find_boxes.field-0.0
    (λ told f y. halts_within c.args.names.now c.args.span.rule file c.loop-at.at c.args.span.end h w.0 w.2 (read told) f c.in-Some.inner
    (subst (λ u. is_named c.args.names.now c.args.span.rule h.kind.0 u ≡ false) (said told ∙ its_uuid file c.loop-at.at c.args.span.end h w.0 w.2) named) into y) i.halts x)

pub loop-at-preserved-in_ok-add_box : goal.loop-at-preserved-in_ok-add_box
loop-at-preserved-in_ok-add_box g t c =
    let i = c.loop-at.invariant in
    let e = c.in_ok-header.ensures in
    let u = c.in_ok-uuid.ensures in
    let file = g.S.Store.file c.args.store.now in
    let h = c.in_ok-header.header in
    let w = e.fits in
    let read = rw (i.honesty, i.file) at e.header in
    let named : is_named c.args.names.now c.args.span.rule h.kind.0 c.in_ok-uuid.uuid ≡ true = search rules in
    let said = rw (e.store.honesty ∙ i.honesty, e.store.file ∙ i.file) at u.uuid in
    let lost = lost_with c.args.names.now c.args.span.rule c.in_ok-has_time.has_time c.loop-at.at h.kind.0 c.in_ok-uuid.uuid in
    let on : c.add_box.new.found.first_loss ≡ earlier c.loop-at.found.first_loss lost = c.in_ok-add_box.ensures.first in
    record {
      span = w.2;
      honesty = u.store.honesty ∙ e.store.honesty ∙ i.honesty;
      file = u.store.file ∙ e.store.file ∙ i.file;
      reads = u.store.reads ∙ e.store.reads ∙ i.reads;
      halts = λ told f x. i.halts told f (halts_behind c.args.names.now c.args.span.rule file c.loop-at.at c.args.span.end h w.0 w.2 (read told) f x);
      first = λ told rest x.
          let all = i.first told _ (lost_freed c.args.names.now c.args.span.rule file c.loop-at.at c.args.span.end h w.0 w.2 (read told) c.in_ok-uuid.uuid (said told ∙ its_uuid file c.loop-at.at c.args.span.end h w.0 w.2) named c.in_ok-has_time.has_time rest x) in
          (all.0, all.1, ap (λ l. earlier l rest) on ∙ earlier_all c.loop-at.found.first_loss lost rest ∙ all.2);
    }

pub loop-at-preserved-in_ok-find_boxes : goal.loop-at-preserved-in_ok-find_boxes
loop-at-preserved-in_ok-find_boxes g t c =
    let i = c.loop-at.invariant in
    let e = c.in_ok-header.ensures in
    let u = c.in_ok-uuid.ensures in
    let j = c.in_ok-find_boxes.ensures in
    let file = g.S.Store.file c.args.store.now in
    let h = c.in_ok-header.header in
    let w = e.fits in
    let read = rw (i.honesty, i.file) at e.header in
    let named : is_named c.args.names.now c.args.span.rule h.kind.0 c.in_ok-uuid.uuid ≡ false = search rules in
    let said = rw (e.store.honesty ∙ i.honesty, e.store.file ∙ i.file) at u.uuid in
    let into : rule_inside c.args.span.rule h.kind.0 ≡ Some c.in-Some.inner = search rules in
    let found = rw (c.from.ensures, u.store.honesty ∙ e.store.honesty ∙ i.honesty, u.store.file ∙ e.store.file ∙ i.file) at j.first in
    record {
      span = w.2;
      honesty = j.store.honesty ∙ u.store.honesty ∙ e.store.honesty ∙ i.honesty;
      file = j.store.file ∙ u.store.file ∙ e.store.file ∙ i.file;
      reads = j.store.reads ∙ u.store.reads ∙ e.store.reads ∙ i.reads;
      halts = λ told f x. i.halts told f (halts_behind c.args.names.now c.args.span.rule file c.loop-at.at c.args.span.end h w.0 w.2 (read told) f x);
      first = λ told rest x.
          let inside = found told in
          let all = i.first told _ (lost_entered c.args.names.now c.args.span.rule file c.loop-at.at c.args.span.end h w.0 w.2 (read told) c.in_ok-uuid.uuid (said told ∙ its_uuid file c.loop-at.at c.args.span.end h w.0 w.2) named c.in-Some.inner into
          inside.0 inside.2 c.in_ok-has_time.has_time inside.1 rest inside.3 x) in
          (all.0, all.1, ap (λ l. earlier l rest) inside.4 ∙ earlier_all c.loop-at.found.first_loss inside.1 rest ∙ all.2);
    }

pub loop-at-preserved : goal.loop-at-preserved
loop-at-preserved g t c =
    let i = c.loop-at.invariant in
    let e = c.in_ok-header.ensures in
    let u = c.in_ok-uuid.ensures in
    let file = g.S.Store.file c.args.store.now in
    let h = c.in_ok-header.header in
    let w = e.fits in
    let read = rw (i.honesty, i.file) at e.header in
    let named : is_named c.args.names.now c.args.span.rule h.kind.0 c.in_ok-uuid.uuid ≡ false = search rules in
    let said = rw (e.store.honesty ∙ i.honesty, e.store.file ∙ i.file) at u.uuid in
    let into : rule_inside c.args.span.rule h.kind.0 ≡ None = search rules in
    record {
      span = w.2;
      honesty = u.store.honesty ∙ e.store.honesty ∙ i.honesty;
      file = u.store.file ∙ e.store.file ∙ i.file;
      reads = u.store.reads ∙ e.store.reads ∙ i.reads;
      halts = λ told f x. i.halts told f (halts_behind c.args.names.now c.args.span.rule file c.loop-at.at c.args.span.end h w.0 w.2 (read told) f x);
      first = λ told rest x. i.first told rest (lost_kept c.args.names.now c.args.span.rule file c.loop-at.at c.args.span.end h w.0 w.2 (read told) c.in_ok-uuid.uuid (said told ∙ its_uuid file c.loop-at.at c.args.span.end h w.0 w.2) named into c.in_ok-has_time.has_time rest x);
    }

pub returns-clause-first : goal.returns-clause-first
returns-clause-first g t c told =
    let i = c.loop-at.invariant in
    let file = g.S.Store.file c.args.store.now in
    let all = i.first told _ (lost_ends c.args.names.now c.args.span.rule c.in_ok-has_time.has_time file c.loop-at.at c.args.span.end (search rules)) in
    let time = c.in_ok-has_time.ensures.time told in
    (c.in_ok-has_time.has_time, all.0, time, all.1, sym (earlier_none c.loop-at.found.first_loss) ∙ all.2)
