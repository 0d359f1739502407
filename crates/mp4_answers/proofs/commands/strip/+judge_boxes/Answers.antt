use Rattle.std.proofs.Common.{rules, ◌≡◌, ◌+◌, ◌≤◌, ℕ, List, length, ◌∙◌, sym, ap, subst, [], Some, None, true, false, arith}
use Rattle.std.proofs.lemmas.Result.{err_from_is_err_and}
use Rattle.mp4_answers.specs.format.BoxWalk.{rule_inside}
use Rattle.mp4_answers.specs.format.Strips.{is_named}
use Rattle.mp4_answers.proofs.BoxLists.{inside_lower}
use Rattle.mp4_answers.proofs.HeadersUnder.{refuses_walk, refuses_inside}
use Rattle.mp4_answers.proofs.StripWalks.{walk_ends, walk_frees, walk_keeps, walk_enters, halts_behind, halts_within}
use Rattle.mp4_answers.specs.format.StripCounts.{first_meant}
use Rattle.mp4_answers.specs.words.CountedBoxes.{counts_on}
use Rattle.mp4_answers.proofs.BoxCounts.{on_none, on_sums, count_meant, count_passed, count_entered, count_ends}
use Rattle.mp4_answers.proofs.commands.strip.+judge_boxes.Goals as goal

pub returns-in_err-found-clause-refusal : goal.returns-in_err-found-clause-refusal
returns-in_err-found-clause-refusal g t c =
    let p = err_from_is_err_and c.from_residual-in_err-found.result c.from_residual-in_err-found.ensures.1 in
    let i = c.loop-at.invariant in
    let file = g.S.Store.file c.args.store.now in
    let e = rw (i.honesty, i.file, i.reads) at c.in_err-found.ensures.refusal in
    rw (p.1, p.2) (refuses_walk c.args.names.now (g.S.Store.is_honest c.args.store.now) c.args.span.rule file c.args.span.from c.loop-at.at c.args.span.end (g.S.Store.read_failures c.args.store.now) (g.S.Store.read_failures c.find.new.store) c.in_err-found.field-0.0
    c.loop-at-test.true c.requires.within i.halts e)

pub judge_boxes-requires : goal.judge_boxes-requires
judge_boxes-requires g t c κs within =
    let i = c.loop-at.invariant in
    let e = c.in_ok-found.ensures in
    let h = c.in_ok-found.found.header in
    let w = e.fits in
    let into : rule_inside c.args.span.rule h.kind.0 ≡ Some c.in-Some.inner = search rules in
    let lower = inside_lower c.args.span.rule c.in-Some.inner h.kind.0 into in
    let d = c.decreases in
    let from : c.from.result ≡ h.header = c.from.ensures in
    let le = c.requires.within in (
      omega arith,
      (within, (omega (arith, from, w.0), subst (λ (xs : List ℕ). h.end ≤ length xs) (sym (e.store.file ∙ i.file)) (omega (arith, w.2, le)))),
    )

pub returns-in_err-judge_boxes-clause-refusal : goal.returns-in_err-judge_boxes-clause-refusal
returns-in_err-judge_boxes-clause-refusal g t c =
    let p = err_from_is_err_and c.from_residual-in_err-judge_boxes.result c.from_residual-in_err-judge_boxes.ensures.1 in
    let i = c.loop-at.invariant in
    let e = c.in_ok-found.ensures in
    let file = g.S.Store.file c.args.store.now in
    let h = c.in_ok-found.found.header in
    let w = e.fits in
    let read = rw (i.honesty, i.file) at e.header in
    let named : is_named c.args.names.now c.args.span.rule h.kind.0 c.in_ok-found.found.uuid ≡ false = search rules in
    let own = rw (i.honesty, i.file) at e.uuid in
    let into : rule_inside c.args.span.rule h.kind.0 ≡ Some c.in-Some.inner = search rules in
    let x = rw (c.from.ensures, e.store.honesty ∙ i.honesty, e.store.file ∙ i.file, e.store.reads ∙ i.reads) at c.in_err-judge_boxes.ensures.refusal in
    rw (p.1, p.2) (refuses_inside c.args.names.now (g.S.Store.is_honest c.args.store.now) c.args.span.rule c.in-Some.inner file c.args.span.from c.loop-at.at c.args.span.end (c.loop-at.at + h.header) h.end (g.S.Store.read_failures c.args.store.now) (g.S.Store.read_failures c.judge_boxes.new.store)
    c.in_err-judge_boxes.field-0.0
    (λ told f y. halts_within c.args.names.now c.args.span.rule file c.loop-at.at c.args.span.end h w.0 w.2 (read told) f c.in-Some.inner (subst (λ u. is_named c.args.names.now c.args.span.rule h.kind.0 u ≡ false) (own told) named) into y) i.halts x)

pub loop-at-preserved-then-is_named : goal.loop-at-preserved-then-is_named
loop-at-preserved-then-is_named g t c =
    let i = c.loop-at.invariant in
    let e = c.in_ok-found.ensures in
    let file = g.S.Store.file c.args.store.now in
    let h = c.in_ok-found.found.header in
    let w = e.fits in
    let read = rw (i.honesty, i.file) at e.header in
    let named : is_named c.args.names.now c.args.span.rule h.kind.0 c.in_ok-found.found.uuid ≡ true = search rules in
    let own = rw (i.honesty, i.file) at e.uuid in
    let counted : c.count_box.new.counts ≡ counts_on c.loop-at.counts (first_meant c.args.span.rule h.kind.0 c.in_ok-found.found.uuid c.args.names.now) = cc (c.count_box.ensures) in
    record {
      span = w.2;
      honesty = e.store.honesty ∙ i.honesty;
      file = e.store.file ∙ i.file;
      reads = e.store.reads ∙ i.reads;
      judged = λ told s. i.judged told (walk_frees c.args.names.now c.args.span.rule file c.loop-at.at c.args.span.end h w.0 w.2 (read told) (subst (λ u. is_named c.args.names.now c.args.span.rule h.kind.0 u ≡ true) (own told) named) s);
      halts = λ told f x. i.halts told f (halts_behind c.args.names.now c.args.span.rule file c.loop-at.at c.args.span.end h w.0 w.2 (read told) f x);
      counted = λ told ns x.
          let all = i.counted told _ (count_meant c.args.names.now c.args.span.rule file c.loop-at.at c.args.span.end h w.0 w.2 (read told) c.in_ok-found.found.uuid (own told) named ns x) in
          (all.0, all.1, ap (λ (cs : List ℕ). counts_on cs ns) counted ∙ on_sums c.loop-at.counts (first_meant c.args.span.rule h.kind.0 c.in_ok-found.found.uuid c.args.names.now) ns ∙ all.2);
    }

pub loop-at-preserved-in_ok-judge_boxes : goal.loop-at-preserved-in_ok-judge_boxes
loop-at-preserved-in_ok-judge_boxes g t c =
    let i = c.loop-at.invariant in
    let e = c.in_ok-found.ensures in
    let j = c.in_ok-judge_boxes.ensures in
    let file = g.S.Store.file c.args.store.now in
    let h = c.in_ok-found.found.header in
    let w = e.fits in
    let read = rw (i.honesty, i.file) at e.header in
    let named : is_named c.args.names.now c.args.span.rule h.kind.0 c.in_ok-found.found.uuid ≡ false = search rules in
    let own = rw (i.honesty, i.file) at e.uuid in
    let into : rule_inside c.args.span.rule h.kind.0 ≡ Some c.in-Some.inner = search rules in
    let held = rw (c.from.ensures, e.store.honesty ∙ i.honesty, e.store.file ∙ i.file) at j.judged in
    let counted = rw (c.from.ensures, e.store.honesty ∙ i.honesty, e.store.file ∙ i.file) at j.counted in
    record {
      span = w.2;
      honesty = j.store.honesty ∙ e.store.honesty ∙ i.honesty;
      file = j.store.file ∙ e.store.file ∙ i.file;
      reads = j.store.reads ∙ e.store.reads ∙ i.reads;
      judged = λ told s. i.judged told (walk_enters c.args.names.now c.args.span.rule file c.loop-at.at c.args.span.end h w.0 w.2 (read told) c.in-Some.inner (subst (λ u. is_named c.args.names.now c.args.span.rule h.kind.0 u ≡ false) (own told) named) into (held told) s);
      halts = λ told f x. i.halts told f (halts_behind c.args.names.now c.args.span.rule file c.loop-at.at c.args.span.end h w.0 w.2 (read told) f x);
      counted = λ told ns x.
          let inside = counted told in
          let all = i.counted told _ (count_entered c.args.names.now c.args.span.rule file c.loop-at.at c.args.span.end h w.0 w.2 (read told) c.in_ok-found.found.uuid (own told) named c.in-Some.inner into inside.0 ns inside.1 x) in
          (all.0, all.1, ap (λ (cs : List ℕ). counts_on cs ns) inside.2 ∙ on_sums c.loop-at.counts inside.0 ns ∙ all.2);
    }

pub loop-at-preserved : goal.loop-at-preserved
loop-at-preserved g t c =
    let i = c.loop-at.invariant in
    let e = c.in_ok-found.ensures in
    let file = g.S.Store.file c.args.store.now in
    let h = c.in_ok-found.found.header in
    let w = e.fits in
    let read = rw (i.honesty, i.file) at e.header in
    let named : is_named c.args.names.now c.args.span.rule h.kind.0 c.in_ok-found.found.uuid ≡ false = search rules in
    let own = rw (i.honesty, i.file) at e.uuid in
    let into : rule_inside c.args.span.rule h.kind.0 ≡ None = search rules in
    record {
      span = w.2;
      honesty = e.store.honesty ∙ i.honesty;
      file = e.store.file ∙ i.file;
      reads = e.store.reads ∙ i.reads;
      judged = λ told s. i.judged told (walk_keeps c.args.names.now c.args.span.rule file c.loop-at.at c.args.span.end h w.0 w.2 (read told) (subst (λ u. is_named c.args.names.now c.args.span.rule h.kind.0 u ≡ false) (own told) named) into s);
      halts = λ told f x. i.halts told f (halts_behind c.args.names.now c.args.span.rule file c.loop-at.at c.args.span.end h w.0 w.2 (read told) f x);
      counted = λ told ns x. i.counted told ns (count_passed c.args.names.now c.args.span.rule file c.loop-at.at c.args.span.end h w.0 w.2 (read told) c.in_ok-found.found.uuid (own told) named into ns x);
    }

pub returns-clause-judged : goal.returns-clause-judged
returns-clause-judged g t c told = c.loop-at.invariant.judged told ([], walk_ends c.args.names.now c.args.span.rule (g.S.Store.file c.args.store.now) c.loop-at.at c.args.span.end (search rules))

pub returns-clause-counted : goal.returns-clause-counted
returns-clause-counted g t c told =
    let all = c.loop-at.invariant.counted told _ (count_ends c.args.names.now c.args.span.rule (g.S.Store.file c.args.store.now) c.loop-at.at c.args.span.end (search rules)) in
    (all.0, all.1, sym (on_none c.loop-at.counts c.args.names.now) ∙ all.2)
