use Rattle.std.proofs.Common.{rules, ◌≡◌, ◌+◌, ◌≤◌, ◌++◌, ◌∷◌, [], ℕ, List, length, ◌∙◌, sym, ap, subst, Some, None, true, false, arith}
use Rattle.std.proofs.lemmas.List.{append-nil, append_assoc}
use Rattle.std.proofs.lemmas.Result.{err_from_is_err_and}
use Rattle.mp4_answers.specs.format.BoxWalk.{rule_inside}
use Rattle.mp4_answers.specs.format.Strips.{is_named}
use Rattle.mp4_answers.proofs.BoxLists.{inside_lower}
use Rattle.mp4_answers.proofs.FreedPlaces.{found_all, found_entered, found_freed, found_kept, found_none}
use Rattle.mp4_answers.proofs.HeadersUnder.{find_inside, refuses_walk, walk_finds}
use Rattle.mp4_answers.proofs.StripWalks.{halts_behind, halts_within}
use Rattle.mp4_answers.proofs.commands.stripped_store.+place_boxes.Goals as goal

pub returns-in_err-found-clause-refusal : goal.returns-in_err-found-clause-refusal
returns-in_err-found-clause-refusal g t c =
    let p = err_from_is_err_and c.from_residual-in_err-found.result c.from_residual-in_err-found.ensures.1 in
    let i = c.loop-at.invariant in
    let file = g.S.Store.file c.args.store.now in
    let e = rw (i.honesty, i.file, i.reads) at c.in_err-found.ensures.refusal in
    rw (p.1, p.2) (walk_finds c.args.names.now (g.S.Store.is_honest c.args.store.now) c.args.span.rule c.args.span.from _ (g.S.Store.read_failures c.args.store.now) (g.S.Store.read_failures c.find.new.store) c.in_err-found.field-0.0
    (refuses_walk c.args.names.now (g.S.Store.is_honest c.args.store.now) c.args.span.rule file c.args.span.from c.loop-at.at c.args.span.end (g.S.Store.read_failures c.args.store.now) (g.S.Store.read_failures c.find.new.store) c.in_err-found.field-0.0
    c.loop-at-test.true c.requires.within i.halts e))

pub loop-at-init : goal.loop-at-init
loop-at-init g t c =
    let e = c.in_ok-read_headers.ensures.store in
    record {
      begin = omega arith;
      span = c.requires.span;
      honesty = e.honesty;
      file = e.file;
      reads = e.reads;
      halts = λ told f x. x;
      found = ([], sym (append-nil c.args.places.now.items), found_none c.args.names.now c.args.span.rule c.args.span.from c.args.span.end (g.S.Store.is_honest c.args.store.now) (g.S.Store.file c.args.store.now));
    }

pub place_boxes-requires : goal.place_boxes-requires
place_boxes-requires g t c κs within =
    let i = c.loop-at.invariant in
    let e = c.in_ok-found.ensures in
    let h = c.in_ok-found.found.header in
    let w = e.fits in
    let into : rule_inside c.args.span.rule h.kind.0 ≡ Some c.in-Some.inner = search rules in
    let lower = inside_lower c.args.span.rule c.in-Some.inner h.kind.0 into in
    let d = c.decreases in
    let from : c.from.result ≡ h.header = c.from.ensures in
    let le = c.requires.within in (
      omega arith,
      (within, (omega (arith, from, w.0), subst (λ (xs : List ℕ). h.end ≤ length xs) (sym (e.store.file ∙ i.file)) (omega (arith, w.2, le)))),
    )

pub returns-in_err-place_boxes-clause-refusal : goal.returns-in_err-place_boxes-clause-refusal
returns-in_err-place_boxes-clause-refusal g t c =
    let p = err_from_is_err_and c.from_residual-in_err-place_boxes.result c.from_residual-in_err-place_boxes.ensures.1 in
    let i = c.loop-at.invariant in
    let e = c.in_ok-found.ensures in
    let file = g.S.Store.file c.args.store.now in
    let h = c.in_ok-found.found.header in
    let w = e.fits in
    let read = rw (i.honesty, i.file) at e.header in
    let named : is_named c.args.names.now c.args.span.rule h.kind.0 c.in_ok-found.found.uuid ≡ false = search rules in
    let own = rw (i.honesty, i.file) at e.uuid in
    let into : rule_inside c.args.span.rule h.kind.0 ≡ Some c.in-Some.inner = search rules in
    let x = rw (c.from.ensures, e.store.honesty ∙ i.honesty, e.store.file ∙ i.file, e.store.reads ∙ i.reads) at c.in_err-place_boxes.ensures.refusal in
    rw (p.1, p.2) (find_inside c.args.names.now (g.S.Store.is_honest c.args.store.now) c.args.span.rule c.in-Some.inner file c.args.span.from c.loop-at.at c.args.span.end (c.loop-at.at + h.header) h.end (g.S.Store.read_failures c.args.store.now) (g.S.Store.read_failures c.place_boxes.new.store)
    c.in_err-place_boxes.field-0.0
    (λ told f y. halts_within c.args.names.now c.args.span.rule file c.loop-at.at c.args.span.end h w.0 w.2 (read told) f c.in-Some.inner (subst (λ u. is_named c.args.names.now c.args.span.rule h.kind.0 u ≡ false) (own told) named) into y) i.halts x)

pub loop-at-preserved-in_ok-push : goal.loop-at-preserved-in_ok-push
loop-at-preserved-in_ok-push g t c =
    let i = c.loop-at.invariant in
    let e = c.in_ok-found.ensures in
    let file = g.S.Store.file c.args.store.now in
    let at = c.loop-at.at in
    let h = c.in_ok-found.found.header in
    let w = e.fits in
    let read = rw (i.honesty, i.file) at e.header in
    let named : is_named c.args.names.now c.args.span.rule h.kind.0 c.in_ok-found.found.uuid ≡ true = search rules in
    let own = rw (i.honesty, i.file) at e.uuid in
    let begin = i.begin in
    let pushed : c.push.new.self.items ≡ c.loop-at.places.items ++ (at + 4) ∷ [] = search rules in
    record {
      begin = omega (arith, begin, w.0);
      span = w.2;
      honesty = e.store.honesty ∙ i.honesty;
      file = e.store.file ∙ i.file;
      reads = e.store.reads ∙ i.reads;
      halts = λ told f x. i.halts told f (halts_behind c.args.names.now c.args.span.rule file at c.args.span.end h w.0 w.2 (read told) f x);
      found = (
        i.found.0 ++ (at + 4) ∷ [],
        pushed ∙ ap (λ l. l ++ (at + 4) ∷ []) i.found.1 ∙ append_assoc c.args.places.now.items i.found.0 ((at + 4) ∷ []),
        found_freed c.args.names.now c.args.span.rule file c.args.span.from at c.args.span.end h begin w.0 w.2 w.1 c.requires.within (g.S.Store.is_honest c.args.store.now) read i.found.0
            (λ told. subst (λ u. is_named c.args.names.now c.args.span.rule h.kind.0 u ≡ true) (own told) named) i.found.2,
      );
    }

pub loop-at-preserved-in_ok-place_boxes : goal.loop-at-preserved-in_ok-place_boxes
loop-at-preserved-in_ok-place_boxes g t c =
    let i = c.loop-at.invariant in
    let e = c.in_ok-found.ensures in
    let j = c.in_ok-place_boxes.ensures in
    let file = g.S.Store.file c.args.store.now in
    let at = c.loop-at.at in
    let h = c.in_ok-found.found.header in
    let w = e.fits in
    let read = rw (i.honesty, i.file) at e.header in
    let named : is_named c.args.names.now c.args.span.rule h.kind.0 c.in_ok-found.found.uuid ≡ false = search rules in
    let own = rw (i.honesty, i.file) at e.uuid in
    let into : rule_inside c.args.span.rule h.kind.0 ≡ Some c.in-Some.inner = search rules in
    let begin = i.begin in
    let inside = rw (c.from.ensures, e.store.honesty ∙ i.honesty, e.store.file ∙ i.file) at j.places in
    record {
      begin = omega (arith, begin, w.0);
      span = w.2;
      honesty = j.store.honesty ∙ e.store.honesty ∙ i.honesty;
      file = j.store.file ∙ e.store.file ∙ i.file;
      reads = j.store.reads ∙ e.store.reads ∙ i.reads;
      halts = λ told f x. i.halts told f (halts_behind c.args.names.now c.args.span.rule file at c.args.span.end h w.0 w.2 (read told) f x);
      found = (
        i.found.0 ++ inside.0,
        inside.1 ∙ ap (λ l. l ++ inside.0) i.found.1 ∙ append_assoc c.args.places.now.items i.found.0 inside.0,
        found_entered c.args.names.now c.args.span.rule file c.args.span.from at c.args.span.end h begin w.0 w.2 w.1 c.requires.within (g.S.Store.is_honest c.args.store.now) read c.in-Some.inner i.found.0 inside.0
            (λ told. subst (λ u. is_named c.args.names.now c.args.span.rule h.kind.0 u ≡ false) (own told) named) into inside.2 i.found.2,
      );
    }

pub loop-at-preserved : goal.loop-at-preserved
loop-at-preserved g t c =
    let i = c.loop-at.invariant in
    let e = c.in_ok-found.ensures in
    let file = g.S.Store.file c.args.store.now in
    let at = c.loop-at.at in
    let h = c.in_ok-found.found.header in
    let w = e.fits in
    let read = rw (i.honesty, i.file) at e.header in
    let named : is_named c.args.names.now c.args.span.rule h.kind.0 c.in_ok-found.found.uuid ≡ false = search rules in
    let own = rw (i.honesty, i.file) at e.uuid in
    let into : rule_inside c.args.span.rule h.kind.0 ≡ None = search rules in
    let begin = i.begin in
    record {
      begin = omega (arith, begin, w.0);
      span = w.2;
      honesty = e.store.honesty ∙ i.honesty;
      file = e.store.file ∙ i.file;
      reads = e.store.reads ∙ i.reads;
      halts = λ told f x. i.halts told f (halts_behind c.args.names.now c.args.span.rule file at c.args.span.end h w.0 w.2 (read told) f x);
      found = (
        i.found.0,
        i.found.1,
        found_kept c.args.names.now c.args.span.rule file c.args.span.from at c.args.span.end h begin w.0 w.2 w.1 c.requires.within (g.S.Store.is_honest c.args.store.now) read i.found.0
            (λ told. subst (λ u. is_named c.args.names.now c.args.span.rule h.kind.0 u ≡ false) (own told) named) into i.found.2,
      );
    }

pub returns-clause-places : goal.returns-clause-places
returns-clause-places g t c =
    let i = c.loop-at.invariant in
    (i.found.0, i.found.1, found_all c.args.names.now c.args.span.rule c.args.span.from c.loop-at.at c.args.span.end (g.S.Store.is_honest c.args.store.now) (g.S.Store.file c.args.store.now) i.found.0 i.span (search rules) i.found.2)
