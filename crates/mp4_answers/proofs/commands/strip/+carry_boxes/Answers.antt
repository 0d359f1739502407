use Rattle.std.proofs.Common.{rules, ◌≡◌, ◌-◌, ◌≤◌, ℕ, List, length, ◌∙◌, sym, subst, Some, None, true, false, refl, arith}
use Rattle.std.proofs.lemmas.Result.{err_from_is_err_and}
use Rattle.mp4_store.specs.words.Device.{range}
use Rattle.mp4_present.specs.words.Carried.{waiting}
use Rattle.mp4_answers.specs.format.BoxWalk.{rule_inside}
use Rattle.mp4_answers.specs.format.Strips.{is_named}
use Rattle.mp4_answers.proofs.BoxLists.{inside_lower}
use Rattle.mp4_answers.proofs.HeadersUnder.{some_there}
use Rattle.mp4_answers.proofs.StripCopies.{copying_none, copying_all, copying_stops, copy_freed, freed_fails, copy_kept, kept_fails, copy_entered, entered_header_fails, entered_fails, entered_part, again_unchanged, again_carried, range_unchanged, range_carried}
use Rattle.mp4_answers.proofs.commands.strip.+carry_boxes.Goals as goal

pub returns-in_err-found-clause-bytes : goal.returns-in_err-found-clause-bytes
returns-in_err-found-clause-bytes g t c =
    let p = err_from_is_err_and c.from_residual.result c.from_residual.ensures.1 in
    let i = c.loop-at.invariant in
    let file = g.S.Store.file c.args.store.now in
    rw p.1 (λ told text s. copying_stops c.args.names.now c.args.span.rule file c.args.span.end c.loop-at.at _ (waiting c.args.carrier.now) (waiting c.loop-at.carrier) text (i.goes told text s))

pub returns-in_err-found-clause-unchanged : goal.returns-in_err-found-clause-unchanged
returns-in_err-found-clause-unchanged g t c told text s =
    let p = err_from_is_err_and c.from_residual.result c.from_residual.ensures.1 in
    let i = c.loop-at.invariant in
    let file = g.S.Store.file c.args.store.now in
    let x = rw (i.honesty, i.file, i.reads) at c.in_err-found.ensures.refusal in
    let u = i.goes told text s in
    let some = some_there file c.loop-at.at c.args.span.end c.loop-at-test.true c.requires.within in
    rw (p.1, p.2) (again_unchanged c.args.names.now _ c.args.span.rule c.loop-at.at _ _ _ u.rest c.in_err-found.field-0.0 told some u.left x)

pub returns-in_err-found-clause-refusal : goal.returns-in_err-found-clause-refusal
returns-in_err-found-clause-refusal g t c =
    let p = err_from_is_err_and c.from_residual.result c.from_residual.ensures.1 in
    let i = c.loop-at.invariant in
    let file = g.S.Store.file c.args.store.now in
    let x = rw (i.honesty, i.file, i.reads) at c.in_err-found.ensures.refusal in
    rw (p.1, p.2) (again_carried (g.S.Store.is_honest c.args.store.now) (range file c.loop-at.at (c.args.span.end - c.loop-at.at)) c.args.span.rule c.loop-at.at (g.S.Store.read_failures c.args.store.now) (g.S.Store.read_failures c.find_again.new.store) (g.K.Sink.put_failures c.args.sink.now)
    (g.K.Sink.put_failures c.loop-at.sink) c.in_err-found.field-0.0 x)

pub returns-in_err-carry_freed-clause-bytes : goal.returns-in_err-carry_freed-clause-bytes
returns-in_err-carry_freed-clause-bytes g t c =
    let p = err_from_is_err_and c.from_residual-in_err-carry_freed.result c.from_residual-in_err-carry_freed.ensures.1 in
    let i = c.loop-at.invariant in
    let file = g.S.Store.file c.args.store.now in
    let e = c.in_ok-found.ensures in
    let h = c.in_ok-found.found.header in
    let w = e.fits in
    let read = rw (i.honesty, i.file) at e.header in
    let some = some_there file c.loop-at.at c.args.span.end c.loop-at-test.true c.requires.within in
    let named : is_named c.args.names.now c.args.span.rule h.kind.0 c.in_ok-found.found.uuid ≡ true = search rules in
    let own = rw (i.honesty, i.file) at e.uuid in
    let x = rw (e.store.honesty ∙ i.honesty, e.store.file ∙ i.file) at c.in_err-carry_freed.ensures.bytes in
    rw p.1 (λ told text s. freed_fails c.args.names.now c.args.span.rule file c.args.span.end c.loop-at.at h w.0 w.2 some (read told) g.met.K.Sink.takes_on _ _ (waiting c.args.carrier.now) (waiting c.loop-at.carrier) text (i.goes told text s) _
    (subst (λ u. is_named c.args.names.now c.args.span.rule h.kind.0 u ≡ true) (own told) named) (x told))

pub returns-in_err-carry_freed-clause-unchanged : goal.returns-in_err-carry_freed-clause-unchanged
returns-in_err-carry_freed-clause-unchanged g t c told text s =
    let p = err_from_is_err_and c.from_residual-in_err-carry_freed.result c.from_residual-in_err-carry_freed.ensures.1 in
    rw (p.1, p.2) (range_unchanged _ _ _ _ c.in_err-carry_freed.field-0.0 c.in_err-carry_freed.ensures.refusal)

pub returns-in_err-carry_freed-clause-refusal : goal.returns-in_err-carry_freed-clause-refusal
returns-in_err-carry_freed-clause-refusal g t c =
    let p = err_from_is_err_and c.from_residual-in_err-carry_freed.result c.from_residual-in_err-carry_freed.ensures.1 in
    let i = c.loop-at.invariant in
    let file = g.S.Store.file c.args.store.now in
    let e = c.in_ok-found.ensures in
    rw (p.1, p.2) (range_carried _ _ _ _ c.in_err-carry_freed.field-0.0 (rw (e.store.reads ∙ i.reads, i.puts) at c.in_err-carry_freed.ensures.refusal))

pub returns-in_err-carry_range-clause-bytes : goal.returns-in_err-carry_range-clause-bytes
returns-in_err-carry_range-clause-bytes g t c =
    let p = err_from_is_err_and c.from_residual-in_err-carry_range.result c.from_residual-in_err-carry_range.ensures.1 in
    let i = c.loop-at.invariant in
    let file = g.S.Store.file c.args.store.now in
    let e = c.in_ok-found.ensures in
    let h = c.in_ok-found.found.header in
    let w = e.fits in
    let read = rw (i.honesty, i.file) at e.header in
    let some = some_there file c.loop-at.at c.args.span.end c.loop-at-test.true c.requires.within in
    let named : is_named c.args.names.now c.args.span.rule h.kind.0 c.in_ok-found.found.uuid ≡ false = search rules in
    let own = rw (i.honesty, i.file) at e.uuid in
    let into : rule_inside c.args.span.rule c.in_ok-found.found.header.kind.0 ≡ Some c.in-Some.inner = search rules in
    let x = rw (c.from-head.ensures, e.store.honesty ∙ i.honesty, e.store.file ∙ i.file) at c.in_err-carry_range.ensures.prefix in
    rw p.1 (λ told text s. entered_header_fails c.args.names.now c.args.span.rule file c.args.span.end c.loop-at.at h w.0 w.2 some (read told) g.met.K.Sink.takes_on _ _ (waiting c.args.carrier.now) (waiting c.loop-at.carrier) text (i.goes told text s) c.in-Some.inner
    (subst (λ u. is_named c.args.names.now c.args.span.rule h.kind.0 u ≡ false) (own told) named) into _ (x told))

pub returns-in_err-carry_range-clause-unchanged : goal.returns-in_err-carry_range-clause-unchanged
returns-in_err-carry_range-clause-unchanged g t c told text s =
    let p = err_from_is_err_and c.from_residual-in_err-carry_range.result c.from_residual-in_err-carry_range.ensures.1 in
    rw (p.1, p.2) (range_unchanged _ _ _ _ c.in_err-carry_range.field-0.0 c.in_err-carry_range.ensures.refusal)

pub returns-in_err-carry_range-clause-refusal : goal.returns-in_err-carry_range-clause-refusal
returns-in_err-carry_range-clause-refusal g t c =
    let p = err_from_is_err_and c.from_residual-in_err-carry_range.result c.from_residual-in_err-carry_range.ensures.1 in
    let i = c.loop-at.invariant in
    let file = g.S.Store.file c.args.store.now in
    let e = c.in_ok-found.ensures in
    rw (p.1, p.2) (range_carried _ _ _ _ c.in_err-carry_range.field-0.0 (rw (e.store.reads ∙ i.reads, i.puts) at c.in_err-carry_range.ensures.refusal))

pub returns-in_err-carry_boxes-clause-bytes : goal.returns-in_err-carry_boxes-clause-bytes
returns-in_err-carry_boxes-clause-bytes g t c =
    let p = err_from_is_err_and c.from_residual-in_err-carry_boxes.result c.from_residual-in_err-carry_boxes.ensures.1 in
    let i = c.loop-at.invariant in
    let file = g.S.Store.file c.args.store.now in
    let e = c.in_ok-found.ensures in
    let h = c.in_ok-found.found.header in
    let w = e.fits in
    let read = rw (i.honesty, i.file) at e.header in
    let some = some_there file c.loop-at.at c.args.span.end c.loop-at-test.true c.requires.within in
    let named : is_named c.args.names.now c.args.span.rule h.kind.0 c.in_ok-found.found.uuid ≡ false = search rules in
    let own = rw (i.honesty, i.file) at e.uuid in
    let into : rule_inside c.args.span.rule c.in_ok-found.found.header.kind.0 ≡ Some c.in-Some.inner = search rules in
    let head = c.in_ok-carry_range.ensures in
    let first = rw (c.from-head.ensures, e.store.honesty ∙ i.honesty, e.store.file ∙ i.file) at head.bytes in
    let x = rw (c.from-head.ensures, head.store.honesty ∙ e.store.honesty ∙ i.honesty, head.store.file ∙ e.store.file ∙ i.file) at c.in_err-carry_boxes.ensures.bytes in
    rw p.1 (λ told text s. entered_fails c.args.names.now c.args.span.rule file c.args.span.end c.loop-at.at h w.0 w.2 some (read told) g.met.K.Sink.takes_on _ _ (waiting c.args.carrier.now) (waiting c.loop-at.carrier) text (i.goes told text s) c.in-Some.inner
    (subst (λ u. is_named c.args.names.now c.args.span.rule h.kind.0 u ≡ false) (own told) named) into _ _ (waiting c.carry_range.new.self)
    (first told) (x told))

pub returns-in_err-carry_boxes-clause-unchanged : goal.returns-in_err-carry_boxes-clause-unchanged
returns-in_err-carry_boxes-clause-unchanged g t c told text s =
    let p = err_from_is_err_and c.from_residual-in_err-carry_boxes.result c.from_residual-in_err-carry_boxes.ensures.1 in
    let i = c.loop-at.invariant in
    let file = g.S.Store.file c.args.store.now in
    let e = c.in_ok-found.ensures in
    let h = c.in_ok-found.found.header in
    let w = e.fits in
    let read = rw (i.honesty, i.file) at e.header in
    let some = some_there file c.loop-at.at c.args.span.end c.loop-at-test.true c.requires.within in
    let named : is_named c.args.names.now c.args.span.rule h.kind.0 c.in_ok-found.found.uuid ≡ false = search rules in
    let own = rw (i.honesty, i.file) at e.uuid in
    let into : rule_inside c.args.span.rule c.in_ok-found.found.header.kind.0 ≡ Some c.in-Some.inner = search rules in
    let head = c.in_ok-carry_range.ensures in
    let x = rw (c.from-head.ensures, head.store.honesty ∙ e.store.honesty ∙ i.honesty, head.store.file ∙ e.store.file ∙ i.file) at c.in_err-carry_boxes.ensures.unchanged in
    let y = entered_part c.args.names.now c.args.span.rule file c.args.span.end c.loop-at.at h w.0 w.2 some (read told) g.met.K.Sink.takes_on _ _ (waiting c.args.carrier.now) (waiting c.loop-at.carrier) text (i.goes told text s) c.in-Some.inner
    (subst (λ u. is_named c.args.names.now c.args.span.rule h.kind.0 u ≡ false) (own told) named) into in
    rw (p.1, p.2) (x told y.0 y.2)

pub returns-in_err-carry_boxes-clause-refusal : goal.returns-in_err-carry_boxes-clause-refusal
returns-in_err-carry_boxes-clause-refusal g t c =
    let p = err_from_is_err_and c.from_residual-in_err-carry_boxes.result c.from_residual-in_err-carry_boxes.ensures.1 in
    let i = c.loop-at.invariant in
    let file = g.S.Store.file c.args.store.now in
    let e = c.in_ok-found.ensures in
    let head = c.in_ok-carry_range.ensures in
    rw (p.1, p.2) (rw (head.store.reads ∙ e.store.reads ∙ i.reads, head.store.puts ∙ i.puts) at c.in_err-carry_boxes.ensures.refusal)

pub returns-in_err-carry_range-2-clause-bytes : goal.returns-in_err-carry_range-2-clause-bytes
returns-in_err-carry_range-2-clause-bytes g t c =
    let p = err_from_is_err_and c.from_residual-in_err-carry_range-2.result c.from_residual-in_err-carry_range-2.ensures.1 in
    let i = c.loop-at.invariant in
    let file = g.S.Store.file c.args.store.now in
    let e = c.in_ok-found.ensures in
    let h = c.in_ok-found.found.header in
    let w = e.fits in
    let read = rw (i.honesty, i.file) at e.header in
    let some = some_there file c.loop-at.at c.args.span.end c.loop-at-test.true c.requires.within in
    let named : is_named c.args.names.now c.args.span.rule h.kind.0 c.in_ok-found.found.uuid ≡ false = search rules in
    let own = rw (i.honesty, i.file) at e.uuid in
    let into : rule_inside c.args.span.rule c.in_ok-found.found.header.kind.0 ≡ None = search rules in
    let x = rw (e.store.honesty ∙ i.honesty, e.store.file ∙ i.file) at c.in_err-carry_range-2.ensures.prefix in
    rw p.1 (λ told text s. kept_fails c.args.names.now c.args.span.rule file c.args.span.end c.loop-at.at h w.0 w.2 some (read told) g.met.K.Sink.takes_on _ _ (waiting c.args.carrier.now) (waiting c.loop-at.carrier) text (i.goes told text s) _
    (subst (λ u. is_named c.args.names.now c.args.span.rule h.kind.0 u ≡ false) (own told) named) into (x told))

pub returns-in_err-carry_range-2-clause-unchanged : goal.returns-in_err-carry_range-2-clause-unchanged
returns-in_err-carry_range-2-clause-unchanged g t c told text s =
    let p = err_from_is_err_and c.from_residual-in_err-carry_range-2.result c.from_residual-in_err-carry_range-2.ensures.1 in
    rw (p.1, p.2) (range_unchanged _ _ _ _ c.in_err-carry_range-2.field-0.0 c.in_err-carry_range-2.ensures.refusal)

pub returns-in_err-carry_range-2-clause-refusal : goal.returns-in_err-carry_range-2-clause-refusal
returns-in_err-carry_range-2-clause-refusal g t c =
    let p = err_from_is_err_and c.from_residual-in_err-carry_range-2.result c.from_residual-in_err-carry_range-2.ensures.1 in
    let i = c.loop-at.invariant in
    let file = g.S.Store.file c.args.store.now in
    let e = c.in_ok-found.ensures in
    rw (p.1, p.2) (range_carried _ _ _ _ c.in_err-carry_range-2.field-0.0 (rw (e.store.reads ∙ i.reads, i.puts) at c.in_err-carry_range-2.ensures.refusal))

pub loop-at-preserved-in_ok-carry_freed : goal.loop-at-preserved-in_ok-carry_freed
loop-at-preserved-in_ok-carry_freed g t c =
    let i = c.loop-at.invariant in
    let file = g.S.Store.file c.args.store.now in
    let e = c.in_ok-found.ensures in
    let h = c.in_ok-found.found.header in
    let w = e.fits in
    let read = rw (i.honesty, i.file) at e.header in
    let some = some_there file c.loop-at.at c.args.span.end c.loop-at-test.true c.requires.within in
    let named : is_named c.args.names.now c.args.span.rule h.kind.0 c.in_ok-found.found.uuid ≡ true = search rules in
    let own = rw (i.honesty, i.file) at e.uuid in
    let j = c.in_ok-carry_freed.ensures in
    let x = rw (e.store.honesty ∙ i.honesty, e.store.file ∙ i.file) at j.bytes in
    record {
      span = w.2;
      honesty = j.store.honesty ∙ e.store.honesty ∙ i.honesty;
      file = j.store.file ∙ e.store.file ∙ i.file;
      reads = j.store.reads ∙ e.store.reads ∙ i.reads;
      puts = j.puts ∙ i.puts;
      goes = λ told text s. copy_freed c.args.names.now c.args.span.rule file c.args.span.end c.loop-at.at h w.0 w.2 some (read told) g.met.K.Sink.takes_on _ _ (waiting c.args.carrier.now) (waiting c.loop-at.carrier) text (i.goes told text s) _ (waiting c.carry_freed.new.carrier)
          (subst (λ u. is_named c.args.names.now c.args.span.rule h.kind.0 u ≡ true) (own told) named) (x told);
    }

pub loop-at-preserved-in_ok-carry_boxes : goal.loop-at-preserved-in_ok-carry_boxes
loop-at-preserved-in_ok-carry_boxes g t c =
    let i = c.loop-at.invariant in
    let file = g.S.Store.file c.args.store.now in
    let e = c.in_ok-found.ensures in
    let h = c.in_ok-found.found.header in
    let w = e.fits in
    let read = rw (i.honesty, i.file) at e.header in
    let some = some_there file c.loop-at.at c.args.span.end c.loop-at-test.true c.requires.within in
    let named : is_named c.args.names.now c.args.span.rule h.kind.0 c.in_ok-found.found.uuid ≡ false = search rules in
    let own = rw (i.honesty, i.file) at e.uuid in
    let into : rule_inside c.args.span.rule c.in_ok-found.found.header.kind.0 ≡ Some c.in-Some.inner = search rules in
    let head = c.in_ok-carry_range.ensures in
    let j = c.in_ok-carry_boxes.ensures in
    let first = rw (c.from-head.ensures, e.store.honesty ∙ i.honesty, e.store.file ∙ i.file) at head.bytes in
    let x = rw (c.from-head.ensures, head.store.honesty ∙ e.store.honesty ∙ i.honesty, head.store.file ∙ e.store.file ∙ i.file) at j.bytes in
    record {
      span = w.2;
      honesty = j.store.honesty ∙ head.store.honesty ∙ e.store.honesty ∙ i.honesty;
      file = j.store.file ∙ head.store.file ∙ e.store.file ∙ i.file;
      reads = j.store.reads ∙ head.store.reads ∙ e.store.reads ∙ i.reads;
      puts = j.puts ∙ head.store.puts ∙ i.puts;
      goes = λ told text s. copy_entered c.args.names.now c.args.span.rule file c.args.span.end c.loop-at.at h w.0 w.2 some (read told) g.met.K.Sink.takes_on _ _ (waiting c.args.carrier.now) (waiting c.loop-at.carrier) text (i.goes told text s) c.in-Some.inner
          (subst (λ u. is_named c.args.names.now c.args.span.rule h.kind.0 u ≡ false) (own told) named) into _ _ (waiting c.carry_range.new.self)
          (waiting c.carry_boxes.new.carrier) (first told) (x told);
    }

pub loop-at-preserved : goal.loop-at-preserved
loop-at-preserved g t c =
    let i = c.loop-at.invariant in
    let file = g.S.Store.file c.args.store.now in
    let e = c.in_ok-found.ensures in
    let h = c.in_ok-found.found.header in
    let w = e.fits in
    let read = rw (i.honesty, i.file) at e.header in
    let some = some_there file c.loop-at.at c.args.span.end c.loop-at-test.true c.requires.within in
    let named : is_named c.args.names.now c.args.span.rule h.kind.0 c.in_ok-found.found.uuid ≡ false = search rules in
    let own = rw (i.honesty, i.file) at e.uuid in
    let into : rule_inside c.args.span.rule c.in_ok-found.found.header.kind.0 ≡ None = search rules in
    let j = c.in_ok-carry_range-2.ensures in
    let x = rw (e.store.honesty ∙ i.honesty, e.store.file ∙ i.file) at j.bytes in
    record {
      span = w.2;
      honesty = j.store.honesty ∙ e.store.honesty ∙ i.honesty;
      file = j.store.file ∙ e.store.file ∙ i.file;
      reads = j.store.reads ∙ e.store.reads ∙ i.reads;
      puts = j.store.puts ∙ i.puts;
      goes = λ told text s. copy_kept c.args.names.now c.args.span.rule file c.args.span.end c.loop-at.at h w.0 w.2 some (read told) g.met.K.Sink.takes_on _ _ (waiting c.args.carrier.now) (waiting c.loop-at.carrier) text (i.goes told text s) _ (waiting c.carry_range-in_default.new.self)
          (subst (λ u. is_named c.args.names.now c.args.span.rule h.kind.0 u ≡ false) (own told) named) into (x told);
    }

pub returns-clause-bytes : goal.returns-clause-bytes
returns-clause-bytes g t c told text s =
    let i = c.loop-at.invariant in
    copying_all c.args.names.now c.args.span.rule (g.S.Store.file c.args.store.now) c.args.span.end c.loop-at.at _ (waiting c.args.carrier.now) (waiting c.loop-at.carrier) text (search rules) (i.goes told text s)

pub carry_boxes-requires : goal.carry_boxes-requires
carry_boxes-requires g t c κs within =
    let i = c.loop-at.invariant in
    let e = c.in_ok-found.ensures in
    let head = c.in_ok-carry_range.ensures in
    let h = c.in_ok-found.found.header in
    let w = e.fits in
    let into : rule_inside c.args.span.rule h.kind.0 ≡ Some c.in-Some.inner = search rules in
    let lower = inside_lower c.args.span.rule c.in-Some.inner h.kind.0 into in
    let d = c.decreases in
    let from : c.from-head.result ≡ h.header = c.from-head.ensures in
    let le = c.requires.within in (
      omega arith,
      (
        within.0,
        (within.1, (omega (arith, from, w.0), subst (λ (xs : List ℕ). h.end ≤ length xs) (sym (head.store.file ∙ e.store.file ∙ i.file)) (omega (arith, w.2, le)))),
      ),
    )

pub loop-at-init : goal.loop-at-init
loop-at-init g t c = record {
  span = c.requires.span;
  honesty = refl;
  file = refl;
  reads = refl;
  puts = refl;
  goes = λ told text s. copying_none c.args.names.now c.args.span.rule (g.S.Store.file c.args.store.now) c.args.span.end c.args.span.from _ (g.met.K.Sink.takes_nothing _) (waiting c.args.carrier.now) text s;
}
