use Rattle.std.proofs.Common.{◌≡◌, ◌+◌, ◌∷◌, ◌∙◌, List, ap, sym, refl, subst, drop, arith, rules}
use Rattle.std.specs.Prelude.{slice_get}
use Rattle.mp4_tables.specs.declared.sample.SampleAt.{SampleAt}
use Rattle.mp4_tables.specs.words.Next.{PassesNonSync}
use Rattle.mp4_tables.proofs.IndexesLeft.{over_next}
use Rattle.mp4_tables.proofs.NonSyncPassed.{passes_one}
use Rattle.mp4_frag.specs.words.PlacesIn.{row_behind}
use Rattle.mp4_frag.specs.words.Times.{lasting}
use Rattle.mp4_frag.specs.words.Walks.{capped, coming, next_number, number_here, reached, row_signed, rows_here, sample_of}
use Rattle.mp4_frag.specs.declared.places.TrafPlace.{TrafPlace}
use Rattle.mp4_frag.specs.declared.places.RowPlace.{RowPlace}
use Rattle.mp4_frag.proofs.Comings.{row_passed, steps_apart, sums_taken}
use Rattle.mp4_frag.proofs.TimesKept.{time_kept}
use Rattle.mp4_frag.proofs.traf_samples.pass_rows.Goals as goal

pub loop-count-preserved : goal.loop-count-preserved
loop-count-preserved c =
    let payload = c.args.payload.now in
    let place = c.args.place.now in
    let i = c.loop-count.invariant in
    let p : TrafPlace = record place { run = c.loop-count.run; dts = capped (place.dts + c.loop-count.lasts); at = capped (place.at + c.loop-count.bytes) } in
    let q : TrafPlace = record place { run = c.next_row-run.result; dts = capped (place.dts + (c.loop-count.lasts + c.from-lasts.result)); at = capped (place.at + (c.loop-count.bytes + c.from-bytes.result)) } in
    let row = row_signed c.row_here-row.result in
    let s = sample_of (reached payload p) p.run.first_flags row in
    let next : q.run ≡ row_behind p.run = c.next_row-run.ensures in
    let left = ap (λ (r : RowPlace). r.left) next in
    let number : number_here place.number q.run.left ≡ next_number (number_here place.number p.run.left) = omega (arith, left, c.loop-count-test.true, i.left, c.requires.number) in
    let dts : q.dts ≡ capped (p.dts + s.duration) = omega (arith, c.from-lasts.ensures, c.unwrap_or.ensures) in
    let at : q.at ≡ capped (p.at + s.size) = omega (arith, c.from-bytes.ensures, c.unwrap_or-in-loop-count.ensures) in
    let indexes = over_next payload place.index_rows place.indexes c.requires.indexes (c.if-not-are_over.ensures refl) in
    let all = row_passed payload p q row
    (c.row_here-row.ensures ∙ ap (λ (r : RowPlace). row ∷ rows_here payload r) (sym next))
    (ap (λ (r : RowPlace). r.first_flags) next)
    (λ j. record { number = number j; dts = dts j; at = at j; base = place.base; inherited = place.inherited; indexes = indexes j })
    refl in
    let time = time_kept p.dts q.dts s (coming payload p) (coming payload q) (ap (λ (l : List SampleAt). slice_get l 0) all) (sym (ap (drop 1) all)) dts in
    let flags = c.flags_of-flags.ensures in
    record {
      rows = search rules;
      width = search rules;
      left = omega (arith, left, i.left);
      few = search rules;
      short = search rules;
      small = search rules;
      time = time ∙ i.time;
      passed = passes_one c.args.description c.loop-count.count _ _ _ s i.passed all (omega (arith, flags, c.if-flags-eq0.false), c.if-inherited-description.false);
    }

pub returns-clause-time : goal.returns-clause-time
returns-clause-time c =
    let payload = c.args.payload.now in
    let place = c.args.place.now in
    let i = c.loop-count.invariant in
    let p : TrafPlace = record place { run = c.loop-count.run; dts = c.saturating_add-place.result; at = c.saturating_add-place-2.result } in
    let same = sums_taken payload place c.loop-count.run c.loop-count.lasts c.loop-count.bytes p.dts p.at c.saturating_add-place.ensures c.saturating_add-place-2.ensures in
    (λ j. capped (c.saturating_add-place.ensures j + lasting ((steps_apart payload p c.saturating_add-place-3.result ∙ same) j))) ∙ i.time

pub returns-clause-passed : goal.returns-clause-passed
returns-clause-passed c =
    let payload = c.args.payload.now in
    let place = c.args.place.now in
    let p : TrafPlace = record place { run = c.loop-count.run; dts = c.saturating_add-place.result; at = c.saturating_add-place-2.result } in
    let same = sums_taken payload place c.loop-count.run c.loop-count.lasts c.loop-count.bytes p.dts p.at c.saturating_add-place.ensures c.saturating_add-place-2.ensures in
    subst (λ (l : List SampleAt). PassesNonSync c.args.description c.loop-count.count (coming payload place) l) (sym (steps_apart payload p c.saturating_add-place-3.result ∙ same)) c.loop-count.invariant.passed
