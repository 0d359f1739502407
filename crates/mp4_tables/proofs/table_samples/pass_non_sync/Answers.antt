use Rattle.std.proofs.Common.{refl, arith, rules}
use Rattle.mp4_tables.proofs.ManyPassed.{may_pass, samples_on, ends_fit, some_left_on, durations_come, offsets_come, placed_on}
use Rattle.mp4_tables.proofs.PlaceLists.{duration_within, offset_within}
use Rattle.mp4_tables.proofs.SpotLists.{lies_in_chunks}
use Rattle.mp4_tables.proofs.table_samples.pass_non_sync.Goals as goal

pub pass_samples-requires-clause-place : goal.pass_samples-requires-clause-place
pass_samples-requires-clause-place c = lies_in_chunks c.args.payload.now c.args.at.now.chunk_rows c.args.at.now.chunks _ _ _ c.loop-count.invariant.on.place.chunk

pub pass_samples-requires-clause-fits : goal.pass_samples-requires-clause-fits
pass_samples-requires-clause-fits c =
    let before = c.before_sync.ensures in
    let few = c.min-few.ensures in
    let some = c.min-some.ensures in
    let test = c.loop-count-test.true in
    let may = may_pass c.args.payload.now c.args.at.now c.args.place.now c.in-Some.field-0 c.before_sync.result c.min-few.result c.requires.ok (λ i. search rules) c.in-Some.is (c.if-not-are_over.ensures refl) before.inside before.before (omega (arith, few)) in
    let left = some_left_on c.args.payload.now c.args.at.now c.args.description c.args.place.now c.min-few.result c.loop-count.chunk c.loop-count.count may test c.loop-count.invariant.on in
    let fits = ends_fit c.args.payload.now c.args.at.now c.args.description c.args.place.now c.min-few.result c.loop-count.chunk c.loop-count.count c.min-some.result may (omega (arith, some, test)) (omega (arith, some, test, left)) (omega (arith, some))
    c.if-chunk-description.true c.loop-count.invariant.on in
    omega (arith, fits, c.bytes_of-bytes.ensures.is)

pub loop-count-smaller : goal.loop-count-smaller
loop-count-smaller c =
    let before = c.before_sync.ensures in
    let few = c.min-few.ensures in
    let some = c.min-some.ensures in
    let test = c.loop-count-test.true in
    let may = may_pass c.args.payload.now c.args.at.now c.args.place.now c.in-Some.field-0 c.before_sync.result c.min-few.result c.requires.ok (λ i. search rules) c.in-Some.is (c.if-not-are_over.ensures refl) before.inside before.before (omega (arith, few)) in
    let left = some_left_on c.args.payload.now c.args.at.now c.args.description c.args.place.now c.min-few.result c.loop-count.chunk c.loop-count.count may test c.loop-count.invariant.on in
    omega (arith, some, test, left)

pub loop-count-preserved : goal.loop-count-preserved
loop-count-preserved c =
    let before = c.before_sync.ensures in
    let few = c.min-few.ensures in
    let some = c.min-some.ensures in
    let test = c.loop-count-test.true in
    let i = c.loop-count.invariant in
    let s = c.pass_samples.ensures in
    let may = may_pass c.args.payload.now c.args.at.now c.args.place.now c.in-Some.field-0 c.before_sync.result c.min-few.result c.requires.ok (λ i. search rules) c.in-Some.is (c.if-not-are_over.ensures refl) before.inside before.before (omega (arith, few)) in
    let left = some_left_on c.args.payload.now c.args.at.now c.args.description c.args.place.now c.min-few.result c.loop-count.chunk c.loop-count.count may test i.on in
    let same = rw c.bytes_of-bytes.ensures.is at s.same in
    record {
      on = samples_on c.args.payload.now c.args.at.now c.args.description c.args.place.now c.min-few.result c.loop-count.chunk c.pass_samples.new.place c.loop-count.count c.min-some.result may (omega (arith, some, test)) (omega (arith, some, test, left)) (omega (arith, some))
          c.if-chunk-description.true i.on same s.settled s.place;
      few = omega (arith, some, test);
      opened = omega (arith, i.opened, s.on.0);
      row = omega (arith, i.row, s.on.1);
    }

pub pass_many-requires-clause-within : goal.pass_many-requires-clause-within
pass_many-requires-clause-within c = duration_within c.args.payload.now c.args.at.now c.args.place.now c.requires.place

pub pass_many-requires-clause-many : goal.pass_many-requires-clause-many
pass_many-requires-clause-many c = durations_come c.args.payload.now c.args.at.now c.args.place.now c.loop-count.count c.requires.ok c.requires.place c.loop-count.invariant.on.place.within

pub pass_many-requires-2-clause-within : goal.pass_many-requires-2-clause-within
pass_many-requires-2-clause-within c = offset_within c.args.payload.now c.args.at.now c.args.place.now c.offset_rows.result c.requires.place c.offset_rows.ensures

pub pass_many-requires-2-clause-many : goal.pass_many-requires-2-clause-many
pass_many-requires-2-clause-many c = offsets_come c.args.payload.now c.args.at.now c.offset_rows.result c.args.place.now c.loop-count.count c.requires.ok c.requires.place c.loop-count.invariant.on.place.within c.offset_rows.ensures

pub returns-clause-place : goal.returns-clause-place
returns-clause-place c =
    let d = c.pass_many.ensures in
    let o = c.pass_many-2.ensures in
    placed_on c.args.payload.now c.args.at.now c.args.description c.args.place.now c.loop-count.count c.pass_many.result c.offset_rows.result c.pass_many.new.place c.pass_many-2.new.place c.loop-count.chunk
    c.loop-count.invariant.on c.requires.place c.offset_rows.ensures d.sum d.next d.settled d.within o.next o.settled o.within
