use Rattle.std.proofs.Common.{◌≡◌, ◌+◌, length, ap, subst, arith, List, ℕ}
use Rattle.mp4_tables.specs.declared.sample.SampleAt.{SampleAt}
use Rattle.mp4_frag.specs.words.FragmentsSeen.{CursorSeen}
use Rattle.mp4_frag.specs.words.PlacesIn.{IsPlaceIn, traf_work}
use Rattle.mp4_frag.specs.words.Times.{lasting}
use Rattle.mp4_frag.specs.words.Walks.{coming}
use Rattle.mp4_frag.proofs.Comings.{none_to_come}
use Rattle.mp4_frag.proofs.DurationsKept.{as_many, counted_on}
use Rattle.mp4_frag.proofs.WalkBound.{walk_said}
use Rattle.mp4_frag.proofs.traf_cursor.TrafCursor.counts.Goals as goal

pub returns-then-place-most-clause-many : goal.returns-then-place-most-clause-many
returns-then-place-most-clause-many c =
    let rows = as_many c.args.self.now.payload c.loop-place.place in
    omega (arith, c.loop-place.invariant.count, rows, c.loop-place.invariant.few, c.if-place-most.true)

pub returns-clause-samples : goal.returns-clause-samples
returns-clause-samples c =
    let p = c.loop-place.place in
    let i = c.loop-place.invariant in
    let none : p.run.left ≡ 0 = omega (arith, c.loop-place-test.false) in
    let over = none_to_come c.args.self.now.payload p none (i.place.settled none) in
    omega (arith, i.count, ap (λ (samples : List SampleAt). length samples) over)

pub returns-clause-duration : goal.returns-clause-duration
returns-clause-duration c =
    let p = c.loop-place.place in
    let i = c.loop-place.invariant in
    let none : p.run.left ≡ 0 = omega (arith, c.loop-place-test.false) in
    let over = none_to_come c.args.self.now.payload p none (i.place.settled none) in
    omega (arith, i.duration, i.small, ap lasting over)

pub returns-clause-said : goal.returns-clause-said
returns-clause-said c traf same =
    let work = c.loop-place.invariant.place.lies.work in
    omega (arith, work, ap traf_work same, walk_said traf)

-- what one turn of the loop counts
abbrev turn : (c : goal.After-settle) → (length (coming c.args.self.now.payload c.loop-place.place) ≡ c.loop-place.place.run.left + length (coming c.args.self.now.payload c.settle.new.place))
    × (lasting (coming c.args.self.now.payload c.loop-place.place) ≡ c.leave_run.result + lasting (coming c.args.self.now.payload c.settle.new.place))
turn c =
    let s = c.args.self.now in
    let here : c.self.inside.payload.now ≡ s.payload = ap (λ (v : CursorSeen). v.payload) c.self.view_is in
    let both = counted_on s.payload c.self.inside.payload.now c.loop-place.place c.leave_run.new.place c.settle.new.place here c.leave_run.ensures.coming c.settle.ensures.coming in
    (both.0, omega (arith, both.1, c.leave_run.ensures.lasting))

pub loop-place-smaller : goal.loop-place-smaller
loop-place-smaller c = omega (arith, (turn c).0, c.loop-place-test.true)

pub loop-place-preserved : goal.loop-place-preserved
loop-place-preserved c =
    let i = c.loop-place.invariant in
    let counted = (turn c).0 in
    let lasted = (turn c).1 in
    let here : c.self.inside.payload.now ≡ c.args.self.now.payload = ap (λ (v : CursorSeen). v.payload) c.self.view_is in
    record {
      place = subst (λ (b : List ℕ). IsPlaceIn b c.settle.new.place) here c.settle.ensures.place;
      count = omega (arith, counted, i.count);
      few = omega (arith, i.few, c.if-place-most.false);
      duration = omega (arith, lasted, i.duration, c.saturating_add-duration.ensures);
      small = omega (arith, c.saturating_add-duration.ensures);
    }
