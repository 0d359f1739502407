use Rattle.std.proofs.Common.{◌≡◌, ◌∙◌, ap, sym, subst, refl, to_z, of_z, rules, arith}
use Rattle.std.specs.Int.{w128}
use Rattle.mp4_tables.specs.words.Keys.{keys_seen}
use Rattle.mp4_frag.specs.words.ColumnsRead.{row_room}
use Rattle.mp4_frag.specs.words.Walks.{at_first}
use Rattle.mp4_frag.specs.declared.places.RowPlace.{RowPlace}
use Rattle.mp4_frag.proofs.Comings.{begun, not_begun}
use Rattle.mp4_frag.proofs.RowsLeft.{none_fit}
use Rattle.mp4_frag.proofs.WalkWork.{work_opened, work_none}
use Rattle.mp4_frag.proofs.traf_samples.begin_traf.Goals as goal

pub settle-requires : goal.settle-requires
settle-requires c =
    let first = c.first_place-place.ensures.first in
    let o = c.open_traf.ensures in
    let p = c.open_traf.new.place in
    let left : p.run.left ≡ 0 = ap (λ (r : RowPlace). r.left) o.same.1 ∙ first.1 in
    let row : p.run.row ≡ 0 = ap (λ (r : RowPlace). r.row) o.same.1 ∙ first.2 in
    let next : p.next ≡ 0 = o.same.0 ∙ first.0 in
    record {
      next = omega (arith, next);
      rows = none_fit c.args.payload.now p.run row left;
      width = subst (λ (r : RowPlace). r.width ≡ row_room r.bits) (sym o.same.1) c.first_place-place.ensures.width;
      indexes = o.indexes;
      number = omega (arith, left);
      work = rw (left, next) (work_opened c.args.payload.now _ p.passed first.3 o.work);
    }

pub returns-then-open_traf-clause-coming : goal.returns-then-open_traf-clause-coming
returns-then-open_traf-clause-coming c =
    let payload = c.args.payload.now in
    let first = c.first_place-place.ensures.first in
    let o = c.open_traf.ensures in
    let kept : to_z w128 (of_z w128 c.args.from.base) ≡ c.args.from.base = search rules in
    begun payload c.args.from.base c.args.id c.args.trex c.args.from.number c.args.from.dts (keys_seen c.args.keys) c.first_place-place.result c.open_traf.new.place c.settle.new.place
    (c.first_place-place.ensures.reached payload ∙ ap (λ z. at_first z c.args.from.number c.args.from.dts) kept) (ap (λ (r : RowPlace). r.left) o.same.1 ∙ first.1) (o.same.0 ∙ first.0) (sym o.named ∙ c.if-open_traf.true) o.reached c.settle.ensures.coming

pub returns-else-open_traf-clause-place : goal.returns-else-open_traf-clause-place
returns-else-open_traf-clause-place c =
    let first = c.first_place-place.ensures.first in
    let o = c.open_traf.ensures in
    let p = c.open_traf.new.place in
    let left : p.run.left ≡ 0 = ap (λ (r : RowPlace). r.left) o.same.1 ∙ first.1 in
    let row : p.run.row ≡ 0 = ap (λ (r : RowPlace). r.row) o.same.1 ∙ first.2 in
    record {
      lies = record {
        next = omega arith;
        rows = none_fit c.args.payload.now p.run row left;
        width = subst (λ (r : RowPlace). r.width ≡ row_room r.bits) (sym o.same.1) c.first_place-place.ensures.width;
        indexes = o.indexes;
        number = omega (arith, left);
        work = rw left (work_none c.args.payload.now _ p.passed _ first.3 o.work refl);
      };
      settled = λ _. refl;
    }

pub returns-else-open_traf-clause-coming : goal.returns-else-open_traf-clause-coming
returns-else-open_traf-clause-coming c =
    let first = c.first_place-place.ensures.first in
    let o = c.open_traf.ensures in
    not_begun c.args.payload.now c.args.from.base c.args.id c.args.trex c.args.from.number c.args.from.dts (keys_seen c.args.keys) _ (ap (λ (r : RowPlace). r.left) o.same.1 ∙ first.1) refl (sym o.named ∙ c.if-open_traf.false)

pub open_traf-requires : goal.open_traf-requires
open_traf-requires c = record { indexes = c.first_place-place.ensures.indexes c.args.payload.now }
