use Rattle.std.proofs.Common.{◌≡◌, ◌∙◌, ◌^◌, ◌<◌, ◌++◌, [], refl, to_z, of_z, arith, rules}
use Rattle.std.specs.Prelude.{pos}
use Rattle.std.specs.Int.{w128}
use Rattle.mp4_frag.specs.words.MoofWalks.{behind_samples, trafs_coming}
use Rattle.mp4_frag.specs.words.Walks.{boxes_from, coming}
use Rattle.mp4_frag.proofs.Comings.{none_to_come}
use Rattle.mp4_frag.proofs.MoofSteps.{none_behind}
use Rattle.mp4_frag.proofs.RowsLeft.{none_fit}
use Rattle.mp4_frag.proofs.WalkWork.{work_opened}
use Rattle.mp4_frag.proofs.moof_samples.first_place.Goals as goal

pub returns-clause-place : goal.returns-clause-place
returns-clause-place c payload =
    let p = c.first_place.result in
    let e = c.first_place.ensures in
    let first = e.first in
    record {
      order = omega arith;
      within = omega arith;
      next = omega arith;
      traf = record {
        lies = record {
          next = omega (arith, first.0);
          rows = none_fit [] p.run first.2 first.1;
          width = e.width;
          indexes = e.indexes [];
          number = omega (arith, first.1);
          work = rw (first.1, first.0) (work_opened [] 1 p.passed refl (omega (arith, first.3)));
        };
        settled = λ _. first.0;
      };
    }

pub returns-clause-coming : goal.returns-clause-coming
returns-clause-coming c payload w =
    let p = c.first_place.result in
    let first = c.first_place.ensures.first in
    let none = none_to_come [] p first.1 first.0 in
    let before : to_z w128 (of_z w128 c.from.result) ≡ pos c.args.moof = search rules in
    let time = c.first_place.ensures.time in
    let short : p.dts < 2 ^ 64 = search rules in
    let s : behind_samples 0 p.dts (coming [] p) (to_z w128 (of_z w128 c.from.result)) ≡ record { number = 0; dts = c.args.dts; before = pos c.args.moof } =
    none_behind 0 p.dts (coming [] p) _ none (omega arith) short ∙ (λ i. record { number = 0; dts = time i; before = before i }) in
    λ i. none i ++ trafs_coming w (s i) (boxes_from payload 0)
