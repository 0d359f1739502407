use Rattle.std.proofs.Common.{rules, ◌≡◌, length}
use Rattle.std.specs.Prelude.{slice_index}
use Rattle.mp4_plan.proofs.Gatherings.{same_indexes}
use Rattle.mp4_plan.proofs.gathered.add_indexes.Goals as goal

pub returns-then-indexes-last-4 : goal.returns-then-indexes-last-4
returns-then-indexes-last-4 c =
    let g = c.args.gathered.now in
    let next = c.args.sample.now.groups in
    let four : length g.groups ≡ 4 = search rules in
    let last : length g.indexes ≡ 4 = search rules in
    let own : length next ≡ 4 = search rules in
    let a : slice_index next 0 ≡ slice_index g.indexes 0 = search rules in
    let b : slice_index next 1 ≡ slice_index g.indexes 1 = search rules in
    let d : slice_index next 2 ≡ slice_index g.indexes 2 = search rules in
    let e : slice_index next 3 ≡ slice_index g.indexes 3 = search rules in
    same_indexes g next c.requires.indexes four last own a b d e
