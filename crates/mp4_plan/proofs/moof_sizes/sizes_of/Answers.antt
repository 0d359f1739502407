use Rattle.std.proofs.Common.{◌+◌, ◌*◌, ◌≤◌, length, arith, mul-le-mul_right}
use Rattle.mp4_tables.specs.words.Keys.{keys_seen}
use Rattle.mp4_plan.proofs.SizesSmall.{groups_small}
use Rattle.mp4_plan.proofs.moof_sizes.sizes_of.Goals as goal

pub returns-clause-small : goal.returns-clause-small
returns-clause-small c few rows =
    let n = c.args.planned.now.count in
    let keys = keys_seen c.args.keys.now in
    let groups = groups_small c.args.planned.now.group_rows 0 n keys rows in
    let is = c.groups_size.ensures.is in
    let scaled : c.row_size.result * n ≤ 16 * n = mul-le-mul_right n c.row_size.ensures.small in
    let all : length keys * (24 + 8 * n) ≤ 4 * (24 + 8 * n) = mul-le-mul_right (24 + 8 * n) c.groups_size.ensures.four in
    let count = c.from.ensures in
    let a = c.from-2.ensures in
    let b = c.from-3.ensures in
    rw count (omega (arith, few, groups, is, scaled, all, a, b))
