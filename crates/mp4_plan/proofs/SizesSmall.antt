-- A `moof` of at most 2^24 samples has at most 2^30 bytes.
use Rattle.std.proofs.Common.{ℕ, ◌+◌, ◌*◌, ◌^◌, ◌≤◌, Bool, true, false, List, [], ◌∷◌, length, slice_index, Option, Some, None, nat_lt, arith, mul-le-mul_right}
use Rattle.std.specs.Prelude.{if◌then◌else◌}
use Rattle.mp4_tables.specs.format.Groups.{GroupKey}
use Rattle.mp4_plan.specs.words.Sizes.{own_size, offset_size, row_size, group_size, groups_size, moof_sizes}
use Rattle.mp4_plan.specs.declared.planner.Planned.{Planned}

own_small : (o : Option ℕ) → own_size o ≤ 4
own_small None = omega arith
own_small (Some n) = omega arith

offset_small : (b : Bool) → offset_size b ≤ 4
offset_small true = omega arith
offset_small false = omega arith

row_small : (p : Planned) → row_size p ≤ 16
row_small p =
    let d = own_small p.duration in
    let s = own_small p.size in
    let f = own_small p.flags in
    let o = offset_small p.has_offsets in
    omega (arith, d, s, f, o)

one_small : (parameter : Option ℕ) (rows n : ℕ) (is_used : Bool) → rows ≤ n → (if is_used then group_size parameter rows else 0) ≤ 24 + 8 * n
one_small None rows n true le = omega (arith, le)
one_small (Some q) rows n true le = omega (arith, le)
one_small q rows n false le = omega arith

pub groups_small : (rows : List ℕ) (j n : ℕ) (keys : List GroupKey) → ((k : ℕ) → slice_index rows k ≤ n) → groups_size rows j keys ≤ length keys * (24 + 8 * n)
groups_small rows j n [] le = omega arith
groups_small rows j n (key ∷ keys) le =
    let first = one_small key.parameter (slice_index rows j) n (nat_lt 0 (slice_index rows j)) (le j) in
    let rest = groups_small rows (j + 1) n keys le in
    omega (arith, first, rest)

-- the sizes of a piece with few samples
pub moof_small : (p : Planned) (keys : List GroupKey) → p.count ≤ 2 ^ 24 → ((j : ℕ) → slice_index p.group_rows j ≤ p.count) → length keys ≤ 4 → (moof_sizes p keys).moof ≤ 2 ^ 30
moof_small p keys few le four =
    let row = row_small p in
    let groups = groups_small p.group_rows 0 p.count keys le in
    let rows : row_size p * p.count ≤ 16 * p.count = mul-le-mul_right p.count row in
    let all : length keys * (24 + 8 * p.count) ≤ 4 * (24 + 8 * p.count) = mul-le-mul_right (24 + 8 * p.count) four in
    omega (arith, few, groups, rows, all)
