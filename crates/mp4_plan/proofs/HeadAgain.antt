-- How long a head and what stands behind it are.
use Rattle.std.proofs.Common.{◌≡◌, ℕ, ◌+◌, ◌-◌, ◌^◌, ◌≤◌, min, List, ◌++◌, length, arith, length-append}

pub both_long : (head behind : List ℕ) (n short len total : ℕ) → n ≡ length head → n ≤ 2 ^ 30 + 24 → short ≡ min n (2 ^ 30 + 24) → len ≡ length behind → len ≤ 2 ^ 57 → total ≡ min (len + short) (2 ^ 64 - 1) → total ≡ length (head ++ behind)
both_long head behind n short len total a b c d e f = let both = length-append head behind in omega (arith, a, b, c, d, e, f, both)
