use Rattle.std.proofs.Common.{◌≤◌, ◌+◌, rules, of_calls, leb, leb-true, leb-false, le_refl, get_or, arith}
use Rattle.std.proofs.lemmas.Fn.{always_returns_same}
use Rattle.std.proofs.lemmas.List.Sorted.{IsPartitionedBy-leb}
use Rattle.mp4_store.proofs.laid.first_from.Goals as goal

pub returns-in-Some-clause-before : goal.returns-in-Some-clause-before
returns-in-Some-clause-before c =
    let before = c.in-Some.before in
    let parted = IsPartitionedBy-leb (λ n. n) _ before c.requires in
    let point = c.partition_point.ensures.partitioned (λ n. leb n before) (always_returns_same _ _ _ (λ a r f k. search (rules, of_calls))) parted in
    let less : before + 4 ≤ c.args.at = search rules in
    λ k d lo hi. let le = leb-true _ _ (point.0 k d lo hi) in omega (arith, le, less)

pub returns-in-Some-clause-first : goal.returns-in-Some-clause-first
returns-in-Some-clause-first c = λ lt.
    let before = c.in-Some.before in
    let parted = IsPartitionedBy-leb (λ n. n) _ before c.requires in
    let point = c.partition_point.ensures.partitioned (λ n. leb n before) (always_returns_same _ _ _ (λ a r f k. search (rules, of_calls))) parted in
    let place = get_or c.args.places.now c.partition_point.result 0 in
    let more = leb-false place before (point.1 c.partition_point.result 0 (le_refl c.partition_point.result) lt) in
    let up : c.args.at ≤ before + 4 = search rules in
    omega (arith, more, up)
