use Rattle.std.proofs.Common.{rules, of_calls, leb, leb-true, leb-false}
use Rattle.std.proofs.lemmas.Fn.{always_returns_same}
use Rattle.std.proofs.lemmas.List.Sorted.{IsPartitionedBy-leb}
use Rattle.mp4_store.proofs.joined.part_behind.Goals as goal

pub returns-clause-before : goal.returns-clause-before
returns-clause-before c =
    let parted = IsPartitionedBy-leb (λ n. n) _ c.args.at c.requires in
    let point = c.partition_point.ensures.partitioned (λ n. leb n c.args.at) (always_returns_same _ _ _ (λ a r f k. search (rules, of_calls))) parted in
    λ k d lo hi. leb-true _ _ (point.0 k d lo hi)

pub returns-clause-behind : goal.returns-clause-behind
returns-clause-behind c =
    let parted = IsPartitionedBy-leb (λ n. n) _ c.args.at c.requires in
    let point = c.partition_point.ensures.partitioned (λ n. leb n c.args.at) (always_returns_same _ _ _ (λ a r f k. search (rules, of_calls))) parted in
    λ k d lo hi. leb-false _ _ (point.1 k d lo hi)
