use Rattle.std.proofs.Common.{rules, ◌≡◌, ◌<◌, ◌≤◌, length, get_or, arith, subst}
use Rattle.mp4_store.specs.words.Parts.{ends_of}
use Rattle.mp4_store.proofs.Parts.{length-ends_of, ends_of-rise, placed, all_before, begins}
use Rattle.mp4_store.proofs.joined.place_in.Goals as goal

pub part_behind-part-requires : goal.part_behind-part-requires
part_behind-part-requires c = rw c.requires.1 (ends_of-rise c.requires.0 0)

pub returns-then-part-ends-clause-none : goal.returns-then-part-ends-clause-none
returns-then-part-ends-clause-none c = λ _ parts e.
    let n = length-ends_of parts 0 in
    let all : c.part_behind-part.result ≡ length (ends_of 0 parts) = rw e at c.if-part-ends.true in
    all_before parts c.args.at (λ k h. subst (λ l. get_or l k 0 ≤ c.args.at) e (c.part_behind-part.ensures.before k 0 (omega arith) (omega (arith, h, n, all))))

pub overflow_sub-result : goal.overflow_sub-result
overflow_sub-result c =
    let parts = c.requires.0 in
    let e = c.requires.1 in
    let i = c.part_behind-part.result in
    let n = length-ends_of parts 0 in
    let le : i ≤ length (ends_of 0 parts) = rw e at c.part_behind-part.ensures.within in
    rw (c.begin_of.ensures parts e) (begins parts c.args.at i (omega (arith, n, le)) (λ k d lo hi. subst (λ l. get_or l k d ≤ c.args.at) e (c.part_behind-part.ensures.before k d lo hi)))

pub returns-clause-some : goal.returns-clause-some
returns-clause-some c = λ parts e.
    let i = c.part_behind-part.result in
    let n = length-ends_of parts 0 in
    let some : i < length c.args.ends.now = search rules in
    let within : i < length parts = subst (λ k. i < k) n (subst (λ l. i < length l) e some) in
    let before = begins parts c.args.at i (omega (arith, within)) (λ k d lo hi. subst (λ l. get_or l k d ≤ c.args.at) e (c.part_behind-part.ensures.before k d lo hi)) in
    let behind = c.part_behind-part.ensures.behind i 0 (omega arith) some in
    let begin = c.begin_of.ensures parts e in
    placed parts c.args.at i c.begin_of.result within begin (rw begin before) (subst (λ l. c.args.at < get_or l i 0) e behind)
