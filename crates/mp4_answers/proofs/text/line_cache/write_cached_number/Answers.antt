use Rattle.std.proofs.Common.{rules, ◌≡◌, ◌+◌, ◌-◌, ◌/◌, ◌%◌, append_assoc, arith}
use Rattle.mp4_answers.proofs.Decimals.{decimal_four}
use Rattle.mp4_answers.proofs.text.line_cache.write_cached_number.Goals as goal

pub returns-clause-written : goal.returns-clause-written
returns-clause-written c =
    let many = c.if-number-lt10000.false in
    let n = c.args.number in
    let k = c.renew.new.self in
    let round = k.round in
    let below = c.renew.ensures.below in
    let near = c.renew.ensures.near in
    let first : k.base / 10000 ≡ n / 10000 = omega arith in
    let last : n - k.base ≡ n % 10000 = omega arith in
    let back : c.args.end - 4 + 4 ≡ c.args.end = search rules in
    rw (c.write_text.ensures.written, k.spelled, c.write_four.ensures, first, last, back, decimal_four n (search rules) (search rules)) (simp append_assoc)
