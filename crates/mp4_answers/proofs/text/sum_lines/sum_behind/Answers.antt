use Rattle.std.proofs.Common.{arith, ◌∙◌}
use Rattle.mp4_answers.proofs.ListedLines.{digits_there, line_long, name_read, rest_there, same_digest}
use Rattle.mp4_answers.proofs.text.sum_lines.sum_behind.Goals as goal

pub returns-then-line-clause-sum : goal.returns-then-line-clause-sum
returns-then-line-clause-sum c digest spelled name bytes len some is said =
    let long = line_long c.args.line.now digest spelled len some is in
    let short = c.if-line.true in
    absurd (omega (arith, long, short))

pub returns-in_default-clause-sum : goal.returns-in_default-clause-sum
returns-in_default-clause-sum c digest spelled name bytes len some is said =
    c.in_default.ensures spelled (c.split_at.ensures.back ∙ rest_there c.args.line.now digest spelled len is)

pub returns-in_default-digest_of-clause-sum : goal.returns-in_default-digest_of-clause-sum
returns-in_default-digest_of-clause-sum c digest spelled name bytes len some is said =
    let none = c.in_default-digest_of.ensures digest bytes len (c.split_at.ensures.front ∙ digits_there c.args.line.now digest spelled len is) in
    absurd cc

pub returns-in-Some-2-clause-sum : goal.returns-in-Some-2-clause-sum
returns-in-Some-2-clause-sum c digest spelled name bytes len some is said =
    let found = c.in-Some.ensures spelled (c.split_at.ensures.back ∙ rest_there c.args.line.now digest spelled len is) in
    let read = name_read c.args.is_escaped c.in-Some.spelled.now spelled name c.in_ok-name.field-0 found said c.in_ok-name.ensures.plain c.in_ok-name.ensures.escaped in
    let own = rw c.in-Some-2.is at read in (
      same_digest c.in-Some-digest_of.digest digest (c.in-Some-digest_of.ensures digest bytes len (c.split_at.ensures.front ∙ digits_there c.args.line.now digest spelled len is)),
      own,
    )

pub returns-in-None-clause-sum : goal.returns-in-None-clause-sum
returns-in-None-clause-sum c digest spelled name bytes len some is said =
    let found = c.in-Some.ensures spelled (c.split_at.ensures.back ∙ rest_there c.args.line.now digest spelled len is) in
    let read = name_read c.args.is_escaped c.in-Some.spelled.now spelled name c.in_ok-name.field-0 found said c.in_ok-name.ensures.plain c.in_ok-name.ensures.escaped in
    rw c.in-None.is at read
