use Rattle.std.proofs.Common.{rules}
use Rattle.mp4_answers.proofs.PlainNames.{behind_two, escape_first, other_first}
use Rattle.mp4_answers.proofs.text.plain_names.plain_first.Goals as goal
use Rattle.mp4_answers.proofs.text.plain_names.plain_first.Goals.{in_default-via-in-0+then-rest-lt2, in_default-via-in_default}

pub returns-in-0-len2-up-clause-byte : goal.returns-in-0-len2-up-clause-byte
returns-in-0-len2-up-clause-byte c =
    rw (c.in-0-len2-up.is-0, c.digit_of.ensures.value, c.digit_of-in-0-len2-up.ensures.value, behind_two c.args.rest.now) (escape_first c.args.rest.now c.in-0-len2-up.len_at_least)

pub returns-in_default-clause-byte : goal.returns-in_default-clause-byte
returns-in_default-clause-byte c =
    elim c.in_default.branch [
      | in_default-via-in-0+then-rest-lt2 w ↦ other_first c.args.first c.args.rest.now (λ zero. search rules)
      | in_default-via-in_default w ↦ other_first c.args.first c.args.rest.now (λ is. absurd (w.in_default.is-0.1 is))
    ]
