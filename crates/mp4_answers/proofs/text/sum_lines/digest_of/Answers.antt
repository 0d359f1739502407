use Rattle.std.proofs.Common.{rules, ◌≡◌, ◌∙◌, ◌<◌, length, slice_index, Some, ap, arith}
use Rattle.mp4_answers.proofs.SumsRead.{byte_read, hex_length, set_more, some_is, spelled_at, whole_same}
use Rattle.mp4_answers.proofs.text.sum_lines.digest_of.Goals as goal

pub returns-then-digits-ne-DIGITS : goal.returns-then-digits-ne-DIGITS
returns-then-digits-ne-DIGITS c digest bytes len is =
    let n = ap length is in
    let other = c.if-digits-ne-DIGITS.true in
    absurd (omega (arith, other, n, hex_length digest, len))

pub returns-in_err-digest : goal.returns-in_err-digest
returns-in_err-digest c digest bytes len is =
    let here : c.loop-at.at < length digest = search (rules, len) in
    let read = c.byte_of.ensures ∙ byte_read _ _ (slice_index digest c.loop-at.at) (spelled_at c.args.digits.now digest c.loop-at.at is bytes here) in
    let none = c.in_err-digest.was in
    absurd cc

pub loop-at-preserved : goal.loop-at-preserved
loop-at-preserved c =
    let i = c.loop-at.invariant in
    record {
      len = search rules;
      read = λ digest bytes len is.
          let here : c.loop-at.at < length digest = search (rules, len) in
          let there : c.loop-at.at < length c.loop-at.digest = search (rules, i.len) in
          let read = c.byte_of.ensures ∙ byte_read _ _ (slice_index digest c.loop-at.at) (spelled_at c.args.digits.now digest c.loop-at.at is bytes here) in
          let was = c.in_ok-digest.was in
          let value : c.in_ok-digest.field-0 ≡ slice_index digest c.loop-at.at = some_is _ _ c.byte_of.result was read in
          set_more c.loop-at.digest digest c.loop-at.at c.in_ok-digest.field-0 there here (i.read digest bytes len is) value;
    }

pub returns : goal.returns
returns c digest bytes len is =
    let i = c.loop-at.invariant in
    let end = c.loop-at-test.false in
    let long = i.len in
    ap Some (whole_same c.loop-at.digest digest c.loop-at.at (omega (arith, end, long)) (omega (arith, end, len)) (i.read digest bytes len is))
