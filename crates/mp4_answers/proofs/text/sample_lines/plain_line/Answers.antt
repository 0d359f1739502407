use Rattle.std.proofs.Common.{rules, ◌≡◌, to_z, of_z, w32, append_assoc}
use Rattle.mp4_answers.proofs.text.sample_lines.plain_line.Goals as goal

pub returns-clause-written : goal.returns-clause-written
returns-clause-written c =
    let s = c.args.sample.now in
    let cto : to_z w32 (of_z w32 s.cto) ≡ s.cto = search rules in
    let sum = rw cto at c.write_kept_sum-start.ensures.written in
    rw (
      c.write_cached_number.ensures.written,
      c.write_byte-start-6.ensures.written,
      c.write_cached_number-start.ensures.written,
      c.write_byte-start-5.ensures.written,
      sum,
      c.write_byte-start-4.ensures.written,
      c.write_short_digits-start-2.ensures.written,
      c.write_byte-start-3.ensures.written,
      c.write_text-start.ensures.written,
      c.text.ensures,
      c.renew.ensures.flags,
      c.renew.ensures.description,
      c.write_byte-start-2.ensures.written,
      c.write_short_digits-start.ensures.written,
      c.write_byte-start.ensures.written,
    )
    (simp append_assoc)
