use Rattle.std.proofs.Common.{rules, ◌≡◌, drop, to_z, of_z, w32}
use Rattle.mp4_answers.proofs.LineParts.{json_fields_before}
use Rattle.mp4_answers.proofs.text.sample_lines.json_line.Goals as goal

pub returns-clause-written : goal.returns-clause-written
returns-clause-written c =
    let s = c.args.sample.now in
    let cto : to_z w32 (of_z w32 s.cto) ≡ s.cto = search rules in
    let sum = rw cto at c.write_kept_sum-start.ensures.written in
    rw (
      c.write_bytes.ensures.written,
      c.write_digits-start-4.ensures.written,
      c.write_bytes-start-9.ensures.written,
      sum,
      c.write_bytes-start-8.ensures.written,
      c.write_digits-start-3.ensures.written,
      c.write_bytes-start-7.ensures.written,
      c.write_short_digits-start-4.ensures.written,
      c.write_bytes-start-6.ensures.written,
      c.write_short_digits-start-3.ensures.written,
      c.write_bytes-start-5.ensures.written,
      c.write_short_digits-start-2.ensures.written,
      c.write_bytes-start-4.ensures.written,
      c.write_digits-start-2.ensures.written,
      c.write_bytes-start-3.ensures.written,
      c.write_digits-start.ensures.written,
      c.write_bytes-start-2.ensures.written,
      c.write_short_digits-start.ensures.written,
      c.write_bytes-start.ensures.written,
    )
    (json_fields_before c.args.number s.dts s.cto s.duration s.flags s.description s.size s.at c.args.fragment (drop c.args.end c.args.text.now))
