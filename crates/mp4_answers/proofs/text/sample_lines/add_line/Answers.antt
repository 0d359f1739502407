use Rattle.std.proofs.Common.{rules}
use Rattle.mp4_answers.specs.format.Texts.{sample_at_line}
use Rattle.mp4_answers.proofs.Fronts.{line_front}
use Rattle.mp4_answers.proofs.text.sample_lines.add_line.Goals as goal

pub returns : goal.returns
returns c =
    let a = c.args in
    let w = c.sample_line-start in
    rw (c.push_front.ensures, c.split_at.ensures.back, line_front w.new.text a.text.now (sample_at_line a.form a.number a.fragment a.sample.now) w.result 296 w.ensures.written (search rules) (search rules) w.ensures.before)
