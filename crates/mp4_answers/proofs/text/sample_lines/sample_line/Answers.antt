use Rattle.mp4_answers.proofs.LineParts.{plain_lines}
use Rattle.mp4_answers.proofs.text.sample_lines.sample_line.Goals as goal

pub returns-in-Plain-clause-written : goal.returns-in-Plain-clause-written
returns-in-Plain-clause-written c = rw (plain_lines c.args.form c.in-Plain.is c.args.number c.args.fragment c.args.sample.now) c.plain_line.ensures.written
