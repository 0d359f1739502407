-- The line that tells of a difference, with when the sample that it is of is decoded.
use Rattle.std.specs.Prelude.{ℕ, max, List, [], ◌++◌, Option, None, Some}
use Rattle.mp4_content.specs.declared.comparing.differences.DecodeTime.{DecodeTime}
use Rattle.mp4_content.specs.declared.comparing.differences.Difference.{Difference}
use Rattle.mp4_answers.specs.format.AlignedLine.{seconds_text}
use Rattle.mp4_answers.specs.format.DifferenceLine.{difference_text}
use Rattle.mp4_answers.specs.format.Texts.{line_feed}

-- in seconds, as where tracks are aligned; nothing where it is of no sample
abbrev pub timed_text : Option DecodeTime → List ℕ
timed_text None = []
timed_text (Some t) = seconds_text t.time (max 1 t.timescale)

abbrev pub timed_line : Option DecodeTime → Difference → List ℕ
timed_line time d = difference_text d ++ timed_text time ++ line_feed
