use Rattle.std.proofs.Common.{flat_map, take}
use Rattle.mp4_answers.specs.words.Telling.{said_line}
use Rattle.mp4_present.specs.words.Latches.{Goes}
use Rattle.mp4_answers.proofs.text.named_lines.put_all_named.Given as goal

-- those so far are taken along
abbrev pub invariant-loop-named : goal.invariant-loop-named
invariant-loop-named g l = Goes g.K.Sink l.fn.latch l.latch (flat_map said_line (take l.named-index l.all))
