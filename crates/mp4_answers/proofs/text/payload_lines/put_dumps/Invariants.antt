use Rattle.std.proofs.Common.{ℕ, ◌≡◌, ◌+◌, ◌/◌, List, ◌++◌, length}
use Rattle.mp4_present.specs.words.Latches.{Goes}
use Rattle.mp4_answers.specs.format.Text.{dump_lines}
use Rattle.mp4_answers.proofs.text.payload_lines.put_dumps.Given as goal

-- the lines so far are taken along
abbrev pub invariant-loop-left : goal.invariant-loop-left
invariant-loop-left g l =
    record {
      done : List ℕ;
      told : Goes g.K.Sink l.fn.latch l.latch done;
      whole : dump_lines ((length l.bytes + 15) / 16) l.bytes ≡ done ++ dump_lines l.left l.rest;
    }

abbrev pub decreases-loop-left : goal.decreases-loop-left
decreases-loop-left g l = l.left
