use Rattle.std.proofs.Common.{◌≡◌, ◌++◌, take, true}
use Rattle.mp4_present.specs.format.Presentation.{Presentation}
use Rattle.mp4_content.specs.words.TimesTaken.{HaveTime, KeepsTimes}
use Rattle.mp4_content.proofs.comparing.hand_over.Given as goal

-- those in front of this place are taken, along with the decode time
abbrev pub invariant-loop-k : goal.invariant-loop-k
invariant-loop-k g l = record {
  goes : g.D.Differences.is_open l.seen ≡ true;
  taken : g.D.Differences.taken l.seen ≡ g.D.Differences.taken l.fn.seen ++ take l.k l.found;
  timed : (p : Presentation) → HaveTime p l.time l.found → KeepsTimes g.D.Differences l.fn.seen l.seen p;
}
