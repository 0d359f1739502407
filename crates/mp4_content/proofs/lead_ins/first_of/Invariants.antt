use Rattle.std.proofs.Common.{take}
use Rattle.mp4_content.proofs.FirstBeginnings.{IsEarliest}
use Rattle.mp4_content.proofs.lead_ins.first_of.Given as goal

-- it is the first so far
abbrev pub invariant-loop-k : goal.invariant-loop-k
invariant-loop-k l = IsEarliest l.timescale (take l.k l.beginnings) l.first
