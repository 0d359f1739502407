use Rattle.std.proofs.Common.{◌≡◌, map, take}
use Rattle.mp4_content.specs.words.Delays.{later_than}
use Rattle.mp4_content.proofs.lead_ins.delays_from.Given as goal

-- those of the first ones are found
abbrev pub invariant-loop-k : goal.invariant-loop-k
invariant-loop-k l = l.delays.items ≡ map (later_than l.timescale l.first) (take l.k l.beginnings)
