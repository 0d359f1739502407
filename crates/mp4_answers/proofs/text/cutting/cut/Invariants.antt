use Rattle.std.proofs.Common.{◌≡◌, ◌==◌, false, take}
use Rattle.std.specs.List.{list_any}
use Rattle.mp4_answers.proofs.text.cutting.cut.Given as goal

-- no byte before this one is the one that is looked for
abbrev pub invariant-loop-k : goal.invariant-loop-k
invariant-loop-k l = list_any (λ b. b == l.at) (take l.k l.word) ≡ false
