use Rattle.std.proofs.Common.{◌≡◌, drop}
use Rattle.mp4_content.specs.words.SamePairs.{indexes_differ}
use Rattle.mp4_content.specs.declared.comparing.differences.Subject.{Subject}
use Rattle.mp4_content.proofs.comparing.same_pairs.have_same_indexes.Given as goal

-- nothing differs in front of this key
abbrev pub invariant-loop-k : goal.invariant-loop-k
invariant-loop-k l = (of : Subject)
    → indexes_differ of (drop l.k l.by.keys.items) l.by.left l.left l.by.right l.right
    ≡ indexes_differ of l.by.keys.items l.by.left l.left l.by.right l.right
