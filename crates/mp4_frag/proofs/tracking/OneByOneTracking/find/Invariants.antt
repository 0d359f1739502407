use Rattle.std.proofs.Common.{◌≡◌, ◌+◌, None, take}
use Rattle.mp4_frag.specs.words.Finding.{track_with}
use Rattle.mp4_frag.proofs.tracking.OneByOneTracking.find.Given as goal

-- no track so far has the ID, and each was looked at
abbrev pub invariant-loop-k : goal.invariant-loop-k
invariant-loop-k g l =
    record {
      none : track_with l.id (take l.k l.tracks) ≡ None;
      looks : l.steps.looks ≡ l.fn.steps.looks + l.k;
      passed : l.steps.passed ≡ l.fn.steps.passed;
    }
