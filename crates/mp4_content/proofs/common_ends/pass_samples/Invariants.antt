use Rattle.std.proofs.Common.{◌-◌, ◌≡◌, ◌≤◌, drop}
use Rattle.mp4_present.specs.words.Movies.{IsWalkOf}
use Rattle.mp4_present.specs.words.SamplesComing.{Comes}
use Rattle.mp4_present.specs.words.TrackWalks.{WhereComes, WhereMayTake}
use Rattle.mp4_present.specs.words.WalkSteps.{TakesOn}
use Rattle.mp4_content.proofs.common_ends.pass_samples.Given as goal

-- the samples behind those that were passed come, and the walk may take the other steps
abbrev pub invariant-loop-passed : goal.invariant-loop-passed
invariant-loop-passed g l = record {
  within : l.passed ≤ l.count;
  honesty : g.S.Store.is_honest l.store ≡ g.S.Store.is_honest l.fn.store;
  file : g.S.Store.file l.store ≡ g.S.Store.file l.fn.store;
  reads : g.S.Store.read_failures l.store ≡ g.S.Store.read_failures l.fn.store;
  looks : l.steps.looks ≡ l.fn.steps.looks;
  grows : l.fn.steps.passed ≤ l.steps.passed;
  walk : IsWalkOf l.movie l.walk;
  coming : WhereComes g.S.Store l.fn.store l.movie l.fn.walk (λ file tree t samples. Comes file tree t l.movie l.walk (drop l.passed samples));
  takes : WhereMayTake g.S.Store l.fn.store l.movie l.fn.walk (λ file tree t n. TakesOn file tree t n l.walk l.fn.steps.passed l.steps.passed);
}

abbrev pub decreases-loop-passed : goal.decreases-loop-passed
decreases-loop-passed g l = l.count - l.passed
