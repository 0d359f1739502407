use Rattle.std.proofs.Common.{◌≡◌, ◌-◌, ◌≤◌, ◌+◌, ℕ, List}
use Rattle.std.specs.Prelude.{IsTrue}
use Rattle.mp4_tables.specs.declared.sample.SampleAt.{SampleAt}
use Rattle.mp4_head.specs.format.Tree.{TrackTree}
use Rattle.mp4_present.specs.words.Movies.{IsWalkOf}
use Rattle.mp4_present.specs.words.SamplesComing.{Comes}
use Rattle.mp4_present.specs.words.WalkSteps.{MayTake}
use Rattle.mp4_content.specs.words.Compared.{BothTakeOn, WhereBothOpened}
use Rattle.mp4_content.specs.words.Windows.{Shows}
use Rattle.mp4_content.proofs.LastPairs.{LastGoes}
use Rattle.mp4_content.proofs.common_ends.last_different.Given as goal

-- both walks go on, both windows show their files, and the last pair that differs is known of those that were compared
abbrev pub invariant-loop-number : goal.invariant-loop-number
invariant-loop-number g l = record {
  within : l.number ≤ l.count;
  few : l.last ≤ l.number;
  honesty : g.S.Store.is_honest l.left ≡ g.S.Store.is_honest l.fn.left;
  file : g.S.Store.file l.left ≡ g.S.Store.file l.fn.left;
  reads : g.S.Store.read_failures l.left ≡ g.S.Store.read_failures l.fn.left;
  honesty_right : g.T.Store.is_honest l.right ≡ g.T.Store.is_honest l.fn.right;
  file_right : g.T.Store.file l.right ≡ g.T.Store.file l.fn.right;
  reads_right : g.T.Store.read_failures l.right ≡ g.T.Store.read_failures l.fn.right;
  looks : l.steps.looks ≡ l.fn.steps.looks;
  grows : l.fn.steps.passed ≤ l.steps.passed;
  walk : IsWalkOf l.movies.left l.sides.left.walk;
  walk_right : IsWalkOf l.movies.right l.sides.right.walk;
  shows : IsTrue (g.S.Store.is_honest l.fn.left) → Shows (g.S.Store.file l.fn.left) l.sides.left.window;
  shows_right : IsTrue (g.T.Store.is_honest l.fn.right) → Shows (g.T.Store.file l.fn.right) l.sides.right.window;
  going : WhereBothOpened (g.S.Store.is_honest l.fn.left) (g.S.Store.file l.fn.left) l.movies.left (g.T.Store.is_honest l.fn.right) (g.T.Store.file l.fn.right) l.movies.right
      (λ tree other. (t u : TrackTree) (xs ys : List SampleAt) → Comes (g.S.Store.file l.fn.left) tree t l.movies.left l.fn.sides.left.walk xs → Comes (g.T.Store.file l.fn.right) other u l.movies.right l.fn.sides.right.walk ys
      → LastGoes l.by (g.S.Store.file l.fn.left) tree t l.movies.left xs (g.T.Store.file l.fn.right) other u l.movies.right ys l.last l.number l.sides.left.walk l.sides.right.walk);
  takes : WhereBothOpened (g.S.Store.is_honest l.fn.left) (g.S.Store.file l.fn.left) l.movies.left (g.T.Store.is_honest l.fn.right) (g.T.Store.file l.fn.right) l.movies.right
      (λ tree other. (t u : TrackTree) (p q : ℕ) → MayTake (g.S.Store.file l.fn.left) tree t l.fn.sides.left.walk p → MayTake (g.T.Store.file l.fn.right) other u l.fn.sides.right.walk q
      → BothTakeOn (g.S.Store.file l.fn.left) tree t l.sides.left.walk (g.T.Store.file l.fn.right) other u l.sides.right.walk (p + q) l.fn.steps.passed l.steps.passed);
}

abbrev pub decreases-loop-number : goal.decreases-loop-number
decreases-loop-number g l = l.count - l.number
