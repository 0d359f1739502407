use Rattle.std.proofs.Common.{◌≡◌, ◌-◌, ◌≤◌, true}
use Rattle.std.specs.Prelude.{IsTrue}
use Rattle.mp4_content.specs.words.Compared.{WhereBothOpened, AtTracks}
use Rattle.mp4_present.specs.words.Movies.{IsWalkOf}
use Rattle.mp4_present.specs.format.Denotes.{presentation_of}
use Rattle.mp4_content.specs.words.TimesTaken.{KeepsTimes}
use Rattle.mp4_content.specs.words.Windows.{Shows}
use Rattle.mp4_content.proofs.TracksCompared.{PairsGo}
use Rattle.mp4_content.proofs.comparing.compare_track_samples.Given as goal

-- both walks go on, both windows show their files, a further difference is taken, and what differs in front was taken, along with decode times
abbrev pub invariant-loop-number : goal.invariant-loop-number
invariant-loop-number g l = record {
  within : l.number ≤ l.count;
  honesty : g.S.Store.is_honest l.left ≡ g.S.Store.is_honest l.fn.left;
  file : g.S.Store.file l.left ≡ g.S.Store.file l.fn.left;
  reads : g.S.Store.read_failures l.left ≡ g.S.Store.read_failures l.fn.left;
  honesty_right : g.T.Store.is_honest l.right ≡ g.T.Store.is_honest l.fn.right;
  file_right : g.T.Store.file l.right ≡ g.T.Store.file l.fn.right;
  reads_right : g.T.Store.read_failures l.right ≡ g.T.Store.read_failures l.fn.right;
  goes : g.D.Differences.is_open l.seen ≡ true;
  looks : l.steps.looks ≡ l.fn.steps.looks;
  grows : l.fn.steps.passed ≤ l.steps.passed;
  walk : IsWalkOf l.movies.left l.sides.left.walk;
  walk_right : IsWalkOf l.movies.right l.sides.right.walk;
  shows : IsTrue (g.S.Store.is_honest l.fn.left) → Shows (g.S.Store.file l.fn.left) l.sides.left.window;
  shows_right : IsTrue (g.T.Store.is_honest l.fn.right) → Shows (g.T.Store.file l.fn.right) l.sides.right.window;
  going : WhereBothOpened (g.S.Store.is_honest l.fn.left) (g.S.Store.file l.fn.left) l.movies.left (g.T.Store.is_honest l.fn.right) (g.T.Store.file l.fn.right) l.movies.right
      (λ tree other. AtTracks l.place tree other (λ t u.
      PairsGo l.by (g.S.Store.file l.fn.left) tree t l.movies.left (g.T.Store.file l.fn.right) other u l.movies.right l.number l.sides.left.walk l.sides.right.walk (g.D.Differences.taken l.fn.seen) (g.D.Differences.taken l.seen) l.fn.steps.passed l.steps.passed));
  timed : WhereBothOpened (g.S.Store.is_honest l.fn.left) (g.S.Store.file l.fn.left) l.movies.left (g.T.Store.is_honest l.fn.right) (g.T.Store.file l.fn.right) l.movies.right
      (λ tree other. AtTracks l.place tree other (λ t u. KeepsTimes g.D.Differences l.fn.seen l.seen (presentation_of (g.S.Store.file l.fn.left) tree)));
}

abbrev pub decreases-loop-number : goal.decreases-loop-number
decreases-loop-number g l = l.count - l.number
