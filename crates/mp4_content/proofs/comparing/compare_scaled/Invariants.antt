use Rattle.std.proofs.Common.{◌≡◌, ◌≤◌, true}
use Rattle.mp4_content.specs.words.Compared.{WhereBothOpened}
use Rattle.mp4_present.specs.format.Denotes.{presentation_of}
use Rattle.mp4_content.specs.words.Scales.{AreScales}
use Rattle.mp4_content.specs.words.TimesTaken.{KeepsTimes}
use Rattle.mp4_content.proofs.FilesCompared.{FilesGo}
use Rattle.mp4_content.proofs.comparing.compare_scaled.Given as goal

-- both files stay, a further difference is taken, and what differs in front was taken, along with decode times
abbrev pub invariant-loop-track : goal.invariant-loop-track
invariant-loop-track g l = record {
  honesty : g.S.Store.is_honest l.left ≡ g.S.Store.is_honest l.fn.left;
  file : g.S.Store.file l.left ≡ g.S.Store.file l.fn.left;
  reads : g.S.Store.read_failures l.left ≡ g.S.Store.read_failures l.fn.left;
  honesty_right : g.T.Store.is_honest l.right ≡ g.T.Store.is_honest l.fn.right;
  file_right : g.T.Store.file l.right ≡ g.T.Store.file l.fn.right;
  reads_right : g.T.Store.read_failures l.right ≡ g.T.Store.read_failures l.fn.right;
  goes : g.D.Differences.is_open l.seen ≡ true;
  looks : l.steps.looks ≡ l.fn.steps.looks;
  grows : l.fn.steps.passed ≤ l.steps.passed;
  going : WhereBothOpened (g.S.Store.is_honest l.fn.left) (g.S.Store.file l.fn.left) l.movies.left (g.T.Store.is_honest l.fn.right) (g.T.Store.file l.fn.right) l.movies.right
      (λ tree other. AreScales l.leaving (g.S.Store.file l.fn.left) tree l.scales.left → AreScales l.leaving (g.T.Store.file l.fn.right) other l.scales.right → FilesGo l.aligned l.leaving (g.S.Store.file l.fn.left) tree (g.T.Store.file l.fn.right) other l.track
      (g.D.Differences.taken l.fn.seen) (g.D.Differences.taken l.seen) l.fn.steps.passed l.steps.passed);
  timed : WhereBothOpened (g.S.Store.is_honest l.fn.left) (g.S.Store.file l.fn.left) l.movies.left (g.T.Store.is_honest l.fn.right) (g.T.Store.file l.fn.right) l.movies.right
      (λ tree other. AreScales l.leaving (g.S.Store.file l.fn.left) tree l.scales.left → AreScales l.leaving (g.T.Store.file l.fn.right) other l.scales.right → KeepsTimes g.D.Differences l.fn.seen l.seen (presentation_of (g.S.Store.file l.fn.left) tree));
}
