use Rattle.std.proofs.Common.{◌≡◌, ◌≤◌}
use Rattle.mp4_content.specs.words.Compared.{WhereBothOpened}
use Rattle.mp4_content.proofs.Aligned.{AlignsTo, HaveScales}
use Rattle.mp4_content.proofs.aligning.align_scaled.Given as goal

-- both files stay, and the pairs in front are aligned
abbrev pub invariant-loop-place : goal.invariant-loop-place
invariant-loop-place g l = record {
  honesty : g.S.Store.is_honest l.left ≡ g.S.Store.is_honest l.fn.left;
  file : g.S.Store.file l.left ≡ g.S.Store.file l.fn.left;
  reads : g.S.Store.read_failures l.left ≡ g.S.Store.read_failures l.fn.left;
  honesty_right : g.T.Store.is_honest l.right ≡ g.T.Store.is_honest l.fn.right;
  file_right : g.T.Store.file l.right ≡ g.T.Store.file l.fn.right;
  reads_right : g.T.Store.read_failures l.right ≡ g.T.Store.read_failures l.fn.right;
  looks : l.steps.looks ≡ l.fn.steps.looks;
  grows : l.fn.steps.passed ≤ l.steps.passed;
  going : WhereBothOpened (g.S.Store.is_honest l.fn.left) (g.S.Store.file l.fn.left) l.movies.left (g.T.Store.is_honest l.fn.right) (g.T.Store.file l.fn.right) l.movies.right
      (λ tree other. AlignsTo (HaveScales l.leaving (g.S.Store.file l.fn.left) tree (g.T.Store.file l.fn.right) other l.scales) l.leaving (g.S.Store.file l.fn.left) tree (g.T.Store.file l.fn.right) other l.place l.found.items l.fn.steps.passed l.steps.passed);
}
