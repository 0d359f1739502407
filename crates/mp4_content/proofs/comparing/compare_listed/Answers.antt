use Rattle.std.proofs.Common.{rules, ◌≡◌, ◌++◌, arith}
use Rattle.std.proofs.lemmas.Result.{err_from_is_err_and}
use Rattle.mp4_content.specs.words.Compared.{TakesFront, files_listed}
use Rattle.mp4_content.specs.words.Scales.{AreScales}
use Rattle.mp4_content.proofs.FilesCompared.{of_same}
use Rattle.mp4_content.proofs.FirstBoxes.{if_ok}
use Rattle.mp4_content.proofs.TracksCompared.{takes_nothing}
use Rattle.mp4_content.proofs.comparing.compare_listed.Goals as goal

pub returns-in_err-scales-clause-handed : goal.returns-in_err-scales-clause-handed
returns-in_err-scales-clause-handed g c = record {
  goes = search rules;
  all = search rules;
  front = λ told told_right tree other o p. takes_nothing (g.D.Differences.taken c.args.seen.now) _;
}

pub returns-clause-handed : goal.returns-clause-handed
returns-clause-handed g c =
    let e = c.in_ok-scales.ensures in
    let m = c.args.movies.now.left in
    let n = c.args.movies.now.right in
    let l = c.args.leaving in
    let scales = c.in_ok-scales.scales in
    let before = g.D.Differences.taken c.args.seen.now in
    let after = g.D.Differences.taken c.compare_scaled.new.seen in
    record {
      goes = c.compare_scaled.ensures.handed.goes;
      all = if_ok _ _ c.compare_scaled.result (λ all given whole told told_right tree other o p.
          let s = e.scales told told_right tree other o p in
          of_same (λ x y. AreScales l x tree scales.left → AreScales l y other scales.right → after ≡ before ++ files_listed c.args.aligned l x tree y other) m n tree other _ _ _ _ _ _ _ _ e.stores.left.honesty e.stores.left.file e.stores.right.honesty e.stores.right.file
          (λ q r v w. given whole q r tree other v w) told told_right o p s.0 s.1)
          c.compare_scaled.ensures.handed.all;
      front = λ told told_right tree other o p.
          let s = e.scales told told_right tree other o p in
          of_same (λ x y. AreScales l x tree scales.left → AreScales l y other scales.right → TakesFront before after (files_listed c.args.aligned l x tree y other)) m n tree other _ _ _ _ _ _ _ _ e.stores.left.honesty e.stores.left.file e.stores.right.honesty e.stores.right.file
          (λ q r v w. c.compare_scaled.ensures.handed.front q r tree other v w) told told_right o p s.0 s.1;
    }

pub returns-clause-unchanged : goal.returns-clause-unchanged
returns-clause-unchanged g c told told_right tree other o p =
    let e = c.in_ok-scales.ensures in
    let s = e.scales told told_right tree other o p in
    (rw (e.stores.left.honesty, e.stores.left.file, e.stores.right.honesty, e.stores.right.file) at c.compare_scaled.ensures.unchanged) told told_right tree other o p s.0 s.1

pub returns-clause-work : goal.returns-clause-work
returns-clause-work g c told told_right tree other o p =
    let e = c.in_ok-scales.ensures in
    let s = e.scales told told_right tree other o p in
    let first = e.work told told_right tree other o p in
    let then = (rw (e.stores.left.honesty, e.stores.left.file, e.stores.right.honesty, e.stores.right.file) at c.compare_scaled.ensures.work) told told_right tree other o p s.0 s.1 in
    omega (arith, first, then)

pub returns-in_err-scales-clause-unchanged : goal.returns-in_err-scales-clause-unchanged
returns-in_err-scales-clause-unchanged g c told told_right tree other o q =
    let p = err_from_is_err_and c.from_residual.result c.from_residual.ensures.1 in
    rw (p.1, p.2) (c.in_err-scales.ensures.unchanged told told_right tree other o q)

pub returns-clause-timed : goal.returns-clause-timed
returns-clause-timed g c told told_right tree other o p =
    let e = c.in_ok-scales.ensures in
    let s = e.scales told told_right tree other o p in
    (rw (e.stores.left.honesty, e.stores.left.file, e.stores.right.honesty, e.stores.right.file) at c.compare_scaled.ensures.timed) told told_right tree other o p s.0 s.1
