use Rattle.std.proofs.Common.{refl, ◌∙◌}
use Rattle.std.proofs.lemmas.Result.{err_from_is_err_and}
use Rattle.mp4_content.proofs.PairsCompared.{both_most, both_take, both_within, first_most, most_of_both, most_within, second_most}
use Rattle.mp4_content.proofs.comparing.samples.begin_pairs.Goals as goal

pub returns-in_err-first-clause-unchanged : goal.returns-in_err-first-clause-unchanged
returns-in_err-first-clause-unchanged g c told told_right tree other o p t u at bt =
    let e = err_from_is_err_and c.from_residual-in_err-first.result c.from_residual-in_err-first.ensures.1 in
    rw (e.1, e.2) (c.in_err-first.ensures.unchanged told tree t _ o (c.in_ok-left_side.ensures.coming (g.S.Store.file c.args.left.now) tree t o at))

pub returns-in_err-first-clause-work : goal.returns-in_err-first-clause-work
returns-in_err-first-clause-work g c told told_right tree other o p t u at bt =
    let first = c.in_ok-left_side.ensures.may (g.S.Store.file c.args.left.now) tree t o at in
    let second = c.in_ok-right_side.ensures.may (g.T.Store.file c.args.right.now) other u p bt in
    most_within _ _ c.args.steps.now.passed _ (most_of_both _ _ _ _ first.2 second.2) (first_most first.0 second.0 c.args.steps.now.passed _ (c.in_err-first.ensures.work told tree t first.0 o first.1))

pub returns-in_err-second-clause-unchanged : goal.returns-in_err-second-clause-unchanged
returns-in_err-second-clause-unchanged g c told told_right tree other o p t u at bt =
    let e = err_from_is_err_and c.from_residual-in_err-second.result c.from_residual-in_err-second.ensures.1 in
    rw (e.1, e.2) (c.in_err-second.ensures.unchanged told_right other u _ p (c.in_ok-right_side.ensures.coming (g.T.Store.file c.args.right.now) other u p bt))

pub returns-in_err-second-clause-work : goal.returns-in_err-second-clause-work
returns-in_err-second-clause-work g c told told_right tree other o p t u at bt =
    let file = g.S.Store.file c.args.left.now in
    let right_file = g.T.Store.file c.args.right.now in
    let first = c.in_ok-left_side.ensures.may file tree t o at in
    let second = c.in_ok-right_side.ensures.may right_file other u p bt in
    most_within _ _ c.args.steps.now.passed _ (most_of_both _ _ _ _ first.2 second.2)
    (second_most file tree t c.reduction_of.new.walk right_file other u c.in_ok-right_side.right_side.walk first.0 second.0 c.args.steps.now.passed _ _ (c.in_ok-first.ensures.work told tree t first.0 o first.1) (c.in_err-second.ensures.work told_right other u second.0 p second.1))

pub returns-in_err-by-clause-work : goal.returns-in_err-by-clause-work
returns-in_err-by-clause-work g c told told_right tree other o p t u at bt =
    let file = g.S.Store.file c.args.left.now in
    let right_file = g.T.Store.file c.args.right.now in
    let first = c.in_ok-left_side.ensures.may file tree t o at in
    let second = c.in_ok-right_side.ensures.may right_file other u p bt in
    most_within _ _ c.args.steps.now.passed _ (most_of_both _ _ _ _ first.2 second.2)
    (both_most file tree t c.reduction_of.new.walk right_file other u c.reduction_of-2.new.walk _ c.args.steps.now.passed _
    (both_take file tree t c.reduction_of.new.walk right_file other u c.reduction_of-2.new.walk first.0 second.0 c.args.steps.now.passed _ _ (c.in_ok-first.ensures.work told tree t first.0 o first.1) (c.in_ok-second.ensures.work told_right other u second.0 p second.1)))

pub returns-clause-begun : goal.returns-clause-begun
returns-clause-begun g c told told_right tree other o p t u at bt =
    let file = g.S.Store.file c.args.left.now in
    let right_file = g.T.Store.file c.args.right.now in
    let first = c.in_ok-left_side.ensures.may file tree t o at in
    let second = c.in_ok-right_side.ensures.may right_file other u p bt in
    let come = c.in_ok-left_side.ensures.coming file tree t o at in
    let come_right = c.in_ok-right_side.ensures.coming right_file other u p bt in
    let e = c.in_ok-by.ensures.reductions in
    record {
      reductions = record {
        left_by = e.left_by ∙ c.in_ok-first.ensures.reduction told tree t _ o come refl;
        right_by = e.right_by ∙ c.in_ok-second.ensures.reduction told_right other u _ p come_right refl;
      };
      comes = c.in_ok-first.ensures.coming told tree t _ o come;
      comes_right = c.in_ok-second.ensures.coming told_right other u _ p come_right;
      takes = both_within file tree t c.reduction_of.new.walk right_file other u c.reduction_of-2.new.walk _ _ c.args.steps.now.passed _ (most_of_both _ _ _ _ first.2 second.2)
          (both_take file tree t c.reduction_of.new.walk right_file other u c.reduction_of-2.new.walk first.0 second.0 c.args.steps.now.passed _ _ (c.in_ok-first.ensures.work told tree t first.0 o first.1) (c.in_ok-second.ensures.work told_right other u second.0 p second.1));
    }

pub returns-clause-work : goal.returns-clause-work
returns-clause-work g c told told_right tree other o p t u at bt =
    let file = g.S.Store.file c.args.left.now in
    let right_file = g.T.Store.file c.args.right.now in
    let first = c.in_ok-left_side.ensures.may file tree t o at in
    let second = c.in_ok-right_side.ensures.may right_file other u p bt in
    most_within _ _ c.args.steps.now.passed _ (most_of_both _ _ _ _ first.2 second.2)
    (both_most file tree t c.reduction_of.new.walk right_file other u c.reduction_of-2.new.walk _ c.args.steps.now.passed _
    (both_take file tree t c.reduction_of.new.walk right_file other u c.reduction_of-2.new.walk first.0 second.0 c.args.steps.now.passed _ _ (c.in_ok-first.ensures.work told tree t first.0 o first.1) (c.in_ok-second.ensures.work told_right other u second.0 p second.1)))
