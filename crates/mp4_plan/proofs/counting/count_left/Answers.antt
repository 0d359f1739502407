use Rattle.std.proofs.Common.{rules, ◌≡◌, true, sym, subst, List, slice_get}
use Rattle.mp4_tables.specs.declared.sample.SampleAt.{SampleAt}
use Rattle.mp4_content.specs.words.ComingLess.{keeps_all}
use Rattle.mp4_plan.specs.words.Counting.{StopsAt}
use Rattle.mp4_plan.specs.words.Ends.{goes_in}
use Rattle.mp4_content.proofs.ReducedTaken.{all_kept}
use Rattle.mp4_plan.proofs.counting.count_left.Goals as goal

pub returns-then-keeps_samples-clause-counts : goal.returns-then-keeps_samples-clause-counts
returns-then-keeps_samples-clause-counts g c =
    let l = c.args.samples.now.reduction in
    let kept : keeps_all l ≡ true = search rules in
    rw (all_kept l kept _, all_kept l kept _) c.count_in.ensures.counts

pub returns-then-keeps_samples-clause-stops : goal.returns-then-keeps_samples-clause-stops
returns-then-keeps_samples-clause-stops g c =
    let l = c.args.samples.now.reduction in
    let kept : keeps_all l ≡ true = search rules in
    subst (λ (xs : List SampleAt). StopsAt (goes_in c.args.end.now c.args.description) c.args.most c.count_in.result (slice_get xs 0)) (sym (all_kept l kept _)) c.count_in.ensures.stops
