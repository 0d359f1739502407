use Rattle.std.proofs.Common.{rules, ◌≡◌, sym, ◌∙◌}
use Rattle.mp4_boxes.proofs.Plain.{and_is_true}
use Rattle.mp4_content.specs.words.ComingLess.{keeps_times}
use Rattle.mp4_content.proofs.ReducedPassed.{duration_kept, offset_kept}
use Rattle.mp4_content.proofs.comparing.same_pairs.have_same_times.Goals as goal

pub returns-then-left-right-2 : goal.returns-then-left-right-2
returns-then-left-right-2 c h =
    let by = c.args.by.now in
    let x = c.args.left.now in
    let y = c.args.right.now in
    let keep = and_is_true (keeps_times by.left_reduction) (keeps_times by.right_reduction) (sym by.plain ∙ c.if-by.true) in
    let same : x.cto ≡ y.cto = search rules in
    record {
      duration = duration_kept by.left_reduction keep.0 x.number x.duration ∙ c.if-left-right.true ∙ sym (duration_kept by.right_reduction keep.1 y.number y.duration);
      offset = offset_kept by.left_reduction keep.0 x.cto ∙ same ∙ sym (offset_kept by.right_reduction keep.1 y.cto);
    }
