use Rattle.std.proofs.Common.{[]}
use Rattle.mp4_plan.specs.words.UsedKeys.{group_front}
use Rattle.mp4_plan.proofs.Pushes.{behind, first}
use Rattle.mp4_plan.proofs.moof_rows.group_front.Goals as goal

pub returns : goal.returns
unfolding group_front
returns c =
    rw (← c.group_size.ensures.is, ← c.short.ensures)
    (behind [] c.push_key.new.out c.push_u32.new.self _ _
    (behind [] c.push_box.new.self c.push_key.new.out _ _ (first c.new-out.result c.push_box.new.self _ c.new-out.ensures c.push_box.ensures.is) c.push_key.ensures.is) c.push_u32.ensures.is)
