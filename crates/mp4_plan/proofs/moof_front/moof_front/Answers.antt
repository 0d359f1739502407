use Rattle.std.proofs.Common.{[]}
use Rattle.mp4_plan.specs.words.Spelling.{moof_front}
use Rattle.mp4_plan.proofs.Pushes.{behind, first}
use Rattle.mp4_plan.proofs.moof_front.moof_front.Goals as goal

pub returns : goal.returns
unfolding moof_front
returns c =
    rw (← c.head_bits-bits.ensures, ← c.run_bits-bits.ensures, ← c.data_place-place.ensures, ← c.short.ensures, ← c.short-2.ensures, ← c.short-3.ensures, ← c.short-4.ensures)
    (behind [] c.push_tfdt.new.out c.push_trun.new.out _ _
    (behind [] c.push_tfhd.new.out c.push_tfdt.new.out _ _
    (behind [] c.push_box-2.new.self c.push_tfhd.new.out _ _
    (behind [] c.push_mfhd.new.out c.push_box-2.new.self _ _
    (behind [] c.push_box.new.self c.push_mfhd.new.out _ _ (first c.new-out.result c.push_box.new.self _ c.new-out.ensures c.push_box.ensures.is) c.push_mfhd.ensures.is) c.push_box-2.ensures.is) c.push_tfhd.ensures.is) c.push_tfdt.ensures.is) c.push_trun.ensures.is)
