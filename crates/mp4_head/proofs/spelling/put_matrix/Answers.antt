use Rattle.std.proofs.Common.{rules, ◌∙◌, ◌++◌, ℤ, pos, get_or, ap}
use Rattle.std.specs.Int.{w32}
use Rattle.std.proofs.lemmas.Int.{to_z-of_z}
use Rattle.byteorder.specs.Endian.{big_bytes}
use Rattle.mp4_boxes.specs.format.Bytes.{unsigned}
use Rattle.mp4_head.proofs.Pieces.{put_none, put_more, put_all}
use Rattle.mp4_head.proofs.spelling.put_matrix.Goals as goal

pub loop-number-init : goal.loop-number-init
loop-number-init c = put_none _ _ _

pub loop-number-preserved : goal.loop-number-preserved
loop-number-preserved c =
    let member = to_z-of_z w32 (get_or c.args.matrix.now c.loop-number.number-index (pos 0)) (search rules) in
    put_more (λ z. big_bytes 4 (unsigned 4 z)) _ c.args.matrix.now c.loop-number.number-index (pos 0) c.loop-number.out.items c.put_i32.new.out.items (search rules)
    (c.in_ok-put_i32.ensures ∙ ap (λ (z : ℤ). c.loop-number.out.items ++ big_bytes 4 (unsigned 4 z)) member) c.loop-number.invariant

pub returns : goal.returns
returns c = put_all (λ z. big_bytes 4 (unsigned 4 z)) _ c.args.matrix.now c.loop-number.number-index c.loop-number.out.items (search rules) c.loop-number.invariant
