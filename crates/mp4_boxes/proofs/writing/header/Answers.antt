use Rattle.std.proofs.Common.{rules, refl}
use Rattle.mp4_boxes.proofs.HeaderBytes.{small_header, large_header}
use Rattle.mp4_boxes.proofs.writing.header.Goals as goal

pub returns-in-Ok : goal.returns-in-Ok
returns-in-Ok c =
    small_header c.args.kind.0 c.write_u32.new.buf c.copy_from_slice.new.self _ c.args.payload c.in-Ok.size c.write_u32.ensures c.copy_from_slice.ensures.after (search rules) c.in-Ok.ensures.1 c.in-Ok.ensures.0

pub returns : goal.returns
returns c =
    large_header c.args.kind.0 c.write_u32-2.new.buf c.copy_from_slice-2.new.self _ c.write_u64.new.buf c.args.payload c.write_u32-2.ensures refl c.copy_from_slice-2.ensures.after (search rules) (search rules) (search rules)
