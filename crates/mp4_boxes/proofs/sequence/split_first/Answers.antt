use Rattle.mp4_boxes.specs.words.View.{header_seen}
use Rattle.mp4_boxes.proofs.Walking.{first_part, read_there}
use Rattle.mp4_boxes.proofs.sequence.split_first.Goals as goal

pub returns : goal.returns
returns c =
    let h = header_seen c.in-Ok.header in
    let read = read_there c.args.bytes.now _ c.args.base h c.in-Ok.ensures in
    let parts = first_part c.args.base c.args.bytes.now h c.split_at.result.1.now c.split_at.result.0.now c.split_at-2.result.1.now read c.split_at.ensures.front c.split_at.ensures.back c.split_at-2.ensures.back in
    record { first = rw c.new.ensures parts }
