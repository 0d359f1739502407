use Rattle.std.proofs.Common.{rules}
use Rattle.mp4_head.proofs.Pieces.{closed}
use Rattle.mp4_head.proofs.spelling.close_box.Goals as goal

pub returns : goal.returns
returns c before kind payload n k e = closed c.args.out.now.items before kind payload c.to_be_bytes-bytes.result c.len.result c.args.at (search rules) n k e c.to_be_bytes-bytes.ensures
