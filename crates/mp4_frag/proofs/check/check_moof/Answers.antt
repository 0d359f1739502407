use Rattle.std.proofs.Common.{◌^◌, ◌<◌, rules}
use Rattle.mp4_boxes.specs.words.View.{box_seen}
use Rattle.mp4_frag.proofs.MoofExcludes.{decided_by}
use Rattle.mp4_frag.proofs.check.check_moof.Goals as goal

-- it is accepted exactly if it may be
pub returns-clause-only : goal.returns-clause-only
returns-clause-only g c =
    let short : c.args.file_len < 2 ^ 64 = search rules in
    decided_by c.args.file_len c.args.tracks.now c.args.room.now (box_seen c.args.moof) short _ c.check_moof_by.ensures.exact
