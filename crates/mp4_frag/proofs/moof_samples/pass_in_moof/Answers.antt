use Rattle.std.proofs.Common.{◌∙◌, sym}
use Rattle.mp4_frag.specs.words.MoofWalks.{walk_of}
use Rattle.mp4_frag.proofs.MoofSteps.{in_hand_first, one_passed, some_in_hand}
use Rattle.mp4_frag.proofs.moof_samples.pass_in_moof.Goals as goal

pub pass_sample-requires-clause-some : goal.pass_sample-requires-clause-some
pass_sample-requires-clause-some c = some_in_hand c.args.payload.now (walk_of c.args.moof c.args.tracks.now c.args.place.now) c.args.place.now c.requires.next.next c.requires.place c.requires.next.first

pub pass_sample-requires-clause-next : goal.pass_sample-requires-clause-next
pass_sample-requires-clause-next c =
    let w = walk_of c.args.moof c.args.tracks.now c.args.place.now in
    let n = c.requires.next in
    let some = some_in_hand c.args.payload.now w c.args.place.now n.next c.requires.place n.first in
    record { next = n.next; first = sym (in_hand_first c.args.payload.now w c.args.place.now some) ∙ n.first; duration = n.duration; size = n.size }

pub returns-clause-coming : goal.returns-clause-coming
returns-clause-coming c =
    let w = walk_of c.args.moof c.args.tracks.now c.args.place.now in
    let some = some_in_hand c.args.payload.now w c.args.place.now c.requires.next.next c.requires.place c.requires.next.first in
    c.settle.ensures.coming
    ∙ one_passed c.args.payload.now w c.args.place.now c.saturating_add-place.result c.pass_sample.new.place some c.saturating_add-place.ensures c.pass_sample.ensures.coming c.pass_sample.ensures.time
