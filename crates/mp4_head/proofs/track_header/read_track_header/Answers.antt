use Rattle.mp4_boxes.specs.words.View.{box_seen}
use Rattle.mp4_head.proofs.Headers.{track_sound}
use Rattle.mp4_boxes.specs.format.Layout.{tkhd}
use Rattle.mp4_head.proofs.SoundJudged.{sound_judged}
use Rattle.mp4_head.proofs.track_header.read_track_header.Goals as goal

pub returns-clause-exact : goal.returns-clause-exact
returns-clause-exact c =
    let s = rw c.payload.ensures at c.fields_of-header.ensures in
    sound_judged tkhd (box_seen c.args.view) c.in_ok-times.ensures.open.whole (track_sound c.args.view.payload.now c.in_ok-times.times c.fields_of-header.result.id c.in_ok-times.ensures.open s.id c.if-header-eq0.false)
