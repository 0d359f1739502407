use Rattle.mp4_boxes.specs.words.View.{box_seen}
use Rattle.mp4_head.proofs.Headers.{movie_sound}
use Rattle.mp4_boxes.specs.format.Layout.{mvhd}
use Rattle.mp4_head.proofs.SoundJudged.{sound_judged}
use Rattle.mp4_head.proofs.movie_header.read_movie_header.Goals as goal

pub returns-clause-exact : goal.returns-clause-exact
returns-clause-exact c =
    let s = rw c.payload.ensures at c.fields_of-header.ensures in
    sound_judged mvhd (box_seen c.args.view) c.in_ok-width.ensures.open.whole (movie_sound c.args.view.payload.now c.in_ok-width.width c.fields_of-header.result.timescale c.in_ok-width.ensures.open s.timescale c.if-header-eq0.false)
