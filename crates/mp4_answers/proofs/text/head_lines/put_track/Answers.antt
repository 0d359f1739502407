use Rattle.std.proofs.Common.{sym}
use Rattle.mp4_head.specs.words.Seen.{track_seen}
use Rattle.mp4_present.proofs.Latched.{goes_is, goes_on}
use Rattle.mp4_answers.proofs.HeadTexts.{lines_are, track_is}
use Rattle.mp4_answers.proofs.text.head_lines.put_track.Goals as goal

pub returns : goal.returns
returns g c =
    let edits = rw c.as_slice.ensures.value at c.put_edits.ensures in
    let kept = rw c.as_slice-2.ensures.value at c.put_boxes.ensures in
    let is = track_is (track_seen c.args.head.now) _ (lines_are _ _ c.track_values.ensures) in
    let front = goes_on g.K.Sink _ _ c.put_heading.ensures c.put_all_named.ensures in
    goes_is g.K.Sink (goes_on g.K.Sink _ _ (goes_on g.K.Sink _ _ front edits) kept) (sym is)
