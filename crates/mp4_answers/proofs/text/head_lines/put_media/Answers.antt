use Rattle.std.proofs.Common.{sym}
use Rattle.mp4_head.specs.words.Seen.{media_seen}
use Rattle.mp4_present.proofs.Latched.{goes_is, goes_on}
use Rattle.mp4_answers.proofs.HeadTexts.{lines_are, media_is}
use Rattle.mp4_answers.proofs.text.head_lines.put_media.Goals as goal

pub returns : goal.returns
returns g c =
    let languages = rw c.as_slice-languages.ensures.value at c.put_payloads.ensures in
    let boxes = rw c.as_slice.ensures.value at c.put_boxes.ensures in
    let is = media_is (media_seen c.args.media.now) _ (lines_are _ _ c.media_values.ensures) in
    let handler = goes_on g.K.Sink _ _ c.put_all_named.ensures c.put_payload.ensures in
    let header = goes_on g.K.Sink _ _ (goes_on g.K.Sink _ _ handler languages) c.put_kept.ensures in
    goes_is g.K.Sink (goes_on g.K.Sink _ _ header boxes) (sym is)
