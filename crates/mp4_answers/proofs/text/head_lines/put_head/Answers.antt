use Rattle.mp4_present.proofs.Latched.{goes_on}
use Rattle.mp4_answers.proofs.text.head_lines.put_head.Goals as goal

pub returns : goal.returns
returns g c =
    let groups = rw c.as_slice-descriptions.ensures.value at c.put_payloads.ensures in
    goes_on g.K.Sink _ _ (goes_on g.K.Sink _ _ c.put_track.ensures c.put_media.ensures) groups
